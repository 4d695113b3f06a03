-- A step through a door brings a GET on.
use Rattle.std.proofs.Common.{◌≡◌, ℕ, ◌+◌, ◌*◌, ◌<◌, ◌≤◌, true, false, nat_lt, cond, List, [], ◌∷◌, ◌++◌, length, take, drop, max, ◌/◌, Option, Some, None, refl, sym, ap, ◌∙◌, subst, arith, length-append}
use Rattle.std.proofs.lemmas.Grind.{flat_map-append}
use Rattle.std.proofs.lemmas.List.{append-nil, take_all}
use Rattle.rgw_types.specs.declared.stamp.Stamp.{Stamp}
use Rattle.rgw_types.specs.Stripes.{ManifestView, tails_of}
use Rattle.rgw_model.specs.declared.slot.Slot.TheVariants as Slots
use Rattle.manifest.specs.declared.parts.Part.{Part}
use Rattle.manifest.specs.Ranges.{part_size}
use Rattle.object_words.specs.declared.bucket.Bucket.{Bucket}
use Rattle.object_words.specs.declared.head.NewHead.{NewHead}
use Rattle.object_words.specs.declared.head.SeenSlot.{SeenSlot}
use Rattle.object_words.specs.declared.head.SeenSlot.TheVariants.{Nothing, Live, Mark}
use Rattle.object_words.specs.declared.why.Why.TheVariants.{Absent, Gone as is_gone}
use Rattle.object_words.specs.Keys.{tail_key}
use Rattle.object_words.specs.Tails.{is_there, read_refusal, bytes_at}
use Rattle.realm_model.specs.Settings.{SettingsView}
use Rattle.realm_model.specs.Accounts.{Account, slot_now, looked_after, decided_after, accounted}
use Rattle.realm_model.specs.Allowed.{allowed}
use Rattle.realm_model.specs.Learnt.{learnt, manifests_after}
use Rattle.realm_model.specs.Doors.{DoorView, actor_at}
use Rattle.realm_model.specs.Histories.{Doings, world_of, state_of, answer_after, Legal}
use Rattle.realm_model.specs.Maps.{heads, slot_at}
use Rattle.realm_model.specs.Owns.{OwnEvent, own_events}
use Rattle.realm_model.specs.Phases.{Phase}
use Rattle.realm_model.specs.States.{State, at_moment}
use Rattle.realm_model.specs.Steps.{reply_or, touch_of}
use Rattle.realm_model.specs.Suits.{Suits}
use Rattle.realm_model.specs.Worlds.{start}
use Rattle.realm_model.specs.declared.op.Op.{Op}
use Rattle.realm_model.specs.declared.op.Op.TheVariants.{HeadRead, TailRead}
use Rattle.realm_model.specs.declared.event.Event.{Event}
use Rattle.realm_model.specs.declared.event.Reply.{Reply}
use Rattle.realm_model.specs.declared.event.Reply.TheVariants.{No, Row, Head as head_reply, Bytes as bytes_reply}
use Rattle.realm_model.proofs.Runs.{legal_front, state-next, touched-clock}
use Rattle.realm_door.specs.declared.door.Answered.{Answered}
use Rattle.realm_door.specs.Steps.{event_at, own_event, Shows, Extends}
use Rattle.stripe_law.proofs.Getting.{read_bytes, read_length}
use Rattle.stripe_law.proofs.Storing.{made_bytes}
use Rattle.swift_auth.specs.declared.policy.Deed.TheVariants.{ReadThing}
use Rattle.task_words.specs.declared.command.GetCommand.{GetCommand}
use Rattle.task_words.specs.declared.span.ByteRange.{ByteRange}
use Rattle.task_words.specs.declared.reply.MapReply.{MapReply}
use Rattle.task_words.specs.declared.reply.Refusal.{Refusal}
use Rattle.task_words.specs.declared.outcome.Outcome.TheVariants.{Done}
use Rattle.task_words.specs.Rows.{row_refusal}
use Rattle.task_get.specs.declared.request.GetRequest.{GetRequest}
use Rattle.task_get.specs.declared.stage.Stage.{Stage}
use Rattle.task_get.specs.declared.stage.Stage.TheVariants.{Look, Open, Tails, Ended, Late}
use Rattle.task_get.specs.declared.stage.TailShown.{TailShown}
use Rattle.task_get.specs.declared.stage.TailShown.TheVariants.{Bytes, Gone}
use Rattle.task_get.specs.declared.task.GetTask.{GetTask}
use Rattle.task_get.specs.Shown.{content_with}
use Rattle.task_get.specs.Readings.{ReadingView, next_piece}
use Rattle.task_get.specs.Replies.{reply_of, range_of}
use Rattle.task_get.specs.Pieces.{first_bytes, bytes_of_slot, brought_by, brought, read_of}
use Rattle.task_get.specs.Stages.{IsOver, IsOpen, op_of, given_by, after_refusal, slot_shown, from_part, after_live, after_head, tail_shown, gone_on, after_tail, step_of}
use Rattle.realm_model.specs.Shown.{row_shown}
use Rattle.task_get.specs.Gets.{decision, HasBegun, HasLooked, HasOpened, FitsStage, LastBrings}
use Rattle.task_get.specs.Tasks.{account_at, phase_at, events_at, bytes_of, given_of, Fits}
use Rattle.task_get.proofs.Heads.{shown_as, seen_in, has_stripe, between_test}
use Rattle.task_get.proofs.Pieces.{IsPiece}
use Rattle.task_get.proofs.Located.{tail_bytes}
use Rattle.task_get.proofs.Ends.{RowTold, row_fits}
use Rattle.task_get.proofs.HeadSteps.{HeadTold, head_fits}
use Rattle.task_get.proofs.TailSteps.{TailTold, opened_piece, gone_fits, bytes_fit}

-- ---- what a step makes

module _ (settings : SettingsView) (d e : DoorView) (op : Op) (moment : ℕ) (a : Answered) (x : Extends settings d op moment a e) where
  abbrev found : List Event
  found = d.seen ++ x.between

  abbrev own : OwnEvent
  own = own_event op a

  same_actor : actor_at e ≡ actor_at d
  same_actor =
      let pass = (x.grows).pass in
      let count = (x.grows).count in
      λ i. record { pass = pass i; count = count i }

  account_is : account_at settings e ≡ accounted (account_at settings d) (heads found) (world_of settings found).stripes.made op a.reply a.number a.clock
  account_is = ap (λ (z : Doings). z.account) x.own

  phase_is : phase_at settings e ≡ learnt (phase_at settings d) op a.reply a.number a.clock
  phase_is = ap (λ (z : Doings). z.phase) x.own

  events_are : events_at e ≡ events_at d ++ own ∷ []
  events_are = ap (own_events e.seen) same_actor ∙ x.events

  found_legal : Legal settings found
  found_legal = legal_front settings (start settings) found (event_at d op moment a.reply ∷ []) (subst (λ l. Legal settings l) x.ends x.legal)

  -- ---- the row

  module _ (r : GetRequest) (begun : HasBegun (account_at settings d) (events_at d)) (is_op : op ≡ op_of r Look) where
    abbrev row_read : Op
    row_read = op_of r Look

    row_told : (row : Option Bucket) (reply : Reply) → a.reply ≡ reply → ((there : Bucket) → row ≡ Some there → reply ≡ Row there) → looked_after (account_at settings d).looked row_read reply a.number ≡ Some (record { zone = r.zone; name = r.get.container; row = row; number = a.number })
        → RowTold r row own (account_at settings e) (events_at e)
    row_told row reply is shows looks =
        let act = account_is ∙ ap (λ o. accounted (account_at settings d) (heads found) (world_of settings found).stripes.made o a.reply a.number a.clock) is_op in
        record {
          stands = events_are ∙ ap (λ es. es ++ own ∷ []) begun.none;
          op = is_op;
          reply = λ there same. is ∙ shows there same;
          looked = ap (λ (y : Account). y.looked) act ∙ ap (λ o. looked_after (account_at settings d).looked row_read o a.number) is ∙ looks;
          undecided = ap (λ (y : Account). y.decided) act ∙ begun.undecided;
          unchanged = ap (λ (y : Account). y.changes) act ∙ begun.unchanged;
        }

    look_step : (reply : Reply) → a.reply ≡ reply → Suits row_read reply → FitsStage r (step_of r Look reply a.clock).0 (account_at settings e) (phase_at settings e) (events_at e)
    look_step (Row row) is suits =
        row_fits r (Some row) own (account_at settings e) (phase_at settings e) (events_at e) (row_told (Some row) (Row row) is (λ there same. let e : row ≡ there = cc in ap Row e) refl)
    look_step (No Absent) is suits =
        row_fits r None own (account_at settings e) (phase_at settings e) (events_at e) (row_told None (No Absent) is (λ there same. cc) refl)
    look_step reply is suits = absurd suits

  -- ---- the head

  module _ (r : GetRequest) (container : ℕ) (looked : HasLooked r container (account_at settings d) (events_at d)) (is_op : op ≡ HeadRead r.zone container r.get.name) where
    abbrev head_op : Op
    head_op = HeadRead r.zone container r.get.name

    open_step : (reply : Reply) → a.reply ≡ reply → Suits head_op reply → FitsStage r (step_of r (Open container) reply a.clock).0 (account_at settings e) (phase_at settings e) (events_at e)
    open_step (head_reply seen shown_at) is suits =
        let made = (world_of settings found).stripes.made in
        let name = r.get.name in
        let y = account_at settings d in
        let old = (phase_at settings d).stripes.seen in
        let act = account_is ∙ ap (λ o. accounted y (heads found) made o a.reply a.number a.clock) is_op in
        let know = phase_is ∙ ap (λ o. learnt (phase_at settings d) o a.reply a.number a.clock) is_op in
        let slot : seen.slot ≡ slot_at (heads found r.zone container) name = subst (λ o. Shows (heads found) o (head_reply seen shown_at)) is_op (subst (λ t. Shows (heads found) op t) is x.shows) in
        let told : HeadTold r container seen.slot own y (events_at d) (account_at settings e) (phase_at settings e) (events_at e) = record {
          before = looked;
          stands = events_are;
          op = is_op;
          seen = seen;
          shown_at = shown_at;
          reply = is;
          slot_is = refl;
          whole = slot_now (heads found) made r.zone container name;
          shown = shown_as settings found r.zone container name seen.slot found_legal slot;
          decided = ap (λ (y : Account). y.decided) act ∙ ap (λ t. decided_after y (heads found) made head_op t a.number a.clock) is;
          changes = ap (λ (y : Account). y.changes) act;
          may = seen_in r.zone seen.slot old a.number a.clock (phase_at settings e) (ap (λ (p : Phase). p.stripes.seen) know ∙ ap (λ t. manifests_after old head_op t a.number a.clock) is);
          stripe = has_stripe settings found r.zone container name seen.slot found_legal slot;
        } in
        head_fits r container seen.slot own y (events_at d) (account_at settings e) (phase_at settings e) (events_at e) told
    open_step reply is suits = absurd suits

  -- ---- a tail

  module _ (r : GetRequest) (reading : ReadingView) (was : HasOpened r reading (account_at settings d) (phase_at settings d) (events_at d)) (is_op : op ≡ read_of r.zone reading.manifest (next_piece reading)) where
    abbrev piece : Part
    piece = next_piece reading

    abbrev tail_op : Op
    tail_op = read_of r.zone reading.manifest piece

    tail_told : TailTold r reading own (account_at settings d) (phase_at settings d) (events_at d) (account_at settings e) (phase_at settings e) (events_at e)
    tail_told =
        let act = account_is ∙ ap (λ o. accounted (account_at settings d) (heads found) (world_of settings found).stripes.made o a.reply a.number a.clock) is_op in
        let know = phase_is ∙ ap (λ o. learnt (phase_at settings d) o a.reply a.number a.clock) is_op in
        record {
          before = was;
          stands = events_are;
          op = is_op;
          decided = ap (λ (y : Account). y.decided) act;
          changes = ap (λ (y : Account). y.changes) act;
          seen = ap (λ (p : Phase). p.stripes.seen) know;
        }

    -- as many bytes are answered as were asked for
    so_long : (answer : List ℕ) → a.reply ≡ bytes_reply answer → length answer ≡ piece.count
    so_long answer is =
        let event = event_at d op moment a.reply in
        let legal : Legal settings (found ++ event ∷ []) = subst (λ l. Legal settings l) x.ends x.legal in
        let write = reading.manifest.write in
        let told = read_bytes settings found event legal r.zone write piece.part piece.start piece.count is_op in
        let long = read_length settings found event legal r.zone write piece.part piece.start piece.count is_op in
        let both : bytes_reply answer ≡ bytes_reply (take piece.count (drop piece.start (made_bytes (world_of settings found).stripes.made r.zone write piece.part))) = sym is ∙ told in
        let same : answer ≡ take piece.count (drop piece.start (made_bytes (world_of settings found).stripes.made r.zone write piece.part)) = cc in
        ap length same ∙ long

    -- they are the object's
    are_bytes : (answer : List ℕ) → a.reply ≡ bytes_reply answer → answer ≡ take piece.count (drop (reading.part * reading.manifest.stripe + piece.start) was.bytes)
    are_bytes answer is =
        let m = reading.manifest in
        let read = was.has_read in
        let begins = read.begins in
        let shown = begins.shown in
        let within : IsPiece m reading.range.start reading.range.count reading.part = opened_piece r reading (account_at settings d) (phase_at settings d) (events_at d) was in
        let stands : own_events e.seen (actor_at e) ≡ begins.look ∷ was.head ∷ (was.tails ++ own ∷ []) = events_are ∙ ap (λ es. es ++ own ∷ []) begins.stands in
        let decided = (tail_told).decided ∙ read.decided in
        let same = was.manifest in
        subst (λ (m : ManifestView). answer ≡ take piece.count (drop (reading.part * m.stripe + piece.start) was.bytes)) (sym same)
        (tail_bytes settings e.seen x.legal (actor_at e) begins.look was.head own was.tails stands r.zone begins.row.id r.get.name shown.seen shown.shown_at was.new was.stamp shown.op shown.reply shown.slot_is
        (decision r begins.row begins.look was.head (Slots.Live (content_with was.new was.bytes) was.stamp)) was.bytes decided refl refl refl refl refl
        piece.part piece.start piece.count answer (is_op ∙ ap (λ (m : ManifestView). TailRead r.zone m.write piece.part piece.start piece.count) same) is
        (subst (λ (m : ManifestView). 0 < m.stripe) same was.some_stripe) was.behind_head (subst (λ m. piece.part ≤ tails_of m) same within.is_part) within.some (subst (λ m. piece.start + piece.count ≤ part_size m piece.part) same within.inside))

    -- a tail that is gone is told with the clock of the event
    gone_clock : (clock : ℕ) → a.reply ≡ No (is_gone clock) → clock ≡ a.clock
    gone_clock clock is =
        let w = world_of settings found in
        let st = at_moment w.state moment in
        let tail = w.state.tails r.zone (tail_key reading.manifest.write piece.part) in
        let event = event_at d op moment a.reply in
        let told : No (is_gone clock) ≡ reply_or (bytes_reply (bytes_at tail piece.start piece.count)) (read_refusal tail st.clock) =
        sym is ∙ x.answer ∙ ap (λ o. answer_after settings found o moment) is_op in
        let now : clock ≡ st.clock = elim (is_there tail) as (λ b. No (is_gone clock) ≡ reply_or (bytes_reply (bytes_at tail piece.start piece.count)) (cond b None (Some (is_gone st.clock))) → clock ≡ st.clock) [
          | true ↦ λ e. cc
          | false ↦ λ e. cc
        ] told in
        let after_it : (state_of settings (found ++ event ∷ [])).clock ≡ st.clock =
        ap (λ (s : State). s.clock) (state-next settings found event) ∙ touched-clock settings st (touch_of settings st op) in
        now ∙ sym after_it ∙ ap (λ l. (state_of settings l).clock) (sym x.ends) ∙ sym x.clock

    tails_step : (reply : Reply) → a.reply ≡ reply → Suits tail_op reply → FitsStage r (step_of r (Tails reading) reply a.clock).0 (account_at settings e) (phase_at settings e) (events_at e)
    unfolding tail_told
    tails_step (bytes_reply answer) is suits =
        let long = so_long answer is in
        let whole : take piece.count answer ≡ answer = take_all piece.count answer (omega (arith, long)) in
        subst (λ l. FitsStage r (gone_on reading (length l)) (account_at settings e) (phase_at settings e) (events_at e)) (sym whole)
        (bytes_fit r reading own (account_at settings d) (phase_at settings d) (events_at d) (account_at settings e) (phase_at settings e) (events_at e) tail_told answer is long (are_bytes answer is))
    tails_step (No (is_gone clock)) is suits =
        gone_fits r reading own (account_at settings d) (phase_at settings d) (events_at d) (account_at settings e) (phase_at settings e) (events_at e) tail_told clock is (gone_clock clock is)
    tails_step reply is suits = absurd suits

    -- the piece of a tail is what was brought
    tail_brings : (reply : Reply) → a.reply ≡ reply → Suits tail_op reply → (step_of r (Tails reading) reply a.clock).1 ≡ brought_by r.get tail_op reply
    tail_brings (bytes_reply answer) is suits = let long = so_long answer is in take_all piece.count answer (omega (arith, long))
    tail_brings (No (is_gone clock)) is suits = refl
    tail_brings reply is suits = absurd suits

-- ---- all stages

-- the piece of the head is what was brought
live_brings : (c : GetCommand) (new : NewHead) (stamp : Stamp) (clock : ℕ) (o : Option ByteRange) → (after_live (reply_of c new stamp) new.manifest new.first o clock).1 ≡ first_bytes new.manifest new.first o
live_brings c new stamp clock None = refl
live_brings c new stamp clock (Some range) = refl

head_brings : (c : GetCommand) (slot : SeenSlot) (clock : ℕ) → (after_head c slot clock).1 ≡ bytes_of_slot c slot
head_brings c Nothing clock = refl
head_brings c (Mark stamp) clock = refl
head_brings c (Live new stamp) clock = live_brings c new stamp clock (range_of c (Live new stamp))

open_brings : (r : GetRequest) (container clock : ℕ) (reply : Reply) → Suits (HeadRead r.zone container r.get.name) reply → (step_of r (Open container) reply clock).1 ≡ brought_by r.get (HeadRead r.zone container r.get.name) reply
open_brings r container clock (head_reply seen shown_at) suits = head_brings r.get seen.slot clock
open_brings r container clock reply suits = absurd suits

-- what is given rises by what was brought
gone_gives : (x : ReadingView) (count : ℕ) → given_by (gone_on x count) ≡ x.given + count
gone_gives x count =
    elim (nat_lt ((x.part + 1) * x.manifest.stripe) (x.range.start + x.range.count)) as (λ b. given_by (cond b (Tails (record x { part = x.part + 1; given = x.given + count })) (Ended (Done x.reply) (x.given + count))) ≡ x.given + count) [ true ↦ refl | false ↦ refl ]

from_gives : (reply : MapReply) (m : ManifestView) (range : ByteRange) (part given clock : ℕ) → given_by (from_part reply m range part given clock) ≡ given
from_gives reply m range part given clock =
    elim (nat_lt (part * m.stripe) (range.start + range.count)) as (λ b. given_by (cond b (Tails (record { reply = reply; manifest = m; range = range; part = part; given = given; read_at = clock })) (Ended (Done reply) given)) ≡ given) [ true ↦ refl | false ↦ refl ]

row_gives : (o : Option Refusal) (row : Option Bucket) → given_by (after_refusal o row) ≡ 0
row_gives (Some refusal) row = refl
row_gives None None = refl
row_gives None (Some row) = refl

live_gives : (reply : MapReply) (m : ManifestView) (first : List ℕ) (o : Option ByteRange) (clock : ℕ) → given_by (after_live reply m first o clock).0 ≡ length (after_live reply m first o clock).1
live_gives reply m first None clock = refl
live_gives reply m first (Some range) clock = from_gives reply m range (max 1 (range.start / m.stripe)) (length (first_bytes m first (Some range))) clock

head_gives : (c : GetCommand) (slot : SeenSlot) (clock : ℕ) → given_by (after_head c slot clock).0 ≡ length (after_head c slot clock).1
head_gives c Nothing clock = refl
head_gives c (Mark stamp) clock = refl
head_gives c (Live new stamp) clock = live_gives (reply_of c new stamp) new.manifest new.first (range_of c (Live new stamp)) clock

tail_gives : (x : ReadingView) (tail : TailShown) → given_by (after_tail x tail).0 ≡ x.given + length (after_tail x tail).1
tail_gives x (Bytes bytes) = gone_gives x (length (take (next_piece x).count bytes))
tail_gives x (Gone clock) = omega arith

pub step_gives : (r : GetRequest) (stage : Stage) (reply : Reply) (clock : ℕ) → given_by (step_of r stage reply clock).0 ≡ given_by stage + length (step_of r stage reply clock).1
step_gives r Look reply clock = let none = row_gives (row_refusal r.asker (row_shown reply) ReadThing) (row_shown reply) in omega (arith, none)
step_gives r (Open container) reply clock = let same = head_gives r.get (slot_shown reply) clock in omega (arith, same)
step_gives r (Tails x) reply clock = tail_gives x (tail_shown reply)
step_gives r (Ended outcome given) reply clock = omega arith
step_gives r (Late x outcome) reply clock = omega arith

-- the stage and the piece after the step
record StepFits (settings : SettingsView) (r : GetRequest) (stage : Stage) (piece : List ℕ) (op : Op) (a : Answered) (e : DoorView) : Type 0 where
  stage_fits : FitsStage r stage (account_at settings e) (phase_at settings e) (events_at e)
  brings : piece ≡ brought_by r.get op a.reply

one_step : (settings : SettingsView) (d e : DoorView) (op : Op) (moment : ℕ) (a : Answered) (r : GetRequest) (stage : Stage) → IsOpen stage → op ≡ op_of r stage → Suits (op_of r stage) a.reply
    → FitsStage r stage (account_at settings d) (phase_at settings d) (events_at d) → Extends settings d op moment a e → StepFits settings r (step_of r stage a.reply a.clock).0 (step_of r stage a.reply a.clock).1 op a e
one_step settings d e op moment a r Look going is suits fits x = record {
  stage_fits = look_step settings d e op moment a x r fits is a.reply refl suits;
  brings = sym (ap (λ o. brought_by r.get o a.reply) is);
}
one_step settings d e op moment a r (Open container) going is suits fits x = record {
  stage_fits = open_step settings d e op moment a x r container fits is a.reply refl suits;
  brings = open_brings r container a.clock a.reply suits ∙ sym (ap (λ o. brought_by r.get o a.reply) is);
}
one_step settings d e op moment a r (Tails reading) going is suits fits x = record {
  stage_fits = tails_step settings d e op moment a x r reading fits is a.reply refl suits;
  brings = tail_brings settings d e op moment a x r reading fits is a.reply refl suits ∙ sym (ap (λ o. brought_by r.get o a.reply) is);
}
one_step settings d e op moment a r (Ended outcome given) going is suits fits x = absurd going
one_step settings d e op moment a r (Late reading outcome) going is suits fits x = absurd going

-- the last of a list
same_last : (xs ys : List OwnEvent) (x y : OwnEvent) → xs ++ x ∷ [] ≡ ys ++ y ∷ [] → x ≡ y
same_last [] [] x y is = cc
same_last [] (b ∷ []) x y is = cc
same_last [] (b ∷ (c ∷ ys)) x y is = cc
same_last (a ∷ []) [] x y is = cc
same_last (a ∷ (c ∷ xs)) [] x y is = cc
same_last (a ∷ xs) (b ∷ ys) x y is = let rest : xs ++ x ∷ [] ≡ ys ++ y ∷ [] = cc in same_last xs ys x y rest

pub fits_next : (settings : SettingsView) (d e : DoorView) (t u : GetTask) (op : Op) (moment : ℕ) (a : Answered) → IsOpen t.stage → op ≡ op_of t.request t.stage → Suits (op_of t.request t.stage) a.reply
    → u.request ≡ t.request → u.stage ≡ (step_of t.request t.stage a.reply a.clock).0 → bytes_of u ≡ (step_of t.request t.stage a.reply a.clock).1
    → Fits t settings d → Extends settings d op moment a e → Fits u settings e
fits_next settings d e t u op moment a going is suits request stage piece fits x =
    let r = t.request in
    let step = one_step settings d e op moment a r t.stage going is suits fits.stage x in
    let events = events_are settings d e op moment a x in
    let new : bytes_of u ≡ brought_by r.get op a.reply = piece ∙ step.brings in
    let own : OwnEvent = own_event op a in
    let all : brought r.get (events_at e) ≡ brought r.get (events_at d) ++ brought_by r.get op a.reply =
    ap (brought r.get) events ∙ flat_map-append (λ (e : OwnEvent). brought_by r.get e.op e.reply) (events_at d) (own ∷ []) ∙ ap (λ l. brought r.get (events_at d) ++ l) (append-nil (brought_by r.get op a.reply)) in
    let so_many : given_of u ≡ length (brought r.get (events_at e)) =
    ap given_by stage ∙ step_gives r t.stage a.reply a.clock ∙ (λ i. fits.given i + length (step.brings i)) ∙ sym (ap length all ∙ length-append (brought r.get (events_at d)) (brought_by r.get op a.reply)) in
    record {
      first_zone = subst (λ (r : GetRequest). 1 ≤ r.zone) (sym request) fits.first_zone;
      last_zone = subst (λ (r : GetRequest). r.zone ≤ settings.zones) (sym request) fits.last_zone;
      stage = subst (λ r. FitsStage r u.stage (account_at settings e) (phase_at settings e) (events_at e)) (sym request) (subst (λ s. FitsStage t.request s (account_at settings e) (phase_at settings e) (events_at e)) (sym stage) step.stage_fits);
      given = subst (λ (r : GetRequest). given_of u ≡ length (brought r.get (events_at e))) (sym request) so_many;
      piece = subst (λ r. LastBrings r (bytes_of u) (events_at e)) (sym request) (λ earlier last ends.
          let same : own ≡ last = same_last (events_at d) earlier own last (sym events ∙ ends) in
          new ∙ ap (λ (e : OwnEvent). brought_by t.request.get e.op e.reply) same);
    }

-- ---- what may come next

open_may : (settings : SettingsView) (p : Phase) (r : GetRequest) (stage : Stage) (y : Account) (events : List OwnEvent) → IsOpen stage → FitsStage r stage y p events → 1 ≤ r.zone → r.zone ≤ settings.zones → allowed settings p (op_of r stage) ≡ true
open_may settings p r Look y events going fits low high = rw (between_test 1 settings.zones r.zone low high) refl
open_may settings p r (Open container) y events going fits low high = rw (between_test 1 settings.zones r.zone low high) refl
open_may settings p r (Tails x) y events going fits low high =
    let within = opened_piece r x y p events fits in
    let piece = next_piece x in
    rw (between_test 1 settings.zones r.zone low high) (fits.seen piece.part piece.start piece.count within.some fits.behind_head within.is_part within.inside)
open_may settings p r (Ended outcome given) y events going fits low high = absurd going
open_may settings p r (Late x outcome) y events going fits low high = absurd going

pub may_step : (settings : SettingsView) (d : DoorView) (t : GetTask) (op : Op) → IsOpen t.stage → op ≡ op_of t.request t.stage → Fits t settings d → allowed settings (phase_at settings d) op ≡ true
may_step settings d t op going is fits =
    subst (λ o. allowed settings (phase_at settings d) o ≡ true) (sym is) (open_may settings (phase_at settings d) t.request t.stage (account_at settings d) (events_at d) going fits.stage fits.first_zone fits.last_zone)

pub not_over : (stage : Stage) → IsOpen stage → IsOver stage → ⊥
not_over (Ended outcome given) going over = going
not_over (Late x outcome) going over = going
not_over stage going over = over
