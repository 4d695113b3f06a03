-- What callers of a GET know: the pieces, one after another, are the bytes that its reply shows.
use Rattle.std.proofs.Common.{◌≡◌, ℕ, ◌⊎◌, inl, inr, ⊎_elim, Bool, true, false, cond, List, [], ◌∷◌, ◌++◌, length, drop, Option, Some, None, refl, sym, ap, ◌∙◌, subst, arith, length-append, length-take, length-drop}
use Rattle.std.specs.Prelude.{IfSome}
use Rattle.std.proofs.lemmas.Grind.{flat_map-append}
use Rattle.std.proofs.lemmas.List.{append-nil, nil_from_length}
use Rattle.rgw_types.specs.declared.stamp.Stamp.{Stamp}
use Rattle.rgw_model.specs.declared.slot.Content.{Content}
use Rattle.rgw_model.specs.declared.slot.Slot.{Slot}
use Rattle.rgw_model.specs.declared.slot.Slot.TheVariants as Slots
use Rattle.object_words.specs.declared.head.NewHead.{NewHead}
use Rattle.object_words.specs.declared.head.SeenSlot.TheVariants.{Live}
use Rattle.realm_model.specs.Settings.{SettingsView}
use Rattle.realm_model.specs.Accounts.{Decided, Account}
use Rattle.realm_model.specs.Phases.{Phase}
use Rattle.realm_model.specs.Histories.{Doings, doings_of}
use Rattle.realm_model.specs.Doors.{DoorView, actor_at}
use Rattle.realm_model.specs.Owns.{OwnEvent, own_events}
use Rattle.realm_model.specs.declared.op.Op.TheVariants.{BucketRead}
use Rattle.realm_door.specs.Steps.{own_event}
use Rattle.realm_door.specs.Turns.{MakesEvent}
use Rattle.realm_door.specs.Waiting.{Waited}
use Rattle.task_words.specs.declared.command.GetCommand.{GetCommand}
use Rattle.task_words.specs.declared.span.ByteRange.{ByteRange}
use Rattle.task_words.specs.declared.outcome.Outcome.{Outcome}
use Rattle.task_words.specs.declared.outcome.Outcome.TheVariants.{Done, LateRead}
use Rattle.task_words.specs.declared.reply.MapReply.{MapReply}
use Rattle.task_words.specs.declared.reply.MapReply.TheVariants.{Stored, Shown, Same, Counted, Listed, Refused}
use Rattle.task_words.specs.declared.reply.Refusal.TheVariants.{Unauthorized, Denied, NoContainer, NoObject, NotMet, NoRange, OtherEtag}
use Rattle.task_words.specs.Spans.{bytes_taken}
use Rattle.task_words.specs.Answers.{is_unmet, is_had, span_of, get, get_answer}
use Rattle.task_words.specs.Outcomes.{ByMap, IsShown, IsGetOutcome}
use Rattle.task_get.specs.declared.request.GetRequest.{GetRequest}
use Rattle.task_get.specs.declared.stage.Stage.{Stage}
use Rattle.task_get.specs.declared.stage.Stage.TheVariants.{Look, Open, Tails, Ended, Late}
use Rattle.task_get.specs.declared.task.GetTask.{GetTask}
use Rattle.task_get.specs.Shown.{HasParts, content_with}
use Rattle.task_get.specs.Replies.{reply_of}
use Rattle.task_get.specs.Pieces.{brought_by, brought}
use Rattle.task_get.specs.Gets.{ReadsRow, ReadsAll, BringsAll, BringsFront, Means, LastBrings, FitsStage}
use Rattle.task_get.specs.Tasks.{account_at, phase_at, events_at, bytes_of, given_of, where_shown, shown_by, Fits}
use Rattle.task_get.proofs.Replies.{answer_by, Lies, taken_lies, live_is}
use Rattle.task_get.proofs.Ends.{by_map, decided_slot, front_shown, shows_bytes}

-- ---- the ends, by what decides

-- by the row, before any head
record EndsByRow (r : GetRequest) (reply : MapReply) (y : Account) (events : List OwnEvent) : Type 0 where
  undecided : y.decided ≡ None
  hidden : where_shown reply ≡ None
  reads : ReadsRow r events

-- by the bucket map
record EndsByMap (r : GetRequest) (reply : MapReply) (y : Account) (events : List OwnEvent) : Type 0 where
  by_map : ByMap r.zone r.asker (get r.get) reply y.decided
  reads : ReadsAll r events
  brings : BringsAll r y events

by_either : (r : GetRequest) (reply : MapReply) (y : Account) (events : List OwnEvent) → Means r (Done reply) y events → EndsByRow r reply y events ⊎ EndsByMap r reply y events
by_either r (Refused Unauthorized) y events m = inl (record { undecided = m.0.undecided; hidden = refl; reads = m.1 })
by_either r (Refused (Denied rule)) y events m = inl (record { undecided = m.0.undecided; hidden = refl; reads = m.1 })
by_either r (Refused NoContainer) y events m = inl (record { undecided = m.0.undecided; hidden = refl; reads = m.1 })
by_either r (Refused NoObject) y events m = inr (record { by_map = m.0.0; reads = m.1.0; brings = m.1.1 })
by_either r (Refused NotMet) y events m = inr (record { by_map = m.0.0; reads = m.1.0; brings = m.1.1 })
by_either r (Refused (NoRange size)) y events m = inr (record { by_map = m.0.0; reads = m.1.0; brings = m.1.1 })
by_either r (Refused OtherEtag) y events m = inr (record { by_map = m.0.0; reads = m.1.0; brings = m.1.1 })
by_either r (Stored etag stamp) y events m = inr (record { by_map = m.0.0; reads = m.1.0; brings = m.1.1 })
by_either r (Shown kind meta etag stamp size start count) y events m = inr (record { by_map = m.0.0; reads = m.1.0; brings = m.1.1 })
by_either r (Same etag stamp) y events m = inr (record { by_map = m.0.0; reads = m.1.0; brings = m.1.1 })
by_either r (Counted row objects bytes) y events m = inr (record { by_map = m.0.0; reads = m.1.0; brings = m.1.1 })
by_either r (Listed rows) y events m = inr (record { by_map = m.0.0; reads = m.1.0; brings = m.1.1 })

-- the reply is that of the bucket map at the event that decides
mapped_reply : (r : GetRequest) (reply : MapReply) (y : Account) (event : Decided) → ByMap r.zone r.asker (get r.get) reply y.decided → y.decided ≡ Some event → reply ≡ (get_answer r.get event.before).reply
mapped_reply r reply y event by is =
    let both : Some by.event ≡ Some event = sym by.is_last ∙ is in
    let same : by.event ≡ event = cc in
    by.answers ∙ ap (λ (d : Decided). (get_answer r.get d.before).reply) same

pub shown_is : (reply : MapReply) → IsShown reply → Some reply ≡ where_shown reply
shown_is (Shown kind meta etag stamp size start count) is = refl
shown_is reply is = absurd is

-- ---- the reply that is shown

pub shown_at_once : (r : GetRequest) (stage : Stage) (y : Account) (p : Phase) (events : List OwnEvent) (event : Decided) → FitsStage r stage y p events → y.decided ≡ Some event → shown_by stage ≡ where_shown (get_answer r.get event.before).reply
shown_at_once r Look y p events event fits is = let e : None ≡ Some event = sym fits.undecided ∙ is in cc
shown_at_once r (Open container) y p events event fits is = let e : None ≡ Some event = sym fits.undecided ∙ is in cc
shown_at_once r (Tails x) y p events event fits is =
    let c = r.get in
    let whole : Slot = Slots.Live (content_with fits.new fits.bytes) fits.stamp in
    let slot = decided_slot r (Live fits.new fits.stamp) whole fits.head fits.tails y events event fits.has_read is in
    let shown : IsShown x.reply = subst IsShown (sym fits.reply) (shows_bytes c.body (reply_of c fits.new fits.stamp) x.range fits.range) in
    let same : x.reply ≡ (get_answer c event.before).reply = fits.reply ∙ (live_is c fits.new fits.stamp fits.bytes fits.parts.size).reply ∙ sym (ap (λ s. (get_answer c s).reply) slot) in
    shown_is x.reply shown ∙ ap where_shown same
shown_at_once r (Ended (Done reply) given) y p events event fits is =
    ⊎_elim
    (λ row. let e : None ≡ Some event = sym row.undecided ∙ is in cc)
    (λ map. ap where_shown (mapped_reply r reply y event map.by_map is))
    (by_either r reply y events fits.0)
shown_at_once r (Ended outcome given) y p events event fits is = absurd fits.1
shown_at_once r (Late x outcome) y p events event fits is = shown_is x.reply fits.1.is_shown ∙ ap where_shown (mapped_reply r x.reply y event fits.1.by_map is)

pub none_shown : (r : GetRequest) (stage : Stage) (y : Account) (p : Phase) (events : List OwnEvent) → FitsStage r stage y p events → y.decided ≡ None → shown_by stage ≡ None
none_shown r Look y p events fits is = refl
none_shown r (Open container) y p events fits is = refl
none_shown r (Tails x) y p events fits is = let e = sym fits.has_read.decided ∙ is in cc
none_shown r (Ended (Done reply) given) y p events fits is =
    ⊎_elim
    (λ row. row.hidden)
    (λ map. let e : Some map.by_map.event ≡ None = sym map.by_map.is_last ∙ is in cc)
    (by_either r reply y events fits.0)
none_shown r (Ended outcome given) y p events fits is = absurd fits.1
none_shown r (Late x outcome) y p events fits is = let e : Some fits.1.by_map.event ≡ None = sym fits.1.by_map.is_last ∙ is in cc

-- the reply that is shown is the bucket map's, as it is where the task ends with it
whole_answer : (r : GetRequest) (new : NewHead) (stamp : Stamp) (bytes : List ℕ) → HasParts new bytes → (get_answer r.get (Slots.Live (content_with new bytes) stamp)).after ≡ Slots.Live (content_with new bytes) stamp
whole_answer r new stamp bytes parts = (live_is r.get new stamp bytes parts.size).after

pub shown_reply : (reply shown : MapReply) → where_shown reply ≡ Some shown → (reply ≡ shown) × IsShown shown
shown_reply (Shown kind meta etag stamp size start count) shown is = let same : Shown kind meta etag stamp size start count ≡ shown = cc in (same, subst IsShown same tt)
shown_reply (Stored etag stamp) shown is = cc
shown_reply (Same etag stamp) shown is = cc
shown_reply (Counted row objects bytes) shown is = cc
shown_reply (Listed rows) shown is = cc
shown_reply (Refused refusal) shown is = cc

map_rests : (r : GetRequest) (reply : MapReply) (y : Account) → IsShown reply → ByMap r.zone r.asker (get r.get) reply y.decided → y.changes ≡ 0 → IsGetOutcome r.zone r.asker r.get (Done reply) y
map_rests r (Shown kind meta etag stamp size start count) y is by unchanged = (by, unchanged)
map_rests r reply y is by unchanged = absurd is

unchanged_meant : (r : GetRequest) (outcome : Outcome) (y : Account) (events : List OwnEvent) → Means r outcome y events → y.changes ≡ 0
unchanged_meant r (LateRead read_at clock) y events m = m.0.unchanged
unchanged_meant r (Done (Refused Unauthorized)) y events m = m.0.unchanged
unchanged_meant r (Done (Refused (Denied rule))) y events m = m.0.unchanged
unchanged_meant r (Done (Refused NoContainer)) y events m = m.0.unchanged
unchanged_meant r (Done (Refused NoObject)) y events m = m.0.1
unchanged_meant r (Done (Refused NotMet)) y events m = m.0.1
unchanged_meant r (Done (Refused (NoRange size))) y events m = m.0.1
unchanged_meant r (Done (Refused OtherEtag)) y events m = m.0.1
unchanged_meant r (Done (Stored etag stamp)) y events m = m.0.1
unchanged_meant r (Done (Shown kind meta etag stamp size start count)) y events m = m.0.1
unchanged_meant r (Done (Same etag stamp)) y events m = m.0.1
unchanged_meant r (Done (Counted row objects bytes)) y events m = m.0.1
unchanged_meant r (Done (Listed rows)) y events m = m.0.1
unchanged_meant r outcome y events m = absurd m

ended_rests : (r : GetRequest) (reply shown : MapReply) (y : Account) (events : List OwnEvent) → (reply ≡ shown) × IsShown shown → Means r (Done reply) y events → IsGetOutcome r.zone r.asker r.get (Done shown) y × IsShown shown
ended_rests r reply shown y events is m = (subst (λ x. IsGetOutcome r.zone r.asker r.get (Done x) y) is.0 m.0, is.1)

pub shown_rests : (r : GetRequest) (stage : Stage) (y : Account) (p : Phase) (events : List OwnEvent) (reply : MapReply) → FitsStage r stage y p events → shown_by stage ≡ Some reply → IsGetOutcome r.zone r.asker r.get (Done reply) y × IsShown reply
shown_rests r Look y p events reply fits is = cc
shown_rests r (Open container) y p events reply fits is = cc
shown_rests r (Tails x) y p events reply fits is =
    let same : x.reply ≡ reply = cc in
    let whole : Slot = Slots.Live (content_with fits.new fits.bytes) fits.stamp in
    let shows : IsShown x.reply = subst IsShown (sym fits.reply) (shows_bytes r.get.body (reply_of r.get fits.new fits.stamp) x.range fits.range) in
    let answers : x.reply ≡ (get_answer r.get whole).reply = fits.reply ∙ (live_is r.get fits.new fits.stamp fits.bytes fits.parts.size).reply in
    let by = by_map r (Live fits.new fits.stamp) whole fits.head fits.tails y events x.reply fits.has_read answers (whole_answer r fits.new fits.stamp fits.bytes fits.parts) in
    (subst (λ x. IsGetOutcome r.zone r.asker r.get (Done x) y) same (map_rests r x.reply y shows by fits.has_read.unchanged), subst IsShown same shows)
shown_rests r (Ended (Done reply) given) y p events shown fits is = ended_rests r reply shown y events (shown_reply reply shown is) fits.0
shown_rests r (Ended outcome given) y p events reply fits is = absurd fits.1
shown_rests r (Late x outcome) y p events reply fits is =
    let same : x.reply ≡ reply = cc in
    let unchanged = unchanged_meant r outcome y events fits.0 in
    (subst (λ x. IsGetOutcome r.zone r.asker r.get (Done x) y) same (map_rests r x.reply y fits.1.is_shown fits.1.by_map unchanged), subst IsShown same fits.1.is_shown)

-- ---- the bytes

-- only a reply that is shown has bytes
hidden_by_cases : (unmet had : Bool) (range : Option ByteRange) (wanted : Bool) (content : Content) (now : Stamp) → where_shown (answer_by unmet had range wanted content now).reply ≡ None → (answer_by unmet had range wanted content now).shown ≡ []
hidden_by_cases true had range wanted content now hidden = refl
hidden_by_cases false true range wanted content now hidden = refl
hidden_by_cases false false None wanted content now hidden = refl
hidden_by_cases false false (Some range) wanted content now hidden = cc

hidden_has_none : (c : GetCommand) (slot : Slot) → where_shown (get_answer c slot).reply ≡ None → (get_answer c slot).shown ≡ []
hidden_has_none c Slots.Nothing hidden = refl
hidden_has_none c (Slots.Mark old) hidden = refl
hidden_has_none c (Slots.Live content now) hidden =
    hidden_by_cases (is_unmet c.when.matches c.when.unmodified content.etag now) (is_had c.when.none c.when.modified content.etag now) (bytes_taken (span_of c) (length content.bytes)) c.body content now hidden

row_brings_none : (c : GetCommand) (events : List OwnEvent) (look : OwnEvent) (zone : ℕ) (name : List ℕ) → events ≡ look ∷ [] → look.op ≡ BucketRead zone name → brought c events ≡ []
row_brings_none c events look zone name stands op =
    ap (brought c) stands ∙ append-nil (brought_by c look.op look.reply) ∙ ap (λ o. brought_by c o look.reply) op

-- the first event reads the row
meant_at_first : (r : GetRequest) (outcome : Outcome) (y : Account) (events : List OwnEvent) (own : OwnEvent) → Means r outcome y events → events ≡ own ∷ [] → brought r.get events ≡ []
meant_at_first r (Done reply) y events own m is =
    ⊎_elim
    (λ row. row_brings_none r.get events row.reads.look r.zone r.get.container row.reads.stands row.reads.op)
    (λ map. let both = sym is ∙ map.reads.begins.stands in cc)
    (by_either r reply y events m)
meant_at_first r (LateRead read_at clock) y events own m is = let both = sym is ∙ m.1.begins.stands in cc
meant_at_first r outcome y events own m is = absurd m

pub none_at_first : (r : GetRequest) (stage : Stage) (y : Account) (p : Phase) (events : List OwnEvent) (own : OwnEvent) → FitsStage r stage y p events → events ≡ own ∷ [] → brought r.get events ≡ []
none_at_first r Look y p events own fits is = ap (brought r.get) fits.none
none_at_first r (Open container) y p events own fits is = row_brings_none r.get events fits.look r.zone r.get.container fits.stands fits.granted.op
none_at_first r (Tails x) y p events own fits is = let both = sym is ∙ fits.has_read.begins.stands in cc
none_at_first r (Ended outcome given) y p events own fits is = meant_at_first r outcome y events own fits.0 is
none_at_first r (Late x outcome) y p events own fits is = meant_at_first r outcome y events own fits.0 is

-- a reply that was found has all bytes that are shown at the event that decides
pub all_brought : (r : GetRequest) (reply : MapReply) (y : Account) (events : List OwnEvent) → Means r (Done reply) y events → BringsAll r y events
all_brought r reply y events m event is =
    ⊎_elim
    (λ row. let e : None ≡ Some event = sym row.undecided ∙ is in cc)
    (λ map. map.brings event is)
    (by_either r reply y events m)

pub none_brought : (r : GetRequest) (stage : Stage) (y : Account) (p : Phase) (events : List OwnEvent) → FitsStage r stage y p events → shown_by stage ≡ None → brought r.get events ≡ []
none_brought r Look y p events fits is = ap (brought r.get) fits.none
none_brought r (Open container) y p events fits is = row_brings_none r.get events fits.look r.zone r.get.container fits.stands fits.granted.op
none_brought r (Tails x) y p events fits is = cc
none_brought r (Ended (Done reply) given) y p events fits is =
    ⊎_elim
    (λ row. row_brings_none r.get events row.reads.look r.zone r.get.container row.reads.stands row.reads.op)
    (λ map.
    let event = map.by_map.event in
    let same = mapped_reply r reply y event map.by_map map.by_map.is_last in
    map.brings event map.by_map.is_last ∙ hidden_has_none r.get event.before (sym (ap where_shown same) ∙ is))
    (by_either r reply y events fits.0)
none_brought r (Ended outcome given) y p events fits is = absurd fits.1
none_brought r (Late x outcome) y p events fits is = cc

front_meant : (r : GetRequest) (outcome : Outcome) (y : Account) (events : List OwnEvent) → Means r outcome y events → BringsFront r y events
front_meant r (Done reply) y events m event is =
    record { rest = []; joined = sym (all_brought r reply y events m event is) ∙ sym (append-nil (brought r.get events)) }
front_meant r (LateRead read_at clock) y events m event is = m.2 event is
front_meant r outcome y events m event is = absurd m

pub front_at_once : (r : GetRequest) (stage : Stage) (y : Account) (p : Phase) (events : List OwnEvent) → FitsStage r stage y p events → BringsFront r y events
front_at_once r Look y p events fits event is = let e : None ≡ Some event = sym fits.undecided ∙ is in cc
front_at_once r (Open container) y p events fits event is = let e : None ≡ Some event = sym fits.undecided ∙ is in cc
front_at_once r (Tails x) y p events fits event is =
    let given = fits.given in
    let ends = fits.is_reading.ends in
    front_shown r fits.new fits.stamp fits.bytes fits.head fits.tails y events x.range x.given fits.parts fits.has_read fits.range (omega (arith, given, ends)) fits.brings event is
front_at_once r (Ended outcome given) y p events fits event is = front_meant r outcome y events fits.0 event is
front_at_once r (Late x outcome) y p events fits event is = front_meant r outcome y events fits.0 event is

-- so many are shown as the reply says, where they are wanted
shown_by_cases : (unmet had : Bool) (range : Option ByteRange) (wanted : Bool) (content : Content) (now : Stamp) (kind : List ℕ) (meta : List (List ℕ × List ℕ)) (etag : List ℕ) (stamp : Stamp) (size start count : ℕ) → IfSome range (Lies (length content.bytes))
    → Shown kind meta etag stamp size start count ≡ (answer_by unmet had range wanted content now).reply → length (answer_by unmet had range wanted content now).shown ≡ cond wanted count 0
shown_by_cases true had range wanted content now kind meta etag stamp size start count lies is = cc
shown_by_cases false true range wanted content now kind meta etag stamp size start count lies is = cc
shown_by_cases false false None wanted content now kind meta etag stamp size start count lies is = cc
shown_by_cases false false (Some range) true content now kind meta etag stamp size start count lies is =
    let same : count ≡ range.count = cc in
    let one = length-take range.count (drop range.start content.bytes) in
    let two = length-drop range.start content.bytes in
    omega (arith, one, two, lies, same)
shown_by_cases false false (Some range) false content now kind meta etag stamp size start count lies is = refl

shown_count : (c : GetCommand) (slot : Slot) (kind : List ℕ) (meta : List (List ℕ × List ℕ)) (etag : List ℕ) (stamp : Stamp) (size start count : ℕ) → Shown kind meta etag stamp size start count ≡ (get_answer c slot).reply → length (get_answer c slot).shown ≡ cond c.body count 0
shown_count c Slots.Nothing kind meta etag stamp size start count is = cc
shown_count c (Slots.Mark old) kind meta etag stamp size start count is = cc
shown_count c (Slots.Live content now) kind meta etag stamp size start count is =
    shown_by_cases (is_unmet c.when.matches c.when.unmodified content.etag now) (is_had c.when.none c.when.modified content.etag now) (bytes_taken (span_of c) (length content.bytes)) c.body content now kind meta etag stamp size start count (taken_lies (span_of c) (length content.bytes)) is

pub all_counted : (r : GetRequest) (y : Account) (events : List OwnEvent) (kind : List ℕ) (meta : List (List ℕ × List ℕ)) (etag : List ℕ) (stamp : Stamp) (size start count : ℕ) → Means r (Done (Shown kind meta etag stamp size start count)) y events → length (brought r.get events) ≡ cond r.get.body count 0
all_counted r y events kind meta etag stamp size start count m =
    let by = m.0.0 in
    let brings = m.1.1 in
    ap length (brings by.event by.is_last) ∙ shown_count r.get by.event.before kind meta etag stamp size start count by.answers

-- ---- turns

pub next_piece_follows : (settings : SettingsView) (t u : GetTask) (d e : DoorView) (moment : ℕ) → u.request ≡ t.request → Fits u settings e → MakesEvent settings moment d e → brought t.request.get (events_at e) ≡ brought t.request.get (events_at d) ++ bytes_of u
next_piece_follows settings t u d e moment request fits made =
    let x = made.extends in
    let c = t.request.get in
    let own : OwnEvent = own_event made.op made.answered in
    let pass = (x.grows).pass in
    let count = (x.grows).count in
    let actor : actor_at e ≡ actor_at d = λ i. record { pass = pass i; count = count i } in
    let events : events_at e ≡ events_at d ++ own ∷ [] = ap (own_events e.seen) actor ∙ x.events in
    let piece : bytes_of u ≡ brought_by c own.op own.reply = fits.piece (events_at d) own events ∙ ap (λ (r : GetRequest). brought_by r.get own.op own.reply) request in
    ap (brought c) events
    ∙ flat_map-append (λ (e : OwnEvent). brought_by c e.op e.reply) (events_at d) (own ∷ [])
    ∙ ap (λ l. brought c (events_at d) ++ l) (append-nil (brought_by c own.op own.reply))
    ∙ ap (λ l. brought c (events_at d) ++ l) (sym piece)

pub no_piece : (settings : SettingsView) (t u : GetTask) (d e : DoorView) (moment : ℕ) → u.request ≡ t.request → Fits t settings d → Fits u settings e → MakesEvent settings moment d e → given_of u ≡ given_of t → brought t.request.get (events_at e) ≡ brought t.request.get (events_at d)
no_piece settings t u d e moment request before fits made same =
    let c = t.request.get in
    let all = next_piece_follows settings t u d e moment request fits made in
    let long = ap length all ∙ length-append (brought c (events_at d)) (bytes_of u) in
    let now = fits.given ∙ ap (λ (r : GetRequest). length (brought r.get (events_at e))) request in
    let then = before.given in
    let none : bytes_of u ≡ [] = nil_from_length (bytes_of u) (omega (arith, long, now, then, same)) in
    all ∙ ap (λ l. brought c (events_at d) ++ l) none ∙ append-nil (brought c (events_at d))

-- ---- others

pub stays_while_waiting : (t : GetTask) (settings : SettingsView) (d e : DoorView) → Waited settings d e → Fits t settings d → Fits t settings e
stays_while_waiting t settings d e waited fits =
    let who : actor_at e ≡ actor_at d = (λ i. record { pass = waited.pass i; count = waited.count i }) in
    let doings : doings_of settings e.seen (actor_at e) ≡ doings_of settings d.seen (actor_at d) = ap (doings_of settings e.seen) who ∙ waited.same.doings in
    let account = ap (λ (x : Doings). x.account) doings in
    let phase = ap (λ (x : Doings). x.phase) doings in
    let events : events_at e ≡ events_at d = ap (own_events e.seen) who ∙ waited.same.events in
    record {
      first_zone = fits.first_zone;
      last_zone = fits.last_zone;
      stage = subst (λ y. FitsStage t.request t.stage y (phase_at settings e) (events_at e)) (sym account)
          (subst (λ p. FitsStage t.request t.stage (account_at settings d) p (events_at e)) (sym phase)
          (subst (λ es. FitsStage t.request t.stage (account_at settings d) (phase_at settings d) es) (sym events) fits.stage));
      given = subst (λ es. given_of t ≡ length (brought t.request.get es)) (sym events) fits.given;
      piece = subst (λ es. LastBrings t.request (bytes_of t) es) (sym events) fits.piece;
    }
