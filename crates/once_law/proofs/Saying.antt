-- One call: what its account bears out is what the rows and the slots say.
use Rattle.std.proofs.Common.{◌≡◌, inl, inr, ℕ, Bool, true, false, cond, List, [], length, Some, None, Option, refl, sym, ◌∙◌, ap, subst, arith}
use Rattle.rgw_model.specs.declared.slot.Slot.{Slot}
use Rattle.rgw_model.specs.declared.slot.Slot.TheVariants as Slots
use Rattle.rgw_model.specs.declared.slot.Content.{Content}
use Rattle.rgw_types.specs.declared.stamp.Stamp.{Stamp}
use Rattle.object_words.specs.declared.bucket.Bucket.{Bucket}
use Rattle.object_words.specs.Conditions.{fails}
use Rattle.object_words.proofs.KeyLemmas.{number_itself}
use Rattle.realm_model.specs.Settings.{SettingsView}
use Rattle.realm_model.specs.Accounts.{Decided, Account}
use Rattle.realm_model.specs.Owns.{OwnEvent}
use Rattle.realm_model.specs.declared.event.Event.{Event}
use Rattle.swift_auth.specs.declared.policy.Deed.{Deed}
use Rattle.swift_auth.specs.declared.policy.Verdict.{Verdict}
use Rattle.swift_auth.specs.declared.policy.Verdict.TheVariants.{Granted as granted_verdict, Unknown, Denied as denied_verdict}
use Rattle.swift_auth.specs.Policies.{verdict_of}
use Rattle.task_words.specs.declared.asker.Asker.{Asker}
use Rattle.task_words.specs.declared.command.GetCommand.{GetCommand}
use Rattle.task_words.specs.declared.command.PutCommand.{PutCommand}
use Rattle.task_words.specs.declared.span.ByteRange.{ByteRange}
use Rattle.task_words.specs.declared.outcome.Outcome.{Outcome}
use Rattle.task_words.specs.declared.outcome.Outcome.TheVariants.{Done, BodyFailed, Busy, MovedOften, LateTag, LateRead, NoSpace}
use Rattle.task_words.specs.declared.reply.MapReply.{MapReply}
use Rattle.task_words.specs.declared.reply.MapReply.TheVariants.{Stored, Shown, Same, Counted, Listed, Refused}
use Rattle.task_words.specs.declared.reply.Refusal.{Refusal}
use Rattle.task_words.specs.declared.reply.Refusal.TheVariants as Why
use Rattle.task_words.specs.Answers.{Command, put, get, container_of, name_of, deed_of, Answer, answer, answered, put_answer, stored, etag_in, get_answer, live_answer, shown_range, is_unmet, is_had, span_of}
use Rattle.rgw_model.specs.Stamps.{next_stamp}
use Rattle.task_words.specs.Spans.{bytes_taken}
use Rattle.task_words.specs.Rows.{refusal_by, row_refusal}
use Rattle.task_words.specs.Outcomes.{LookedUp, ByMap, IsGetOutcome, IsPutOutcome}
use Rattle.call_words.specs.Bodies.{read_whole}
use Rattle.call_words.specs.Calls.{AreShownBy, body_at}
use Rattle.call_words.specs.Texts.{outcome_reply, told_reply, HasReply}
use Rattle.once_law.specs.Maps.{Slots, rows_in, slots_in, with_slot}
use Rattle.once_law.specs.Folds.{Said, refused, has_other_etag, said_of_name, said_in, said_by, Fixed, said, IsSaid, left_by}
use Rattle.once_law.specs.Runs.{fixed_by}
use Rattle.once_law.proofs.Slots.{all_slots, with_zone_slot, with_slot_same}
use Rattle.once_law.proofs.Standing.{Found, Unchanged, ChangedOnce, row_refuses, Standing, row_by_map}
use Rattle.once_law.proofs.Stamps.{HasLater, moves}

-- ---- the row

-- no row grants nothing
none_grants : (verdict : Verdict) → refusal_by verdict None ≡ None → ⊥
none_grants Unknown is = cc
none_grants granted_verdict is = cc
none_grants (denied_verdict rule) is = cc

-- what a verdict finds, where the row is there
row_grants : (asker : Asker) (row : Option Bucket) (deed : Deed) → row_refusal asker row deed ≡ None → (r : Bucket) × (row ≡ Some r)
row_grants asker None deed is = absurd (none_grants (verdict_of asker.user asker.account None deed) is)
row_grants asker (Some r) deed is = (r, refl)

module _ (x : Fixed) (slots : Slots) (asker : Asker) (command : Command) (actor : ℕ) where
  abbrev pub row : Option Bucket
  row = x.rows (container_of command)

  -- the row refuses
  pub said_refused : (refusal : Refusal) → row_refusal asker row (deed_of command) ≡ Some refusal → said x slots asker command actor ≡ refused refusal slots
  said_refused refusal is = ap (λ r. said_by r row slots command x.zone (x.clocks actor)) is

  -- the row grants
  pub said_granted : (r : Bucket) → row ≡ Some r → row_refusal asker (Some r) (deed_of command) ≡ None → said x slots asker command actor ≡ said_in r slots command x.zone (x.clocks actor)
  said_granted r is grants =
      (λ i. said_by (row_refusal asker (is i) (deed_of command)) (is i) slots command x.zone (x.clocks actor))
      ∙ ap (λ g. said_by g (Some r) slots command x.zone (x.clocks actor)) grants

  -- the object answer
  pub said_map : (r : Bucket) → row ≡ Some r → row_refusal asker (Some r) (deed_of command) ≡ None → has_other_etag command ≡ false → said x slots asker command actor ≡ said_of_name r slots command x.zone (x.clocks actor)
  said_map r is grants right =
      said_granted r is grants
      ∙ ap (λ (b : Bool). cond b (refused Why.OtherEtag slots) (said_of_name r slots command x.zone (x.clocks actor))) right

  pub said_other : (r : Bucket) → row ≡ Some r → row_refusal asker (Some r) (deed_of command) ≡ None → has_other_etag command ≡ true → said x slots asker command actor ≡ refused Why.OtherEtag slots
  said_other r is grants wrong =
      said_granted r is grants
      ∙ ap (λ (b : Bool). cond b (refused Why.OtherEtag slots) (said_of_name r slots command x.zone (x.clocks actor))) wrong

-- ---- bytes that are shown

-- a reply that shows no object shows no bytes
abbrev shows_none : MapReply → Answer → Type 0
shows_none (Shown kind meta etag stamp size start count) a = Unit {0}
shows_none reply a = a.shown ≡ []

range_shown : (c : GetCommand) (content : Content) (stamp : Stamp) (range : Option ByteRange) → shows_none (shown_range c.body content stamp range).reply (shown_range c.body content stamp range)
range_shown c content stamp None = refl
range_shown c content stamp (Some range) = tt

live_shown : (c : GetCommand) (content : Content) (stamp : Stamp) → shows_none (live_answer c content stamp).reply (live_answer c content stamp)
live_shown c content stamp =
    elim (is_unmet c.when.matches c.when.unmodified content.etag stamp) as (λ b. let a = cond b (answered (Refused Why.NotMet) (Slots.Live content stamp)) (cond (is_had c.when.none c.when.modified content.etag stamp) (answered (Same content.etag stamp) (Slots.Live content stamp)) (shown_range c.body content stamp (bytes_taken (span_of c) (length content.bytes)))) in shows_none a.reply a) [
      | true ↦ refl
      | false ↦ elim (is_had c.when.none c.when.modified content.etag stamp) as (λ b. let a = cond b (answered (Same content.etag stamp) (Slots.Live content stamp)) (shown_range c.body content stamp (bytes_taken (span_of c) (length content.bytes))) in shows_none a.reply a) [
        | true ↦ refl
        | false ↦ range_shown c content stamp (bytes_taken (span_of c) (length content.bytes))
      ]
    ]

get_shown : (c : GetCommand) (slot : Slot) → shows_none (get_answer c slot).reply (get_answer c slot)
get_shown c Slots.Nothing = refl
get_shown c (Slots.Live content stamp) = live_shown c content stamp
get_shown c (Slots.Mark stamp) = refl

put_shown : (c : PutCommand) (bytes : List ℕ) (slot : Slot) (zone clock : ℕ) → (put_answer c bytes slot zone clock).shown ≡ []
put_shown c bytes slot zone clock =
    elim (fails c.when (etag_in slot)) as (λ b. (cond b (answered (Refused Why.NotMet) slot) (stored c bytes (next_stamp slot clock zone))).shown ≡ []) [
      | true ↦ refl
      | false ↦ refl
    ]

-- ---- an account that bears it out

-- the call is replied as the rows and the slots say, and leaves these slots
pub record IsDone (x : Fixed) (slots now : Slots) (asker : Asker) (command : Command) (actor : ℕ) (outcome : Outcome) (shown : List ℕ) : Type 0 where
  pub is_said : IsSaid command (said x slots asker command actor) outcome shown
  pub left : left_by (said x slots asker command actor) outcome slots ≡ now

module _ (settings : SettingsView) (before history : List Event) (zone : ℕ) (asker : Asker) (clocks : ℕ → ℕ) (actor : ℕ) (y : Account)
    (standing : Standing settings before history y) (clock : (event : Decided) → y.decided ≡ Some event → clocks actor ≡ event.clock) where
  abbrev x : Fixed
  x = fixed_by settings before zone clocks

  abbrev slots : Slots
  slots = slots_in settings before zone

  abbrev now : Slots
  now = slots_in settings history zone

  abbrev Does : Command → Outcome → List ℕ → Type 0
  Does command outcome shown = IsDone x slots now asker command actor outcome shown

  -- no head was changed, or one
  none_changed : y.changes ≡ 0 → Unchanged settings before history y
  none_changed none =
      elim standing.changes [
        | inl u ↦ u
        | inr (inl c) ↦ let one = c.one in absurd (omega (arith, none, one))
        | inr (inr many) ↦ absurd (omega (arith, none, many))
      ]

  one_changed : y.changes ≡ 1 → ChangedOnce settings before history y
  one_changed one =
      elim standing.changes [
        | inl u ↦ let none = u.none in absurd (omega (arith, none, one))
        | inr (inl c) ↦ c
        | inr (inr many) ↦ absurd (omega (arith, one, many))
      ]

  pub slots_stay : y.changes ≡ 0 → slots ≡ now
  slots_stay none = λ i. sym ((none_changed none).same) i zone

  -- ---- by the row

  pub looked_row : (container : List ℕ) (deed : Deed) (refusal : Option Refusal) → LookedUp zone asker container deed refusal y.looked → row_refusal asker (rows_in settings before zone container) deed ≡ refusal
  looked_row container deed refusal l = row_refuses settings before y.looked standing.looked zone asker container deed refusal l

  refusal_done : (command : Command) (refusal : Refusal) (shown : List ℕ) → LookedUp zone asker (container_of command) (deed_of command) (Some refusal) y.looked → y.changes ≡ 0 → shown ≡ [] → Does command (Done (Refused refusal)) shown
  refusal_done command refusal shown l none is =
      let by = said_refused x slots asker command actor refusal (looked_row (container_of command) (deed_of command) (Some refusal) l) in
      record {
        is_said = (sym (ap (λ (s : Said). s.reply) by), is ∙ sym (ap (λ (s : Said). s.shown) by));
        left = ap (λ (s : Said). s.slots) by ∙ slots_stay none;
      }

  other_done : (c : PutCommand) (bytes shown : List ℕ) → LookedUp zone asker c.container (deed_of (put c bytes)) None y.looked → has_other_etag (put c bytes) ≡ true → y.changes ≡ 0 → shown ≡ [] → Does (put c bytes) (Done (Refused Why.OtherEtag)) shown
  other_done c bytes shown l wrong none is =
      let grants = looked_row c.container (deed_of (put c bytes)) None l in
      let row = row_grants asker (rows_in settings before zone c.container) (deed_of (put c bytes)) grants in
      let by = said_other x slots asker (put c bytes) actor row.0 row.1 (subst (λ o. row_refusal asker o (deed_of (put c bytes)) ≡ None) row.1 grants) wrong in
      record {
        is_said = (sym (ap (λ (s : Said). s.reply) by), is ∙ sym (ap (λ (s : Said). s.shown) by));
        left = ap (λ (s : Said). s.slots) by ∙ slots_stay none;
      }

  -- ---- by the bucket map

  module _ (command : Command) (reply : MapReply) (m : ByMap zone asker command reply y.decided) (found : Found settings before m.event) (right : has_other_etag command ≡ false) where
    is_row : rows_in settings before zone (container_of command) ≡ Some m.row
    is_row = row_by_map settings before history y standing zone asker command reply m

    is_slot : m.event.before ≡ slots m.row.id (name_of command)
    is_slot = found ∙ λ i. all_slots settings before (m.in_zone i) (m.in_container i) (m.of_name i)

    the_answer : answer (slots m.row.id (name_of command)) command zone (clocks actor) ≡ answer m.event.before command zone m.event.clock
    the_answer = λ i. answer (sym is_slot i) command zone (clock m.event m.is_last i)

    by_name : said x slots asker command actor ≡ said_of_name m.row slots command zone (clocks actor)
    by_name = said_map x slots asker command actor m.row is_row m.granted right

    is_after : (answer (slots m.row.id (name_of command)) command zone (clocks actor)).after ≡ m.event.after
    is_after = ap (λ (a : Answer). a.after) the_answer ∙ sym m.leaves

    map_said : (shown : List ℕ) → shown ≡ (answer m.event.before command zone m.event.clock).shown → IsSaid command (said x slots asker command actor) (Done reply) shown
    map_said shown is = (
      m.answers ∙ sym (ap (λ (a : Answer). a.reply) the_answer) ∙ sym (ap (λ (s : Said). s.reply) by_name),
      is ∙ sym (ap (λ (a : Answer). a.shown) the_answer) ∙ sym (ap (λ (s : Said). s.shown) by_name),
    )

    -- the slot stays
    quiet_done : (shown : List ℕ) → shown ≡ (answer m.event.before command zone m.event.clock).shown → y.changes ≡ 0 → m.event.after ≡ m.event.before → Does command (Done reply) shown
    quiet_done shown is none still = record {
      is_said = map_said shown is;
      left =
          ap (λ (s : Said). s.slots) by_name
          ∙ ap (λ slot. with_slot slots m.row.id (name_of command) slot) (is_after ∙ still ∙ is_slot)
          ∙ with_slot_same slots m.row.id (name_of command)
          ∙ slots_stay none;
    }

    -- the slot changes
    changed_done : (shown : List ℕ) → shown ≡ (answer m.event.before command zone m.event.clock).shown
        → all_slots settings history ≡ with_zone_slot (all_slots settings before) m.event.zone m.event.container m.event.name m.event.after → Does command (Done reply) shown
    changed_done shown is left =
        let at_zone : with_zone_slot (all_slots settings before) zone m.row.id (name_of command) m.event.after zone ≡ with_slot slots m.row.id (name_of command) m.event.after =
        rw (number_itself zone) refl in
        let here : now ≡ with_slot slots m.row.id (name_of command) m.event.after =
        (λ i. left i zone)
        ∙ (λ i. with_zone_slot (all_slots settings before) (m.in_zone i) (m.in_container i) (m.of_name i) m.event.after zone)
        ∙ at_zone in
        record {
          is_said = map_said shown is;
          left = ap (λ (s : Said). s.slots) by_name ∙ ap (λ slot. with_slot slots m.row.id (name_of command) slot) is_after ∙ sym here;
        }

  -- ---- GET and HEAD

  get_by_map : (c : GetCommand) (reply : MapReply) (shown : List ℕ) (m : ByMap zone asker (get c) reply y.decided) → y.changes ≡ 0 → shown ≡ (answer m.event.before (get c) zone m.event.clock).shown → Does (get c) (Done reply) shown
  get_by_map c reply shown m none is =
      let u = none_changed none in
      quiet_done (get c) reply m (u.found m.event m.is_last) refl shown is none (u.still m.event m.is_last)

  none_by_map : (c : GetCommand) (reply : MapReply) (shown : List ℕ) (m : ByMap zone asker (get c) reply y.decided) → y.changes ≡ 0 → shown ≡ [] → (shows_none reply (get_answer c m.event.before) → [] ≡ (get_answer c m.event.before).shown) → Does (get c) (Done reply) shown
  none_by_map c reply shown m none is empty =
      get_by_map c reply shown m none
      (is ∙ empty (subst (λ r. shows_none r (get_answer c m.event.before)) (sym m.answers) (get_shown c m.event.before)))

  pub get_done : (c : GetCommand) (outcome : Outcome) (shown : List ℕ) → IsGetOutcome zone asker c outcome y → HasReply (outcome_reply (span_of c) outcome) → AreShownBy zone c outcome shown y.decided → Does (get c) outcome shown
  get_done c (Done (Refused Why.Unauthorized)) shown by has bytes = refusal_done (get c) Why.Unauthorized shown by.by_row by.unchanged bytes
  get_done c (Done (Refused (Why.Denied rule))) shown by has bytes = refusal_done (get c) (Why.Denied rule) shown by.by_row by.unchanged bytes
  get_done c (Done (Refused Why.NoContainer)) shown by has bytes = refusal_done (get c) Why.NoContainer shown by.by_row by.unchanged bytes
  get_done c (Done (Refused Why.NoObject)) shown by has bytes = none_by_map c (Refused Why.NoObject) shown by.0 by.1 bytes (λ e. sym e)
  get_done c (Done (Refused Why.NotMet)) shown by has bytes = none_by_map c (Refused Why.NotMet) shown by.0 by.1 bytes (λ e. sym e)
  get_done c (Done (Refused (Why.NoRange size))) shown by has bytes = none_by_map c (Refused (Why.NoRange size)) shown by.0 by.1 bytes (λ e. sym e)
  get_done c (Done (Refused Why.OtherEtag)) shown by has bytes = none_by_map c (Refused Why.OtherEtag) shown by.0 by.1 bytes (λ e. sym e)
  get_done c (Done (Stored etag stamp)) shown by has bytes = none_by_map c (Stored etag stamp) shown by.0 by.1 bytes (λ e. sym e)
  get_done c (Done (Same etag stamp)) shown by has bytes = none_by_map c (Same etag stamp) shown by.0 by.1 bytes (λ e. sym e)
  get_done c (Done (Counted row objects size)) shown by has bytes = none_by_map c (Counted row objects size) shown by.0 by.1 bytes (λ e. sym e)
  get_done c (Done (Listed rows)) shown by has bytes = none_by_map c (Listed rows) shown by.0 by.1 bytes (λ e. sym e)
  get_done c (Done (Shown kind meta etag stamp size begin count)) shown by has bytes =
      let m = by.0 in
      let one : bytes.event ≡ m.event = let a = bytes.is_last in let b = m.is_last in cc in
      get_by_map c (Shown kind meta etag stamp size begin count) shown m by.1
      (bytes.bytes ∙ λ i. (answer (one i).before (get c) zone (one i).clock).shown)
  get_done c (LateRead read_at late) shown by has bytes = absurd has
  get_done c outcome shown by has bytes = absurd by

  -- ---- PUT

  put_stored : (c : PutCommand) (bytes : List ℕ) (etag : List ℕ) (stamp : Stamp) → has_other_etag (put c bytes) ≡ false → ((d : Decided) → y.decided ≡ Some d → HasLater d.before) → (m : ByMap zone asker (put c bytes) (Stored etag stamp) y.decided) → y.changes ≡ 1 → Does (put c bytes) (Done (Stored etag stamp)) []
  put_stored c bytes etag stamp right early m one =
      let c1 = one_changed one in
      let e = m.event in
      elim c1.decided [
        | inl by ↦
            let same : c1.change ≡ e = let a = m.is_last in cc in
            changed_done (put c bytes) (Stored etag stamp) m (subst (Found settings before) same c1.found) right []
            (sym (put_shown c bytes e.before zone e.clock))
            (subst (λ (d : Decided). all_slots settings history ≡ with_zone_slot (all_slots settings before) d.zone d.container d.name d.after) same c1.left)
        | inr other ↦
            absurd (moves c bytes e.before zone e.clock etag stamp (early e m.is_last) m.answers (sym m.leaves ∙ other e m.is_last))
      ]

  put_outside : (c : PutCommand) (bytes : List ℕ) (outcome : Outcome) (shown : List ℕ) → y.changes ≡ 0 → IsSaid (put c bytes) (said x slots asker (put c bytes) actor) outcome shown → left_by (said x slots asker (put c bytes) actor) outcome slots ≡ slots → Does (put c bytes) outcome shown
  put_outside c bytes outcome shown none is left = record { is_said = is; left = left ∙ slots_stay none }

  pub put_done : (c : PutCommand) (bytes : List ℕ) (outcome : Outcome) (events : List OwnEvent) (shown : List ℕ) → ((d : Decided) → y.decided ≡ Some d → HasLater d.before)
      → IsPutOutcome zone asker c (body_at read_whole bytes) outcome y events → HasReply (told_reply None read_whole outcome) → shown ≡ [] → Does (put c bytes) outcome shown
  put_done c bytes (Done (Stored etag stamp)) events shown early by has is =
      subst (Does (put c bytes) (Done (Stored etag stamp))) (sym is) (put_stored c bytes etag stamp by.0.right early by.1 by.2.changed)
  put_done c bytes (Done (Refused Why.NotMet)) events shown early by has is =
      let u = none_changed by.2 in
      let m = by.1 in
      quiet_done (put c bytes) (Refused Why.NotMet) m (u.found m.event m.is_last) by.0.right shown
      (is ∙ sym (put_shown c bytes m.event.before zone m.event.clock)) by.2 (u.still m.event m.is_last)
  put_done c bytes (Done (Refused Why.OtherEtag)) events shown early by has is = other_done c bytes shown by.1.by_row by.0.wrong by.1.unchanged is
  put_done c bytes (Done (Refused Why.Unauthorized)) events shown early by has is = refusal_done (put c bytes) Why.Unauthorized shown by.by_row by.unchanged is
  put_done c bytes (Done (Refused (Why.Denied rule))) events shown early by has is = refusal_done (put c bytes) (Why.Denied rule) shown by.by_row by.unchanged is
  put_done c bytes (Done (Refused Why.NoContainer)) events shown early by has is = refusal_done (put c bytes) Why.NoContainer shown by.by_row by.unchanged is
  put_done c bytes (Done reply) events shown early by has is = absurd by
  put_done c bytes BodyFailed events shown early by has is = absurd has
  put_done c bytes (Busy id) events shown early by has is = put_outside c bytes (Busy id) shown by.0.unchanged (tt, is) refl
  put_done c bytes MovedOften events shown early by has is = put_outside c bytes MovedOften shown by.0.unchanged (tt, is) refl
  put_done c bytes LateTag events shown early by has is = put_outside c bytes LateTag shown by.0.unchanged (tt, is) refl
  put_done c bytes (NoSpace free needed) events shown early by has is = put_outside c bytes (NoSpace free needed) shown by.0.unchanged (tt, is) refl
  put_done c bytes outcome events shown early by has is = absurd by
