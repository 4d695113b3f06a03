-- One call over a body of each fate: what its account bears out is what the rows and the slots say.
use Rattle.std.proofs.Common.{◌≡◌, ℕ, true, false, List, [], Some, None, Option, refl, sym, subst}
use Rattle.std.specs.Prelude.{option_map}
use Rattle.http_chunks.specs.declared.body.BodyEnd.{BodyEnd}
use Rattle.realm_model.specs.Settings.{SettingsView}
use Rattle.realm_model.specs.Accounts.{Decided, Account}
use Rattle.realm_model.specs.Owns.{OwnEvent}
use Rattle.realm_model.specs.declared.event.Event.{Event}
use Rattle.swift_auth.specs.declared.policy.Deed.{Deed}
use Rattle.swift_auth.specs.declared.policy.Deed.TheVariants.{ListContainer}
use Rattle.swift_reply.specs.declared.reply.ListingForm.{ListingForm}
use Rattle.swift_reply.specs.declared.reply.SwiftReply.TheVariants as Swift
use Rattle.swift_requests.specs.declared.asked.Asked.{Asked}
use Rattle.swift_requests.specs.declared.asked.Asked.TheVariants as Asks
use Rattle.swift_requests.specs.declared.asked.UnfedCommand.TheVariants.{Get, Listing}
use Rattle.list_words.specs.declared.command.ListCommand.{ListCommand}
use Rattle.task_list.specs.declared.request.ListRequest.{ListRequest}
use Rattle.task_list.specs.Listed.{IsListOutcome}
use Rattle.task_words.specs.declared.asker.Asker.{Asker}
use Rattle.task_words.specs.declared.command.BodyEnd.TheVariants.{Whole, Failed}
use Rattle.task_words.specs.declared.command.GetCommand.{GetCommand}
use Rattle.task_words.specs.declared.command.PutCommand.{PutCommand}
use Rattle.task_words.specs.declared.outcome.Outcome.{Outcome}
use Rattle.task_words.specs.declared.outcome.Outcome.TheVariants.{Done, BodyFailed, Busy, MovedOften, LateTag, NoSpace}
use Rattle.task_words.specs.declared.reply.MapReply.TheVariants.{Stored, Refused}
use Rattle.task_words.specs.declared.reply.Refusal.{Refusal}
use Rattle.task_words.specs.declared.reply.Refusal.TheVariants as Why
use Rattle.task_words.specs.Answers.{put, get, deed_of, span_of}
use Rattle.task_words.specs.Outcomes.{Body, LookedUp, IsGetOutcome, IsPutOutcome}
use Rattle.call_words.specs.Bodies.{Fate, read_whole, broken_off, unread}
use Rattle.call_words.specs.Ends.{on_object}
use Rattle.call_words.specs.Calls.{task, AreShownBy, body_at, IsGetEnd, IsListEnd}
use Rattle.call_words.specs.Texts.{outcome_reply, refusal_at, told_reply, told_list, HasReply}
use Rattle.once_law.specs.Maps.{Slots, slots_in}
use Rattle.once_law.specs.Folds.{Fixed, IsOutside, refusal_of, IsByRow, no_other, IsCutShort, command_in, IsSaidTo, left_behind}
use Rattle.once_law.specs.Runs.{fixed_by}
use Rattle.once_law.proofs.Listing.{IsListDone}
use Rattle.once_law.proofs.Saying.{IsDone, slots_stay, looked_row, get_done, put_done}
use Rattle.once_law.proofs.Stamps.{HasLater}
use Rattle.once_law.proofs.Standing.{Standing}

-- the call is replied as the rows and the slots say, and leaves these slots
pub record IsTold (x : Fixed) (slots now : Slots) (asked : Asked) (fate : Fate) (body : List ℕ) (actor : ℕ) (outcome : Outcome) (shown : List ℕ) : Type 0 where
  pub is_said : IsSaidTo x slots asked fate body (task actor (on_object outcome)) shown
  pub left : left_behind x slots (command_in asked fate body) (task actor (on_object outcome)) ≡ now

-- no reply is written for it where the body did not break off
never_failed : (fate : Fate) → refusal_at fate ≡ None → HasReply (option_map Swift.Refused (refusal_at fate)) → ⊥
never_failed fate none has = subst (λ r. HasReply (option_map Swift.Refused r)) none has

module _ (settings : SettingsView) (before history : List Event) (zone : ℕ) (asker : Asker) (clocks : ℕ → ℕ) (actor : ℕ) (y : Account)
    (standing : Standing settings before history y) (clock : (event : Decided) → y.decided ≡ Some event → clocks actor ≡ event.clock) where
  abbrev x : Fixed
  x = fixed_by settings before zone clocks

  abbrev slots : Slots
  slots = slots_in settings before zone

  abbrev now : Slots
  now = slots_in settings history zone

  abbrev Tells : Asked → Fate → List ℕ → Outcome → List ℕ → Type 0
  Tells asked fate body outcome shown = IsTold x slots now asked fate body actor outcome shown

  stay : y.changes ≡ 0 → slots ≡ now
  stay none = slots_stay settings before history zone asker clocks actor y standing clock none

  -- ---- by the row

  row_says : (container : List ℕ) (deed : Deed) (refusal : Option Refusal) → LookedUp zone asker container deed refusal y.looked → refusal_of x asker container deed ≡ refusal
  row_says container deed refusal l = looked_row settings before history zone asker clocks actor y standing clock container deed refusal l

  refuses_so : (outside : Outcome → Type 0) (container : List ℕ) (deed : Deed) (refusal : Refusal) → LookedUp zone asker container deed (Some refusal) y.looked → IsByRow outside (refusal_of x asker container deed) (Done (Refused refusal))
  refuses_so outside container deed refusal l =
      subst (λ r. IsByRow outside r (Done (Refused refusal))) (sym (row_says container deed (Some refusal) l)) refl

  grants_so : (outside : Outcome → Type 0) (container : List ℕ) (deed : Deed) (outcome : Outcome) → LookedUp zone asker container deed None y.looked → IsByRow outside None outcome → IsByRow outside (refusal_of x asker container deed) outcome
  grants_so outside container deed outcome l is =
      subst (λ r. IsByRow outside r outcome) (sym (row_says container deed None l)) is

  -- ---- GET and HEAD

  get_end : (c : GetCommand) (fate : Fate) (outcome : Outcome) (events : List OwnEvent) → refusal_at fate ≡ None → IsGetEnd zone asker c fate outcome y events → HasReply (told_reply (span_of c) fate outcome)
      → IsGetOutcome zone asker c outcome y × HasReply (outcome_reply (span_of c) outcome)
  get_end c fate BodyFailed events none by has = absurd (never_failed fate none has)
  get_end c fate outcome events none by has = (by.0, has)

  whole_get : (c : GetCommand) (fate : Fate) (outcome : Outcome) (events : List OwnEvent) (shown : List ℕ) → refusal_at fate ≡ None → IsGetEnd zone asker c fate outcome y events → HasReply (told_reply (span_of c) fate outcome)
      → AreShownBy zone c outcome shown y.decided → IsDone x slots now asker (get c) actor outcome shown
  whole_get c fate outcome events shown none by has bytes =
      let end = get_end c fate outcome events none by has in
      get_done settings before history zone asker clocks actor y standing clock c outcome shown end.0 end.1 bytes

  abbrev CutGet : GetCommand → Outcome → List ℕ → Type 0
  CutGet c outcome shown = IsCutShort no_other (refusal_of x asker c.container (deed_of (get c))) outcome shown × (y.changes ≡ 0)

  cut_get : (c : GetCommand) (why : BodyEnd) (outcome : Outcome) (events : List OwnEvent) (shown : List ℕ) → IsGetEnd zone asker c (broken_off why) outcome y events → AreShownBy zone c outcome shown y.decided → CutGet c outcome shown
  cut_get c why BodyFailed events shown by bytes =
      ((grants_so no_other c.container (deed_of (get c)) BodyFailed by.0.by_row tt, bytes), by.0.unchanged)
  cut_get c why (Done (Refused Why.Unauthorized)) events shown by bytes =
      ((refuses_so no_other c.container (deed_of (get c)) Why.Unauthorized by.0.by_row, bytes), by.0.unchanged)
  cut_get c why (Done (Refused (Why.Denied rule))) events shown by bytes =
      ((refuses_so no_other c.container (deed_of (get c)) (Why.Denied rule) by.0.by_row, bytes), by.0.unchanged)
  cut_get c why (Done (Refused Why.NoContainer)) events shown by bytes =
      ((refuses_so no_other c.container (deed_of (get c)) Why.NoContainer by.0.by_row, bytes), by.0.unchanged)
  cut_get c why (Done reply) events shown by bytes = let late : false ≡ true = by.1 in absurd (cc)
  cut_get c why outcome events shown by bytes = let late : false ≡ true = by.1 in absurd (cc)

  pub get_told : (c : GetCommand) (fate : Fate) (body : List ℕ) (outcome : Outcome) (events : List OwnEvent) (shown : List ℕ) → IsGetEnd zone asker c fate outcome y events → HasReply (told_reply (span_of c) fate outcome) → AreShownBy zone c outcome shown y.decided
      → Tells (Asks.Unfed asker (Get c)) fate body outcome shown
  get_told c read_whole body outcome events shown by has bytes =
      let d = whole_get c read_whole outcome events shown refl by has bytes in record { is_said = d.is_said; left = d.left }
  get_told c (broken_off why) body outcome events shown by has bytes =
      let d = cut_get c why outcome events shown by bytes in record { is_said = d.0; left = stay d.1 }
  get_told c unread body outcome events shown by has bytes =
      let d = whole_get c unread outcome events shown refl by has bytes in record { is_said = d.is_said; left = d.left }

  -- ---- PUT

  abbrev CutPut : PutCommand → List ℕ → Outcome → List ℕ → Type 0
  CutPut c bytes outcome shown =
      IsCutShort (IsOutside (put c bytes)) (refusal_of x asker c.container (deed_of (put c bytes))) outcome shown × (y.changes ≡ 0)

  module _ (c : PutCommand) (body : Body) (apart : body.end ≡ Some Whole → ⊥) (bytes : List ℕ) (events : List OwnEvent) (shown : List ℕ) (is : shown ≡ []) where
    put_refused : (refusal : Refusal) → LookedUp zone asker c.container (deed_of (put c bytes)) (Some refusal) y.looked → y.changes ≡ 0 → CutPut c bytes (Done (Refused refusal)) shown
    put_refused refusal l none = ((refuses_so (IsOutside (put c bytes)) c.container (deed_of (put c bytes)) refusal l, is), none)

    put_granted : (outcome : Outcome) → LookedUp zone asker c.container (deed_of (put c bytes)) None y.looked → y.changes ≡ 0 → IsByRow (IsOutside (put c bytes)) None outcome → CutPut c bytes outcome shown
    put_granted outcome l none by = ((grants_so (IsOutside (put c bytes)) c.container (deed_of (put c bytes)) outcome l by, is), none)

    cut_put : (outcome : Outcome) → IsPutOutcome zone asker c body outcome y events → CutPut c bytes outcome shown
    cut_put (Done (Stored etag stamp)) by = absurd (apart by.0.whole)
    cut_put (Done (Refused Why.NotMet)) by = absurd (apart by.0.whole)
    cut_put (Done (Refused Why.OtherEtag)) by = absurd (apart by.0.whole)
    cut_put (Done (Refused Why.Unauthorized)) by = put_refused Why.Unauthorized by.by_row by.unchanged
    cut_put (Done (Refused (Why.Denied rule))) by = put_refused (Why.Denied rule) by.by_row by.unchanged
    cut_put (Done (Refused Why.NoContainer)) by = put_refused Why.NoContainer by.by_row by.unchanged
    cut_put (Done reply) by = absurd by
    cut_put BodyFailed by = put_granted BodyFailed by.1.by_row by.1.unchanged tt
    cut_put (Busy id) by = put_granted (Busy id) by.0.by_row by.0.unchanged tt
    cut_put MovedOften by = put_granted MovedOften by.0.by_row by.0.unchanged tt
    cut_put LateTag by = put_granted LateTag by.0.by_row by.0.unchanged tt
    cut_put (NoSpace free needed) by = put_granted (NoSpace free needed) by.0.by_row by.0.unchanged tt
    cut_put outcome by = absurd by

  pub put_told : (c : PutCommand) (fate : Fate) (bytes : List ℕ) (outcome : Outcome) (events : List OwnEvent) (shown : List ℕ) → ((d : Decided) → y.decided ≡ Some d → HasLater d.before)
      → IsPutOutcome zone asker c (body_at fate bytes) outcome y events → HasReply (told_reply None fate outcome) → shown ≡ [] → Tells (Asks.Put asker c) fate bytes outcome shown
  put_told c read_whole bytes outcome events shown early by has is =
      let d = put_done settings before history zone asker clocks actor y standing clock c bytes outcome events shown early by has is in
      record { is_said = d.is_said; left = d.left }
  put_told c (broken_off why) bytes outcome events shown early by has is =
      let d = cut_put c (body_at (broken_off why) bytes) (λ e. let clash : Some Failed ≡ Some Whole = e in cc) bytes events shown is outcome by in
      record { is_said = d.0; left = stay d.1 }
  put_told c unread bytes outcome events shown early by has is =
      let d = cut_put c (body_at unread bytes) (λ e. let clash : None ≡ Some Whole = e in cc) bytes events shown is outcome by in
      record { is_said = d.0; left = stay d.1 }

  -- ---- listings

  abbrev request : ListCommand → ListRequest
  request c = record { zone = zone; asker = asker; command = c }

  list_end : (c : ListCommand) (listing : ListingForm) (fate : Fate) (outcome : Outcome) (events : List OwnEvent) → refusal_at fate ≡ None → IsListEnd (request c) fate outcome y events → HasReply (told_list listing fate outcome)
      → IsListOutcome (request c) outcome y events
  list_end c listing fate BodyFailed events none by has = absurd (never_failed fate none has)
  list_end c listing fate outcome events none by has = by.0

  abbrev CutList : ListCommand → Outcome → List ℕ → Type 0
  CutList c outcome shown = IsCutShort no_other (refusal_of x asker c.container ListContainer) outcome shown × (y.changes ≡ 0)

  cut_list : (c : ListCommand) (why : BodyEnd) (outcome : Outcome) (events : List OwnEvent) (shown : List ℕ) → shown ≡ [] → IsListEnd (request c) (broken_off why) outcome y events → CutList c outcome shown
  cut_list c why BodyFailed events shown is by =
      ((grants_so no_other c.container ListContainer BodyFailed by.0.by_row tt, is), by.0.unchanged)
  cut_list c why (Done (Refused Why.Unauthorized)) events shown is by =
      ((refuses_so no_other c.container ListContainer Why.Unauthorized by.0.0.1, is), (by.0.1).unchanged)
  cut_list c why (Done (Refused (Why.Denied rule))) events shown is by =
      ((refuses_so no_other c.container ListContainer (Why.Denied rule) by.0.0.1, is), (by.0.1).unchanged)
  cut_list c why (Done (Refused Why.NoContainer)) events shown is by =
      ((refuses_so no_other c.container ListContainer Why.NoContainer by.0.0.1, is), (by.0.1).unchanged)
  cut_list c why (Done reply) events shown is by = let late : false ≡ true = by.1 in absurd (cc)
  cut_list c why outcome events shown is by = let late : false ≡ true = by.1 in absurd (cc)

  abbrev Ends : ListCommand → Outcome → Type 0
  Ends c outcome = IsListDone settings before history zone asker clocks c outcome

  pub list_told : (c : ListCommand) (listing : ListingForm) (fate : Fate) (body : List ℕ) (outcome : Outcome) (events : List OwnEvent) (shown : List ℕ) → (IsListOutcome (request c) outcome y events → Ends c outcome)
      → IsListEnd (request c) fate outcome y events → HasReply (told_list listing fate outcome) → shown ≡ [] → Tells (Asks.Unfed asker (Listing c listing)) fate body outcome shown
  list_told c listing read_whole body outcome events shown done by has is =
      let d = done (list_end c listing read_whole outcome events refl by has) in record { is_said = (d.is_said, is); left = d.left }
  list_told c listing (broken_off why) body outcome events shown done by has is =
      let d = cut_list c why outcome events shown is by in record { is_said = d.0; left = stay d.1 }
  list_told c listing unread body outcome events shown done by has is =
      let d = done (list_end c listing unread outcome events refl by has) in record { is_said = (d.is_said, is); left = d.left }
