-- The first event, the body and the reply together, where the reply rests on no body.
use Rattle.std.proofs.Common.{◌≡◌, ◌⊎◌, inl, inr, ℕ, ◌^◌, length, Bool, true, false, List, [], Option, None, refl, sym, ap, ◌∙◌, subst}
use Rattle.std.specs.Io.KnownBytes.{Appends}
use Rattle.http_chunks.specs.declared.body.BodyEnd.{BodyEnd}
use Rattle.http_model.specs.declared.reply.ReplyForm.{ReplyForm}
use Rattle.realm_model.specs.Accounts.{Account}
use Rattle.turn_cell.specs.declared.machine.DoorFault.{DoorFault}
use Rattle.turn_cell.specs.declared.machine.DoorFault.TheVariants as doors
use Rattle.realm_model.specs.Doors.{DoorView, actor_at}
use Rattle.realm_model.specs.Histories.{account_of}
use Rattle.realm_model.specs.Owns.{OwnEvent, own_events}
use Rattle.realm_model.specs.Settings.{SettingsView}
use Rattle.realm_model.specs.declared.event.Event.{Event}
use Rattle.swift_reply.specs.declared.reply.ListingForm.{ListingForm}
use Rattle.swift_requests.specs.declared.asked.Asked.{Asked}
use Rattle.swift_requests.specs.declared.asked.Asked.TheVariants.{Put, Unfed}
use Rattle.swift_requests.specs.declared.asked.UnfedCommand.{UnfedCommand}
use Rattle.swift_requests.specs.declared.asked.UnfedCommand.TheVariants.{Get, Listing, Container, Account as OfAccount}
use Rattle.swift_requests.specs.declared.body.BodyUse.{BodyUse}
use Rattle.swift_requests.specs.Bodies.{is_unread}
use Rattle.task_words.specs.declared.asker.Asker.{Asker}
use Rattle.task_words.specs.declared.command.PutCommand.{PutCommand}
use Rattle.task_words.specs.declared.outcome.Outcome.{Outcome}
use Rattle.task_words.specs.Outcomes.{Body}
use Rattle.task_words.specs.declared.outcome.Outcome.TheVariants.{BodyFailed}
use Rattle.task_words.specs.declared.span.Span.{Span}
use Rattle.call_words.specs.Bodies.{Fate, read_whole, broken_off, unread, is_broken, Suits}
use Rattle.call_words.specs.Ends.{TaskEnd, on_object, on_container, on_account, body_failed}
use Rattle.call_words.specs.Calls.{task, text_by, body_at, IsUnfedBorneOut, IsBorneOut}
use Rattle.call_words.specs.Texts.{told_reply, told_list, told_unfed, told_by, HasReply, text_if}
use Rattle.task_words.specs.Answers.{span_of}
use Rattle.call_service.specs.Bodies.{BreaksIn, HasFate, HasCome, LeavesBody}
use Rattle.call_service.specs.declared.fault.ServeFault.{ServeFault}
use Rattle.call_service.specs.declared.fault.ServeFault.TheVariants as faults
use Rattle.call_service.specs.Serving.{Site, Side, is_by_end, AppendsFront, LeavesText, BearsOut, BearsOutSoFar, body_of, form_at, LeavesUnwritten, IsReplied, IsServed, IsInPart, IsLeft, IsBeforeReply, IsStopped}
use Rattle.door_moments.specs.Acts.{Asks}
use Rattle.call_service.specs.declared.served.Served.TheVariants as services
use Rattle.call_service.specs.Replying.{StopsEvent, IsUnwanted, IsUnwritten, Replies, IsPartly, stand, StopsReply}
use Rattle.door_moments.proofs.Asking.{both_ask}
use Rattle.call_service.proofs.Passing.{fate_come, falls_here}
use Rattle.call_service.specs.Faults.{fault_by_door}

-- an event that a door refused was refused for its cause
pub event_stopped : (tells : Type 0) (found : List Event) (fault : DoorFault) → (tells → fault ≡ doors.Worn → length found ≡ 2 ^ 62) → StopsEvent tells found (fault_by_door fault)
event_stopped tells found doors.OutOfMemory worn = tt
event_stopped tells found doors.Worn worn = λ is. worn is refl

-- the text of a reply does not say whose task it was
pub any_actor : (form : ReplyForm) (asked : Asked) (fate : Fate) (outcome : TaskEnd) (shown : List ℕ) (a b : ℕ) → text_by form asked fate (task a outcome) shown ≡ text_by form asked fate (task b outcome) shown
any_actor form (Unfed asker (Get c)) fate outcome shown a b = refl
any_actor form (Unfed asker u) fate outcome shown a b = refl
any_actor form asked fate outcome shown a b = refl

-- a form that closes the connection is that behind a body that is left
pub shut_form : (form : ReplyForm) → form.close ≡ true → form ≡ form_at form unread
shut_form form is = λ i. record { bodiless = form.bodiless; close = is i }

-- ---- a body that was left says nothing

told_same : (span : Option Span) (outcome : Outcome) → is_by_end (on_object outcome) ≡ false → told_reply span read_whole outcome ≡ told_reply span unread outcome
told_same span BodyFailed is = let clash : true ≡ false = is in absurd (cc)
told_same span outcome is = refl

listed_same : (listing : ListingForm) (outcome : Outcome) → is_by_end (on_object outcome) ≡ false → told_list listing read_whole outcome ≡ told_list listing unread outcome
listed_same listing BodyFailed is = let clash : true ≡ false = is in absurd (cc)
listed_same listing outcome is = refl

unfed_same : (asker : Asker) (u : UnfedCommand) (outcome : TaskEnd) → is_by_end outcome ≡ false → told_unfed asker u read_whole outcome ≡ told_unfed asker u unread outcome
unfed_same asker u (on_object BodyFailed) is = let clash : true ≡ false = is in absurd (cc)
unfed_same asker (Get c) (on_object outcome) is = told_same (span_of c) outcome is
unfed_same asker (Listing c listing) (on_object outcome) is = listed_same listing outcome is
unfed_same asker (Container c) (on_object outcome) is = refl
unfed_same asker (OfAccount c listing) (on_object outcome) is = refl
unfed_same asker (Get c) outcome is = refl
unfed_same asker (Listing c listing) outcome is = refl
unfed_same asker (Container c) outcome is = refl
unfed_same asker (OfAccount c listing) outcome is = refl

put_same : (asker : Asker) (c : PutCommand) (outcome : TaskEnd) → is_by_end outcome ≡ false → told_by (Put asker c) read_whole outcome ≡ told_by (Put asker c) unread outcome
put_same asker c (on_object outcome) is = told_same None outcome is
put_same asker c outcome is = refl

left_text : (form : ReplyForm) (asked : Asked) (outcome : TaskEnd) (shown : List ℕ) (a : ℕ) → is_by_end outcome ≡ false → text_by form asked read_whole (task a outcome) shown ≡ text_by form asked unread (task a outcome) shown
left_text form (Put asker c) outcome shown a is = ap (λ r. text_if form r []) (put_same asker c outcome is)
left_text form (Unfed asker (Get c)) outcome shown a is = ap (λ r. text_if form r shown) (unfed_same asker (Get c) outcome is)
left_text form (Unfed asker (Listing c listing)) outcome shown a is = ap (λ r. text_if form r []) (unfed_same asker (Listing c listing) outcome is)
left_text form (Unfed asker (Container c)) outcome shown a is = ap (λ r. text_if form r []) (unfed_same asker (Container c) outcome is)
left_text form (Unfed asker (OfAccount c listing)) outcome shown a is = ap (λ r. text_if form r []) (unfed_same asker (OfAccount c listing) outcome is)
left_text form asked outcome shown a is = refl

fate_text : (form : ReplyForm) (asked : Asked) (fate : Fate) (outcome : TaskEnd) (shown : List ℕ) (a b : ℕ) → is_broken fate ≡ false → is_by_end outcome ≡ false → text_by form asked read_whole (task a outcome) shown ≡ text_by form asked fate (task b outcome) shown
fate_text form asked read_whole outcome shown a b whole is = any_actor form asked read_whole outcome shown a b
fate_text form asked (broken_off why) outcome shown a b whole is = let clash : true ≡ false = whole in absurd (cc)
fate_text form asked unread outcome shown a b whole is = left_text form asked outcome shown a is ∙ any_actor form asked unread outcome shown a b

module _ (settings : SettingsView) (zone : ℕ) (body shown : List ℕ) (y : Account) (events : List OwnEvent) where
  reply_same : (asker : Asker) (u : UnfedCommand) (outcome : TaskEnd) → is_by_end outcome ≡ false → HasReply (told_unfed asker u read_whole outcome) → HasReply (told_unfed asker u unread outcome)
  reply_same asker u outcome is has = subst HasReply (unfed_same asker u outcome is) has

  unfed_borne : (asker : Asker) (u : UnfedCommand) (outcome : TaskEnd) → is_by_end outcome ≡ false → IsUnfedBorneOut settings zone asker u read_whole outcome shown y events → IsUnfedBorneOut settings zone asker u unread outcome shown y events
  unfed_borne asker u (on_object BodyFailed) is borne = let clash : true ≡ false = is in absurd (cc)
  unfed_borne asker (Get c) (on_object outcome) is borne = borne
  unfed_borne asker (Listing c listing) (on_object outcome) is borne = borne
  unfed_borne asker (Container c) (on_container outcome) is borne = borne
  unfed_borne asker (OfAccount c listing) (on_account outcome) is borne = borne
  unfed_borne asker (Get c) outcome is borne = absurd borne
  unfed_borne asker (Listing c listing) outcome is borne = absurd borne
  unfed_borne asker (Container c) outcome is borne = absurd borne.0
  unfed_borne asker (OfAccount c listing) outcome is borne = absurd borne.0

  left_borne : (asked : Asked) (outcome : TaskEnd) → IsUnwanted asked → is_by_end outcome ≡ false → IsBorneOut settings zone asked read_whole body outcome shown y events → IsBorneOut settings zone asked unread body outcome shown y events
  left_borne (Put asker c) outcome unwanted is borne = absurd unwanted
  left_borne (Unfed asker u) outcome unwanted is borne = (unfed_borne asker u outcome is borne.0, reply_same asker u outcome is borne.1)
  left_borne asked outcome unwanted is borne = absurd borne

  fate_borne : (asked : Asked) (fate : Fate) (outcome : TaskEnd) → IsUnwanted asked → is_broken fate ≡ false → is_by_end outcome ≡ false → IsBorneOut settings zone asked read_whole body outcome shown y events → IsBorneOut settings zone asked fate body outcome shown y events
  fate_borne asked read_whole outcome unwanted whole is borne = borne
  fate_borne asked (broken_off why) outcome unwanted whole is borne = let clash : true ≡ false = whole in absurd (cc)
  fate_borne asked unread outcome unwanted whole is borne = left_borne asked outcome unwanted is borne

-- ---- the request

module _ (tells alone : Type 0) (site : Site) (form : ReplyForm) (asked : Asked) (plan : BodyUse) (found : List Event) (x y : Side) where
  -- the first event did not come
  pub row_stops : (body : Body) (fault : ServeFault) → StopsEvent tells found fault → HasCome plan x.intake y.intake x.ends.left y.ends.left body → LeavesUnwritten tells alone site asked body true x y → IsStopped tells alone site form asked plan found x y fault
  row_stops body faults.OutOfMemory stops came leaves = inl (body, came, true, leaves)
  row_stops body faults.Worn stops came leaves = (stops, inl (body, came, true, leaves))
  row_stops body fault stops came leaves = absurd stops

  -- a read failed
  pub body_stops : (fault : ServeFault) → is_unread plan ≡ false → (x.intake).failed ≡ None → LeavesBody x.intake x.ends.left y.ends.left fault → LeavesUnwritten tells alone site asked (body_of []) false x y → IsStopped tells alone site form asked plan found x y fault
  body_stops faults.ReadFault read sound stops leaves = record { is_read = read; given = []; falls = falls_here x.intake x.ends.left y.ends.left sound stops; leaves = leaves }
  body_stops fault read sound stops leaves = absurd stops

  -- the body broke off behind these bytes, and the reply says how the task ended, or that it did
  module _ (why : BodyEnd) (suits : Suits plan (broken_off why)) (came : List ℕ) (broken : BreaksIn x.intake x.ends.left y.ends.left why came) (sound : (x.intake).failed ≡ None) (outcome : TaskEnd)
      (asks : Asks tells alone site.settings (is_by_end outcome) x.door y.door x.ends.told y.ends.told)
      (right : tells → BearsOut site asked (broken_off why) came outcome [] y.door)
      (so_far : tells → BearsOutSoFar site asked (body_at (broken_off why) came) y.door) where
    abbrev told : List ℕ
    told = text_by (form_at form (broken_off why)) asked (broken_off why) (task x.door.count outcome) []

    abbrev pub broken_replied : Appends x.ends.taken y.ends.taken told → IsReplied tells alone site form asked (broken_off why) x y
    broken_replied written = record {
      body = came;
      has_fate = broken;
      outcome = outcome;
      shown = [];
      written = written;
      right = right;
      asks = asks;
    }

    pub broken_stops : (fault : ServeFault) → LeavesText x.ends.taken y.ends.taken told fault → IsStopped tells alone site form asked plan found x y fault
    broken_stops faults.OutOfMemory leaves = inl (
      body_at (broken_off why) came,
      fate_come plan (broken_off why) x.intake y.intake x.ends.left y.ends.left came suits sound broken,
      is_by_end outcome,
      record { unwritten = leaves; asks = asks; so_far = so_far },
    )
    broken_stops faults.WriteFault leaves = (
      record {
        fate = broken_off why;
        suits = suits;
        body = came;
        has_fate = broken;
        outcome = outcome;
        shown = [];
        written = leaves;
        right = right;
        more = is_by_end outcome;
        asks = asks;
      },
      refl,
    )
    broken_stops fault leaves = absurd leaves

  -- the body did not break off
  module _ (fate : Fate) (suits : Suits plan fate) (whole : is_broken fate ≡ false) (sound : (x.intake).failed ≡ None) (body : List ℕ) (has : HasFate fate x.intake y.intake x.ends.left y.ends.left body)
      (form_is : form ≡ form_at form fate) (unwanted : IsUnwanted asked)
      (d : DoorView) (told : Option (List ℕ)) (first : Asks tells alone site.settings false x.door d x.ends.told told) where
    in_all : (more : Bool) → Asks tells alone site.settings more d y.door told y.ends.told → Asks tells alone site.settings more x.door y.door x.ends.told y.ends.told
    in_all more asks = both_ask tells alone site.settings site.settings more x.door d y.door x.ends.told told y.ends.told refl first asks

    text_is : (outcome : TaskEnd) (shown : List ℕ) → is_by_end outcome ≡ false → text_by form asked read_whole (task y.door.count outcome) shown ≡ text_by (form_at form fate) asked fate (task x.door.count outcome) shown
    text_is outcome shown is =
        fate_text form asked fate outcome shown y.door.count x.door.count whole is
        ∙ ap (λ (f : ReplyForm). text_by f asked fate (task x.door.count outcome) shown) form_is

    borne : (outcome : TaskEnd) (shown : List ℕ) → is_by_end outcome ≡ false → BearsOut site asked read_whole body outcome shown y.door → BearsOut site asked fate body outcome shown y.door
    borne outcome shown is right =
        fate_borne site.settings site.zone body shown (account_of site.settings y.door.seen (actor_at y.door)) (own_events y.door.seen (actor_at y.door)) asked fate outcome unwanted whole is right

    abbrev in_part : (more : Bool) → Asks tells alone site.settings more d y.door told y.ends.told → Replies tells site form asked y.door (AppendsFront x.ends.taken y.ends.taken) → IsInPart tells alone site form asked plan x y
    in_part more asks part = record {
      fate = fate;
      suits = suits;
      body = body;
      has_fate = has;
      outcome = part.outcome;
      shown = part.shown;
      written = subst (AppendsFront x.ends.taken y.ends.taken) (text_is part.outcome part.shown part.by_event) part.written;
      right = λ is. borne part.outcome part.shown part.by_event (part.right is body);
      more = more;
      asks = in_all more asks;
    }

    unwritten : (more : Bool) → Asks tells alone site.settings more d y.door told y.ends.told → IsUnwritten tells site asked y.door x.ends.taken y.ends.taken → LeavesUnwritten tells alone site asked (body_at fate body) more x y
    unwritten more asks none = record { unwritten = none.0; asks = in_all more asks; so_far = λ is. none.1 is (body_at fate body) }

    left_so : (more : Bool) → Asks tells alone site.settings more d y.door told y.ends.told → IsPartly tells site form asked y.door x.ends.taken y.ends.taken → IsLeft tells alone site form asked plan x y
    left_so more asks (inl none) = inl (body_at fate body, fate_come plan fate x.intake y.intake x.ends.left y.ends.left body suits sound has, more, unwritten more asks none)
    left_so more asks (inr part) = inr (in_part more asks part)

    -- the reply did not come whole
    pub reply_stops : (fault : ServeFault) → StopsReply tells alone site form asked found (stand d x.ends.taken told) (stand y.door y.ends.taken y.ends.told) fault → IsStopped tells alone site form asked plan found x y fault
    reply_stops faults.ReadFault stops = absurd stops
    reply_stops faults.OutOfMemory stops = left_so stops.0.0 stops.0.1 stops.1
    reply_stops faults.Worn stops = (stops.0, left_so stops.1.0 stops.1.1 stops.2)
    reply_stops faults.WriteFault stops = (in_part false stops.0 stops.1, sym (stops.1).by_event)
    reply_stops (faults.Late read_at clock) stops = (stops.1, by_part stops.2)
      where
        by_part : IsPartly tells site form asked y.door x.ends.taken y.ends.taken
            → IsBeforeReply tells alone site asked plan x y ⊎ ((part : IsInPart tells alone site form asked plan x y) × (part.more ≡ false))
        by_part (inl none) = inl (record { fate = fate; suits = suits; whole = whole; body = body; has_fate = has; leaves = unwritten false stops.0 none })
        by_part (inr part) = inr (in_part false stops.0 part, refl)

    -- it did
    abbrev reply_is : Asks tells alone site.settings false d y.door told y.ends.told → Replies tells site form asked y.door (Appends x.ends.taken y.ends.taken) → IsReplied tells alone site form asked fate x y
    reply_is asks reply = record {
      body = body;
      has_fate = has;
      outcome = reply.outcome;
      shown = reply.shown;
      written = subst (Appends x.ends.taken y.ends.taken) (text_is reply.outcome reply.shown reply.by_event) reply.written;
      right = λ is. borne reply.outcome reply.shown reply.by_event (reply.right is body);
      asks = subst (λ more. Asks tells alone site.settings more x.door y.door x.ends.told y.ends.told) (sym reply.by_event) (in_all false asks);
    }

    pub replied : Asks tells alone site.settings false d y.door told y.ends.told → Replies tells site form asked y.door (Appends x.ends.taken y.ends.taken) → IsServed tells alone site form asked plan x y services.Replied
    replied asks reply = (fate, suits, whole, reply_is asks reply, λ failed. let clash : true ≡ false = ap is_by_end (sym failed) ∙ reply.by_event in cc)
