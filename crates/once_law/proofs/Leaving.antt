-- The body of a client that waits is left just where the row of the container refuses its PUT.
use Rattle.std.proofs.Common.{◌≡◌, inl, inr, ℕ, ◌≤◌, true, false, List, [], ◌∷◌, ◌++◌, Some, None, Option, refl, sym, ◌∙◌, ap, subst, arith}
use Rattle.std.specs.Prelude.{is_some}
use Rattle.std.specs.List.{AllByRecursion}
use Rattle.rgw_model.specs.Stamps.{counted_moment}
use Rattle.object_words.specs.declared.bucket.Bucket.{Bucket}
use Rattle.realm_model.specs.Settings.{SettingsView, IsSettings}
use Rattle.realm_model.specs.Accounts.{Account}
use Rattle.realm_model.specs.Owns.{OwnEvent, own_events}
use Rattle.realm_model.specs.Phases.{ActorId}
use Rattle.realm_model.specs.Histories.{state_of, account_of, phase_of, Legal}
use Rattle.realm_model.specs.Shown.{row_shown}
use Rattle.realm_model.specs.declared.event.Event.{Event}
use Rattle.realm_door.specs.Steps.{actor_of_pass}
use Rattle.swift_auth.specs.declared.policy.Deed.TheVariants.{ChangeThing}
use Rattle.swift_requests.specs.declared.asked.Asked.{Asked}
use Rattle.swift_requests.specs.declared.asked.Asked.TheVariants as Asks
use Rattle.task_words.specs.declared.asker.Asker.{Asker}
use Rattle.task_words.specs.declared.command.BodyEnd.{BodyEnd}
use Rattle.task_words.specs.declared.command.PutCommand.{PutCommand}
use Rattle.task_words.specs.declared.outcome.Outcome.{Outcome}
use Rattle.task_words.specs.declared.outcome.Outcome.TheVariants.{Done, BodyFailed, Busy, MovedOften, LateTag, NoSpace}
use Rattle.task_words.specs.declared.reply.MapReply.{MapReply}
use Rattle.task_words.specs.declared.reply.MapReply.TheVariants.{Stored, Refused}
use Rattle.task_words.specs.declared.reply.Refusal.{Refusal}
use Rattle.task_words.specs.declared.reply.Refusal.TheVariants as Why
use Rattle.task_words.specs.Answers.{put}
use Rattle.task_words.specs.Outcomes.{ByRow, Granted, ByMap, IsPutOutcome}
use Rattle.task_words.specs.Rows.{row_refusal}
use Rattle.call_words.specs.Bodies.{Fate, read_whole, broken_off, unread, stays_unread}
use Rattle.call_words.specs.Ends.{TaskEnd, on_object}
use Rattle.call_words.specs.Calls.{Ground, alone, task, Call, body_at, is_waiting, first_refuses, IsLeftByRow, IsByHead, IsBorneOut, AreRight}
use Rattle.call_words.specs.Made.{AreBy, AreMade}
use Rattle.once_law.specs.Folds.{AreOfObjects}
use Rattle.once_law.specs.Maps.{Rows, rows_in}
use Rattle.once_law.specs.Readings.{refuses_put, IsLeftAsRowsSay, AreLeftAsRowsSay}
use Rattle.once_law.specs.Runs.{NoneFrom, IsOpen, AreAt}
use Rattle.once_law.proofs.Calls.{IsMadeAlone, task_alone, each}
use Rattle.once_law.proofs.Calms.{Calm}
use Rattle.once_law.proofs.Looking.{Settled}
use Rattle.once_law.proofs.Standing.{Standing, row_refuses, row_by_map}
use Rattle.once_law.proofs.Walking.{ReadsOnce, reads_once}

-- a body of which the task of a PUT saw the end was read
was_read : (fate : Fate) (bytes : List ℕ) (end : BodyEnd) → (body_at fate bytes).end ≡ Some end → stays_unread fate ≡ false
was_read read_whole bytes end is = refl
was_read (broken_off why) bytes end is = refl
was_read unread bytes end is = absurd (cc)

-- of a body that is left no bytes are known
abbrev pub NoneLeft : Call → Type 0
NoneLeft call = stays_unread call.fate ≡ true → call.request.body ≡ []

module _ (settings : SettingsView) (good : IsSettings settings) (zone pass moment : ℕ) where
  -- ---- one PUT

  module _ (before history : List Event) (actor : ActorId) (y : Account) (events : List OwnEvent) (asker : Asker) (c : PutCommand) (fate : Fate) (bytes : List ℕ)
      (standing : Standing settings before history y) (calm : Calm settings good before moment history y (phase_of settings history actor)) (reads : ReadsOnce settings good before zone bytes actor events y)
      (left : stays_unread fate ≡ first_refuses asker ChangeThing events) (none : stays_unread fate ≡ true → bytes ≡ []) where
    abbrev row : Option Bucket
    row = rows_in settings before zone c.container

    abbrev IsLeft : Type 0
    IsLeft = stays_unread fate ≡ is_some (row_refusal asker row ChangeThing)

    granted_left : stays_unread fate ≡ false → row_refusal asker row ChangeThing ≡ None → IsLeft
    granted_left read grants = read ∙ sym (ap is_some grants)

    -- the row grants it, unless the body was left
    granted_unless : (stays_unread fate ≡ true → ⊥) → Granted zone asker c.container ChangeThing y → IsLeft
    granted_unless apart g =
        let grants = row_refuses settings before y.looked standing.looked zone asker c.container ChangeThing None g.by_row in
        elim (stays_unread fate) as (λ b. stays_unread fate ≡ b → IsLeft) [
          | true ↦ λ is. absurd (apart is)
          | false ↦ λ is. granted_left is grants
        ] refl

    -- the row refuses it: so did the one that was read first
    refused_left : (refusal : Refusal) → ByRow zone asker c.container ChangeThing refusal y → IsLeft
    unfolding Settled
    refused_left refusal b =
        let l = b.by_row in
        let refuses = row_refuses settings before y.looked standing.looked zone asker c.container ChangeThing (Some refusal) l in
        elim reads.quiet [
          | inl looks ↦
              let first : row_refusal asker (row_shown (reads.first).reply) ChangeThing ≡ Some refusal =
              subst (λ o. row_refusal asker o ChangeThing ≡ Some refusal) (looks l.look l.is_last) l.refuses in
              left ∙ ap (first_refuses asker ChangeThing) reads.begins ∙ ap is_some (first ∙ sym refuses)
          | inr settled ↦ absurd (settled b.undecided calm.expired)
        ]

    by_map : (reply : MapReply) → ByMap zone asker (put c (body_at fate bytes).bytes) reply y.decided → row_refusal asker row ChangeThing ≡ None
    by_map reply m =
        subst (λ o. row_refusal asker o ChangeThing ≡ None)
        (sym (row_by_map settings before history y standing zone asker (put c (body_at fate bytes).bytes) reply m)) m.granted

    put_left : (outcome : Outcome) → IsPutOutcome zone asker c (body_at fate bytes) outcome y events → IsLeft
    put_left (Done (Stored etag stamp)) by = granted_left (was_read fate bytes _ by.0.whole) (by_map (Stored etag stamp) by.1)
    put_left (Done (Refused Why.NotMet)) by = granted_left (was_read fate bytes _ by.0.whole) (by_map (Refused Why.NotMet) by.1)
    put_left (Done (Refused Why.OtherEtag)) by =
        granted_unless (λ is. let clash = sym is ∙ was_read fate bytes _ by.0.whole in absurd (cc)) by.1
    put_left (Done (Refused Why.Unauthorized)) by = refused_left Why.Unauthorized by
    put_left (Done (Refused (Why.Denied rule))) by = refused_left (Why.Denied rule) by
    put_left (Done (Refused Why.NoContainer)) by = refused_left Why.NoContainer by
    put_left (Done reply) by = absurd by
    put_left BodyFailed by = granted_unless (λ is. let clash = sym is ∙ was_read fate bytes _ by.0 in absurd (cc)) by.1
    put_left (Busy id) by =
        let met = by.1 in
        let clash : None ≡ Some met.hold = sym calm.held ∙ met.is_last in
        absurd (cc)
    put_left MovedOften by = let few = calm.moved in let many = by.1 in absurd (omega (arith, few, many))
    put_left LateTag by = let few = calm.expired in let many = by.1 in absurd (omega (arith, few, many))
    put_left (NoSpace free needed) by =
        let want = by.1 in
        granted_unless (λ is. let clash : None ≡ Some want.want = sym (reads.unwanted (none is)) ∙ want.is_last in absurd (cc)) by.0
    put_left outcome by = absurd by

  -- ---- calls

  module _ (before first : List Event) (call : Call) (none : NoneLeft call) where
    abbrev Says : Asked → Type 0
    Says asked = is_waiting asked call.request.head ≡ true → stays_unread call.fate ≡ refuses_put (rows_in settings before zone) asked

    -- who is answered by the head alone waits for no 100
    by_head_says : (asked : Asked) → IsByHead asked → Says asked
    by_head_says (Asks.Put asker c) by_head waiting = absurd by_head
    by_head_says asked by_head waiting = absurd (cc)

    task_says : (count : ℕ) (end : TaskEnd) → IsMadeAlone settings good zone pass moment before first call (task count end) → (asked : Asked)
        → IsBorneOut settings zone asked call.fate call.request.body end call.shown (account_of settings (before ++ first) (actor_of_pass pass count)) (own_events (before ++ first) (actor_of_pass pass count))
        → IsLeftByRow zone asked (is_waiting asked call.request.head) call.fate (own_events (before ++ first) (actor_of_pass pass count)) → Says asked
    task_says count (on_object outcome) m (Asks.Put asker c) borne left waiting =
        let actor = actor_of_pass pass count in
        let t = task_alone settings good zone pass moment before first call count (on_object outcome) m in
        let reads = reads_once settings good before zone call.request.body actor first m.unused m.legal m.made t.keeps borne.4 t.at_first borne.5 in
        put_left before (before ++ first) actor (account_of settings (before ++ first) actor) (own_events (before ++ first) actor) asker c call.fate call.request.body t.standing t.calm reads
        (subst (λ b. IsLeftByRow zone (Asks.Put asker c) b call.fate (own_events (before ++ first) actor)) waiting left).1 none outcome borne.0
    task_says count end m (Asks.Put asker c) borne left waiting = absurd borne
    task_says count end m asked borne left waiting = absurd (cc)

    call_says : (g : Ground) → IsMadeAlone settings good zone pass moment before first call g → IsLeftAsRowsSay (rows_in settings before zone) call
    call_says alone m = by_head_says call.asked m.rests.0
    call_says (task count end) m = task_says count end m call.asked m.rests m.left

  -- of a call over rows
  abbrev SaysOver : (ℕ → Rows) → Call → Type 0
  SaysOver all call = NoneLeft call → IsLeftAsRowsSay (all zone) call

  all_say : (before : List Event) (calls : List Call) → AllByRecursion NoneLeft calls → AllByRecursion (SaysOver (rows_in settings before)) calls → AreLeftAsRowsSay (rows_in settings before zone) calls
  all_say before [] none say = tt
  all_say before (call ∷ calls) none say = (say.0 none.0, all_say before calls none.1 say.1)

  pub left_by_rows : (before more : List Event) (next : ℕ) (calls : List Call) (last : ℕ) (later : List Event) → AreOfObjects calls → Legal settings (before ++ more) → NoneFrom pass next before → AreRight settings zone pass (before ++ more) next calls last
      → AreMade pass calls more later → AreBy pass last later → IsOpen settings before → (state_of settings before).clock ≤ counted_moment moment → AreAt moment more → AllByRecursion NoneLeft calls → AreLeftAsRowsSay (rows_in settings before zone) calls
  left_by_rows before more next calls last later of_objects legal unused right made by_last opened low at none =
      all_say before calls none
      (each settings good zone pass moment SaysOver (λ before first call m none. call_says before first call none call.ground m) before more next calls last later of_objects legal unused right made by_last opened low at)
