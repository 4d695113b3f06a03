-- At one moment a call is replied by the maps, or there was no room.
use Rattle.std.proofs.Common.{◌≡◌, ℕ, ◌≤◌, List, ◌++◌, Some, None, sym, ◌∙◌, arith}
use Rattle.rgw_model.specs.Stamps.{counted_moment}
use Rattle.realm_model.specs.Settings.{SettingsView, IsSettings}
use Rattle.realm_model.specs.Accounts.{Account}
use Rattle.realm_model.specs.Owns.{OwnEvent, own_events}
use Rattle.realm_model.specs.Phases.{Phase}
use Rattle.realm_model.specs.Histories.{state_of, account_of, phase_of, Legal}
use Rattle.realm_model.specs.declared.event.Event.{Event}
use Rattle.realm_door.specs.Steps.{actor_of_pass}
use Rattle.swift_requests.specs.declared.asked.Asked.{Asked}
use Rattle.swift_requests.specs.declared.asked.Asked.TheVariants as Asks
use Rattle.swift_requests.specs.declared.asked.UnfedCommand.TheVariants.{Get, Listing, Container, Account as OfAccount}
use Rattle.task_words.specs.declared.asker.Asker.{Asker}
use Rattle.task_words.specs.declared.outcome.Outcome.{Outcome}
use Rattle.task_words.specs.declared.outcome.Outcome.TheVariants.{Done, BodyFailed, Busy, MovedOften, LateTag, LateRead, NoSpace}
use Rattle.task_words.specs.Outcomes.{Body, IsPutOutcome}
use Rattle.task_words.specs.declared.command.PutCommand.{PutCommand}
use Rattle.task_words.specs.declared.command.GetCommand.{GetCommand}
use Rattle.call_words.specs.Bodies.{Fate}
use Rattle.call_words.specs.Ends.{TaskEnd, on_object}
use Rattle.call_words.specs.Calls.{Ground, alone, task, Call, IsGetEnd, IsListEnd, IsBorneOut, AreRight, body_at}
use Rattle.call_words.specs.Made.{AreBy, AreMade}
use Rattle.call_words.specs.Texts.{told_reply, HasReply}
use Rattle.task_words.specs.Answers.{span_of}
use Rattle.task_list.specs.declared.request.ListRequest.{ListRequest}
use Rattle.once_law.specs.Folds.{IsOfObjects, AreOfObjects, IsRepliedOrFull, AreRepliedOrFull}
use Rattle.once_law.specs.Runs.{NoneFrom, IsOpen, AreAt}
use Rattle.once_law.proofs.Calls.{IsMadeAlone, task_alone, each}
use Rattle.once_law.proofs.Calms.{Calm}

module _ (settings : SettingsView) (good : IsSettings settings) (zone pass moment : ℕ) where
  -- ---- one task

  module _ (before history : List Event) (y : Account) (p : Phase) (still : Calm settings good before moment history y p) (count : ℕ) where
    put_full : (asker : Asker) (c : PutCommand) (body : Body) (outcome : Outcome) (events : List OwnEvent) → IsPutOutcome zone asker c body outcome y events → IsRepliedOrFull (task count (on_object outcome))
    put_full asker c body (Done reply) events by = tt
    put_full asker c body BodyFailed events by = tt
    put_full asker c body (Busy id) events by =
        let met = by.1 in
        let clash : None ≡ Some met.hold = sym still.held ∙ met.is_last in
        absurd (cc)
    put_full asker c body MovedOften events by = let none = still.moved in let many = by.1 in absurd (omega (arith, none, many))
    put_full asker c body LateTag events by = let none = still.expired in let many = by.1 in absurd (omega (arith, none, many))
    put_full asker c body (NoSpace free needed) events by = tt
    put_full asker c body outcome events by = absurd by

    get_full : (asker : Asker) (c : GetCommand) (fate : Fate) (outcome : Outcome) (events : List OwnEvent) → IsGetEnd zone asker c fate outcome y events → HasReply (told_reply (span_of c) fate outcome) → IsRepliedOrFull (task count (on_object outcome))
    get_full asker c fate (Done reply) events by has = tt
    get_full asker c fate BodyFailed events by has = tt
    get_full asker c fate (LateRead read_at late) events by has = has
    get_full asker c fate outcome events by has = absurd by.0

    list_full : (r : ListRequest) (fate : Fate) (outcome : Outcome) (events : List OwnEvent) → IsListEnd r fate outcome y events → IsRepliedOrFull (task count (on_object outcome))
    list_full r fate (Done reply) events by = tt
    list_full r fate BodyFailed events by = tt
    list_full r fate MovedOften events by = let none = still.moved in let many = by.0.1 in absurd (omega (arith, none, many))
    list_full r fate outcome events by = absurd by.0

    one_full : (asked : Asked) (fate : Fate) (body : List ℕ) (end : TaskEnd) (shown : List ℕ) (events : List OwnEvent) → IsOfObjects asked → IsBorneOut settings zone asked fate body end shown y events → IsRepliedOrFull (task count end)
    one_full (Asks.Put asker c) fate body (on_object outcome) shown events of_objects borne = put_full asker c (body_at fate body) outcome events borne.0
    one_full (Asks.Unfed asker (Get c)) fate body (on_object outcome) shown events of_objects borne = get_full asker c fate outcome events borne.0.0 borne.1
    one_full (Asks.Unfed asker (Listing c listing)) fate body (on_object outcome) shown events of_objects borne =
        list_full (record { zone = zone; asker = asker; command = c }) fate outcome events borne.0.0
    one_full (Asks.Unfed asker (Container c)) fate body end shown events of_objects borne = absurd of_objects
    one_full (Asks.Unfed asker (OfAccount c listing)) fate body end shown events of_objects borne = absurd of_objects
    one_full (Asks.Unfed asker u) fate body end shown events of_objects borne = absurd borne.0
    one_full asked fate body end shown events of_objects borne = absurd borne

  -- ---- calls

  call_full : (before first : List Event) (call : Call) (g : Ground) → IsMadeAlone settings good zone pass moment before first call g → IsRepliedOrFull g
  call_full before first call alone m = tt
  call_full before first call (task count end) m =
      let actor = actor_of_pass pass count in
      let t = task_alone settings good zone pass moment before first call count end m in
      one_full before (before ++ first) (account_of settings (before ++ first) actor) (phase_of settings (before ++ first) actor) t.calm count call.asked call.fate call.request.body end call.shown
      (own_events (before ++ first) actor) m.of_objects m.rests

  pub full : (before more : List Event) (next : ℕ) (calls : List Call) (last : ℕ) (later : List Event) → AreOfObjects calls → Legal settings (before ++ more) → NoneFrom pass next before → AreRight settings zone pass (before ++ more) next calls last
      → AreMade pass calls more later → AreBy pass last later → IsOpen settings before → (state_of settings before).clock ≤ counted_moment moment → AreAt moment more → AreRepliedOrFull calls
  full = each settings good zone pass moment (λ rows call. IsRepliedOrFull call.ground) (λ before first call m. call_full before first call call.ground m)
