-- Right replies stay right where the history grows by events of others.
use Rattle.std.proofs.Common.{◌≡◌, ℕ, ◌≤◌, List, [], ◌∷◌, refl, sym, ap, subst, arith}
use Rattle.realm_model.specs.Accounts.{Account}
use Rattle.realm_model.specs.Histories.{Doings, account_of}
use Rattle.realm_model.specs.Owns.{OwnEvent, own_events}
use Rattle.realm_model.specs.Settings.{SettingsView}
use Rattle.realm_model.specs.declared.event.Event.{Event}
use Rattle.realm_door.specs.Steps.{IsSame, actor_of_pass}
use Rattle.swift_requests.specs.declared.asked.Asked.{Asked}
use Rattle.call_words.specs.Bodies.{Fate}
use Rattle.call_words.specs.Ends.{TaskEnd}
use Rattle.call_words.specs.Calls.{IsRight, IsLeftByRow, is_waiting, events_for, Ground, alone, task, Call, IsBorneOut, RestsOn, actor_after, IsOfNext, AreRight, AreSame}

module _ (settings : SettingsView) (zone pass : ℕ) (history later : List Event) where
  borne : (asked : Asked) (fate : Fate) (body shown : List ℕ) (actor : ℕ) (end : TaskEnd)
      → IsSame settings history later (actor_of_pass pass actor)
      → IsBorneOut settings zone asked fate body end shown (account_of settings history (actor_of_pass pass actor)) (own_events history (actor_of_pass pass actor))
      → IsBorneOut settings zone asked fate body end shown (account_of settings later (actor_of_pass pass actor)) (own_events later (actor_of_pass pass actor))
  borne asked fate body shown actor end same b =
      let account : account_of settings later (actor_of_pass pass actor) ≡ account_of settings history (actor_of_pass pass actor) =
      ap (λ (q : Doings). q.account) same.doings in
      let moved = subst (λ (y : Account). IsBorneOut settings zone asked fate body end shown y (own_events history (actor_of_pass pass actor))) (sym account) b in
      subst (λ (events : List OwnEvent). IsBorneOut settings zone asked fate body end shown (account_of settings later (actor_of_pass pass actor)) events) (sym same.events) moved

  -- the calls from this actor on use actors up to the last
  pub in_order : (next : ℕ) (calls : List Call) (last : ℕ) → AreRight settings zone pass history next calls last → next ≤ last
  in_order next [] last right = let e : next ≡ last = right in omega (arith, e)
  in_order next (call ∷ calls) last right = after next call.ground last (in_order (actor_after next call.ground) calls last right.2)
    where
      after : (next : ℕ) (ground : Ground) (last : ℕ) → actor_after next ground ≤ last → next ≤ last
      after next alone last low = low
      after next (task actor end) last low = omega (arith, low)

  one_stays : (next : ℕ) (call : Call) (last : ℕ) → AreSame settings pass history later next last → IsOfNext next call.ground
      → actor_after next call.ground ≤ last → IsRight settings zone pass history call → IsRight settings zone pass later call
  one_stays next call last same of_next low right = (
    by_ground call.asked call.fate call.request.body call.shown call.ground next last same of_next low right.0,
    subst (IsLeftByRow zone call.asked (is_waiting call.asked call.request.head) call.fate) (sym (events_same call.ground next last same of_next low)) right.1,
  )
    where
      by_ground : (asked : Asked) (fate : Fate) (body shown : List ℕ) (ground : Ground) (next last : ℕ) → AreSame settings pass history later next last
          → IsOfNext next ground → actor_after next ground ≤ last
          → RestsOn settings zone pass history asked fate body shown ground → RestsOn settings zone pass later asked fate body shown ground
      by_ground asked fate body shown alone next last same of_next low rests = rests
      by_ground asked fate body shown (task actor end) next last same of_next low rests =
          let e : actor ≡ next = of_next in
          borne asked fate body shown actor end (same actor (omega (arith, e)) (omega (arith, e, low))) rests

      events_same : (ground : Ground) (next last : ℕ) → AreSame settings pass history later next last → IsOfNext next ground → actor_after next ground ≤ last
          → events_for pass later ground ≡ events_for pass history ground
      events_same alone next last same of_next low = refl
      events_same (task actor end) next last same of_next low =
          let e : actor ≡ next = of_next in
          (same actor (omega (arith, e)) (omega (arith, e, low))).events

  pub stay : (next : ℕ) (calls : List Call) (last : ℕ) → AreSame settings pass history later next last
      → AreRight settings zone pass history next calls last → AreRight settings zone pass later next calls last
  stay next [] last same right = right
  stay next (call ∷ calls) last same right =
      let low = in_order (actor_after next call.ground) calls last right.2 in (
        right.0,
        one_stays next call last same right.0 low right.1,
        stay (actor_after next call.ground) calls last (narrowed call.ground next last same) right.2,
      )
    where
      narrowed : (ground : Ground) (next last : ℕ) → AreSame settings pass history later next last → AreSame settings pass history later (actor_after next ground) last
      narrowed alone next last same = same
      narrowed (task actor end) next last same = λ count low high. same count (omega (arith, low)) high
