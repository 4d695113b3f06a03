-- What an actor knows follows from its own events.
use Rattle.std.proofs.Common.{◌≡◌, ℕ, ◌+◌, ◌==◌, true, false, cond, max, List, [], ◌∷◌, ◌++◌, refl, sym, ◌∙◌, ap, arith}
use Rattle.std.proofs.lemmas.Bool.Decides.{nat_tests}
use Rattle.rgw_model.specs.Stamps.{counted_moment}
use Rattle.realm_model.specs.Settings.{SettingsView}
use Rattle.realm_model.specs.States.{at_moment}
use Rattle.realm_model.specs.Steps.{touch_of}
use Rattle.realm_model.specs.Phases.{ActorId, Phase, fresh}
use Rattle.realm_model.specs.Learnt.{learnt}
use Rattle.realm_model.specs.Worlds.{World, start, same_actor, actor_of, happens}
use Rattle.realm_model.specs.Histories.{run, phase_of, account_of}
use Rattle.realm_model.specs.Owns.{OwnEvent, own_from, own_events, learnt_from, NoneBy}
use Rattle.realm_model.proofs.Computing.{left_of, right_of}
use Rattle.realm_model.proofs.Runs.{run-append, touched-count, touched-clock}
use Rattle.realm_model.specs.declared.event.Event.{Event}

number_same : (a b : ℕ) → (a == b) ≡ true → a ≡ b
number_same a b same = grind (arith, nat_tests)

pub same_is : (a b : ActorId) → same_actor a b ≡ true → b ≡ a
same_is a b same =
    let pass = number_same a.pass b.pass (left_of (a.pass == b.pass) (a.count == b.count) same) in
    let count = number_same a.count b.count (right_of (a.pass == b.pass) (a.count == b.count) same) in
    λ i. record { pass = sym pass i; count = sym count i }

phase_stays : (settings : SettingsView) (w : World) (es : List Event) (actor : ActorId) → NoneBy actor es → (run settings w es).phases actor ≡ w.phases actor
phase_stays settings w [] actor others = refl
phase_stays settings w (e ∷ es) actor others =
    phase_stays settings (happens settings w e) es actor others.1 ∙ rw others.0 refl

account_stays : (settings : SettingsView) (w : World) (es : List Event) (actor : ActorId) → NoneBy actor es → (run settings w es).accounts actor ≡ w.accounts actor
account_stays settings w [] actor others = refl
account_stays settings w (e ∷ es) actor others =
    account_stays settings (happens settings w e) es actor others.1 ∙ rw others.0 refl

pub phase-others : (settings : SettingsView) (history between : List Event) (actor : ActorId) → NoneBy actor between → phase_of settings (history ++ between) actor ≡ phase_of settings history actor
phase-others settings history between actor others =
    ap (λ w. w.phases actor) (run-append settings (start settings) history between)
    ∙ phase_stays settings (run settings (start settings) history) between actor others

pub account-others : (settings : SettingsView) (history between : List Event) (actor : ActorId) → NoneBy actor between → account_of settings (history ++ between) actor ≡ account_of settings history actor
account-others settings history between actor others =
    ap (λ w. w.accounts actor) (run-append settings (start settings) history between)
    ∙ account_stays settings (run settings (start settings) history) between actor others

-- the phase at the end is what the own events make of the phase at the start
learnt_by : (settings : SettingsView) (w : World) (es : List Event) (actor : ActorId) (count clock : ℕ) → w.state.count ≡ count → w.state.clock ≡ clock → (run settings w es).phases actor ≡ learnt_from (w.phases actor) (own_from count clock es actor)
learnt_by settings w [] actor count clock is_count is_clock = refl
learnt_by settings w (e ∷ es) actor count clock is_count is_clock =
    let st = at_moment w.state e.moment in
    let now = max clock (counted_moment e.moment) in
    let one : (happens settings w e).state.count ≡ count + 1 =
    ap (λ n. n + 1) (touched-count settings st (touch_of settings st e.op) ∙ is_count) in
    let moved : (happens settings w e).state.clock ≡ now =
    touched-clock settings st (touch_of settings st e.op) ∙ ap (λ c. max c (counted_moment e.moment)) is_clock in
    let rest = own_from (count + 1) now es actor in
    let own : OwnEvent = record { op = e.op; reply = e.reply; number = count + 1; clock = now } in
    let know : Phase → ℕ → ℕ → Phase = λ p n c. learnt p e.op e.reply n c in
    let step = learnt_by settings (happens settings w e) es actor (count + 1) now one moved in
    step ∙ (
    elim (same_actor actor (actor_of e)) as (λ b. same_actor actor (actor_of e) ≡ b → learnt_from (cond b (know (w.phases (actor_of e)) (w.state.count + 1) st.clock) (w.phases actor)) rest ≡ learnt_from (w.phases actor) (cond b (own ∷ rest) rest)) [
      | true ↦ λ same. λ i. learnt_from (know (w.phases (same_is actor (actor_of e) same i)) (is_count i + 1) (max (is_clock i) (counted_moment e.moment))) rest
      | false ↦ λ same. refl
    ] refl)

pub phase-own : (settings : SettingsView) (history : List Event) (actor : ActorId) → phase_of settings history actor ≡ learnt_from fresh (own_events history actor)
phase-own settings history actor = learnt_by settings (start settings) history actor 0 0 refl refl
