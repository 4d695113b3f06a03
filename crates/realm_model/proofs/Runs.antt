-- Histories one behind another.
use Rattle.std.proofs.Common.{◌≡◌, ◌+◌, List, [], ◌∷◌, ◌++◌, length, refl, ◌∙◌, ap, arith}
use Rattle.realm_model.specs.Settings.{SettingsView}
use Rattle.realm_model.specs.States.{State, at_moment, Touch, nothing, at_root, at_shard, at_head, at_tail, at_changes, touched}
use Rattle.realm_model.specs.Steps.{touch_of, after}
use Rattle.realm_model.specs.Worlds.{World, start, happens}
use Rattle.realm_model.specs.Histories.{run, world_of, state_of, IsNext, LegalFrom, Legal}
use Rattle.realm_model.specs.Owns.{clock_after}
use Rattle.realm_model.specs.declared.event.Event.{Event}

pub run-append : (settings : SettingsView) (w : World) (xs ys : List Event) → run settings w (xs ++ ys) ≡ run settings (run settings w xs) ys
run-append settings w [] ys = refl
run-append settings w (x ∷ xs) ys = run-append settings (happens settings w x) xs ys

pub legal_front : (settings : SettingsView) (w : World) (xs ys : List Event) → LegalFrom settings w (xs ++ ys) → LegalFrom settings w xs
legal_front settings w [] ys legal = tt
legal_front settings w (x ∷ xs) ys legal = (legal.0, legal_front settings (happens settings w x) xs ys legal.1)

pub legal_back : (settings : SettingsView) (w : World) (xs ys : List Event) → LegalFrom settings w (xs ++ ys) → LegalFrom settings (run settings w xs) ys
legal_back settings w [] ys legal = legal
legal_back settings w (x ∷ xs) ys legal = legal_back settings (happens settings w x) xs ys legal.1

pub legal_both : (settings : SettingsView) (w : World) (xs ys : List Event) → LegalFrom settings w xs → LegalFrom settings (run settings w xs) ys → LegalFrom settings w (xs ++ ys)
legal_both settings w [] ys front back = back
legal_both settings w (x ∷ xs) ys front back = (front.0, legal_both settings (happens settings w x) xs ys front.1 back)

-- the last event of a legal history is one that may come next
pub last_is_next : (settings : SettingsView) (history : List Event) (e : Event) → Legal settings (history ++ e ∷ []) → IsNext settings (world_of settings history) e
last_is_next settings history e legal = (legal_back settings (start settings) history (e ∷ []) legal).0

pub state-next : (settings : SettingsView) (history : List Event) (e : Event) → state_of settings (history ++ e ∷ []) ≡ after settings (at_moment (state_of settings history) e.moment) e.op
state-next settings history e = ap (λ w. w.state) (run-append settings (start settings) history (e ∷ []))

pub touched-count : (settings : SettingsView) (st : State) (touch : Touch) → (touched settings st touch).count ≡ st.count
touched-count settings st nothing = refl
touched-count settings st (at_root zone root) = refl
touched-count settings st (at_shard zone key shard) = refl
touched-count settings st (at_head zone key head) = refl
touched-count settings st (at_tail zone key tail) = refl
touched-count settings st (at_changes zone log) = refl

pub touched-clock : (settings : SettingsView) (st : State) (touch : Touch) → (touched settings st touch).clock ≡ st.clock
touched-clock settings st nothing = refl
touched-clock settings st (at_root zone root) = refl
touched-clock settings st (at_shard zone key shard) = refl
touched-clock settings st (at_head zone key head) = refl
touched-clock settings st (at_tail zone key tail) = refl
touched-clock settings st (at_changes zone log) = refl

pub count_from : (settings : SettingsView) (w : World) (es : List Event) → (run settings w es).state.count ≡ w.state.count + length es
count_from settings w [] = omega arith
count_from settings w (e ∷ es) =
    let st = at_moment w.state e.moment in
    let rest = count_from settings (happens settings w e) es in
    let one = touched-count settings st (touch_of settings st e.op) in
    omega (arith, rest, one)

pub clock_from : (settings : SettingsView) (w : World) (es : List Event) → (run settings w es).state.clock ≡ clock_after w.state.clock es
clock_from settings w [] = refl
clock_from settings w (e ∷ es) =
    let st = at_moment w.state e.moment in
    clock_from settings (happens settings w e) es ∙ ap (λ clock. clock_after clock es) (touched-clock settings st (touch_of settings st e.op))
