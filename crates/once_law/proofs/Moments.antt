-- Where each event brings one moment, each reply is decided at it.
use Rattle.std.proofs.Common.{◌≡◌, ℕ, ◌≤◌, true, false, List, [], ◌∷◌, ◌++◌, refl, sym, ◌∙◌, ap, subst, arith}
use Rattle.rgw_model.specs.Stamps.{counted_moment}
use Rattle.realm_model.specs.Settings.{SettingsView}
use Rattle.realm_model.specs.States.{clock_at}
use Rattle.realm_model.specs.Phases.{ActorId}
use Rattle.realm_model.specs.Owns.{clock_after, NoneBy}
use Rattle.realm_model.specs.Worlds.{start, same_actor, actor_of}
use Rattle.realm_model.specs.Histories.{state_of}
use Rattle.realm_model.specs.declared.event.Event.{Event}
use Rattle.realm_model.proofs.Deciding.{decided_stands}
use Rattle.realm_model.proofs.ObjectLemmas.{actor_itself}
use Rattle.realm_model.proofs.Runs.{clock_from}
use Rattle.realm_door.specs.Steps.{actor_of_pass}
use Rattle.once_law.specs.Runs.{NoneFrom, AreClocks, AreAt}

-- ---- the clock

pub same_clock : (clock moment : ℕ) → clock ≤ counted_moment moment → clock_at clock moment ≡ counted_moment moment
same_clock clock moment low = omega (arith, low)

clock_low : (clock moment : ℕ) (es : List Event) → clock ≤ counted_moment moment → AreAt moment es → clock_after clock es ≤ counted_moment moment
clock_low clock moment [] low are = low
clock_low clock moment (e ∷ es) low are =
    let here : clock_at clock e.moment ≡ counted_moment moment = ap (clock_at clock) are.0 ∙ same_clock clock moment low in
    clock_low (clock_at clock e.moment) moment es (omega (arith, here)) are.1

clock_append : (clock : ℕ) (xs ys : List Event) → clock_after clock (xs ++ ys) ≡ clock_after (clock_after clock xs) ys
clock_append clock [] ys = refl
clock_append clock (x ∷ xs) ys = clock_append (clock_at clock x.moment) xs ys

pub state_clock : (settings : SettingsView) (history : List Event) → (state_of settings history).clock ≡ clock_after 0 history
state_clock settings history = clock_from settings (start settings) history

-- the clock behind events of the moment
pub clock_behind : (settings : SettingsView) (before more : List Event) (moment : ℕ) → (state_of settings before).clock ≤ counted_moment moment → AreAt moment more → (state_of settings (before ++ more)).clock ≤ counted_moment moment
clock_behind settings before more moment low are =
    let first = state_clock settings before in
    let both = state_clock settings (before ++ more) ∙ clock_append 0 before more in
    let last = clock_low (clock_after 0 before) moment more (omega (arith, low, first)) are in
    omega (arith, both, last)

-- ---- where an own event stands

-- it is behind the first part, in which the actor made none
record StandsBehind (before more earlier : List Event) (event : Event) (later : List Event) : Type 0 where
  front : List Event
  earlier_is : earlier ≡ before ++ front
  more_is : more ≡ (front ++ event ∷ []) ++ later

head_of : (x y : Event) (xs ys : List Event) → x ∷ xs ≡ y ∷ ys → x ≡ y
head_of x y xs ys same = cc

tail_of : (x y : Event) (xs ys : List Event) → x ∷ xs ≡ y ∷ ys → xs ≡ ys
tail_of x y xs ys same = cc

behind : (actor : ActorId) (before more earlier : List Event) (event : Event) (later : List Event) → NoneBy actor before → actor_of event ≡ actor → before ++ more ≡ (earlier ++ event ∷ []) ++ later → StandsBehind before more earlier event later
behind actor [] more earlier event later none own stands = record { front = earlier; earlier_is = refl; more_is = stands }
behind actor (b ∷ bs) more [] event later none own stands =
    let is : b ≡ event = head_of b event (bs ++ more) later stands in
    let same : same_actor actor (actor_of b) ≡ true = subst (λ a. same_actor actor a ≡ true) (sym (ap actor_of is ∙ own)) (actor_itself actor) in
    let apart : same_actor actor (actor_of b) ≡ false = none.0 in
    absurd (cc)
behind actor (b ∷ bs) more (e ∷ es) event later none own stands =
    let rest = behind actor bs more es event later none.1 own (tail_of b e (bs ++ more) ((es ++ event ∷ []) ++ later) stands) in
    let is : b ≡ e = head_of b e (bs ++ more) ((es ++ event ∷ []) ++ later) stands in
    record { front = rest.front; earlier_is = (λ i. sym is i ∷ rest.earlier_is i); more_is = rest.more_is }

at_front : (moment : ℕ) (front : List Event) (event : Event) (later : List Event) → AreAt moment ((front ++ event ∷ []) ++ later) → AreAt moment front × (event.moment ≡ moment)
at_front moment [] event later are = (tt, are.0)
at_front moment (x ∷ xs) event later are = let rest = at_front moment xs event later are.1 in ((are.0, rest.0), rest.1)

pub clocks_at : (settings : SettingsView) (pass : ℕ) (before more : List Event) (next moment : ℕ) → (state_of settings before).clock ≤ counted_moment moment → AreAt moment more → NoneFrom pass next before
    → AreClocks settings pass (before ++ more) next (λ count. counted_moment moment)
clocks_at settings pass before more next moment low are unused count event high decided =
    let actor = actor_of_pass pass count in
    let s = decided_stands settings (before ++ more) actor event decided in
    let b = behind actor before more s.earlier s.event s.later (unused count high) s.own s.stands in
    let at = at_front moment b.front s.event s.later (subst (AreAt moment) b.more_is are) in
    let front : (state_of settings s.earlier).clock ≤ counted_moment moment =
    subst (λ l. (state_of settings l).clock ≤ counted_moment moment) (sym b.earlier_is) (clock_behind settings before b.front moment low at.0) in
    sym (s.clock ∙ ap (clock_at (state_of settings s.earlier).clock) at.1 ∙ same_clock (state_of settings s.earlier).clock moment front)
