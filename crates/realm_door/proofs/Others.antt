-- Events of other actors leave an actor's doings as they are.
use Rattle.std.proofs.Common.{◌≡◌, ◌≢◌, ℕ, ◌+◌, ◌==◌, true, false, cond, List, [], ◌∷◌, ◌++◌, length, refl, sym, ap, ◌∙◌, arith}
use Rattle.std.proofs.lemmas.List.{append-nil}
use Rattle.std.proofs.lemmas.Bool.Decides.{nat_tests}
use Rattle.object_words.proofs.KeyLemmas.{number_itself}
use Rattle.realm_model.specs.Settings.{SettingsView}
use Rattle.realm_model.specs.States.{clock_at}
use Rattle.realm_model.specs.Phases.{ActorId}
use Rattle.realm_model.specs.Worlds.{same_actor, actor_of}
use Rattle.realm_model.specs.Histories.{doings_of}
use Rattle.realm_model.specs.Owns.{OwnEvent, clock_after, own_from, own_events, NoneBy}
use Rattle.realm_model.specs.Doors.{NoneByPass}
use Rattle.realm_model.specs.declared.event.Event.{Event}
use Rattle.realm_model.proofs.Others.{phase-others, account-others}
use Rattle.realm_model.proofs.ObjectLemmas.{actor_itself}
use Rattle.realm_door.specs.Steps.{actor_of_pass, IsSame}

different : (a b : ℕ) → a ≢ b → (a == b) ≡ false
different a b apart = grind (arith, nat_tests)

-- an event by another pass
by_other_pass : (pass count : ℕ) (e : Event) → e.pass ≢ pass → same_actor (actor_of_pass pass count) (actor_of e) ≡ false
by_other_pass pass count e apart = rw (different pass e.pass (λ same. apart (sym same))) refl

-- an event by another actor of the pass
by_other_count : (pass count : ℕ) (e : Event) → e.pass ≡ pass → count ≢ e.count → same_actor (actor_of_pass pass count) (actor_of e) ≡ false
by_other_count pass count e own apart = rw own (rw (number_itself pass) (different count e.count apart))

pub none_by : (pass count : ℕ) (events : List Event) → NoneByPass pass events → NoneBy (actor_of_pass pass count) events
none_by pass count [] none = tt
none_by pass count (e ∷ es) none = (by_other_pass pass count e none.0, none_by pass count es none.1)

doings-others : (settings : SettingsView) (history between : List Event) (actor : ActorId) → NoneBy actor between → doings_of settings (history ++ between) actor ≡ doings_of settings history actor
doings-others settings history between actor none =
    let phase = phase-others settings history between actor none in
    let account = account-others settings history between actor none in
    λ i. record { phase = phase i; account = account i }

pub own-append : (count clock : ℕ) (xs ys : List Event) (actor : ActorId) → own_from count clock (xs ++ ys) actor ≡ own_from count clock xs actor ++ own_from (count + length xs) (clock_after clock xs) ys actor
own-append count clock [] ys actor = ap (λ n. own_from n clock ys actor) (omega arith)
own-append count clock (x ∷ xs) ys actor =
    let now = clock_at clock x.moment in
    let own : OwnEvent = record { op = x.op; reply = x.reply; number = count + 1; clock = now } in
    let place : (count + 1) + length xs ≡ count + length {A = Event} (x ∷ xs) = omega arith in
    let rest = own-append (count + 1) now xs ys actor ∙ ap (λ n. own_from (count + 1) now xs actor ++ own_from n (clock_after now xs) ys actor) place in
    elim (same_actor actor (actor_of x)) as (λ b. cond b (own ∷ own_from (count + 1) now (xs ++ ys) actor) (own_from (count + 1) now (xs ++ ys) actor) ≡ cond b (own ∷ own_from (count + 1) now xs actor) (own_from (count + 1) now xs actor) ++ own_from (count + length {A = Event} (x ∷ xs)) (clock_after now xs) ys actor) [
      | true ↦ ap (λ es. own ∷ es) rest
      | false ↦ rest
    ]

own_none : (count clock : ℕ) (events : List Event) (actor : ActorId) → NoneBy actor events → own_from count clock events actor ≡ []
own_none count clock [] actor none = refl
own_none count clock (x ∷ xs) actor none = rw none.0 (own_none (count + 1) (clock_at clock x.moment) xs actor none.1)

events-others : (history between : List Event) (actor : ActorId) → NoneBy actor between → own_events (history ++ between) actor ≡ own_events history actor
events-others history between actor none =
    own-append 0 0 history between actor
    ∙ ap (λ es. own_events history actor ++ es) (own_none (0 + length history) (clock_after 0 history) between actor none)
    ∙ append-nil (own_events history actor)

-- whoever made none of the events between did no more
pub same_after_others : (settings : SettingsView) (history between : List Event) (actor : ActorId) → NoneBy actor between → IsSame settings history (history ++ between) actor
same_after_others settings history between actor none = record {
  events = events-others history between actor none;
  doings = doings-others settings history between actor none;
}

pub same_both : (settings : SettingsView) (xs ys zs : List Event) (actor : ActorId) → IsSame settings xs ys actor → IsSame settings ys zs actor → IsSame settings xs zs actor
same_both settings xs ys zs actor a b = record { events = b.events ∙ a.events; doings = b.doings ∙ a.doings }

pub same_other_pass : (settings : SettingsView) (history between : List Event) (pass count : ℕ) → NoneByPass pass between → IsSame settings history (history ++ between) (actor_of_pass pass count)
same_other_pass settings history between pass count none =
    same_after_others settings history between (actor_of_pass pass count) (none_by pass count between none)

pub same_other_count : (settings : SettingsView) (history : List Event) (e : Event) (pass count : ℕ) → e.pass ≡ pass → count ≢ e.count → IsSame settings history (history ++ e ∷ []) (actor_of_pass pass count)
same_other_count settings history e pass count own apart =
    same_after_others settings history (e ∷ []) (actor_of_pass pass count) (by_other_count pass count e own apart, tt)

-- an own event is the last of its actor's
pub events-next : (history : List Event) (e : Event) → own_events (history ++ e ∷ []) (actor_of e) ≡ own_events history (actor_of e) ++ record { op = e.op; reply = e.reply; number = length history + 1; clock = clock_at (clock_after 0 history) e.moment } ∷ []
events-next history e =
    let count : (0 + length history) + 1 ≡ length history + 1 = omega arith in
    own-append 0 0 history (e ∷ []) (actor_of e)
    ∙ rw (actor_itself (actor_of e))
    (ap (λ n. own_events history (actor_of e) ++ record { op = e.op; reply = e.reply; number = n; clock = clock_at (clock_after 0 history) e.moment } ∷ []) count)
