-- Others' events leave an actor's own events as they are.
use Rattle.std.proofs.Common.{◌≡◌, ℕ, ◌+◌, cond, max, List, [], ◌∷◌, ◌++◌, refl, sym, ap, subst}
use Rattle.rgw_model.specs.Stamps.{counted_moment}
use Rattle.realm_model.specs.Settings.{SettingsView}
use Rattle.realm_model.specs.Phases.{ActorId}
use Rattle.realm_model.specs.Accounts.{Account}
use Rattle.realm_model.specs.Worlds.{same_actor, actor_of}
use Rattle.realm_model.specs.Histories.{account_of}
use Rattle.realm_model.specs.Owns.{OwnEvent, own_from, own_events, NoneBy}
use Rattle.realm_model.specs.declared.event.Event.{Event}
use Rattle.realm_model.proofs.Others.{account-others}

own_none : (count clock : ℕ) (es : List Event) (actor : ActorId) → NoneBy actor es → own_from count clock es actor ≡ []
own_none count clock [] actor others = refl
own_none count clock (e ∷ es) actor others =
    rw others.0 (own_none (count + 1) (max clock (counted_moment e.moment)) es actor others.1)

own_front : (count clock : ℕ) (xs ys : List Event) (actor : ActorId) → NoneBy actor ys → own_from count clock (xs ++ ys) actor ≡ own_from count clock xs actor
own_front count clock [] ys actor others = own_none count clock ys actor others
own_front count clock (x ∷ xs) ys actor others =
    let now = max clock (counted_moment x.moment) in
    let own : OwnEvent = record { op = x.op; reply = x.reply; number = count + 1; clock = now } in
    ap (λ rest. cond (same_actor actor (actor_of x)) (own ∷ rest) rest) (own_front (count + 1) now xs ys actor others)

-- what is true of an actor's account and own events stays true
pub stays : (P : Account → List OwnEvent → Type 0) (settings : SettingsView) (history between : List Event) (actor : ActorId) → NoneBy actor between → P (account_of settings history actor) (own_events history actor) → P (account_of settings (history ++ between) actor) (own_events (history ++ between) actor)
stays P settings history between actor others means =
    let account = account-others settings history between actor others in
    let events = own_front 0 0 history between actor others in
    let one : P (account_of settings history actor) (own_events (history ++ between) actor) = subst (P (account_of settings history actor)) (sym events) means in
    subst (λ y. P y (own_events (history ++ between) actor)) (sym account) one
