-- What a realm has after one event more.
use Rattle.std.proofs.Common.{◌≡◌, ℕ, ◌+◌, ◌^◌, ◌<◌, ◌≤◌, true, cond, List, [], ◌∷◌, ◌++◌, replicate, length, refl, sym, ap, ◌∙◌, subst, arith, length-append}
use Rattle.std.proofs.lemmas.List.{append-nil}
use lib.ListN.{length-replicate}
use Rattle.realm_law.specs.Invariant.{RealmHolds}
use Rattle.realm_law.proofs.Keeping.{realm_at}
use Rattle.object_pool.specs.Objects.{PoolView}
use Rattle.realm_model.specs.Histories.{IsNext, Legal, state_of, world_of}
use Rattle.realm_model.specs.Owns.{clock_after}
use Rattle.realm_model.specs.Settings.{IsSettings, SettingsView}
use Rattle.realm_model.specs.States.{State, at_moment, clock_at, opening, touched}
use Rattle.realm_model.specs.Steps.{after, reply_of, touch_of}
use Rattle.realm_model.specs.Worlds.{start}
use Rattle.object_words.specs.declared.why.Why.TheVariants.{Absent}
use Rattle.realm_model.specs.Ops.{zone_of}
use Rattle.realm_model.specs.declared.actor.Actor.{Actor}
use Rattle.realm_model.specs.declared.event.Event.{Event}
use Rattle.realm_model.specs.declared.event.Reply.{Reply}
use Rattle.realm_model.specs.declared.event.Reply.TheVariants.{No}
use Rattle.realm_model.specs.declared.op.Op.{Op}
use Rattle.realm_model.proofs.Computing.{left_of}
use Rattle.realm_model.proofs.Runs.{clock_from, count_from, legal_both, state-next, touched-clock, touched-count}
use Rattle.zone_core.specs.Bounds.{AreSmallBy, FitsOp}
use Rattle.zone_core.specs.Stands.{new_pool}
use Rattle.zone_core.proofs.Opening.{new_small}
use Rattle.zone_core.proofs.SmallLemmas.{small_after}
use Rattle.realm_core.specs.Answers.{AreReady, event_of, is_zone, reply_after}
use Rattle.realm_core.specs.Minding.{MayDo}
use Rattle.realm_core.specs.Realms.{HasHistory, HasZones}
use Rattle.realm_core.proofs.PoolLemmas.{have_at, new_have}

pub count_is : (settings : SettingsView) (history : List Event) → (state_of settings history).count ≡ length history
count_is settings history = let sum = count_from settings (start settings) history in omega (arith, sum)

pub clock_is : (settings : SettingsView) (history : List Event) → (state_of settings history).clock ≡ clock_after 0 history
clock_is settings history = clock_from settings (start settings) history

pub new_has : (settings : SettingsView) → HasHistory settings (replicate settings.zones (new_pool settings)) [] 0
new_has settings = record {
  zones = length-replicate settings.zones (new_pool settings);
  stands = new_have settings settings.zones;
  small = new_small settings;
  clock = refl;
  few = omega arith;
}

pub begun_has : (settings : SettingsView) (pools : List PoolView) (history : List Event) → pools ≡ replicate settings.zones (new_pool settings) → history ≡ [] → HasHistory settings pools history 0
begun_has settings pools history fresh none =
    subst (λ (h : List Event). HasHistory settings pools h 0) (sym none) (subst (λ (p : List PoolView). HasHistory settings p [] 0) (sym fresh) (new_has settings))

-- the clock is no part of what is small
small_at : (count zone : ℕ) (st : State) (number clock : ℕ) → AreSmallBy count zone st → AreSmallBy count zone (record st { count = number; clock = clock })
small_at count zone st number clock small = record { root = small.root; changes = small.changes; shards = small.shards }

-- at the moment of the next event
pub ready_at : (settings : SettingsView) (pools : List PoolView) (history : List Event) (clock moment : ℕ) → HasHistory settings pools history clock → length history < 2 ^ 62
    → AreReady settings pools (at_moment (state_of settings history) moment)
ready_at settings pools history clock moment has few =
    let st : State = state_of settings history in
    let count : st.count ≡ length history = count_is settings history in
    record {
      zones = has.zones;
      stands = have_at settings pools st st.count (clock_at st.clock moment) has.stands;
      small = λ zone. small_at st.count zone st st.count (clock_at st.clock moment) (subst (λ n. AreSmallBy n zone st) (sym count) (has.small zone));
      few = omega (arith, count, few);
    }

-- the pools have again what they had
pub has_still : (settings : SettingsView) (pools pools' : List PoolView) (history : List Event) (clock moment : ℕ) → HasHistory settings pools history clock → length pools' ≡ length pools
    → HasZones settings pools' (at_moment (state_of settings history) moment) → HasHistory settings pools' history clock
has_still settings pools pools' history clock moment has same have =
    let st : State = state_of settings history in
    record {
      zones = same ∙ has.zones;
      stands = have_at settings pools' (at_moment st moment) st.count st.clock have;
      small = has.small;
      clock = has.clock;
      few = has.few;
    }

pub has_next : (settings : SettingsView) (pools pools' : List PoolView) (history : List Event) (clock : ℕ) (e : Event) → HasHistory settings pools history clock → length history < 2 ^ 62 → FitsOp e.op
    → length pools' ≡ length pools
    → HasZones settings pools' (touched settings (at_moment (state_of settings history) e.moment) (touch_of settings (at_moment (state_of settings history) e.moment) e.op))
    → HasHistory settings pools' (history ++ e ∷ []) (clock_at clock e.moment)
has_next settings pools pools' history clock e has few fits same have =
    let st : State = at_moment (state_of settings history) e.moment in
    let left : State = touched settings st (touch_of settings st e.op) in
    let next : state_of settings (history ++ e ∷ []) ≡ after settings st e.op = state-next settings history e in
    let count : st.count ≡ length history = count_is settings history in
    let more : length (history ++ e ∷ []) ≡ st.count + 1 = length-append history (e ∷ []) ∙ ap (λ n. n + 1) (sym count) in
    let ready = ready_at settings pools history clock e.moment has few in
    let stays : left.clock ≡ st.clock = touched-clock settings st (touch_of settings st e.op) in
    record {
      zones = same ∙ has.zones;
      stands = subst (HasZones settings pools') (sym next) (have_at settings pools' left (left.count + 1) left.clock have);
      small = λ zone.
          subst (λ n. AreSmallBy n zone (state_of settings (history ++ e ∷ []))) (sym more)
          (subst (AreSmallBy (st.count + 1) zone) (sym next) (small_at (st.count + 1) zone left (left.count + 1) left.clock (small_after settings st e.op zone fits ready.small)));
      clock = ap (λ c. clock_at c e.moment) has.clock ∙ (sym stays ∙ ap (λ (s : State). s.clock) (sym next));
      few = omega (arith, more, count, few);
    }

-- a history that was legal, and one event more that comes next
pub legal_next : (settings : SettingsView) (history : List Event) (e : Event) → Legal settings history → IsNext settings (world_of settings history) e → Legal settings (history ++ e ∷ [])
legal_next settings history e legal next = legal_both settings (start settings) history (e ∷ []) legal (next, tt)

-- an operation that its actor may do is of a zone of the realm, so its answer is the step's
pub legal_after : (settings : SettingsView) (history : List Event) (actor : Actor) (op : Op) (moment : ℕ) (reply : Reply) → Legal settings history → MayDo settings history actor op
    → reply ≡ reply_after settings history op moment → Legal settings (history ++ event_of actor op moment reply ∷ [])
legal_after settings history actor op moment reply legal may is =
    let st : State = at_moment (state_of settings history) moment in
    let there : is_zone settings (zone_of op) ≡ true = left_of (is_zone settings (zone_of op)) _ may in
    legal_next settings history (event_of actor op moment reply) legal
    (record { may = may; answer = is ∙ ap (λ b. cond b (reply_of settings st op) (No Absent)) there })

-- after a legal history every part of the realm's invariant holds
pub holds_after : (settings : SettingsView) (history : List Event) → IsSettings settings → Legal settings history → RealmHolds settings (world_of settings history)
holds_after settings history good legal = realm_at settings history [] good (subst (Legal settings) (sym (append-nil history)) legal)
