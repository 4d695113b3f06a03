-- Where an actor's own events stand in a history, and tables that only grow between them.
use Rattle.std.proofs.Common.{◌≡◌, ⊎_elim, ℕ, ◌+◌, ◌<◌, ◌≤◌, Bool, true, false, cond, List, [], ◌∷◌, ◌++◌, take, drop, length, Some, None, refl, sym, ◌∙◌, ap, subst, arith}
use Rattle.std.specs.List.{Contains}
use Rattle.std.proofs.lemmas.List.{append_assoc, length-append, take_at, take-append-le, take-append-drop}
use Rattle.realm_model.specs.Settings.{SettingsView, IsSettings}
use Rattle.realm_model.specs.Facts.{Instance}
use Rattle.realm_model.specs.Phases.{ActorId}
use Rattle.realm_model.specs.States.{clock_at}
use Rattle.realm_model.specs.Accounts.{Looked}
use Rattle.realm_model.specs.Worlds.{World, start, same_actor, actor_of}
use Rattle.realm_model.specs.Histories.{run, world_of, account_of, IsNext, LegalFrom, Legal}
use Rattle.realm_model.specs.Owns.{OwnEvent, own_from, own_events, NoneBy}
use Rattle.realm_model.specs.declared.event.Event.{Event}
use Rattle.realm_model.proofs.Others.{account-others}
use Rattle.realm_model.proofs.Runs.{run-append, legal_front, legal_back}
use Rattle.index_law.specs.Tables.{IsMadeContainer, StandsIn}
use Rattle.index_law.proofs.RowLaws.{IsRisen}
use Rattle.index_law.proofs.Keeping.{holds}
use Rattle.index_law.proofs.Moves.{made_from, stood_from, risen_from}
use Rattle.task_list.proofs.Passing.{in_front, at_front}
use Rattle.list_law.proofs.Sorted.{nowhere}

-- ---- the place of an own event

-- the event stands in the history behind so many others and those before it
pub record StandsFrom (count : ℕ) (history : List Event) (own : OwnEvent) : Type 0 where
  pub before : List Event
  pub e : Event
  pub later : List Event
  pub split : history ≡ before ++ e ∷ later
  pub op_is : e.op ≡ own.op
  pub reply_is : e.reply ≡ own.reply
  pub number_is : own.number ≡ count + length before + 1

one_later : (count : ℕ) (first : Event) (es : List Event) (own : OwnEvent) → StandsFrom (count + 1) es own → StandsFrom count (first ∷ es) own
one_later count first es own s = record {
  before = first ∷ s.before;
  e = s.e;
  later = s.later;
  split = ap (λ l. first ∷ l) s.split;
  op_is = s.op_is;
  reply_is = s.reply_is;
  number_is = (let number = s.number_is in omega (arith, number));
}

stands_from : (count clock : ℕ) (es : List Event) (actor : ActorId) (own : OwnEvent) → Contains (own_from count clock es actor) own → StandsFrom count es own
stands_from count clock [] actor own there = absurd (nowhere own there)
stands_from count clock (first ∷ es) actor own there =
    let now = clock_at clock first.moment in
    let rest = own_from (count + 1) now es actor in
    let here : OwnEvent = record { op = first.op; reply = first.reply; number = count + 1; clock = now } in
    elim (same_actor actor (actor_of first)) as (λ b. Contains (cond b (here ∷ rest) rest) own → StandsFrom count (first ∷ es) own) [
      | true ↦ λ inside.
          ⊎_elim (λ is. subst (StandsFrom count (first ∷ es)) is (record { before = []; e = first; later = es; split = refl; op_is = refl; reply_is = refl; number_is = omega arith }))
          (λ behind. one_later count first es own (stands_from (count + 1) now es actor own behind)) (in_front here rest own inside)
      | false ↦ λ inside. one_later count first es own (stands_from (count + 1) now es actor own inside)
    ] there

abbrev pub Stands : List Event → OwnEvent → Type 0
Stands = StandsFrom 0

pub stands : (history : List Event) (actor : ActorId) (own : OwnEvent) → Contains (own_events history actor) own → Stands history own
stands history actor own there = stands_from 0 0 history actor own there

module _ (settings : SettingsView) (history : List Event) (own : OwnEvent) (s : Stands history own) (legal : Legal settings history) where
  whole : Legal settings (s.before ++ s.e ∷ s.later)
  whole = subst (Legal settings) s.split legal

  pub legal_before : Legal settings s.before
  legal_before = legal_front settings (start settings) s.before (s.e ∷ s.later) whole

  pub is_next : IsNext settings (world_of settings s.before) s.e
  is_next = (legal_back settings (start settings) s.before (s.e ∷ s.later) whole).0

-- up to and with the event
pub with_event : (history : List Event) (own : OwnEvent) (s : Stands history own) → take own.number history ≡ s.before ++ s.e ∷ []
with_event history own s =
    let long = length-append s.before (s.e ∷ []) in
    let number = s.number_is in
    ap (take own.number) (s.split ∙ sym (append_assoc s.before (s.e ∷ []) s.later))
    ∙ take_at (s.before ++ s.e ∷ []) s.later own.number (omega (arith, long, number))

-- ---- an actor without events

by_test : (b : Bool) (own : OwnEvent) (rest : List OwnEvent) → cond b (own ∷ rest) rest ≡ [] → (b ≡ false) × (rest ≡ [])
by_test true own rest empty = absurd (cc)
by_test false own rest empty = (refl, empty)

none_by : (count clock : ℕ) (es : List Event) (actor : ActorId) → own_from count clock es actor ≡ [] → NoneBy actor es
none_by count clock [] actor empty = tt
none_by count clock (e ∷ es) actor empty =
    let now = clock_at clock e.moment in
    let parts = by_test (same_actor actor (actor_of e)) (record { op = e.op; reply = e.reply; number = count + 1; clock = now }) (own_from (count + 1) now es actor) empty in
    (parts.0, none_by (count + 1) now es actor parts.1)

-- who has looked has an event
pub some_event : (settings : SettingsView) (history : List Event) (actor : ActorId) (look : Looked) → (account_of settings history actor).looked ≡ Some look → (own : OwnEvent) × Contains (own_events history actor) own
some_event settings history actor look is =
    elim (own_events history actor) as (λ es. own_events history actor ≡ es → (own : OwnEvent) × Contains es own) [
      | [] ↦ λ empty.
          let same = account-others settings [] history actor (none_by 0 0 history actor empty) in
          let none : None ≡ Some look = ap (λ y. y.looked) (sym same) ∙ is in
          absurd (cc)
      | first ∷ es ↦ λ there. (first, at_front first es)
    ] refl

-- ---- rows and their tables, between own events

-- the events between one own event and a later one
record Between (settings : SettingsView) (one other : List Event) : Type 0 where
  events : List Event
  legal : LegalFrom settings (world_of settings one) events
  there : run settings (world_of settings one) events ≡ world_of settings other

between : (settings : SettingsView) (history : List Event) (one other : OwnEvent) (s : Stands history one) (t : Stands history other) → Legal settings history → one.number < other.number → Between settings s.before t.before
between settings history one other s t legal later =
    let number = s.number_is in
    let after = t.number_is in
    let n = length s.before in
    let long : n ≤ length t.before = omega (arith, number, after, later) in
    let front : take n t.before ≡ s.before =
    sym (take-append-le n t.before (t.e ∷ t.later) long) ∙ ap (take n) (sym t.split ∙ s.split) ∙ take_at s.before (s.e ∷ s.later) n refl in
    let events = drop n t.before in
    let joined : s.before ++ events ≡ t.before = ap (λ l. l ++ events) (sym front) ∙ take-append-drop n t.before in
    record {
      events = events;
      legal = legal_back settings (start settings) s.before events (subst (Legal settings) (sym joined) (legal_before settings history other t legal));
      there = sym (run-append settings (start settings) s.before events) ∙ ap (world_of settings) joined;
    }

-- an instance that was put into a row before one own event has its shards before a later one
pub risen_between : (settings : SettingsView) (history : List Event) (one other : OwnEvent) (s : Stands history one) (t : Stands history other) → IsSettings settings → Legal settings history → one.number < other.number
    → (zone container number : ℕ) (old : Instance) → (world_of settings s.before).rows.instances zone container number ≡ Some old → IsRisen (world_of settings t.before).rows.instances zone container number old
risen_between settings history one other s t good legal later z c i old is =
    let b = between settings history one other s t legal later in
    subst (λ (v : World). IsRisen v.rows.instances z c i old) b.there
    (risen_from settings (world_of settings s.before) b.events good (holds settings s.before good (legal_before settings history one s legal)) b.legal z c i old is)

pub made_between : (settings : SettingsView) (history : List Event) (one other : OwnEvent) (s : Stands history one) (t : Stands history other) → IsSettings settings → Legal settings history → one.number < other.number
    → (container : ℕ) → IsMadeContainer (world_of settings s.before).rows.homes container → IsMadeContainer (world_of settings t.before).rows.homes container
made_between settings history one other s t good legal later c made =
    let b = between settings history one other s t legal later in
    subst (λ (v : World). IsMadeContainer v.rows.homes c) b.there
    (made_from settings (world_of settings s.before) b.events good (holds settings s.before good (legal_before settings history one s legal)) b.legal c made)

-- a container that stands in the end stood at an own event, if it was made by then
pub stood_before : (settings : SettingsView) (history : List Event) (own : OwnEvent) (s : Stands history own) → IsSettings settings → Legal settings history → (container : ℕ) → IsMadeContainer (world_of settings s.before).rows.homes container
    → StandsIn (world_of settings history) container → StandsIn (world_of settings s.before) container
stood_before settings history own s good legal c made stands =
    let rest : LegalFrom settings (world_of settings s.before) (s.e ∷ s.later) = legal_back settings (start settings) s.before (s.e ∷ s.later) (subst (Legal settings) s.split legal) in
    let there : run settings (world_of settings s.before) (s.e ∷ s.later) ≡ world_of settings history = sym (run-append settings (start settings) s.before (s.e ∷ s.later)) ∙ ap (world_of settings) (sym s.split) in
    stood_from settings (world_of settings s.before) (s.e ∷ s.later) good (holds settings s.before good (legal_before settings history own s legal)) rest c made (subst (λ v. StandsIn v c) (sym there) stands)
