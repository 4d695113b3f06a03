-- While a container rests: at each own event of an actor that made none before it has the row that it had, nothing is under
-- way, and its map is the one at the end.
use Rattle.std.proofs.Common.{◌≡◌, ℕ, suc, zero, ◌+◌, ◌<◌, true, false, cond, List, [], ◌∷◌, ◌++◌, take, get_or, length, Some, refl, sym, ◌∙◌, ap, subst, arith}
use Rattle.std.specs.List.{AllByRecursion, Contains}
use Rattle.std.proofs.lemmas.List.{append_assoc, length-append, take_at}
use Rattle.object_words.specs.declared.bucket.Bucket.{Bucket}
use Rattle.realm_model.specs.Containers.{is_standing}
use Rattle.realm_model.specs.Maps.{heads}
use Rattle.realm_model.specs.Settings.{SettingsView, IsSettings}
use Rattle.realm_model.specs.States.{at_moment, clock_at}
use Rattle.realm_model.specs.Steps.{reply_of}
use Rattle.realm_model.specs.Phases.{ActorId}
use Rattle.realm_model.specs.Worlds.{World, start, same_actor, actor_of, happens}
use Rattle.realm_model.specs.Histories.{run, world_of, state_of, Legal}
use Rattle.realm_model.specs.Owns.{OwnEvent, own_from, own_events, NoneBy}
use Rattle.realm_model.specs.declared.event.Event.{Event}
use Rattle.realm_model.proofs.Runs.{run-append, legal_front, legal_back}
use Rattle.index_law.specs.Tables.{rows_of}
use Rattle.index_law.proofs.Keeping.{holds}
use Rattle.index_law.proofs.Moves.{stood_at}
use Rattle.repair_law.specs.Settled.{NonePrepares, NoneSwaps}
use Rattle.repair_law.proofs.Calm.{row_left}
use Rattle.repair_law.proofs.Staying.{none_later, row_in_here}
use Rattle.repair_law.proofs.Unchanged.{map_later}
use Rattle.settled_law.specs.Resting.{Rests, IsLeftAtRest}

-- ---- lists

pub all_back : {X : Type 0} (P : X → Type 0) (xs ys : List X) → AllByRecursion P (xs ++ ys) → AllByRecursion P ys
all_back P [] ys all = all
all_back P (x ∷ xs) ys all = all_back P xs ys all.1

pub all_front : {X : Type 0} (P : X → Type 0) (xs ys : List X) → AllByRecursion P (xs ++ ys) → AllByRecursion P xs
all_front P [] ys all = tt
all_front P (x ∷ xs) ys all = (all.0, all_front P xs ys all.1)

pub all_contains : {X : Type 0} (P : X → Type 0) (xs : List X) (x : X) → AllByRecursion P xs → Contains xs x → P x
all_contains {X = X} P xs x all there = at_place xs there.0 all there.1 there.2 where
  at_place : (xs : List X) (k : ℕ) → AllByRecursion P xs → k < length xs → get_or xs k x ≡ x → P x
  at_place [] k all within is = absurd (omega (arith, within))
  at_place (y ∷ ys) zero all within is = subst P is all.0
  at_place (y ∷ ys) (suc k) all within is = at_place ys k all.1 (omega (arith, within)) is

-- ---- own events of an actor that made none before

later_own : (count clock : ℕ) (before during : List Event) (actor : ActorId) → NoneBy actor before → (now : ℕ) × (own_from count clock (before ++ during) actor ≡ own_from (count + length before) now during actor)
later_own count clock [] during actor none = let same : count ≡ count + 0 = omega arith in (clock, ap (λ n. own_from n clock during actor) same)
later_own count clock (e ∷ es) during actor none =
    let now = clock_at clock e.moment in
    let rest = own_from (count + 1) now (es ++ during) actor in
    let own : OwnEvent = record { op = e.op; reply = e.reply; number = count + 1; clock = now } in
    let later = later_own (count + 1) now es during actor none.1 in
    let numbers : (count + 1) + length es ≡ count + length (e ∷ es) = omega arith in
    (later.0, ap (λ b. cond b (own ∷ rest) rest) none.0 ∙ later.1 ∙ ap (λ n. own_from n later.0 during actor) numbers)

-- the own event stands behind so many of the events
pub record AmidFrom (count : ℕ) (during : List Event) (own : OwnEvent) : Type 0 where
  pub front : List Event
  pub e : Event
  pub later : List Event
  pub split : during ≡ front ++ e ∷ later
  pub op_is : e.op ≡ own.op
  pub reply_is : e.reply ≡ own.reply
  pub number_is : own.number ≡ count + length front + 1

one_more : (count : ℕ) (first : Event) (es : List Event) (own : OwnEvent) → AmidFrom (count + 1) es own → AmidFrom count (first ∷ es) own
one_more count first es own s = record {
  front = first ∷ s.front;
  e = s.e;
  later = s.later;
  split = ap (λ l. first ∷ l) s.split;
  op_is = s.op_is;
  reply_is = s.reply_is;
  number_is = (let number = s.number_is in omega (arith, number));
}

all_more : (count : ℕ) (first : Event) (es : List Event) (owns : List OwnEvent) → AllByRecursion (AmidFrom (count + 1) es) owns → AllByRecursion (AmidFrom count (first ∷ es)) owns
all_more count first es [] all = tt
all_more count first es (own ∷ owns) all = (one_more count first es own all.0, all_more count first es owns all.1)

all_amid : (count clock : ℕ) (es : List Event) (actor : ActorId) → AllByRecursion (AmidFrom count es) (own_from count clock es actor)
all_amid count clock [] actor = tt
all_amid count clock (e ∷ es) actor =
    let now = clock_at clock e.moment in
    let rest = own_from (count + 1) now es actor in
    let own : OwnEvent = record { op = e.op; reply = e.reply; number = count + 1; clock = now } in
    let later = all_more count e es rest (all_amid (count + 1) now es actor) in
    elim (same_actor actor (actor_of e)) as (λ b. AllByRecursion (AmidFrom count (e ∷ es)) (cond b (own ∷ rest) rest)) [
      | true ↦ (record { front = []; e = e; later = es; split = refl; op_is = refl; reply_is = refl; number_is = omega arith }, later)
      | false ↦ later
    ]

pub amid : (before during : List Event) (actor : ActorId) → NoneBy actor before → AllByRecursion (AmidFrom (length before) during) (own_events (before ++ during) actor)
amid before during actor none =
    let later = later_own 0 0 before during actor none in
    let from_zero : 0 + length before ≡ length before = omega arith in
    subst (AllByRecursion (AmidFrom (length before) during)) (sym (later.1 ∙ ap (λ n. own_from n later.0 during actor) from_zero)) (all_amid (length before) later.0 during actor)

-- ---- a container that rests

row_from : (settings : SettingsView) (zone : ℕ) (bucket : List ℕ) (row : Bucket) (es : List Event) (w : World) → NoneSwaps zone bucket es → rows_of w.state.root zone bucket ≡ Some row → rows_of (run settings w es).state.root zone bucket ≡ Some row
row_from settings zone bucket row [] w none kept = kept
row_from settings zone bucket row (e ∷ es) w none kept =
    row_from settings zone bucket row es (happens settings w e) none.1 (row_left zone bucket row settings (at_moment w.state e.moment) e.op none.0 ∙ kept)

module _ (settings : SettingsView) (before during : List Event) (zone : ℕ) (bucket : List ℕ) (row : Bucket) (good : IsSettings settings) (legal : Legal settings (before ++ during)) (rests : Rests settings before zone bucket row) (calm : IsLeftAtRest settings before during zone bucket row) where
  abbrev history : List Event
  history = before ++ during

  -- up to some of the events
  module _ (front later : List Event) (split : during ≡ front ++ later) where
    whole : Legal settings ((before ++ front) ++ later)
    whole = subst (Legal settings) (ap (λ l. before ++ l) split ∙ sym (append_assoc before front later)) legal

    pub legal_upto : Legal settings (before ++ front)
    legal_upto = legal_front settings (start settings) (before ++ front) later whole

    calm_upto : NonePrepares zone row front
    calm_upto = all_front _ front later (subst (NonePrepares zone row) split calm.prepares)

    still_upto : NoneSwaps zone bucket front
    still_upto = all_front _ front later (subst (NoneSwaps zone bucket) split calm.swaps)

    pub rests_upto : Rests settings (before ++ front) zone bucket row
    rests_upto =
        record {
          kept = subst (λ (w : World). rows_of w.state.root zone bucket ≡ Some row) (sym (run-append settings (start settings) before front))
              (row_from settings zone bucket row front (world_of settings before) still_upto rests.kept);
          none = none_later settings before front zone row rests.none calm_upto;
        }

    -- the container stands
    pub stands_upto : is_standing (world_of settings (before ++ front)).rows (state_of settings (before ++ front)) row.id ≡ true
    stands_upto =
        let n = ((holds settings (before ++ front) good legal_upto).rows_stand.kept zone bucket row rests_upto.kept).named in
        let at_end : before ++ during ≡ (before ++ front) ++ later = ap (λ l. before ++ l) split ∙ sym (append_assoc before front later) in
        stood_at settings (before ++ front) later row.id good whole (record { home = n.home; made = n.made })
        (subst (λ h. is_standing (world_of settings h).rows (state_of settings h) row.id ≡ true) at_end calm.stands)

    -- the map is the one before the first of them
    map_upto : heads (before ++ front) zone row.id ≡ heads before zone row.id
    map_upto =
        let first = legal_front settings (start settings) before during legal in
        map_later settings before front zone row.id row good legal_upto (row_in_here settings before zone bucket row good first rests.kept) stands_upto rests.none calm_upto

  append_none : (xs : List Event) → xs ≡ xs ++ []
  append_none [] = refl
  append_none (x ∷ xs) = ap (λ l. x ∷ l) (append_none xs)

  -- and so the one at the end
  pub map_amid : (front later : List Event) → during ≡ front ++ later → heads (before ++ front) zone row.id ≡ heads history zone row.id
  map_amid front later split = map_upto front later split ∙ sym (map_upto during [] (append_none during))

  module _ (own : OwnEvent) (s : AmidFrom (length before) during own) where
    abbrev pub upto : List Event
    upto = before ++ s.front

    behind : during ≡ (s.front ++ s.e ∷ []) ++ s.later
    behind = s.split ∙ sym (append_assoc s.front (s.e ∷ []) s.later)

    -- the map with the event is the one at the end
    pub map_with : heads (take own.number history) zone row.id ≡ heads history zone row.id
    map_with =
        let number = s.number_is in
        let front = s.front ++ s.e ∷ [] in
        let one = length-append s.front (s.e ∷ []) in
        let all = length-append before front in
        let is : history ≡ (before ++ front) ++ s.later = ap (λ l. before ++ l) behind ∙ sym (append_assoc before front s.later) in
        ap (λ l. heads l zone row.id) (ap (take own.number) is ∙ take_at (before ++ front) s.later own.number (omega (arith, number, one, all)))
        ∙ map_amid front s.later behind

    -- the answer of the event is that of the step
    pub answered : own.reply ≡ reply_of settings (at_moment (state_of settings upto) (s.e).moment) own.op
    answered =
        let w = subst (Legal settings) (ap (λ l. before ++ l) s.split ∙ sym (append_assoc before s.front (s.e ∷ s.later))) legal in
        let next = (legal_back settings (start settings) upto (s.e ∷ s.later) w).0 in
        sym s.reply_is ∙ next.answer ∙ ap (λ op. reply_of settings (at_moment (state_of settings upto) (s.e).moment) op) s.op_is
