-- What an own event leaves of what is known of those before.
use Rattle.std.proofs.Common.{◌≡◌, ℕ, ◌+◌, ◌<◌, ◌≤◌, true, false, cond, List, [], ◌∷◌, ◌++◌, map, length, Option, Some, None, refl, sym, ◌∙◌, ap, subst, arith, nat_lt}
use Rattle.std.specs.List.{AllByRecursion, range_with_len, filter}
use Rattle.std.proofs.lemmas.Bool.Decides.{nat_tests}
use Rattle.std.proofs.lemmas.List.{append-nil, length-append}
use Rattle.std.proofs.lemmas.List.Elements.{filter-append}
use Rattle.rgw_types.specs.declared.pool_key.Key.{Key}
use Rattle.object_words.specs.declared.bucket.Bucket.{Bucket}
use Rattle.object_words.specs.declared.why.Why.TheVariants.{Raced}
use Rattle.object_words.specs.Keys.{shard_key}
use Rattle.realm_model.specs.Accounts.{MovedCount, Account, is_left, accounted}
use Rattle.realm_model.specs.Learnt.{first_after, learnt}
use Rattle.realm_model.specs.Maps.{Maps, Made}
use Rattle.realm_model.specs.Owns.{OwnEvent}
use Rattle.realm_model.specs.Phases.{FirstEvent, OwnShards, OwnWork, Phase}
use Rattle.realm_model.specs.declared.op.Op.{Op}
use Rattle.realm_model.specs.declared.event.Reply.{Reply}
use Rattle.realm_model.specs.declared.event.Reply.TheVariants.{No}
use Rattle.task_words.specs.Outcomes.{left_count}
use Rattle.task_container.specs.declared.closing.OwnClosing.{OwnClosing}
use Rattle.task_container.specs.declared.progress.Tally.{Tally}
use Rattle.task_container.specs.declared.request.ContainerCommand.{ContainerCommand}
use Rattle.task_container.specs.declared.request.ContainerCommand.TheVariants.{Head, Put, Post, Delete}
use Rattle.task_container.specs.declared.request.ContainerRequest.{ContainerRequest}
use Rattle.task_container.specs.Ends.{made_by, made_shards, swapped_by, done_swaps, last_number, number_set, raced_by, raced_count, IsLeft, KeepsRows}
use Rattle.task_container.specs.Fits.{Starts, OfPut, MovedIs, HasSetIfAny, Going}
use Rattle.task_container.specs.Requests.{IsPut, IsDelete, IsChanger}
use Rattle.task_container.specs.Stages.{first_or, first_seen, one_more, one_raced, most_raced, swap_op}
use Rattle.task_container.proofs.Orders.{made_more, swaps_more, raced_more}

-- ---- by kinds of request

pub of_put : {X : Type 0} (command : ContainerCommand) → IsPut command → OfPut command X → X
of_put (Head name) is_put x = absurd is_put
of_put (Put name changes) is_put x = x
of_put (Post name changes) is_put x = absurd is_put
of_put (Delete name) is_put x = absurd is_put

pub for_put : {X : Type 0} (command : ContainerCommand) → X → OfPut command X
for_put (Head name) x = tt
for_put (Put name changes) x = x
for_put (Post name changes) x = tt
for_put (Delete name) x = tt

put_on : {X Z : Type 0} (command : ContainerCommand) → (X → Z) → OfPut command X → OfPut command Z
put_on (Head name) f x = tt
put_on (Put name changes) f x = f x
put_on (Post name changes) f x = tt
put_on (Delete name) f x = tt

-- no row was swapped
pub unswapped : (command : ContainerCommand) (events : List OwnEvent) → (IsDelete command → ⊥) → KeepsRows command events → done_swaps events ≡ []
unswapped (Head name) events other kept = kept
unswapped (Put name changes) events other kept = kept
unswapped (Post name changes) events other kept = kept
unswapped (Delete name) events other kept = absurd (other tt)

pub no_put_deletes : (command : ContainerCommand) → IsPut command → IsDelete command → ⊥
no_put_deletes (Head name) is_put is_delete = is_put
no_put_deletes (Put name changes) is_put is_delete = is_delete
no_put_deletes (Post name changes) is_put is_delete = is_put
no_put_deletes (Delete name) is_put is_delete = is_put

pub no_change_deletes : (command : ContainerCommand) → IsChanger command → IsDelete command → ⊥
no_change_deletes (Head name) changes is_delete = changes
no_change_deletes (Put name c) changes is_delete = is_delete
no_change_deletes (Post name c) changes is_delete = is_delete
no_change_deletes (Delete name) changes is_delete = changes

-- ---- lists of own events

pub left_none : (es : List OwnEvent) (e : OwnEvent) → is_left e.reply ≡ false → left_count (es ++ e ∷ []) ≡ left_count es
left_none es e stays =
    let one = ap length (filter-append (λ (x : OwnEvent). is_left x.reply) es (e ∷ [])) in
    let two = length-append (filter (λ (x : OwnEvent). is_left x.reply) es) (filter (λ (x : OwnEvent). is_left x.reply) (e ∷ [])) in
    let three = ap (λ b. length (cond b (e ∷ []) [])) stays in
    omega (arith, one, two, three)

pub left_one : (es : List OwnEvent) (e : OwnEvent) → is_left e.reply ≡ true → left_count (es ++ e ∷ []) ≡ left_count es + 1
left_one es e leaves =
    let one = ap length (filter-append (λ (x : OwnEvent). is_left x.reply) es (e ∷ [])) in
    let two = length-append (filter (λ (x : OwnEvent). is_left x.reply) es) (filter (λ (x : OwnEvent). is_left x.reply) (e ∷ [])) in
    let three = ap (λ b. length (cond b (e ∷ []) [])) leaves in
    omega (arith, one, two, three)

pub swaps_same : (es : List OwnEvent) (e : OwnEvent) → swapped_by e.op e.reply ≡ [] → done_swaps (es ++ e ∷ []) ≡ done_swaps es
swaps_same es e none = swaps_more es e ∙ ap (λ (ns : List (Option Bucket)). done_swaps es ++ ns) none ∙ append-nil (done_swaps es)

pub last_more : (before : Option OwnClosing) (news : List (Option Bucket)) (new : Option Bucket) → last_number before (news ++ new ∷ []) ≡ number_set new
last_more before [] new = refl
last_more before (n ∷ news) new = last_more (number_set n) news new

pub all_left : (news : List (Option Bucket)) (row : Bucket) → AllByRecursion IsLeft news → AllByRecursion IsLeft (news ++ Some row ∷ [])
all_left [] row all = (tt, tt)
all_left (n ∷ news) row all = (all.0, all_left news row all.1)

pub kept_same : (command : ContainerCommand) (es later : List OwnEvent) → done_swaps later ≡ done_swaps es → KeepsRows command es → KeepsRows command later
kept_same (Head name) es later same kept = same ∙ kept
kept_same (Put name changes) es later same kept = same ∙ kept
kept_same (Post name changes) es later same kept = same ∙ kept
kept_same (Delete name) es later same kept = subst (AllByRecursion IsLeft) (sym same) kept

-- ---- one own event more

module _ (p : Phase) (y : Account) (events : List OwnEvent) (last number clock : ℕ) (maps : Maps) (made : Made) (before : last < number) where
  abbrev after : Op → Reply → Account
  after op reply = accounted y maps made op reply number clock

  abbrev knows : Op → Reply → Phase
  knows op reply = learnt p op reply number clock

  abbrev own : Op → Reply → OwnEvent
  own op reply = record { op = op; reply = reply; number = number; clock = clock }

  abbrev more : Op → Reply → List OwnEvent
  more op reply = events ++ own op reply ∷ []

  -- an event that makes no shard
  started : (first : Option ℕ) (n : ℕ) (op : Op) (reply : Reply) → Starts first n p events → made_by op reply ≡ [] → (knows op reply).shards ≡ p.shards → Starts (first_or first number) n (knows op reply) (more op reply)
  started None n op reply s none same = record {
    look = own op reply;
    more = [];
    stands = ap (λ (es : List OwnEvent). es ++ own op reply ∷ []) s.no_events;
    number = refl;
    clock = clock;
    first = ap (λ (q : Phase). first_after q.first number clock) s.unknowing;
    counts = ap (λ (f : ℕ → ℕ → OwnShards). (f 1 number).made) same ∙ ap (λ (q : Phase). (q.shards 1 number).made) s.unknowing ∙ sym s.none_made;
    filled = ap (λ (f : ℕ → ℕ → OwnShards). (f 1 number).filled) same ∙ ap (λ (q : Phase). (q.shards 1 number).filled) s.unknowing;
    placed = ap (λ (f : ℕ → ℕ → OwnShards). (f 1 number).placed) same ∙ ap (λ (q : Phase). (q.shards 1 number).placed) s.unknowing;
    makes =
        made_more events (own op reply) ∙ ap (λ (ks : List Key). made_shards events ++ ks) none ∙ append-nil (made_shards events) ∙ ap made_shards s.no_events
        ∙ sym (ap (λ k. map (λ n. shard_key number number n) (range_with_len 0 k)) s.none_made);
  }
  started (Some id) n op reply s none same = record {
    look = s.look;
    more = s.more ++ own op reply ∷ [];
    stands = ap (λ (es : List OwnEvent). es ++ own op reply ∷ []) s.stands;
    number = s.number;
    clock = s.clock;
    first = ap (λ (f : Option FirstEvent). first_after f number clock) s.first;
    counts = ap (λ (f : ℕ → ℕ → OwnShards). (f 1 id).made) same ∙ s.counts;
    filled = ap (λ (f : ℕ → ℕ → OwnShards). (f 1 id).filled) same ∙ s.filled;
    placed = ap (λ (f : ℕ → ℕ → OwnShards). (f 1 id).placed) same ∙ s.placed;
    makes = made_more events (own op reply) ∙ ap (λ (ks : List Key). made_shards events ++ ks) none ∙ append-nil (made_shards events) ∙ s.makes;
  }

  pub starts_on : (command : ContainerCommand) (first : Option ℕ) (n : ℕ) (op : Op) (reply : Reply) → OfPut command (Starts first n p events) → made_by op reply ≡ [] → (knows op reply).shards ≡ p.shards → OfPut command (Starts (first_or first number) n (knows op reply) (more op reply))
  starts_on command first n op reply starts none same = put_on command (λ s. started first n op reply s none same) starts

  pub raced_on : (op : Op) (reply : Reply) (n k : ℕ) → raced_count events ≡ n → raced_by op reply ≡ k → raced_count (more op reply) ≡ n + k
  raced_on op reply n k was one = raced_more events (own op reply) ∙ ap (λ (m : ℕ). m + raced_by op reply) was ∙ ap (λ (m : ℕ). n + m) one

  pub set_on : (begun : Option OwnClosing) (op : Op) (reply : Reply) → HasSetIfAny begun p → (knows op reply).work ≡ p.work → HasSetIfAny begun (knows op reply)
  set_on None op reply set same = tt
  set_on (Some mine) op reply set same = record {
    work = set.work;
    begun = ap (λ (f : ℕ → ℕ → ℕ → OwnWork). (f 1 mine.container mine.instance).begun mine.number) same ∙ set.begun;
    closing = set.closing;
  }

  pub moved_on : (command : ContainerCommand) (n : ℕ) (op : Op) (reply : Reply) → MovedIs command n y events → (after op reply).moved ≡ y.moved → is_left reply ≡ false → MovedIs command n (after op reply) (more op reply)
  moved_on (Head name) n op reply was moves stays = ap (λ (m : MovedCount). m.count) moves ∙ was
  moved_on (Put name changes) n op reply was moves stays = tt
  moved_on (Post name changes) n op reply was moves stays = tt
  moved_on (Delete name) n op reply was moves stays = left_none events (own op reply) stays ∙ was

  -- an event that makes no shard and swaps no row, and was answered neither Moved nor Closed
  pub going_on : (command : ContainerCommand) (t : Tally) (op : Op) (reply : Reply) → Going command t p y events last → made_by op reply ≡ [] → (knows op reply).shards ≡ p.shards → (knows op reply).work ≡ p.work → swapped_by op reply ≡ [] → raced_by op reply ≡ 0 → (after op reply).moved ≡ y.moved → is_left reply ≡ false
      → Going command (first_seen t number) (knows op reply) (after op reply) (more op reply) number
  going_on command t op reply going none same works swaps unraced moves stays =
      let raced = raced_on op reply t.raced 0 going.raced_is unraced in
      let as_before = swaps_same events (own op reply) swaps in
      record {
        starts = starts_on command t.first t.made op reply going.starts none same;
        moved_is = moved_on command t.moved op reply going.moved_is moves stays;
        few = going.few;
        moved_before = (let low = going.moved_before in let lasts = ap (λ (m : MovedCount). m.last) moves in omega (arith, low, lasts, before));
        raced_is = omega (arith, raced);
        few_raced = going.few_raced;
        kept = kept_same command events (more op reply) as_before going.kept;
        begun_is = ap (last_number None) as_before ∙ going.begun_is;
        set = set_on t.begun op reply going.set works;
      }

  -- a swap that was answered Raced, and not too often
  module _ (command : ContainerCommand) (t : Tally) (r : ContainerRequest) (expected version : ℕ) (new : Option Bucket) (going : Going command t p y events last) where
    abbrev swap : Op
    swap = swap_op r expected new

    abbrev raced : Reply
    raced = No (Raced version)

    one_race : raced_count (more swap raced) ≡ one_more t.raced
    one_race =
        let few = going.few_raced in
        let one = raced_on swap raced t.raced 1 going.raced_is refl in
        omega (arith, one, few)

    pub race_goes_on : nat_lt (one_more t.raced) most_raced ≡ true → Going command (one_raced (first_seen t number)) (knows swap raced) (after swap raced) (more swap raced) number
    race_goes_on less =
        let as_before = swaps_same events (own swap raced) refl in
        record {
          starts = starts_on command t.first t.made swap raced going.starts refl refl;
          moved_is = moved_on command t.moved swap raced going.moved_is refl refl;
          few = going.few;
          moved_before = (let was = going.moved_before in omega (arith, was, before));
          raced_is = one_race;
          few_raced = grind (arith, nat_tests, less);
          kept = kept_same command events (more swap raced) as_before going.kept;
          begun_is = ap (last_number None) as_before ∙ going.begun_is;
          set = set_on t.begun swap raced going.set refl;
        }

    pub race_ends : nat_lt (one_more t.raced) most_raced ≡ false → (raced_count (more swap raced) ≡ most_raced) × KeepsRows command (more swap raced)
    race_ends all =
        let often : most_raced ≤ one_more t.raced = grind (arith, nat_tests, all) in
        let few = going.few_raced in
        let one = one_race in
        (omega (arith, one, often, few), kept_same command events (more swap raced) (swaps_same events (own swap raced) refl) going.kept)
