-- A swap that is done alters a row: its container keeps its index, and what was over stays over.
use Rattle.std.proofs.Common.{◌≡◌, ◌⊎◌, inl, inr, ℕ, ◌+◌, ◌==◌, ◌≤◌, Bool, true, false, cond, List, Option, Some, None, refl, sym, subst, ap, ◌∙◌, arith}
use Rattle.std.specs.Prelude.{IfSome}
use Rattle.object_words.specs.declared.bucket.Bucket.{Bucket}
use Rattle.object_words.specs.declared.bucket.Busy.{Busy}
use Rattle.object_words.specs.Hashes.{shard_of}
use Rattle.object_words.specs.Keys.{put, shard_key, container_of, instance_of}
use Rattle.object_words.specs.Logs.{Log}
use Rattle.object_words.specs.Names.{at}
use Rattle.object_words.specs.Roots.{Root, changes_shared, shared_after, shares_all, stored}
use Rattle.realm_model.specs.Facts.{Home, Instance}
use Rattle.realm_model.specs.Containers.{over_in}
use Rattle.realm_model.specs.Phases.{ActorId, OwnNumber, OwnWork, Phase}
use Rattle.realm_model.specs.Learnt.{put_bundle, row_known, set_in, numbered, worked, learnt}
use Rattle.realm_model.specs.States.{clock_at}
use Rattle.realm_model.specs.Steps.{is_master}
use Rattle.realm_model.specs.Worlds.{World, put_actor, instance_in}
use Rattle.realm_model.specs.declared.op.Op.{Op}
use Rattle.realm_model.specs.declared.op.Op.TheVariants.{BucketSwap}
use Rattle.realm_model.specs.declared.event.Reply.TheVariants.{Done}
use Rattle.realm_model.proofs.Computing.{left_of, right_of}
use Rattle.realm_model.proofs.ObjectLemmas.{number_same, put_bundle_cases}
use Rattle.index_law.specs.Tables.{entries_of, heads_of, rows_of, Instances, changes_of, IsPlaced, Stands}
use Rattle.index_law.specs.Rows.{IsNamed, IsInRow, IsKept, ReadHolds}
use Rattle.index_law.specs.Works.{IsBegun, IsCleared, IsRemoved, WorkHolds}
use Rattle.index_law.specs.Agreements.{Agreements}
use Rattle.index_law.specs.Invariants.{Index, IndexHolds}
use Rattle.index_law.proofs.NameLists.{all_at}
use Rattle.index_law.proofs.NumberLaws.{homes_more, instances_more}
use Rattle.index_law.proofs.Tests.{so}
use Rattle.index_law.proofs.Forms.{Alters, over_none, over_some}
use Rattle.index_law.proofs.RowLaws.{InstancesRise, RowsMove, same_in, kept_on, begun_on, cleared_on, removed_on, own_homes, own_instances}
use Rattle.index_law.proofs.Moving.{with_root, row_back, knows_now, moved}
use Rattle.index_law.proofs.Placing.{bundle_here, bundle_back}

module _ (w : World) (j : IndexHolds w) (zone : ℕ) (name : List ℕ) (old : Bucket) (kept : rows_of w.state.root zone name ≡ Some old) where
  pub kept_old : IsKept w.state.count w.rows.homes w.rows.instances zone name old
  kept_old = j.rows_stand.kept zone name old kept

  -- a container has one row in a zone
  pub alone : (n : List ℕ) (r : Bucket) → rows_of w.state.root zone n ≡ Some r → r.id ≡ old.id → n ≡ name
  alone n r there id =
      let k = (j.rows_stand.kept zone n r there).named in
      let o = kept_old.named in
      let same : k.home ≡ o.home = same_in (sym k.made ∙ ap w.rows.homes id ∙ o.made) in
      sym k.name_is ∙ ap (λ (h : Home). h.name) same ∙ o.name_is

module _ (w : World) (j : IndexHolds w) (me : ActorId) (moment : ℕ) (zone : ℕ) (name : List ℕ) (expected : ℕ) (old b : Bucket) (log : Log) (kept : rows_of w.state.root zone name ≡ Some old)
    (known : row_known ((w.phases me).rows zone) name ≡ Some old) (alt : Alters (w.phases me) zone name old b) where
  abbrev number : ℕ
  number = w.state.count + 1

  abbrev now : ℕ
  now = clock_at w.state.clock moment

  abbrev op : Op
  op = BucketSwap zone name expected (Some b)

  abbrev phase : Phase
  phase = learnt (w.phases me) op Done number now

  abbrev row : Bucket
  row = stored (at (w.state.root zone).buckets name) b (is_master zone) number

  abbrev root : ℕ → Root
  root = with_root w.state.root zone name (Some row) log

  abbrev homes : ℕ → Option Home
  homes = w.rows.homes

  abbrev instances : Instances
  instances = put_bundle w.rows.instances zone b.id b.instance (Some (instance_in b))

  pub named_old : IsNamed homes w.rows.instances zone name old
  named_old = (kept_old w j zone name old kept).named

  -- ---- the tables

  pub instance_old : w.rows.instances zone b.id b.instance ≡ Some named_old.instance
  instance_old = (λ i. w.rows.instances zone (sym alt.id i) (sym alt.instance i)) ∙ named_old.placed

  over_rises : (named_old.instance).over ≤ over_in b
  unfolding named_old
  over_rises =
      let was = (kept_old w j zone name old kept).over_is in
      let rises = alt.over named_old.busy_is in
      omega (arith, was, rises)

  pub instances_back : (z c i : ℕ) (y : Option Instance) → instances z c i ≡ y → (w.rows.instances z c i ≡ y) ⊎ ((zone ≡ z) × (b.id ≡ c) × (b.instance ≡ i) × (Some (instance_in b) ≡ y))
  instances_back z c i y is = bundle_back w.rows.instances zone b.id b.instance (Some (instance_in b)) z c i y is

  pub placed_back : (z c i : ℕ) (x : Instance) → instances z c i ≡ Some x → (y : Instance) × (w.rows.instances z c i ≡ Some y)
  placed_back z c i x is =
      elim (instances_back z c i (Some x) is) [
        | inl same ↦ (x, same)
        | inr new ↦ (named_old.instance, (λ k. w.rows.instances (sym new.0 k) (sym new.1 k) (sym new.2 k)) ∙ instance_old)
      ]

  rise : InstancesRise w.rows.instances instances
  rise z c i x is =
      elim (instances_back z c i (instances z c i) refl) [
        | inl same ↦ record { instance = x; placed = sym same ∙ is; shards_are = refl; over = omega arith }
        | inr new ↦
            let one : named_old.instance ≡ x = same_in (sym instance_old ∙ (λ k. w.rows.instances (new.0 k) (new.1 k) (new.2 k)) ∙ is) in
            let shards : x.shards ≡ b.shards = ap (λ (y : Instance). y.shards) (sym one) ∙ named_old.shards_are ∙ alt.shards in
            let over = subst (λ (y : Instance). y.over ≤ over_in b) one over_rises in
            record { instance = instance_in b; placed = sym new.3; shards_are = shards; over = over }
      ]

  -- the number of the shared part is not below the home's
  since : (named_old.home).at ≤ row.shared
  since =
      let shared : row.shared ≡ shared_after (Some old) b (is_master zone) number = ap (λ o. shared_after o b (is_master zone) number) kept in
      let low = named_old.since in
      let below = (j.numbers.homes_below old.id named_old.home named_old.made).1 in
      let given : (named_old.home).at ≤ shared_after (Some old) b (is_master zone) number = by_master (is_master zone) refl low below in
      omega (arith, shared, given) where
        in_master : (changed : Bool) → (named_old.home).at ≤ old.shared → (named_old.home).at ≤ w.state.count → (named_old.home).at ≤ cond changed number old.shared
        in_master true low below = omega (arith, below)
        in_master false low below = low

        by_master : (master : Bool) → is_master zone ≡ master → (named_old.home).at ≤ old.shared → (named_old.home).at ≤ w.state.count → (named_old.home).at ≤ shared_after (Some old) b master number
        by_master true at_one low below = in_master (changes_shared (Some old) b) low below
        by_master false other low below =
            elim (alt.shared other) [
              | inl same ↦ omega (arith, low, same)
              | inr taken ↦
                  let read = so (at ((w.phases me).rows 1) name) _ taken in
                  let r = so (read.x).row _ read.passes in
                  let shares = left_of (shares_all r.x b) _ r.passes in
                  let id : (r.x).id ≡ old.id = number_same (r.x).id b.id (left_of ((r.x).id == b.id) _ shares) ∙ sym alt.id in
                  let at_shared = number_same (r.x).shared b.shared (right_of (shares_all r.x b) ((r.x).shared == b.shared) r.passes) in
                  let n = ((all_at (ReadHolds w.state.count homes w.rows.instances (rows_of w.state.root) 1) ((w.phases me).rows 1) name read.x ((j.rows_stand.knows me).reads 1) read.is).shown r.x r.is).named in
                  let home : n.home ≡ named_old.home = same_in (sym n.made ∙ ap homes id ∙ named_old.made) in
                  let ats = ap (λ (h : Home). h.at) home in
                  let from = n.since in
                  omega (arith, ats, from, at_shared)
            ]

  named_here : IsNamed homes instances zone name row
  named_here = record {
    home = named_old.home;
    made = ap homes (sym alt.id) ∙ named_old.made;
    name_is = named_old.name_is;
    since = since;
    instance = instance_in b;
    placed = bundle_here w.rows.instances zone b.id b.instance (Some (instance_in b));
    shards_are = refl;
    some = subst (λ n. 1 ≤ n) alt.shards named_old.some;
    over_low = omega arith;
    busy_is = alt.busy_is named_old.busy_is;
  }

  kept_here : (r : Bucket) → ◌≡◌ {A = Option Bucket} (Some row) (Some r) → IsKept number homes instances zone name r
  unfolding named_here
  kept_here r is = subst (λ x. IsKept number homes instances zone name x) (same_in is) (record { version = omega arith; below = omega arith; named = named_here; over_is = refl })

  pub moves : RowsMove w.state.count w.rows.homes homes w.rows.instances instances (rows_of w.state.root) (rows_of root)
  moves = record {
    homes_grow = λ c x is. is;
    homes_back = λ c x is. inl is;
    rise = rise;
    stands_back = λ c m stands.
        elim (row_back w.state.root zone name (Some row) log 1 (stands.home).name (Some stands.row) stands.kept) [
          | inl moved ↦
              let id : b.id ≡ c = ap (λ (x : Bucket). x.id) (same_in moved.2) ∙ stands.id_is in
              record { home = stands.home; made = stands.made; row = old; kept = (λ k. rows_of w.state.root (moved.0 k) (moved.1 k)) ∙ kept; id_is = alt.id ∙ id }
          | inr there ↦ record { home = stands.home; made = stands.made; row = stands.row; kept = there.0; id_is = stands.id_is }
        ];
    kept_back = λ z n r is.
        elim (row_back w.state.root zone name (Some row) log z n (Some r) is) [
          | inl moved ↦ let late = ap (λ (x : Bucket). x.version) (same_in moved.2) in inr (omega (arith, late))
          | inr there ↦ inl there.0
        ];
    named_back = λ z n r x is placed.
        elim (row_back w.state.root zone name (Some row) log z n (Some r) is) [
          | inl moved ↦
              let same : row ≡ r = same_in moved.2 in
              let numbers = ap (λ (y : Bucket). y.number) same in
              let rises = alt.number in
              record { old = old; kept = (λ k. rows_of w.state.root (moved.0 k) (moved.1 k)) ∙ kept; id_is = alt.id ∙ ap (λ (y : Bucket). y.id) same; instance_is = alt.instance ∙ ap (λ (y : Bucket). y.instance) same; number = omega (arith, rises, numbers) }
          | inr there ↦ record { old = r; kept = there.0; id_is = refl; instance_is = refl; number = omega arith }
        ];
  }

  -- ---- rows

  kept_now : (z : ℕ) (n : List ℕ) (r : Bucket) → rows_of root z n ≡ Some r → IsKept number homes instances z n r
  kept_now z n r is =
      elim (row_back w.state.root zone name (Some row) log z n (Some r) is) [
        | inl moved ↦ subst (λ y. IsKept number homes instances y n r) (sym moved.0) (subst (λ m. IsKept number homes instances zone m r) (sym moved.1) (kept_here r moved.2))
        | inr there ↦
            let k = j.rows_stand.kept z n r there.0 in
            let same : instances z r.id r.instance ≡ w.rows.instances z r.id r.instance =
            elim (instances_back z r.id r.instance (instances z r.id r.instance) refl) [
              | inl still ↦ sym still
              | inr new ↦
                  let at_name = alone w j zone name old kept n r ((λ i. rows_of w.state.root (new.0 i) n) ∙ there.0) (sym new.1 ∙ sym alt.id) in
                  absurd (there.1 (sym new.0) at_name)
            ] in
            kept_on w.state.count homes homes w.rows.instances instances (λ c x is. is) z n r same k
      ]

  in_row_now : (z c i : ℕ) (x : Instance) → instances z c i ≡ Some x → Stands homes (rows_of root) c → IsInRow homes (rows_of root) z c i
  in_row_now z c i x is stands =
      let old_x = placed_back z c i x is in
      let r = j.rows_stand.in_row z c i old_x.0 old_x.1 (moves.stands_back c (j.rows_stand.homed z c i old_x.0 old_x.1) stands) in
      elim (row_back w.state.root zone name (Some row) log z (r.home).name (rows_of root z (r.home).name) refl) [
        | inl moved ↦
            let one : old ≡ r.row = same_in (sym kept ∙ (λ k. rows_of w.state.root (sym moved.0 k) (sym moved.1 k)) ∙ r.kept) in
            record {
              home = r.home;
              made = r.made;
              row = row;
              kept = sym moved.2;
              id_is = sym alt.id ∙ ap (λ (y : Bucket). y.id) one ∙ r.id_is;
              instance_is = sym alt.instance ∙ ap (λ (y : Bucket). y.instance) one ∙ r.instance_is;
            }
        | inr there ↦ record { home = r.home; made = r.made; row = r.row; kept = sym there.0 ∙ r.kept; id_is = r.id_is; instance_is = r.instance_is }
      ]

  -- ---- own work

  -- the number that was set is the next of the instance
  begun_new : (busy : Busy) → old.busy ≡ None → b.busy ≡ Some busy → IsBegun instances (rows_of root) zone old.id old.instance busy.number
  begun_new busy none some =
      let has : (busy.number ≡ b.number) × (1 ≤ b.number) = subst (λ o. IfSome o (λ (x : Busy). (x.number ≡ b.number) × (1 ≤ b.number))) some (alt.busy_is named_old.busy_is) in
      let at_number = has.0 in
      let positive = has.1 in
      let over = over_some b busy some in
      record {
        instance = instance_in b;
        placed = (λ i. instances zone (alt.id i) (alt.instance i)) ∙ bundle_here w.rows.instances zone b.id b.instance (Some (instance_in b));
        low = omega (arith, at_number, positive);
        high = omega (arith, at_number, over, positive);
        given = λ n r is id_is instance_is.
            elim (row_back w.state.root zone name (Some row) log zone n (Some r) is) [
              | inl moved ↦ let numbers = ap (λ (y : Bucket). y.number) (same_in moved.2) in omega (arith, at_number, numbers)
              | inr there ↦ absurd (there.1 refl (alone w j zone name old kept n r there.0 id_is))
            ];
      }

  -- the number that was cleared is over
  cleared_new : (busy : Busy) → old.busy ≡ Some busy → b.busy ≡ None → IsCleared instances zone old.id old.instance busy.number
  cleared_new busy some none =
      let has : (busy.number ≡ old.number) × (1 ≤ old.number) = subst (λ o. IfSome o (λ (x : Busy). (x.number ≡ old.number) × (1 ≤ old.number))) some named_old.busy_is in
      let at_number = has.0 in
      let rises = alt.number in
      let over = over_none b none in
      record {
        instance = instance_in b;
        placed = (λ i. instances zone (alt.id i) (alt.instance i)) ∙ bundle_here w.rows.instances zone b.id b.instance (Some (instance_in b));
        over = omega (arith, at_number, over, rises);
      }

  module _ (own : OwnWork) where
    begun_at : ((n : ℕ) (x : OwnNumber) → own.begun n ≡ Some x → IsBegun instances (rows_of root) zone old.id old.instance n) → (ob nb : Option Busy) → old.busy ≡ ob → b.busy ≡ nb → (n : ℕ) (x : OwnNumber) → (numbered own ob nb).begun n ≡ Some x → IsBegun instances (rows_of root) zone old.id old.instance n
    begun_at was None (Some busy) none some n x is =
        elim (busy.number == n) as (λ t. (busy.number == n) ≡ t → cond t (Some (set_in busy)) (own.begun n) ≡ Some x → IsBegun instances (rows_of root) zone old.id old.instance n) [
          | true ↦ λ same here. subst (IsBegun instances (rows_of root) zone old.id old.instance) (number_same busy.number n same) (begun_new busy none some)
          | false ↦ λ other there. was n x there
        ] refl is
    begun_at was None None none some n x is = was n x is
    begun_at was (Some busy) None none some n x is = was n x is
    begun_at was (Some busy) (Some other) none some n x is = was n x is

    cleared_at : ((n : ℕ) → own.cleared n ≡ true → IsCleared instances zone old.id old.instance n) → (ob nb : Option Busy) → old.busy ≡ ob → b.busy ≡ nb → (n : ℕ) → (numbered own ob nb).cleared n ≡ true → IsCleared instances zone old.id old.instance n
    cleared_at was (Some busy) None some none n is =
        elim (busy.number == n) as (λ t. (busy.number == n) ≡ t → cond t true (own.cleared n) ≡ true → IsCleared instances zone old.id old.instance n) [
          | true ↦ λ same here. subst (IsCleared instances zone old.id old.instance) (number_same busy.number n same) (cleared_new busy some none)
          | false ↦ λ other there. was n there
        ] refl is
    cleared_at was None None some none n is = was n is
    cleared_at was None (Some busy) some none n is = was n is
    cleared_at was (Some busy) (Some other) some none n is = was n is

    removed_at : (ob nb : Option Busy) → (numbered own ob nb).removed ≡ own.removed
    removed_at None None = refl
    removed_at None (Some busy) = refl
    removed_at (Some busy) None = refl
    removed_at (Some busy) (Some other) = refl

  works_now : WorkHolds homes instances (rows_of root) phase.work
  works_now =
      let work = (w.phases me).work in
      let h = (j.rows_stand.knows me).works in
      let own = work zone old.id old.instance in
      let homed = j.rows_stand.homed in
      subst (WorkHolds homes instances (rows_of root)) (sym (ap (λ o. worked work zone o (Some b)) known))
      (record {
        begun = λ z c i.
            put_bundle_cases (λ z c i (v : OwnWork). (n : ℕ) (x : OwnNumber) → v.begun n ≡ Some x → IsBegun instances (rows_of root) z c i n) work zone old.id old.instance (numbered own old.busy b.busy)
            (begun_at own (λ n x is. begun_on w.state.count homes homes w.rows.instances instances (rows_of w.state.root) (rows_of root) moves homed zone old.id old.instance n (h.begun zone old.id old.instance n x is)) old.busy b.busy refl refl)
            (λ z c i n x is. begun_on w.state.count homes homes w.rows.instances instances (rows_of w.state.root) (rows_of root) moves homed z c i n (h.begun z c i n x is)) z c i;
        cleared = λ z c i.
            put_bundle_cases (λ z c i (v : OwnWork). (n : ℕ) → v.cleared n ≡ true → IsCleared instances z c i n) work zone old.id old.instance (numbered own old.busy b.busy)
            (cleared_at own (λ n is. cleared_on w.state.count homes homes w.rows.instances instances (rows_of w.state.root) (rows_of root) moves homed zone old.id old.instance n (h.cleared zone old.id old.instance n is)) old.busy b.busy refl refl)
            (λ z c i n is. cleared_on w.state.count homes homes w.rows.instances instances (rows_of w.state.root) (rows_of root) moves homed z c i n (h.cleared z c i n is)) z c i;
        removed = λ z c i.
            put_bundle_cases (λ z c i (v : OwnWork). (shards : ℕ) → v.removed ≡ Some shards → IsRemoved homes instances (rows_of root) z c i) work zone old.id old.instance (numbered own old.busy b.busy)
            (λ shards is. removed_on w.state.count homes homes w.rows.instances instances (rows_of w.state.root) (rows_of root) moves homed zone old.id old.instance (h.removed zone old.id old.instance shards (sym (removed_at own old.busy b.busy) ∙ is)))
            (λ z c i shards is. removed_on w.state.count homes homes w.rows.instances instances (rows_of w.state.root) (rows_of root) moves homed z c i (h.removed z c i shards is)) z c i;
      })

  -- ---- all parts

  agreements_now : Agreements (Stands homes (rows_of root)) (changes_of w.index.tags) instances (entries_of w.state.shards) (heads_of w.state.heads) w.index.last
  agreements_now z k n p stands =
      let was = placed_back z (container_of k) (instance_of k) p.instance p.placed in
      let r = rise z (container_of k) (instance_of k) was.0 was.1 in
      let shards : p.instance.shards ≡ (was.0).shards = ap (λ (y : Instance). y.shards) (same_in (sym p.placed ∙ r.placed)) ∙ sym r.shards_are in
      let place : IsPlaced w.rows.instances z k n = record { instance = was.0; placed = was.1; key_is = p.key_is ∙ ap (λ count. shard_key (container_of k) (instance_of k) (shard_of n count)) shards } in
      j.agreements z k n place (moves.stands_back (container_of k) (j.rows_stand.homed z (container_of k) (instance_of k) was.0 was.1) stands)

  pub change_done : Index number now (entries_of w.state.shards) (heads_of w.state.heads) (rows_of root) w.index.tags w.index.last homes instances (put w.stripes.by number me) (put_actor w.phases me phase)
  change_done =
      let left = (λ i. Some (stored (known i) b (is_master zone) number)) ∙ (λ i. Some (stored (sym kept i) b (is_master zone) number)) in
      moved w j me moment zone name expected (Some b) (Some row) log homes instances moves kept_now
      (knows_now w j me moment zone name expected (Some b) (Some row) log homes instances moves left kept_here works_now) in_row_now
      (λ z c i x is. let was = placed_back z c i x is in j.rows_stand.homed z c i was.0 was.1)
      (own_homes w j me moment op Done)
      (λ a z c f x is placed. let was = placed_back z c f.number x placed in own_instances w j me moment op Done a z c f was.0 is was.1)
      (homes_more w j moment) (λ z c i x is. let was = placed_back z c i x is in instances_more w j moment z c i was.0 was.1) agreements_now
