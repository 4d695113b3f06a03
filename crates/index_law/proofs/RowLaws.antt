-- Rows stand: what an event leaves of them, and what its actor knows of them.
use Rattle.std.proofs.Common.{◌≡◌, ◌⊎◌, inl, inr, ℕ, ◌+◌, ◌==◌, ◌<◌, ◌≤◌, true, false, cond, List, Option, Some, None, refl, sym, ◌∙◌, ap, subst, arith}
use Rattle.std.specs.List.{AllByRecursion}
use Rattle.rgw_types.specs.declared.pool_key.Key.{Key}
use Rattle.object_words.specs.declared.bucket.Bucket.{Bucket}
use Rattle.object_words.specs.Hashes.{shard_of}
use Rattle.object_words.specs.Keys.{put, shard_key, container_of, instance_of}
use Rattle.realm_model.specs.Needs.{is_new_shard}
use Rattle.object_words.specs.Names.{entries as names_of}
use Rattle.realm_model.specs.Facts.{Home, Instance}
use Rattle.realm_model.specs.Phases.{ActorId, FirstEvent, RowRead, OwnShards, OwnWork, Phase}
use Rattle.realm_model.specs.Learnt.{with_read, with_shards, shards_after, first_after, learnt}
use Rattle.realm_model.specs.States.{clock_at}
use Rattle.realm_model.specs.Worlds.{World, put_actor}
use Rattle.realm_model.specs.declared.op.Op.{Op}
use Rattle.realm_model.specs.declared.op.Op.TheVariants.{BucketSwap, ShardMake, Announce}
use Rattle.realm_model.specs.declared.event.Reply.{Reply}
use Rattle.realm_model.specs.declared.event.Reply.TheVariants.{Done, Position}
use Rattle.realm_model.proofs.ObjectLemmas.{put_cases, put_actor_cases}
use Rattle.index_law.specs.Tables.{rows_of, Rows, Instances, IsPlaced, IsMadeContainer, Stands}
use Rattle.index_law.specs.Works.{IsBegun, IsCleared, IsRemoved, WorkHolds}
use Rattle.index_law.specs.Rows.{IsNamed, IsKept, ReadHolds, Knows, RowsStand}
use Rattle.index_law.specs.Invariants.{IndexHolds}
use Rattle.index_law.proofs.NameLists.{all_with_name}
use Rattle.index_law.proofs.NoteLemmas.{all_map}

pub same_in : {A : Type 0} {x y : A} → Some x ≡ Some y → x ≡ y
same_in same = cc

-- ---- tables that only grow

abbrev pub HomesGrow : (ℕ → Option Home) → (ℕ → Option Home) → Type 0
HomesGrow homes homes' = (container : ℕ) (home : Home) → homes container ≡ Some home → homes' container ≡ Some home

-- the instance has its shards, and what was over is over
pub record IsRisen (instances : Instances) (zone container number : ℕ) (old : Instance) : Type 0 where
  pub instance : Instance
  pub placed : instances zone container number ≡ Some instance
  pub shards_are : old.shards ≡ instance.shards
  pub over : old.over ≤ instance.over

abbrev pub InstancesRise : Instances → Instances → Type 0
InstancesRise instances instances' = (zone container number : ℕ) (instance : Instance) → instances zone container number ≡ Some instance → IsRisen instances' zone container number instance

pub rise_same : (instances : Instances) → InstancesRise instances instances
rise_same instances zone container number instance is = record { instance = instance; placed = is; shards_are = refl; over = omega arith }

pub named_more : (homes homes' : ℕ → Option Home) (instances instances' : Instances) → HomesGrow homes homes' → InstancesRise instances instances' → (zone : ℕ) (name : List ℕ) (row : Bucket) → IsNamed homes instances zone name row → IsNamed homes' instances' zone name row
named_more homes homes' instances instances' h i zone name row n =
    let r = i zone row.id row.instance n.instance n.placed in
    let low = n.over_low in
    let high = r.over in
    record {
      home = n.home;
      made = h row.id n.home n.made;
      name_is = n.name_is;
      since = n.since;
      instance = r.instance;
      placed = r.placed;
      shards_are = sym r.shards_are ∙ n.shards_are;
      some = n.some;
      over_low = omega (arith, low, high);
      busy_is = n.busy_is;
    }

pub placed_rise : (instances instances' : Instances) → InstancesRise instances instances' → (zone : ℕ) (key : Key) (name : List ℕ) → IsPlaced instances zone key name → IsPlaced instances' zone key name
placed_rise instances instances' i zone key name p =
    let r = i zone (container_of key) (instance_of key) p.instance p.placed in
    record { instance = r.instance; placed = r.placed; key_is = p.key_is ∙ ap (λ count. shard_key (container_of key) (instance_of key) (shard_of name count)) r.shards_are }

-- ---- rows that move

-- the row was there with the same instance, and its number did not fall
pub record WasNamed (rows : Rows) (zone : ℕ) (name : List ℕ) (row : Bucket) : Type 0 where
  pub old : Bucket
  pub kept : rows zone name ≡ Some old
  pub id_is : old.id ≡ row.id
  pub instance_is : old.instance ≡ row.instance
  pub number : old.number ≤ row.number

-- what an event leaves of rows and their tables: what is new has a number above those of before
pub record RowsMove (count : ℕ) (homes homes' : ℕ → Option Home) (instances instances' : Instances) (rows rows' : Rows) : Type 0 where
  pub homes_grow : HomesGrow homes homes'
  pub homes_back : (container : ℕ) (home : Home) → homes' container ≡ Some home → (homes container ≡ Some home) ⊎ (count < home.at)
  pub rise : InstancesRise instances instances'
  pub stands_back : (container : ℕ) → IsMadeContainer homes container → Stands homes' rows' container → Stands homes rows container
  pub kept_back : (zone : ℕ) (name : List ℕ) (row : Bucket) → rows' zone name ≡ Some row → (rows zone name ≡ Some row) ⊎ (count < row.version)
  pub named_back : (zone : ℕ) (name : List ℕ) (row : Bucket) (instance : Instance) → rows' zone name ≡ Some row → instances zone row.id row.instance ≡ Some instance → WasNamed rows zone name row

pub nothing_moves : (count : ℕ) (homes : ℕ → Option Home) (instances : Instances) (rows : Rows) → RowsMove count homes homes instances instances rows rows
nothing_moves count homes instances rows = record {
  homes_grow = λ c home is. is;
  homes_back = λ c home is. inl is;
  rise = rise_same instances;
  stands_back = λ c made stands. stands;
  kept_back = λ z n row is. inl is;
  named_back = λ z n row x is placed. record { old = row; kept = is; id_is = refl; instance_is = refl; number = omega arith };
}

-- a row whose instance stayed as it was is kept as it was
pub kept_on : (count : ℕ) (homes homes' : ℕ → Option Home) (instances instances' : Instances) → HomesGrow homes homes' → (zone : ℕ) (name : List ℕ) (row : Bucket) → instances' zone row.id row.instance ≡ instances zone row.id row.instance
    → IsKept count homes instances zone name row → IsKept (count + 1) homes' instances' zone name row
kept_on count homes homes' instances instances' grow zone name row same k =
    let n = k.named in
    let below = k.below in
    record {
      version = k.version;
      below = omega (arith, below);
      named = record { home = n.home; made = grow row.id n.home n.made; name_is = n.name_is; since = n.since; instance = n.instance; placed = same ∙ n.placed; shards_are = n.shards_are; some = n.some; over_low = n.over_low; busy_is = n.busy_is };
      over_is = k.over_is;
    }

-- what an actor knows holds after such an event
module _ (count : ℕ) (homes homes' : ℕ → Option Home) (instances instances' : Instances) (rows rows' : Rows) (m : RowsMove count homes homes' instances instances' rows rows')
    (homed : (zone container number : ℕ) (instance : Instance) → instances zone container number ≡ Some instance → IsMadeContainer homes container) where
  pub read_on : (zone : ℕ) (e : List ℕ × RowRead) → ReadHolds count homes instances rows zone e → ReadHolds (count + 1) homes' instances' rows' zone e
  read_on zone e r =
      let past = r.past in
      record {
        past = omega (arith, past);
        shown = λ row is.
            let s = r.shown row is in
            let below = s.below in
            record {
              version = s.version;
              below = omega (arith, below);
              named = named_more homes homes' instances instances' m.homes_grow m.rise zone e.0 row s.named;
              same = λ kept there version.
                  elim (m.kept_back zone e.0 kept there) [
                    | inl old ↦ s.same kept old version
                    | inr late ↦ absurd (omega (arith, late, version, below))
                  ];
            };
        gone = λ one c home made name_is before not_shown stands.
            elim (m.homes_back c home made) [
              | inl old ↦ r.gone one c home old name_is before not_shown (m.stands_back c (record { home = home; made = old }) stands)
              | inr late ↦ absurd (omega (arith, late, before, past))
            ];
      }

  pub reads_on : (zone : ℕ) (es : List (List ℕ × RowRead)) → AllByRecursion (ReadHolds count homes instances rows zone) es → AllByRecursion (ReadHolds (count + 1) homes' instances' rows' zone) es
  reads_on zone es all = all_map (ReadHolds count homes instances rows zone) (ReadHolds (count + 1) homes' instances' rows' zone) (read_on zone) es all

  pub begun_on : (zone container number n : ℕ) → IsBegun instances rows zone container number n → IsBegun instances' rows' zone container number n
  begun_on zone container number n b =
      let r = m.rise zone container number b.instance b.placed in
      let high = b.high in
      let over = r.over in
      record {
        instance = r.instance;
        placed = r.placed;
        low = b.low;
        high = omega (arith, high, over);
        given = λ name row is id_is instance_is.
            let was = m.named_back zone name row b.instance is ((λ i. instances zone (id_is i) (instance_is i)) ∙ b.placed) in
            let old = b.given name was.old was.kept (was.id_is ∙ id_is) (was.instance_is ∙ instance_is) in
            let rises = was.number in
            omega (arith, old, rises);
      }

  pub cleared_on : (zone container number n : ℕ) → IsCleared instances zone container number n → IsCleared instances' zone container number n
  cleared_on zone container number n c =
      let r = m.rise zone container number c.instance c.placed in
      let was = c.over in
      let over = r.over in
      record { instance = r.instance; placed = r.placed; over = omega (arith, was, over) }

  pub removed_on : (zone container number : ℕ) → IsRemoved homes instances rows zone container number → IsRemoved homes' instances' rows' zone container number
  removed_on zone container number x =
      let r = m.rise zone container number x.instance x.placed in
      record {
        instance = r.instance;
        placed = r.placed;
        unnamed = λ name row is id_is instance_is.
            let was = m.named_back zone name row x.instance is ((λ i. instances zone (id_is i) (instance_is i)) ∙ x.placed) in
            x.unnamed name was.old was.kept (was.id_is ∙ id_is) (was.instance_is ∙ instance_is);
        fallen = λ stands. x.fallen (m.stands_back container (homed zone container number x.instance x.placed) stands);
      }

  pub works_on : (work : ℕ → ℕ → ℕ → OwnWork) → WorkHolds homes instances rows work → WorkHolds homes' instances' rows' work
  works_on work h = record {
    begun = λ z c i n own is. begun_on z c i n (h.begun z c i n own is);
    cleared = λ z c i n is. cleared_on z c i n (h.cleared z c i n is);
    removed = λ z c i shards is. removed_on z c i (h.removed z c i shards is);
  }

  pub knows_on : (p : Phase) → Knows count homes instances rows p → Knows (count + 1) homes' instances' rows' p
  knows_on p k = record { reads = λ zone. reads_on zone (names_of (p.rows zone)) (k.reads zone); works = works_on p.work k.works }

-- ---- own shards that were put into a row stay so

pub placed_stays : (shards : ℕ → ℕ → OwnShards) (p : Phase) (op : Op) (reply : Reply) (zone container : ℕ) → (shards zone container).placed ≡ true → (shards_after shards p op reply zone container).placed ≡ true
placed_stays shards p op reply zone container was = stays op reply zone container was where
  changed : (z c : ℕ) (change : OwnShards → OwnShards) → ((own : OwnShards) → own.placed ≡ true → (change own).placed ≡ true) → (zone container : ℕ) → (shards zone container).placed ≡ true → (with_shards shards z c change zone container).placed ≡ true
  changed z c change keeps =
      put_cases (λ y g. (d : ℕ) → (shards y d).placed ≡ true → (g d).placed ≡ true) shards z (put (shards z) c (change (shards z c)))
      (put_cases (λ d own. (shards z d).placed ≡ true → own.placed ≡ true) (shards z) c (change (shards z c)) (keeps (shards z c)) (λ d is. is)) (λ y d is. is)

  stays : (op : Op) (reply : Reply) (zone container : ℕ) → (shards zone container).placed ≡ true → (shards_after shards p op reply zone container).placed ≡ true
  stays (ShardMake zone key) Done z c is = changed zone (container_of key) (λ own. record own { made = own.made + 1 }) (λ own k. k) z c is
  stays (BucketSwap zone name expected None) Done z c is = is
  stays (BucketSwap zone name expected (Some new)) Done z c is =
      elim (expected == 0) as (λ b. ((cond b (with_shards shards zone new.id (λ own. record own { placed = true })) shards) z c).placed ≡ true) [
        | true ↦ changed zone new.id (λ own. record own { placed = true }) (λ own k. refl) z c is
        | false ↦ is
      ]
  stays (Announce zone container instance shard bucket) (Position position) z c is =
      elim (is_new_shard p zone (shard_key container instance shard)) as (λ b. ((cond b (with_shards shards zone container (λ own. record own { announced = put own.announced shard true })) shards) z c).placed ≡ true) [
        | true ↦ changed zone container (λ own. record own { announced = put own.announced shard true }) (λ own k. k) z c is
        | false ↦ is
      ]
  stays op reply z c is = is

-- ---- one event more

module _ (w : World) (j : IndexHolds w) (me : ActorId) (moment : ℕ) (op : Op) (reply : Reply) where
  abbrev number : ℕ
  number = w.state.count + 1

  abbrev phase : Phase
  phase = learnt (w.phases me) op reply number (clock_at w.state.clock moment)

  -- the first event is this one, or the one that it was
  first_was : (f : FirstEvent) → phase.first ≡ Some f → (f.number ≡ number) ⊎ ((w.phases me).first ≡ Some f)
  first_was f is = by_first (w.phases me).first is where
    by_first : (first : Option FirstEvent) → first_after first number (clock_at w.state.clock moment) ≡ Some f → (f.number ≡ number) ⊎ (first ≡ Some f)
    by_first None is = inl cc
    by_first (Some g) is = inr is

  -- what the actor knew of rows holds still
  pub knew : Knows number w.rows.homes w.rows.instances (rows_of w.state.root) (w.phases me)
  knew = knows_on w.state.count w.rows.homes w.rows.homes w.rows.instances w.rows.instances (rows_of w.state.root) (rows_of w.state.root) (nothing_moves w.state.count w.rows.homes w.rows.instances (rows_of w.state.root)) j.rows_stand.homed (w.phases me) (j.rows_stand.knows me)

  -- and so what it knows, where it learnt nothing of them
  pub knows_same : phase.rows ≡ (w.phases me).rows → phase.work ≡ (w.phases me).work → Knows number w.rows.homes w.rows.instances (rows_of w.state.root) phase
  knows_same rows work = record {
    reads = subst (λ r. (zone : ℕ) → AllByRecursion (ReadHolds number w.rows.homes w.rows.instances (rows_of w.state.root) zone) (names_of (r zone))) (sym rows) knew.reads;
    works = subst (WorkHolds w.rows.homes w.rows.instances (rows_of w.state.root)) (sym work) knew.works;
  }

  pub kept_later : (zone : ℕ) (name : List ℕ) (row : Bucket) → rows_of w.state.root zone name ≡ Some row → IsKept number w.rows.homes w.rows.instances zone name row
  kept_later zone name row is =
      let k = j.rows_stand.kept zone name row is in
      let below = k.below in
      record { version = k.version; below = omega (arith, below); named = k.named; over_is = k.over_is }

  pub own_homes : (a : ActorId) (f : FirstEvent) (home : Home) → (put_actor w.phases me phase a).first ≡ Some f → w.rows.homes f.number ≡ Some home → ((put_actor w.phases me phase a).shards 1 f.number).placed ≡ true
  own_homes =
      put_actor_cases (λ a p. (f : FirstEvent) (home : Home) → p.first ≡ Some f → w.rows.homes f.number ≡ Some home → (p.shards 1 f.number).placed ≡ true) w.phases me phase
      (λ f home is made.
      elim (first_was f is) [
        | inl now ↦ let bound = (j.numbers.homes_below f.number home made).0 in absurd (omega (arith, now, bound))
        | inr was ↦ placed_stays (w.phases me).shards (w.phases me) op reply 1 f.number (j.rows_stand.own_home me f home was made)
      ]) (λ a f home is made. j.rows_stand.own_home a f home is made)

  pub own_instances : (a : ActorId) (zone container : ℕ) (f : FirstEvent) (instance : Instance) → (put_actor w.phases me phase a).first ≡ Some f → w.rows.instances zone container f.number ≡ Some instance → ((put_actor w.phases me phase a).shards zone container).placed ≡ true
  own_instances =
      put_actor_cases (λ a p. (zone container : ℕ) (f : FirstEvent) (instance : Instance) → p.first ≡ Some f → w.rows.instances zone container f.number ≡ Some instance → (p.shards zone container).placed ≡ true) w.phases me phase
      (λ zone container f instance is placed.
      elim (first_was f is) [
        | inl now ↦ let bound = j.numbers.instances_below zone container f.number instance placed in absurd (omega (arith, now, bound))
        | inr was ↦ placed_stays (w.phases me).shards (w.phases me) op reply zone container (j.rows_stand.own_instance me zone container f instance was placed)
      ]) (λ a zone container f instance is placed. j.rows_stand.own_instance a zone container f instance is placed)

  -- the tables as they were
  pub rows_stay : Knows number w.rows.homes w.rows.instances (rows_of w.state.root) phase → RowsStand number w.rows.homes w.rows.instances (rows_of w.state.root) (put_actor w.phases me phase)
  rows_stay knows = record {
    kept = kept_later;
    knows = put_actor_cases (λ a p. Knows number w.rows.homes w.rows.instances (rows_of w.state.root) p) w.phases me phase knows
        (λ a. knows_on w.state.count w.rows.homes w.rows.homes w.rows.instances w.rows.instances (rows_of w.state.root) (rows_of w.state.root) (nothing_moves w.state.count w.rows.homes w.rows.instances (rows_of w.state.root)) j.rows_stand.homed (w.phases a) (j.rows_stand.knows a));
    in_row = j.rows_stand.in_row;
    homed = j.rows_stand.homed;
    own_home = own_homes;
    own_instance = own_instances;
  }

-- a bucket read shows the row that is kept, or none
module _ (w : World) (j : IndexHolds w) (me : ActorId) (zone : ℕ) (name : List ℕ) where
  abbrev after : ℕ
  after = w.state.count + 1

  -- what is kept is read as it is
  read_now : (o : Option Bucket) → rows_of w.state.root zone name ≡ o → ReadHolds after w.rows.homes w.rows.instances (rows_of w.state.root) zone (name, record { row = o; at = after })
  read_now o is = record {
    past = omega arith;
    shown = λ row at_row.
        let k = j.rows_stand.kept zone name row (is ∙ at_row) in
        let below = k.below in
        record { version = k.version; below = omega (arith, below); named = k.named; same = λ kept there version. same_in (sym there ∙ is ∙ at_row) };
    gone = λ one c home made name_is before not_shown stands.
        let homes : home ≡ stands.home = same_in (sym made ∙ stands.made) in
        let there : rows_of w.state.root zone name ≡ Some stands.row = (λ i. rows_of w.state.root (one i) ((sym name_is ∙ ap (λ (h : Home). h.name) homes) i)) ∙ stands.kept in
        not_shown stands.row (sym is ∙ there) stands.id_is;
  }

  pub read_named : (moment : ℕ) (op : Op) (reply : Reply) (o : Option Bucket) → rows_of w.state.root zone name ≡ o
      → (learnt (w.phases me) op reply after (clock_at w.state.clock moment)).rows ≡ with_read (w.phases me).rows zone name o after → (learnt (w.phases me) op reply after (clock_at w.state.clock moment)).work ≡ (w.phases me).work
      → Knows after w.rows.homes w.rows.instances (rows_of w.state.root) (learnt (w.phases me) op reply after (clock_at w.state.clock moment))
  read_named moment op reply o is rows work =
      let old = knew w j me moment op reply in
      record {
        reads = subst (λ r. (z : ℕ) → AllByRecursion (ReadHolds after w.rows.homes w.rows.instances (rows_of w.state.root) z) (names_of (r z))) (sym rows)
            (put_cases (λ z rows. AllByRecursion (ReadHolds after w.rows.homes w.rows.instances (rows_of w.state.root) z) (names_of rows)) (w.phases me).rows zone _
            (all_with_name (ReadHolds after w.rows.homes w.rows.instances (rows_of w.state.root) zone) ((w.phases me).rows zone) name (record { row = o; at = after }) (read_now o is) (old.reads zone)) old.reads);
        works = subst (WorkHolds w.rows.homes w.rows.instances (rows_of w.state.root)) (sym work) old.works;
      }
