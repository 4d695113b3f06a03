-- A swap that is done makes a row: its instance is new, and so are the names of its container in the zone.
use Rattle.std.proofs.Common.{◌≡◌, ◌⊎◌, inl, inr, ℕ, ◌+◌, ◌==◌, ◌≤◌, true, false, cond, List, Option, Some, None, refl, sym, subst, ap, ◌∙◌, arith}
use Rattle.std.proofs.lemmas.Bool.{true≢false}
use Rattle.rgw_types.specs.declared.pool_key.Key.{Key}
use Rattle.object_words.specs.declared.bucket.Bucket.{Bucket}
use Rattle.object_words.specs.Keys.{put, container_of, instance_of}
use Rattle.object_words.specs.Entries.{no_entry}
use Rattle.object_words.specs.Logs.{Log}
use Rattle.object_words.specs.Names.{at}
use Rattle.object_words.specs.Roots.{Root, shared_after, stored}
use Rattle.object_words.proofs.KeyLemmas.{number_itself}
use Rattle.realm_model.specs.Facts.{TagNote, Home, Instance}
use Rattle.realm_model.specs.Phases.{ActorId, FirstEvent, Phase}
use Rattle.realm_model.specs.Learnt.{put_bundle, row_known, worked, first_after, learnt}
use Rattle.realm_model.specs.States.{clock_at}
use Rattle.realm_model.specs.Steps.{is_master}
use Rattle.realm_model.specs.Worlds.{World, same_actor, put_actor, with_home, instance_in}
use Rattle.realm_model.specs.declared.op.Op.{Op}
use Rattle.realm_model.specs.declared.op.Op.TheVariants.{BucketSwap}
use Rattle.realm_model.specs.declared.event.Reply.TheVariants.{Done}
use Rattle.realm_model.proofs.ObjectLemmas.{number_same, actor_itself}
use Rattle.index_law.specs.Tables.{entries_of, heads_of, rows_of, Instances, changes_of, IsMadeContainer, Stands, StandsIn}
use Rattle.index_law.specs.Rows.{IsNamed, IsInRow, IsKept}
use Rattle.index_law.specs.Works.{WorkHolds}
use Rattle.index_law.specs.Agreements.{Agreement, Agreements}
use Rattle.index_law.specs.Invariants.{Index, IndexHolds}
use Rattle.index_law.proofs.Puts.{phase_cases}
use Rattle.index_law.proofs.NumberLaws.{homes_more, instances_more}
use Rattle.index_law.proofs.RowLaws.{HomesGrow, RowsMove, same_in, kept_on, works_on, placed_stays}
use Rattle.index_law.proofs.Moving.{with_root, row_back, row_here, row_else, knows_now, moved}

pub bundle_here : {A : Type 0} (f : ℕ → ℕ → ℕ → A) (z c i : ℕ) (x : A) → put_bundle f z c i x z c i ≡ x
bundle_here f z c i x = rw (number_itself z, number_itself c, number_itself i) refl

-- a value is the one that was put, at its place, or was there
pub bundle_back : {A : Type 0} (f : ℕ → ℕ → ℕ → A) (z c i : ℕ) (x : A) (z' c' i' : ℕ) (y : A) → put_bundle f z c i x z' c' i' ≡ y → (f z' c' i' ≡ y) ⊎ ((z ≡ z') × (c ≡ c') × (i ≡ i') × (x ≡ y))
bundle_back {A} f z c i x z' c' i' y is =
    elim (z == z') as (λ b. (z == z') ≡ b → cond b (put (f z) c (put (f z c) i x)) (f z') c' i' ≡ y → (f z' c' i' ≡ y) ⊎ ((z ≡ z') × (c ≡ c') × (i ≡ i') × (x ≡ y))) [
      | true ↦ λ at_z inner.
          let zs = number_same z z' at_z in
          elim (c == c') as (λ b. (c == c') ≡ b → cond b (put (f z c) i x) (f z c') i' ≡ y → (f z' c' i' ≡ y) ⊎ ((z ≡ z') × (c ≡ c') × (i ≡ i') × (x ≡ y))) [
            | true ↦ λ at_c more.
                let cs = number_same c c' at_c in
                elim (i == i') as (λ b. (i == i') ≡ b → cond b x (f z c i') ≡ y → (f z' c' i' ≡ y) ⊎ ((z ≡ z') × (c ≡ c') × (i ≡ i') × (x ≡ y))) [
                  | true ↦ λ at_i last. inr (zs, cs, number_same i i' at_i, last)
                  | false ↦ λ other last. inl ((λ k. f (sym zs k) (sym cs k) i') ∙ last)
                ] refl more
            | false ↦ λ other more. inl (ap (λ k. f k c' i') (sym zs) ∙ more)
          ] refl inner
      | false ↦ λ other there. inl there
    ] refl is

-- where the name of the container's home comes from: zone 1 gives it, and the others take it over
abbrev pub HomeFrom : (ℕ → Option Home) → ℕ → ℕ → List ℕ → Bucket → Type 0
HomeFrom homes zone first name b =
    ((is_master zone ≡ true) × (first ≡ b.id)) ⊎ ((is_master zone ≡ false) × ((home : Home) × (homes b.id ≡ Some home) × (home.name ≡ name) × (home.at ≤ b.shared)))

module _ (w : World) (j : IndexHolds w) (me : ActorId) (moment : ℕ) (zone : ℕ) (name : List ℕ) (b : Bucket) (log : Log) (f : FirstEvent) (first_is : (w.phases me).first ≡ Some f) (instance_is : f.number ≡ b.instance)
    (not_placed : ((w.phases me).shards zone b.id).placed ≡ false) (idle : b.busy ≡ None) (some : 1 ≤ b.shards) (from : HomeFrom w.rows.homes zone f.number name b) (free : rows_of w.state.root zone name ≡ None) (known : row_known ((w.phases me).rows zone) name ≡ None) where
  abbrev number : ℕ
  number = w.state.count + 1

  abbrev now : ℕ
  now = clock_at w.state.clock moment

  abbrev op : Op
  op = BucketSwap zone name 0 (Some b)

  abbrev phase : Phase
  phase = learnt (w.phases me) op Done number now

  abbrev phases : ActorId → Phase
  phases = put_actor w.phases me phase

  abbrev row : Bucket
  row = stored (at (w.state.root zone).buckets name) b (is_master zone) number

  abbrev root : ℕ → Root
  root = with_root w.state.root zone name (Some row) log

  abbrev instance : Instance
  instance = instance_in b

  abbrev home : Home
  home = record { name = name; at = number }

  abbrev homes : ℕ → Option Home
  homes = with_home w.rows.homes zone name 0 (Some b) number

  abbrev instances : Instances
  instances = put_bundle w.rows.instances zone b.id b.instance (Some instance)

  -- ---- the tables

  no_home : (x : Home) → f.number ≡ b.id → is_master zone ≡ true → w.rows.homes b.id ≡ Some x → ⊥
  no_home x same master is =
      let placed = j.rows_stand.own_home me f x first_is (ap w.rows.homes same ∙ is) in
      let at_one : zone ≡ 1 = number_same zone 1 master in
      let here = subst (λ z. ((w.phases me).shards z b.id).placed ≡ true) (sym at_one) (subst (λ c. ((w.phases me).shards 1 c).placed ≡ true) same placed) in
      let none = not_placed in
      cc

  no_instance : (x : Instance) → w.rows.instances zone b.id b.instance ≡ Some x → ⊥
  no_instance x is =
      let placed = j.rows_stand.own_instance me zone b.id f x first_is (ap (λ i. w.rows.instances zone b.id i) instance_is ∙ is) in
      let none = not_placed in
      cc

  homes_are : ((homes ≡ w.rows.homes) × ((x : Home) × (w.rows.homes b.id ≡ Some x) × (x.name ≡ name))) ⊎ ((homes ≡ put w.rows.homes b.id (Some home)) × (is_master zone ≡ true) × (f.number ≡ b.id))
  homes_are =
      elim from [
        | inl one ↦ inr (rw one.0 refl, one.0, one.1)
        | inr other ↦ inl (rw other.0 refl, (other.1.0, other.1.1, other.1.2))
      ]

  homes_grow : HomesGrow w.rows.homes homes
  homes_grow c x is =
      elim homes_are [
        | inl same ↦ ap (λ g. g c) same.0 ∙ is
        | inr new ↦
            ap (λ g. g c) new.0 ∙ (
            elim (b.id == c) as (λ d. (b.id == c) ≡ d → cond d (Some home) (w.rows.homes c) ≡ Some x) [
              | true ↦ λ at_id. absurd (no_home x new.2 new.1 (ap w.rows.homes (number_same b.id c at_id) ∙ is))
              | false ↦ λ other. is
            ] refl)
      ]

  home_here : (x : Home) × (homes b.id ≡ Some x) × (x.name ≡ name)
  home_here =
      elim homes_are [
        | inl same ↦ (same.1.0, ap (λ g. g b.id) same.0 ∙ same.1.1, same.1.2)
        | inr new ↦ (home, ap (λ g. g b.id) new.0 ∙ rw (number_itself b.id) refl, refl)
      ]

  homes_back : (c : ℕ) (x : Home) → homes c ≡ Some x → (w.rows.homes c ≡ Some x) ⊎ ((b.id ≡ c) × (is_master zone ≡ true) × (f.number ≡ b.id) × (home ≡ x))
  homes_back c x is =
      elim homes_are [
        | inl same ↦ inl (ap (λ g. g c) (sym same.0) ∙ is)
        | inr new ↦
            elim (b.id == c) as (λ d. (b.id == c) ≡ d → cond d (Some home) (w.rows.homes c) ≡ Some x → (w.rows.homes c ≡ Some x) ⊎ ((b.id ≡ c) × (is_master zone ≡ true) × (f.number ≡ b.id) × (home ≡ x))) [
              | true ↦ λ at_id here. inr (number_same b.id c at_id, new.1, new.2, cc)
              | false ↦ λ other there. inl there
            ] refl (ap (λ g. g c) (sym new.0) ∙ is)
      ]

  -- the number of the shared part is not below the home's
  since : (x : Home) → homes b.id ≡ Some x → x.at ≤ row.shared
  since x is =
      let shared : row.shared ≡ shared_after None b (is_master zone) number = ap (λ o. shared_after o b (is_master zone) number) free in
      elim from [
        | inl one ↦
            let here : home ≡ x = same_in (sym (rw (one.0, number_itself b.id) refl) ∙ is) in
            let made = ap (λ (h : Home). h.at) here in
            let given : shared_after None b (is_master zone) number ≡ number = rw one.0 refl in
            omega (arith, made, shared, given)
        | inr other ↦
            let here : other.1.0 ≡ x = same_in (sym (rw other.0 other.1.1) ∙ is) in
            let made = ap (λ (h : Home). h.at) here in
            let given : shared_after None b (is_master zone) number ≡ b.shared = rw other.0 refl in
            let low = other.1.3 in
            omega (arith, made, shared, given, low)
      ]

  named_here : IsNamed homes instances zone name row
  named_here =
      let h = home_here in
      record {
        home = h.0;
        made = h.1;
        name_is = h.2;
        since = since h.0 h.1;
        instance = instance;
        placed = bundle_here w.rows.instances zone b.id b.instance (Some instance);
        shards_are = refl;
        some = some;
        over_low = omega arith;
        busy_is = rw idle tt;
      }

  kept_here : (r : Bucket) → ◌≡◌ {A = Option Bucket} (Some row) (Some r) → IsKept number homes instances zone name r
  unfolding named_here
  kept_here r is = subst (λ x. IsKept number homes instances zone name x) (same_in is) (record { version = omega arith; below = omega arith; named = named_here; over_is = refl })

  pub instances_back : (z c i : ℕ) (y : Option Instance) → instances z c i ≡ y → (w.rows.instances z c i ≡ y) ⊎ ((zone ≡ z) × (b.id ≡ c) × (b.instance ≡ i) × (Some instance ≡ y))
  instances_back z c i y is = bundle_back w.rows.instances zone b.id b.instance (Some instance) z c i y is

  -- an instance that was put into a row before is as it was
  instance_stays : (z c i : ℕ) (x : Instance) → w.rows.instances z c i ≡ Some x → instances z c i ≡ Some x
  instance_stays z c i x is =
      elim (instances_back z c i (instances z c i) refl) [
        | inl same ↦ sym same ∙ is
        | inr new ↦ absurd (no_instance x ((λ k. w.rows.instances (new.0 k) (new.1 k) (new.2 k)) ∙ is))
      ]

  pub moves : RowsMove w.state.count w.rows.homes homes w.rows.instances instances (rows_of w.state.root) (rows_of root)
  moves = record {
    homes_grow = homes_grow;
    homes_back = λ c x is.
        elim (homes_back c x is) [
          | inl old ↦ inl old
          | inr new ↦ let late = ap (λ (h : Home). h.at) new.3 in inr (omega (arith, late))
        ];
    rise = λ z c i x is. record { instance = x; placed = instance_stays z c i x is; shards_are = refl; over = omega arith };
    stands_back = stands_back;
    kept_back = λ z n r is.
        elim (row_back w.state.root zone name (Some row) log z n (Some r) is) [
          | inl moved ↦ let late = ap (λ (x : Bucket). x.version) (same_in moved.2) in inr (omega (arith, late))
          | inr there ↦ inl there.0
        ];
    named_back = λ z n r x is placed.
        elim (row_back w.state.root zone name (Some row) log z n (Some r) is) [
          | inl moved ↦
              let same : row ≡ r = same_in moved.2 in
              absurd (no_instance x ((λ k. w.rows.instances (sym moved.0 k) (same k).id (same k).instance) ∙ placed))
          | inr there ↦ record { old = r; kept = there.0; id_is = refl; instance_is = refl; number = omega arith }
        ];
  } where
    stands_back : (c : ℕ) → IsMadeContainer w.rows.homes c → Stands homes (rows_of root) c → StandsIn w c
    stands_back c m stands =
        let same : m.home ≡ stands.home = same_in (sym (homes_grow c m.home m.made) ∙ stands.made) in
        elim (row_back w.state.root zone name (Some row) log 1 (stands.home).name (Some stands.row) stands.kept) [
          | inl moved ↦
              let id : b.id ≡ c = ap (λ (x : Bucket). x.id) (same_in moved.2) ∙ stands.id_is in
              elim from [
                | inl one ↦ absurd (no_home m.home one.1 one.0 (ap w.rows.homes id ∙ m.made))
                | inr other ↦ absurd (true≢false (ap is_master moved.0 ∙ other.0))
              ]
          | inr there ↦ record { home = m.home; made = m.made; row = stands.row; kept = ap (λ (h : Home). rows_of w.state.root 1 h.name) same ∙ there.0; id_is = stands.id_is }
        ]

  -- ---- rows

  placed_now : (phase.shards zone b.id).placed ≡ true
  placed_now = rw (number_itself zone, number_itself b.id) refl

  first_was : (g : FirstEvent) → phase.first ≡ Some g → f ≡ g
  first_was g is = let now_is : Some f ≡ Some g = sym (ap (λ o. first_after o number now) first_is) ∙ is in cc

  -- no other actor has this first event
  mine_alone : (a : ActorId) (g : FirstEvent) → same_actor a me ≡ false → (w.phases a).first ≡ Some g → f.number ≡ g.number → ⊥
  mine_alone a g apart is same =
      let theirs = (j.numbers.firsts_below a g is).1 in
      let own = (j.numbers.firsts_below me f first_is).1 in
      let one : a ≡ me = sym theirs ∙ ap w.stripes.by (sym same) ∙ own in
      let self = subst (λ x. same_actor x me ≡ true) (sym one) (actor_itself me) in
      cc

  kept_now : (z : ℕ) (n : List ℕ) (r : Bucket) → rows_of root z n ≡ Some r → IsKept number homes instances z n r
  kept_now z n r is =
      elim (row_back w.state.root zone name (Some row) log z n (Some r) is) [
        | inl moved ↦ subst (λ y. IsKept number homes instances y n r) (sym moved.0) (subst (λ m. IsKept number homes instances zone m r) (sym moved.1) (kept_here r moved.2))
        | inr there ↦
            let k = j.rows_stand.kept z n r there.0 in
            let placed = (k.named).placed in
            kept_on w.state.count w.rows.homes homes w.rows.instances instances homes_grow z n r (instance_stays z r.id r.instance (k.named).instance placed ∙ sym placed) k
      ]

  in_row_now : (z c i : ℕ) (x : Instance) → instances z c i ≡ Some x → Stands homes (rows_of root) c → IsInRow homes (rows_of root) z c i
  in_row_now z c i x is stands =
      elim (instances_back z c i (Some x) is) [
        | inl old ↦
            let r = j.rows_stand.in_row z c i x old (moves.stands_back c (j.rows_stand.homed z c i x old) stands) in
            let apart : z ≡ zone → (r.home).name ≡ name → ⊥ = λ at_zone at_name. let none = free in let there : rows_of w.state.root zone name ≡ Some r.row = (λ k. rows_of w.state.root (sym at_zone k) (sym at_name k)) ∙ r.kept in absurd cc in
            record { home = r.home; made = homes_grow c r.home r.made; row = r.row; kept = row_else w.state.root zone name (Some row) log z (r.home).name apart ∙ r.kept; id_is = r.id_is; instance_is = r.instance_is }
        | inr new ↦
            let h = home_here in
            record {
              home = h.0;
              made = ap homes (sym new.1) ∙ h.1;
              row = row;
              kept = (λ k. rows_of root (sym new.0 k) (h.2 k)) ∙ row_here w.state.root zone name (Some row) log;
              id_is = new.1;
              instance_is = new.2;
            }
      ]

  homed_now : (z c i : ℕ) (x : Instance) → instances z c i ≡ Some x → IsMadeContainer homes c
  homed_now z c i x is =
      elim (instances_back z c i (Some x) is) [
        | inl old ↦ let m = j.rows_stand.homed z c i x old in record { home = m.home; made = homes_grow c m.home m.made }
        | inr new ↦ let h = home_here in record { home = h.0; made = ap homes (sym new.1) ∙ h.1 }
      ]

  own_home_now : (a : ActorId) (g : FirstEvent) (x : Home) → (phases a).first ≡ Some g → homes g.number ≡ Some x → ((phases a).shards 1 g.number).placed ≡ true
  own_home_now =
      phase_cases (λ a p. (g : FirstEvent) (x : Home) → p.first ≡ Some g → homes g.number ≡ Some x → (p.shards 1 g.number).placed ≡ true) w.phases me phase
      (λ g x is has.
      let same = first_was g is in
      elim (homes_back g.number x has) [
        | inl old ↦ placed_stays (w.phases me).shards (w.phases me) op Done 1 g.number (j.rows_stand.own_home me g x (subst (λ y. (w.phases me).first ≡ Some y) same first_is) old)
        | inr new ↦ subst (λ z. (phase.shards z g.number).placed ≡ true) (number_same zone 1 new.1) (subst (λ c. (phase.shards zone c).placed ≡ true) new.0 placed_now)
      ])
      (λ a apart g x is has.
      elim (homes_back g.number x has) [
        | inl old ↦ j.rows_stand.own_home a g x is old
        | inr new ↦ absurd (mine_alone a g apart is (new.2 ∙ new.0))
      ])

  own_instance_now : (a : ActorId) (z c : ℕ) (g : FirstEvent) (x : Instance) → (phases a).first ≡ Some g → instances z c g.number ≡ Some x → ((phases a).shards z c).placed ≡ true
  own_instance_now =
      phase_cases (λ a p. (z c : ℕ) (g : FirstEvent) (x : Instance) → p.first ≡ Some g → instances z c g.number ≡ Some x → (p.shards z c).placed ≡ true) w.phases me phase
      (λ z c g x is has.
      let same = first_was g is in
      elim (instances_back z c g.number (Some x) has) [
        | inl old ↦ placed_stays (w.phases me).shards (w.phases me) op Done z c (j.rows_stand.own_instance me z c g x (subst (λ y. (w.phases me).first ≡ Some y) same first_is) old)
        | inr new ↦ subst (λ y. (phase.shards y c).placed ≡ true) new.0 (subst (λ d. (phase.shards zone d).placed ≡ true) new.1 placed_now)
      ])
      (λ a apart z c g x is has.
      elim (instances_back z c g.number (Some x) has) [
        | inl old ↦ j.rows_stand.own_instance a z c g x is old
        | inr new ↦ absurd (mine_alone a g apart is (instance_is ∙ new.2))
      ])

  -- ---- the new shards

  -- no tag was prepared for a name of the container in the zone
  no_note : Stands homes (rows_of root) b.id → (tag : ℕ) (note : TagNote) → w.index.tags tag ≡ Some note → note.zone ≡ zone → container_of note.key ≡ b.id → ⊥
  no_note stands tag note is at_zone at_id =
      let p = j.tags_of_prepare.placed tag note is in
      let m = j.rows_stand.homed note.zone (container_of note.key) (instance_of note.key) p.instance p.placed in
      elim from [
        | inl one ↦ no_home m.home one.1 one.0 (ap w.rows.homes (sym at_id) ∙ m.made)
        | inr other ↦
            let stood : StandsIn w b.id = moves.stands_back b.id (record { home = other.1.0; made = other.1.1 }) stands in
            let r = j.rows_stand.in_row note.zone (container_of note.key) (instance_of note.key) p.instance p.placed (subst (StandsIn w) (sym at_id) stood) in
            let same : other.1.0 ≡ r.home = same_in (sym (other.1.1) ∙ ap w.rows.homes (sym at_id) ∙ r.made) in
            let name_is : name ≡ (r.home).name = sym (other.1.2) ∙ ap (λ (h : Home). h.name) same in
            let there : rows_of w.state.root zone name ≡ Some r.row = (λ k. rows_of w.state.root (sym at_zone k) (name_is k)) ∙ r.kept in
            let none = free in
            cc
      ]

  nothing_there : (z : ℕ) (k : Key) (n : List ℕ) → Stands homes (rows_of root) b.id → zone ≡ z → b.id ≡ container_of k → b.instance ≡ instance_of k → Agreement (changes_of w.index.tags) (heads_of w.state.heads z (container_of k) n) (w.index.last z (container_of k) n) (entries_of w.state.shards z k n)
  nothing_there z k n stands at_zone at_id at_instance =
      let no_last : w.index.last z (container_of k) n ≡ None = by_last (w.index.last z (container_of k) n) refl in
      let head = j.changes.none z (container_of k) n no_last in
      subst (λ e. Agreement (changes_of w.index.tags) (heads_of w.state.heads z (container_of k) n) (w.index.last z (container_of k) n) e) (sym empty)
      (subst (λ h. Agreement (changes_of w.index.tags) h (w.index.last z (container_of k) n) no_entry) (sym head)
      (record { agree = inr (refl, (λ t c has is. absurd cc)); not_above = λ live. omega (arith, live); same_row = λ live same. absurd (omega (arith, live)) })) where
        by_last : (o : Option ℕ) → w.index.last z (container_of k) n ≡ o → o ≡ None
        by_last None is = refl
        by_last (Some tag) is =
            let l = j.changes.last_is z (container_of k) n tag is in
            absurd (no_note stands tag l.note l.there (l.zone_is ∙ sym at_zone) (l.container_is ∙ sym at_id))

        empty : entries_of w.state.shards z k n ≡ no_entry
        empty =
            elim (j.tags_of_prepare.held z k n) [
              | inl none ↦ none
              | inr p ↦ absurd (no_instance p.instance ((λ i. w.rows.instances (at_zone i) (at_id i) (at_instance i)) ∙ p.placed))
            ]

  agreements_now : Agreements (Stands homes (rows_of root)) (changes_of w.index.tags) instances (entries_of w.state.shards) (heads_of w.state.heads) w.index.last
  agreements_now z k n p stands =
      elim (instances_back z (container_of k) (instance_of k) (Some p.instance) p.placed) [
        | inl old ↦ j.agreements z k n (record { instance = p.instance; placed = old; key_is = p.key_is }) (moves.stands_back (container_of k) (j.rows_stand.homed z (container_of k) (instance_of k) p.instance old) stands)
        | inr new ↦ nothing_there z k n (subst (Stands homes (rows_of root)) (sym new.1) stands) new.0 new.1 new.2
      ]

  -- ---- all parts

  works_now : WorkHolds homes instances (rows_of root) phase.work
  works_now =
      subst (WorkHolds homes instances (rows_of root)) (sym (ap (λ o. worked (w.phases me).work zone o (Some b)) known))
      (works_on w.state.count w.rows.homes homes w.rows.instances instances (rows_of w.state.root) (rows_of root) moves j.rows_stand.homed (w.phases me).work (j.rows_stand.knows me).works)

  pub swap_done : Index number now (entries_of w.state.shards) (heads_of w.state.heads) (rows_of root) w.index.tags w.index.last homes instances (put w.stripes.by number me) phases
  swap_done =
      let below = (j.numbers.firsts_below me f first_is).0 in
      let first = instance_is in
      let left = (λ i. Some (stored (known i) b (is_master zone) number)) ∙ (λ i. Some (stored (sym free i) b (is_master zone) number)) in
      moved w j me moment zone name 0 (Some b) (Some row) log homes instances moves kept_now
      (knows_now w j me moment zone name 0 (Some b) (Some row) log homes instances moves left kept_here works_now) in_row_now homed_now own_home_now own_instance_now
      (λ c x is.
      elim (homes_back c x is) [
        | inl old ↦ homes_more w j moment c x old
        | inr new ↦
            let id = new.0 in
            let own = new.2 in
            let number_is = ap (λ (h : Home). h.at) (sym new.3) in
            (omega (arith, below, id, own), omega (arith, number_is))
      ])
      (λ z c i x is.
      elim (instances_back z c i (Some x) is) [
        | inl old ↦ instances_more w j moment z c i x old
        | inr new ↦ let at_i = new.2 in omega (arith, below, first, at_i)
      ]) agreements_now
