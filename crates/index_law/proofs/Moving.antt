-- A swap that is done: one row of a zone changes, and what follows for all parts.
use Rattle.std.proofs.Common.{◌≡◌, ◌⊎◌, inl, inr, ⊎_elim, ℕ, ◌+◌, ◌==◌, ◌<◌, ◌≤◌, ◌^◌, true, false, cond, List, Option, Some, None, refl, sym, subst, ap, ◌∙◌, arith}
use Rattle.std.specs.List.{AllByRecursion}
use Rattle.std.proofs.lemmas.Bool.{true≢false}
use Rattle.rgw_types.specs.declared.pool_key.Key.{Key}
use Rattle.object_words.specs.declared.bucket.Bucket.{Bucket}
use Rattle.object_words.specs.Keys.{put, container_of, instance_of}
use Rattle.object_words.specs.Names.{Named, at, entries as names_of}
use Rattle.object_words.specs.Tags.{has_due}
use Rattle.object_words.specs.Logs.{Log}
use Rattle.object_words.specs.Roots.{Root, with_bucket}
use Rattle.object_words.proofs.KeyLemmas.{number_itself, same_text}
use Rattle.object_words.proofs.NameLemmas.{is_name_of, name_itself, at-with_name, at-without_name}
use Rattle.realm_model.specs.Facts.{Home, Instance}
use Rattle.realm_model.specs.Phases.{ActorId, FirstEvent, OwnTag, Sighting, Phase}
use Rattle.realm_model.specs.Learnt.{with_read, left_by_swap, learnt}
use Rattle.realm_model.specs.States.{clock_at}
use Rattle.realm_model.specs.Worlds.{World, put_actor}
use Rattle.realm_model.specs.declared.op.Op.{Op}
use Rattle.realm_model.specs.declared.op.Op.TheVariants.{BucketSwap}
use Rattle.realm_model.specs.declared.event.Reply.TheVariants.{Done}
use Rattle.realm_model.proofs.ObjectLemmas.{number_same, put_cases, put_actor_cases}
use Rattle.index_law.specs.Tables.{entries_of, heads_of, rows_of, Instances, changes_of, IsPlaced, IsMadeContainer, Stands, StandsIn}
use Rattle.index_law.specs.Rows.{IsInRow, IsKept, ReadHolds, Knows}
use Rattle.index_law.specs.Works.{WorkHolds}
use Rattle.index_law.specs.Agreements.{Agreements}
use Rattle.index_law.specs.Sights.{IsSafe}
use Rattle.index_law.specs.Tags.{IsOwn}
use Rattle.index_law.specs.Reads.{StaysTrue}
use Rattle.index_law.specs.Invariants.{Index, IndexHolds}
use Rattle.index_law.proofs.NameLists.{all_with_name}
use Rattle.index_law.proofs.NoteLemmas.{keeps_same}
use Rattle.index_law.proofs.NumberLaws.{entries_more, heads_more, tags_more, numbers_after}
use Rattle.index_law.proofs.RowLaws.{same_in, RowsMove, reads_on, knows_on, placed_rise}
use Rattle.index_law.proofs.EntryLaws.{safe_same}
use Rattle.index_law.proofs.EntryFacts.{due_placed}
use Rattle.index_law.proofs.Events.{clock_rises, count_rises}

-- ---- one row of all

at_changed : (buckets : Named Bucket) (name : List ℕ) (now : Option Bucket) (n : List ℕ) → at (with_bucket buckets name now) n ≡ cond (is_name_of n name) now (at buckets n)
at_changed buckets name (Some row) n = at-with_name buckets name row n
at_changed buckets name None n = at-without_name buckets name n

name_apart : (n name : List ℕ) → is_name_of n name ≡ false → n ≡ name → ⊥
name_apart n name other same = true≢false (sym (subst (λ m. is_name_of n m ≡ true) same (name_itself n)) ∙ other)

zone_apart : (zone z : ℕ) → (zone == z) ≡ false → z ≡ zone → ⊥
zone_apart zone z other same = true≢false (sym (subst (λ y. (zone == y) ≡ true) (sym same) (number_itself zone)) ∙ other)

module _ (root : ℕ → Root) (zone : ℕ) (name : List ℕ) (now : Option Bucket) (log : Log) where
  -- the roots where the row under the name is this one, or none
  abbrev pub with_root : ℕ → Root
  with_root = put root zone (record { buckets = with_bucket (root zone).buckets name now; log = log })

  -- a row afterwards is the one that was put there, or was there elsewhere
  abbrev pub IsMovedOr : ℕ → List ℕ → Option Bucket → Type 0
  IsMovedOr z n o = ((z ≡ zone) × (n ≡ name) × (now ≡ o)) ⊎ ((rows_of root z n ≡ o) × ((z ≡ zone) → (n ≡ name) → ⊥))

  pub row_back : (z : ℕ) (n : List ℕ) (o : Option Bucket) → rows_of with_root z n ≡ o → IsMovedOr z n o
  row_back z n o is =
      elim (zone == z) as (λ b. (zone == z) ≡ b → at (cond b (record { buckets = with_bucket (root zone).buckets name now; log = log }) (root z)).buckets n ≡ o → IsMovedOr z n o) [
        | true ↦ λ at_zone there.
            let same = sym (number_same zone z at_zone) in
            elim (is_name_of n name) as (λ b. is_name_of n name ≡ b → cond b now (at (root zone).buckets n) ≡ o → IsMovedOr z n o) [
              | true ↦ λ at_name here. inl (same, same_text n name at_name, here)
              | false ↦ λ other here. inr (ap (λ y. rows_of root y n) same ∙ here, (λ e f. name_apart n name other f))
            ] refl (sym (at_changed (root zone).buckets name now n) ∙ there)
        | false ↦ λ other there. inr (there, (λ e f. zone_apart zone z other e))
      ] refl is

  pub row_here : rows_of with_root zone name ≡ now
  row_here = rw (number_itself zone) (at_changed (root zone).buckets name now name ∙ rw (name_itself name) refl)

  pub row_else : (z : ℕ) (n : List ℕ) → ((z ≡ zone) → (n ≡ name) → ⊥) → rows_of with_root z n ≡ rows_of root z n
  row_else z n apart =
      elim (row_back z n (rows_of with_root z n) refl) [
        | inl moved ↦ absurd (apart moved.0 moved.1)
        | inr there ↦ sym there.0
      ]

-- ---- one event

module _ (w : World) (j : IndexHolds w) (me : ActorId) (moment : ℕ) (zone : ℕ) (name : List ℕ) (expected : ℕ) (new now : Option Bucket) (log : Log) (homes : ℕ → Option Home) (instances : Instances) where
  abbrev number : ℕ
  number = w.state.count + 1

  abbrev clock : ℕ
  clock = clock_at w.state.clock moment

  abbrev op : Op
  op = BucketSwap zone name expected new

  abbrev phase : Phase
  phase = learnt (w.phases me) op Done number clock

  abbrev phases : ActorId → Phase
  phases = put_actor w.phases me phase

  abbrev root : ℕ → Root
  root = with_root w.state.root zone name now log

  abbrev Moves : Type 0
  Moves = RowsMove w.state.count w.rows.homes homes w.rows.instances instances (rows_of w.state.root) (rows_of root)

  -- what the swap left is read as it is
  left_read : ((row : Bucket) → now ≡ Some row → IsKept number homes instances zone name row) → ReadHolds number homes instances (rows_of root) zone (name, record { row = now; at = number })
  left_read kept = record {
    past = omega arith;
    shown = λ row is.
        let k = kept row is in
        record { version = k.version; below = k.below; named = k.named; same = λ there at_there version. same_in (sym at_there ∙ row_here w.state.root zone name now log ∙ is) };
    gone = λ one c home made name_is before not_shown stands.
        let same : home ≡ stands.home = same_in (sym made ∙ stands.made) in
        let there : rows_of root zone name ≡ Some stands.row = (λ i. rows_of root (one i) ((sym name_is ∙ ap (λ (h : Home). h.name) same) i)) ∙ stands.kept in
        not_shown stands.row (sym (row_here w.state.root zone name now log) ∙ there) stands.id_is;
  }

  module _ (m : Moves) where
    -- what the actor knows, where it knew the row
    pub knows_now : left_by_swap (w.phases me).rows zone name new number ≡ now → ((row : Bucket) → now ≡ Some row → IsKept number homes instances zone name row) → WorkHolds homes instances (rows_of root) phase.work → Knows number homes instances (rows_of root) phase
    knows_now left kept works =
        let old : (z : ℕ) → AllByRecursion (ReadHolds number homes instances (rows_of root) z) (names_of ((w.phases me).rows z)) =
        λ z. reads_on w.state.count w.rows.homes homes w.rows.instances instances (rows_of w.state.root) (rows_of root) m j.rows_stand.homed z (names_of ((w.phases me).rows z)) ((j.rows_stand.knows me).reads z) in
        record {
          reads = subst (λ o. (z : ℕ) → AllByRecursion (ReadHolds number homes instances (rows_of root) z) (names_of (with_read (w.phases me).rows zone name o number z))) (sym left)
              (put_cases (λ z rows. AllByRecursion (ReadHolds number homes instances (rows_of root) z) (names_of rows)) (w.phases me).rows zone _
              (all_with_name (ReadHolds number homes instances (rows_of root) zone) ((w.phases me).rows zone) name (record { row = now; at = number }) (left_read kept) (old zone)) old);
          works = works;
        }

    placed_on : (z : ℕ) (k : Key) (n : List ℕ) → IsPlaced w.rows.instances z k n → IsPlaced instances z k n
    placed_on z k n p = placed_rise w.rows.instances instances m.rise z k n p

    homed_at : (z : ℕ) (k : Key) (n : List ℕ) → IsPlaced w.rows.instances z k n → IsMadeContainer w.rows.homes (container_of k)
    homed_at z k n p = j.rows_stand.homed z (container_of k) (instance_of k) p.instance p.placed

    -- what was seen is safe still: a tag that is due is of a container that zone 1 made before
    sees : (a : ActorId) (z : ℕ) (k : Key) (n : List ℕ) (x : Sighting) → (w.phases a).seen z k n ≡ Some x
        → IsSafe (Stands homes (rows_of root) (container_of k)) number clock w.index.tags (heads_of w.state.heads z (container_of k) n) (w.index.last z (container_of k) n) (entries_of w.state.shards z k n) x
    sees a z k n x is =
        let old = safe_same (StandsIn w (container_of k)) w.state.count w.state.clock number clock w.index.tags w.index.tags (heads_of w.state.heads z (container_of k) n) (w.index.last z (container_of k) n) (entries_of w.state.shards z k n) x (count_rises w j me moment op Done) (clock_rises w j me moment op Done)
        (keeps_same w.index.tags) (j.sights a z k n x is) in
        record {
          past = old.past;
          read_below = old.read_below;
          safe = λ stands due read there. old.safe (m.stands_back (container_of k) (homed_at z k n (due_placed w j z k n x.moment due)) stands) due read there;
        }

    pub moved : ((z : ℕ) (n : List ℕ) (row : Bucket) → rows_of root z n ≡ Some row → IsKept number homes instances z n row)
        → Knows number homes instances (rows_of root) phase
        → ((z c i : ℕ) (x : Instance) → instances z c i ≡ Some x → Stands homes (rows_of root) c → IsInRow homes (rows_of root) z c i)
        → ((z c i : ℕ) (x : Instance) → instances z c i ≡ Some x → IsMadeContainer homes c)
        → ((a : ActorId) (f : FirstEvent) (home : Home) → (phases a).first ≡ Some f → homes f.number ≡ Some home → ((phases a).shards 1 f.number).placed ≡ true)
        → ((a : ActorId) (z c : ℕ) (f : FirstEvent) (x : Instance) → (phases a).first ≡ Some f → instances z c f.number ≡ Some x → ((phases a).shards z c).placed ≡ true)
        → ((container : ℕ) (home : Home) → homes container ≡ Some home → (container ≤ number) × (home.at ≤ number))
        → ((z c i : ℕ) (x : Instance) → instances z c i ≡ Some x → i ≤ number)
        → Agreements (Stands homes (rows_of root)) (changes_of w.index.tags) instances (entries_of w.state.shards) (heads_of w.state.heads) w.index.last
        → Index number clock (entries_of w.state.shards) (heads_of w.state.heads) (rows_of root) w.index.tags w.index.last homes instances (put w.stripes.by number me) phases
    moved kept knows in_row homed own_home own_instance homes_below instances_below agreements =
        let t = j.tags_of_prepare in
        record {
          numbers = numbers_after w j moment me op Done (entries_of w.state.shards) (heads_of w.state.heads) w.index.tags homes instances (entries_more w j moment) (heads_more w j moment) (tags_more w j moment) homes_below instances_below;
          rows_stand = record {
            kept = kept;
            knows = put_actor_cases (λ a p. Knows number homes instances (rows_of root) p) w.phases me phase knows
                (λ a. knows_on w.state.count w.rows.homes homes w.rows.instances instances (rows_of w.state.root) (rows_of root) m j.rows_stand.homed (w.phases a) (j.rows_stand.knows a));
            in_row = in_row;
            homed = homed;
            own_home = own_home;
            own_instance = own_instance;
          };
          tags_of_prepare = record {
            in_entries = t.in_entries;
            placed = λ tag note is. placed_on note.zone note.key note.name (t.placed tag note is);
            held = λ z k n. ⊎_elim (λ none. inl none) (λ p. inr (placed_on z k n p)) (t.held z k n);
            own = put_actor_cases (λ a p. (x : OwnTag) → p.tag ≡ Some x → IsOwn w.index.tags a x) w.phases me phase (t.own me) t.own;
          };
          open_tags = λ tag note is stands still early.
              let rises = clock_rises w j me moment op Done in
              j.open_tags tag note is (m.stands_back (container_of note.key) (homed_at note.zone note.key note.name (t.placed tag note is)) stands) still (omega (arith, early, rises));
          changes = j.changes;
          agreements = agreements;
          sights = put_actor_cases (λ a p. (z : ℕ) (k : Key) (n : List ℕ) (x : Sighting) → p.seen z k n ≡ Some x → IsSafe (Stands homes (rows_of root) (container_of k)) number clock w.index.tags (heads_of w.state.heads z (container_of k) n) (w.index.last z (container_of k) n) (entries_of w.state.shards z k n) x) w.phases me phase (sees me) sees;
          reads = put_actor_cases (λ a p. (z : ℕ) (k : Key) (n : List ℕ) (x : Sighting) → p.seen z k n ≡ Some x → number < 2 ^ 62 → has_due x.moment (entries_of w.state.shards z k n).tags ≡ true → StaysTrue (entries_of w.state.shards z k n) x) w.phases me phase
              (λ z k n x is room due. j.reads me z k n x is (omega (arith, room)) due) (λ a z k n x is room due. j.reads a z k n x is (omega (arith, room)) due);
        }
