-- Calls on the hold of a shard, and the shutting of one that no row names any more.
use Rattle.std.proofs.Common.{◌≡◌, ◌⊎◌, inl, ℕ, ◌+◌, ◌==◌, Bool, true, false, cond, List, Option, Some, None, refl, sym, subst, ap, ◌∙◌, arith}
use Rattle.std.specs.Prelude.{max}
use Rattle.std.specs.List.{AllByRecursion}
use Rattle.rgw_types.specs.declared.pool_key.Key.{Key}
use Rattle.object_words.specs.declared.shard.Hold.TheVariants.{Closing}
use Rattle.object_words.specs.Keys.{put, container_of, instance_of, number_of}
use Rattle.object_words.specs.Names.{at}
use Rattle.object_words.specs.Tags.{has_tag, has_due}
use Rattle.object_words.specs.Entries.{EntryView, no_entry, entry_of}
use Rattle.object_words.specs.Shards.{Shard}
use Rattle.object_words.specs.HoldCalls.{hold_number, taken, released, shut_down}
use Rattle.object_words.proofs.NameLemmas.{at-none}
use Rattle.realm_model.specs.Containers.{entry_in}
use Rattle.realm_model.specs.Phases.{ActorId, OwnTag, OwnNumber, OwnWork, Sighting}
use Rattle.realm_model.specs.Learnt.{with_closed, learnt}
use Rattle.realm_model.specs.States.{clock_at, put_in}
use Rattle.realm_model.specs.Steps.{change_at}
use Rattle.realm_model.specs.Worlds.{World, put_actor}
use Rattle.realm_model.specs.declared.op.Op.{Op}
use Rattle.realm_model.specs.declared.op.Op.TheVariants.{CloseShard, Shut}
use Rattle.realm_model.specs.declared.event.Reply.TheVariants.{Done}
use Rattle.realm_model.proofs.ObjectLemmas.{number_same, put_in_cases, put_bundle_cases, put_actor_cases}
use Rattle.index_law.specs.Tables.{Entries, entries_of, heads_of, rows_of, changes_of, IsPlaced, StandsIn}
use Rattle.index_law.specs.Rows.{Knows}
use Rattle.index_law.specs.Works.{IsBegun, IsCleared, IsRemoved}
use Rattle.index_law.specs.Numbers.{IsNumbered}
use Rattle.index_law.specs.Tags.{IsNoted, IsOwn}
use Rattle.index_law.specs.Agreements.{Agreement}
use Rattle.index_law.specs.Sights.{IsSafe}
use Rattle.index_law.specs.Reads.{StaysTrue}
use Rattle.index_law.specs.Invariants.{Index, IndexHolds}
use Rattle.index_law.proofs.NoteLemmas.{calm_same}
use Rattle.index_law.proofs.NumberLaws.{entries_more, tags_more}
use Rattle.index_law.proofs.RowLaws.{knew, knows_same}
use Rattle.index_law.proofs.Quiets.{Still}
use Rattle.index_law.proofs.Events.{Sees, clock_rises, sees_same, index_after, quiet}

-- ---- entries stay

pub taken_entries : (s : Shard) (id : ℕ) → (taken s id (Closing id)).entries ≡ s.entries
taken_entries s id = by (hold_number s.hold == id) where
  by : (same : Bool) → (cond same s (record s { hold = Closing id; fence = max s.fence (hold_number s.hold) })).entries ≡ s.entries
  by true = refl
  by false = refl

-- a shard whose entries are the same
same_entries : (shards : ℕ → Key → Option Shard) (zone : ℕ) (key : Key) (o : Option Shard) → ((n : List ℕ) → entry_in o n ≡ entry_in (shards zone key) n) → entries_of (put_in shards zone key o) ≡ entries_of shards
same_entries shards zone key o same = λ i z k n. put_in_cases (λ z k x. (n : List ℕ) → entry_in x n ≡ entries_of shards z k n) shards zone key o same (λ z k n. refl) z k n i

pub closed_entries : (shards : ℕ → Key → Option Shard) (zone : ℕ) (key : Key) (s : Shard) (id : ℕ) → shards zone key ≡ Some s → entries_of (put_in shards zone key (Some (taken s id (Closing id)))) ≡ entries_of shards
closed_entries shards zone key s id there =
    same_entries shards zone key (Some (taken s id (Closing id))) (λ n. ap (λ es. entry_of (at es n)) (taken_entries s id) ∙ ap (λ o. entry_in o n) (sym there))

pub released_entries : (shards : ℕ → Key → Option Shard) (zone : ℕ) (key : Key) (id : ℕ) → entries_of (put_in shards zone key (change_at (shards zone key) (λ s. released s id))) ≡ entries_of shards
released_entries shards zone key id = same_entries shards zone key (change_at (shards zone key) (λ s. released s id)) (same (shards zone key)) where
  same : (o : Option Shard) (n : List ℕ) → entry_in (change_at o (λ s. released s id)) n ≡ entry_in o n
  same None n = refl
  same (Some s) n = refl

-- a shard that is shut has no entry
shut_cases : (R : ℕ → Key → List ℕ → EntryView → Type 0) (shards : ℕ → Key → Option Shard) (zone : ℕ) (key : Key) → ((n : List ℕ) → R zone key n no_entry) → ((z : ℕ) (k : Key) (n : List ℕ) → R z k n (entries_of shards z k n))
    → (z : ℕ) (k : Key) (n : List ℕ) → R z k n (entries_of (put_in shards zone key (change_at (shards zone key) shut_down)) z k n)
shut_cases R shards zone key here else =
    put_in_cases (λ z k o. (n : List ℕ) → R z k n (entry_in o n)) shards zone key (change_at (shards zone key) shut_down) (λ n. subst (R zone key n) (sym (none (shards zone key) n)) (here n)) else where
      none : (o : Option Shard) (n : List ℕ) → entry_in (change_at o shut_down) n ≡ no_entry
      none None n = refl
      none (Some s) n = ap entry_of (at-none {X = EntryView} n)

module _ (w : World) (j : IndexHolds w) (me : ActorId) (moment : ℕ) (zone : ℕ) (key : Key) where
  abbrev number : ℕ
  number = w.state.count + 1

  abbrev now : ℕ
  now = clock_at w.state.clock moment

  module _ (id : ℕ) (force : Bool) where
    abbrev closing : Op
    closing = CloseShard zone key id force

    -- a shard that is closed counts under a number that was set before
    knows_closed : Knows number w.rows.homes w.rows.instances (rows_of w.state.root) (learnt (w.phases me) closing Done number now)
    knows_closed =
        let old = knew w j me moment closing Done in
        let h = old.works in
        let work = (w.phases me).work in
        let c = container_of key in
        let i = instance_of key in
        let own = work zone c i in
        let new : OwnWork = record own { begun = put own.begun id (with_closed (own.begun id) (number_of key)) } in
        record {
          reads = old.reads;
          works = record {
            begun = put_bundle_cases (λ z c i (v : OwnWork). (n : ℕ) (x : OwnNumber) → v.begun n ≡ Some x → IsBegun w.rows.instances (rows_of w.state.root) z c i n) work zone c i new
                (λ n x is.
                elim (id == n) as (λ t. (id == n) ≡ t → cond t (with_closed (own.begun id) (number_of key)) (own.begun n) ≡ Some x → IsBegun w.rows.instances (rows_of w.state.root) zone c i n) [
                  | true ↦ λ same here. let was = before (own.begun id) x here in subst (IsBegun w.rows.instances (rows_of w.state.root) zone c i) (number_same id n same) (h.begun zone c i id was.0 was.1)
                  | false ↦ λ other there. h.begun zone c i n x there
                ] refl is) h.begun;
            cleared = put_bundle_cases (λ z c i (v : OwnWork). (n : ℕ) → v.cleared n ≡ true → IsCleared w.rows.instances z c i n) work zone c i new (h.cleared zone c i) h.cleared;
            removed = put_bundle_cases (λ z c i (v : OwnWork). (shards : ℕ) → v.removed ≡ Some shards → IsRemoved w.rows.homes w.rows.instances (rows_of w.state.root) z c i) work zone c i new (h.removed zone c i) h.removed;
          };
        } where
          before : (o : Option OwnNumber) (x : OwnNumber) → with_closed o (number_of key) ≡ Some x → (y : OwnNumber) × (o ≡ Some y)
          before None x is = absurd cc
          before (Some y) x is = (y, refl)

    pub closed_done : Still w me moment closing Done w.index.tags
    closed_done =
        quiet w j me moment closing Done w.index.tags (calm_same w.index.tags) knows_closed (j.tags_of_prepare.own me) (λ a t apart is. j.tags_of_prepare.own a t is)
        (λ z k n s is. sees_same w j me moment closing Done w.index.tags (calm_same w.index.tags).keeps me z k n s is)

  -- ---- a shard of a row that was taken away

  module _ (fallen : StandsIn w (container_of key) → ⊥) where
    abbrev shutting : Op
    shutting = Shut zone key

    abbrev entries_now : Entries
    entries_now = entries_of (put_in w.state.shards zone key (change_at (w.state.shards zone key) shut_down))

    cases : (R : ℕ → Key → List ℕ → EntryView → Type 0) → ((n : List ℕ) → R zone key n no_entry) → ((z : ℕ) (k : Key) (n : List ℕ) → R z k n (entries_of w.state.shards z k n)) → (z : ℕ) (k : Key) (n : List ℕ) → R z k n (entries_now z k n)
    cases R here else = shut_cases R w.state.shards zone key here else

    -- what was seen of an entry is of no use where that is gone
    sees_shut : (a : ActorId) (z : ℕ) (k : Key) (n : List ℕ) (x : Sighting) → (w.phases a).seen z k n ≡ Some x → Sees w j me moment shutting Done w.index.tags entries_now z k n x
    sees_shut a z k n x is =
        let old : (z : ℕ) (k : Key) (n : List ℕ) → (w.phases a).seen z k n ≡ Some x → Sees w j me moment shutting Done w.index.tags (entries_of w.state.shards) z k n x =
        λ z k n seen. sees_same w j me moment shutting Done w.index.tags (calm_same w.index.tags).keeps a z k n x seen in
        record {
          safe = cases (λ z k n v. (w.phases a).seen z k n ≡ Some x → IsSafe (StandsIn w (container_of k)) number now w.index.tags (heads_of w.state.heads z (container_of k) n) (w.index.last z (container_of k) n) v x)
              (λ n seen. let s = (old zone key n seen).safe in record { past = s.past; read_below = s.read_below; safe = λ stands due read there. absurd (fallen stands) }) (λ z k n seen. (old z k n seen).safe) z k n is;
          stays = λ room. cases (λ z k n v. (w.phases a).seen z k n ≡ Some x → has_due x.moment v.tags ≡ true → StaysTrue v x) (λ n seen due. absurd cc) (λ z k n seen. (old z k n seen).stays room) z k n is;
        }

    pub shut_done : Index number now entries_now (heads_of w.state.heads) (rows_of w.state.root) w.index.tags w.index.last w.rows.homes w.rows.instances (put w.stripes.by number me) (put_actor w.phases me (learnt (w.phases me) shutting Done number now))
    shut_done =
        let t = j.tags_of_prepare in
        let clock = clock_rises w j me moment shutting Done in
        index_after w j me moment shutting Done w.index.tags entries_now
        (cases (λ z k n v. IsNumbered number v) (λ n. (omega arith, omega arith)) (entries_more w j moment)) (tags_more w j moment)
        (knows_same w j me moment shutting Done refl refl)
        (record {
          in_entries = cases (λ z k n v. AllByRecursion (IsNoted w.index.tags z k n) v.tags) (λ n. tt) t.in_entries;
          placed = t.placed;
          held = cases (λ z k n v. (v ≡ no_entry) ⊎ IsPlaced w.rows.instances z k n) (λ n. inl refl) t.held;
          own = put_actor_cases (λ a p. (x : OwnTag) → p.tag ≡ Some x → IsOwn w.index.tags a x) w.phases me _ (t.own me) t.own;
        })
        (λ q note is stands still early.
        cases (λ z k n v. note.zone ≡ z → note.key ≡ k → note.name ≡ n → has_tag q (entries_of w.state.shards z k n).tags ≡ true → has_tag q v.tags ≡ true)
        (λ n a b c there. absurd (fallen (subst (λ k. StandsIn w (container_of k)) b stands)))
        (λ z k n a b c there. there) note.zone note.key note.name refl refl refl (j.open_tags q note is stands still (omega (arith, early, clock))))
        j.changes
        (cases (λ z k n v. IsPlaced w.rows.instances z k n → StandsIn w (container_of k) → Agreement (changes_of w.index.tags) (heads_of w.state.heads z (container_of k) n) (w.index.last z (container_of k) n) v) (λ n p stands. absurd (fallen stands)) j.agreements)
        (sees_shut me) sees_shut
