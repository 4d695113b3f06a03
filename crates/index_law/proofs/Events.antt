-- The parts after an event, from what it leaves of entries, notes and its actor's phase.
use Rattle.std.proofs.Common.{◌≡◌, ◌⊎◌, inr, ℕ, ◌+◌, ◌<◌, ◌≤◌, ◌^◌, true, false, List, Some, refl, sym, subst, ap, ◌∙◌, arith}
use Rattle.std.specs.List.{AllByRecursion}
use Rattle.rgw_types.specs.declared.pool_key.Key.{Key}
use Rattle.object_words.specs.Keys.{put, container_of}
use Rattle.object_words.specs.Tags.{has_tag, has_due}
use Rattle.object_words.specs.Entries.{EntryView, no_entry}
use Rattle.object_words.specs.Shards.{Shard, entry_at, with_entry}
use Rattle.realm_model.specs.Facts.{TagNote}
use Rattle.realm_model.specs.Containers.{entry_in}
use Rattle.realm_model.specs.Phases.{ActorId, OwnChange, OwnTag, Sighting, Phase}
use Rattle.realm_model.specs.Learnt.{learnt}
use Rattle.realm_model.specs.States.{clock_at, put_in}
use Rattle.realm_model.specs.Worlds.{World, same_actor, put_actor}
use Rattle.realm_model.specs.declared.op.Op.{Op}
use Rattle.realm_model.specs.declared.event.Reply.{Reply}
use Rattle.realm_model.proofs.ObjectLemmas.{put_actor_cases}
use Rattle.index_law.specs.Tables.{Entries, entries_of, Heads, heads_of, rows_of, Notes, Lasts, changes_of, IsPlaced, StandsIn}
use Rattle.index_law.specs.Numbers.{IsNumbered}
use Rattle.index_law.specs.Rows.{Knows}
use Rattle.index_law.specs.Tags.{IsNoted, IsOwn, TagsOfPrepare, OpenTags}
use Rattle.index_law.specs.Changes.{IsBelow, ChangesBelow}
use Rattle.index_law.specs.Agreements.{Agreement, Agreements}
use Rattle.index_law.specs.Sights.{IsSafe}
use Rattle.index_law.specs.Reads.{StaysTrue}
use Rattle.index_law.specs.Invariants.{Index, IndexHolds}
use Rattle.index_law.proofs.Puts.{kept_entry, entry_cases, phase_cases}
use Rattle.index_law.proofs.NoteLemmas.{Keeps, noted_more, all_map, Calm, at_place, change_stays}
use Rattle.index_law.proofs.NumberLaws.{entries_more, heads_more, tags_more, homes_more, instances_more, numbers_after}
use Rattle.index_law.proofs.RowLaws.{knows_same, rows_stay}
use Rattle.index_law.proofs.EntryLaws.{kept_all, kept_agrees, safe_same}

-- ---- notes that keep their changes

pub changes_kept : (tags tags' : Notes) (heads : Heads) (last : Lasts) → Keeps tags tags' → changes_of tags' ≡ changes_of tags
    → ((tag : ℕ) (note : TagNote) (change : OwnChange) → tags' tag ≡ Some note → note.change ≡ Some change → IsBelow (heads note.zone (container_of note.key) note.name) change)
    → ChangesBelow tags heads last → ChangesBelow tags' heads last
changes_kept tags tags' heads last keeps same below c = record {
  below = below;
  none = c.none;
  last_is = λ zone container name tag is.
      let l = c.last_is zone container name tag is in
      let n = keeps tag l.note l.there in
      record {
        note = n.note;
        there = n.there;
        zone_is = n.same.zone ∙ l.zone_is;
        container_is = ap container_of n.same.key ∙ l.container_is;
        name_is = n.same.name ∙ l.name_is;
        change = l.change;
        made = change_stays tags tags' same tag l.note n.note l.there n.there ∙ l.made;
        version_is = l.version_is;
      };
}

pub changes_calm : (tags tags' : Notes) (heads : Heads) (last : Lasts) → Calm tags tags' → ChangesBelow tags heads last → ChangesBelow tags' heads last
changes_calm tags tags' heads last calm c =
    changes_kept tags tags' heads last calm.keeps calm.changes
    (λ tag note change is made.
    let b = calm.back tag note is in
    at_place (λ z k n. IsBelow (heads z (container_of k) n) change) b.note note b.same (c.below tag b.note change b.there (sym b.change_is ∙ made))) c

module _ (w : World) (j : IndexHolds w) (me : ActorId) (moment : ℕ) (op : Op) (reply : Reply) where
  abbrev number : ℕ
  number = w.state.count + 1

  abbrev now : ℕ
  now = clock_at w.state.clock moment

  abbrev phase : Phase
  phase = learnt (w.phases me) op reply number now

  abbrev phases : ActorId → Phase
  phases = put_actor w.phases me phase

  pub clock_rises : w.state.clock ≤ now
  clock_rises = omega arith

  pub count_rises : w.state.count ≤ number
  count_rises = omega arith

  -- what holds of a sighting after the event
  pub record Sees (tags : Notes) (entries : Entries) (zone : ℕ) (key : Key) (name : List ℕ) (s : Sighting) : Type 0 where
    pub safe : IsSafe (StandsIn w (container_of key)) number now tags (heads_of w.state.heads zone (container_of key) name) (w.index.last zone (container_of key) name) (entries zone key name) s
    pub stays : number < 2 ^ 62 → has_due s.moment (entries zone key name).tags ≡ true → StaysTrue (entries zone key name) s

  -- a sighting of an entry that did not change
  pub sees_same : (tags : Notes) → Keeps w.index.tags tags → (a : ActorId) (zone : ℕ) (key : Key) (name : List ℕ) (s : Sighting) → (w.phases a).seen zone key name ≡ Some s → Sees tags (entries_of w.state.shards) zone key name s
  sees_same tags keeps a zone key name s is = record {
    safe = safe_same (StandsIn w (container_of key)) w.state.count w.state.clock number now w.index.tags tags (heads_of w.state.heads zone (container_of key) name) (w.index.last zone (container_of key) name) (entries_of w.state.shards zone key name) s count_rises clock_rises keeps (j.sights a zone key name s is);
    stays = λ room due. j.reads a zone key name s is (omega (arith, room)) due;
  }

  -- entries are those of each name, tags are what their notes are
  module _ (tags : Notes) (entries : Entries)
      (entries_below : (zone : ℕ) (key : Key) (name : List ℕ) → IsNumbered number (entries zone key name))
      (tags_below : (tag : ℕ) (note : TagNote) → tags tag ≡ Some note → tag ≤ number)
      (knows : Knows number w.rows.homes w.rows.instances (rows_of w.state.root) phase)
      (tags_of_prepare : TagsOfPrepare tags w.rows.instances entries phases)
      (open_tags : OpenTags (StandsIn w) now tags entries)
      (changes : ChangesBelow tags (heads_of w.state.heads) w.index.last)
      (agreements : Agreements (StandsIn w) (changes_of tags) w.rows.instances entries (heads_of w.state.heads) w.index.last)
      (mine : (zone : ℕ) (key : Key) (name : List ℕ) (s : Sighting) → phase.seen zone key name ≡ Some s → Sees tags entries zone key name s)
      (others : (a : ActorId) (zone : ℕ) (key : Key) (name : List ℕ) (s : Sighting) → (w.phases a).seen zone key name ≡ Some s → Sees tags entries zone key name s) where
    sees : (a : ActorId) (zone : ℕ) (key : Key) (name : List ℕ) (s : Sighting) → (phases a).seen zone key name ≡ Some s → Sees tags entries zone key name s
    sees = put_actor_cases (λ a p. (zone : ℕ) (key : Key) (name : List ℕ) (s : Sighting) → p.seen zone key name ≡ Some s → Sees tags entries zone key name s) w.phases me phase mine others

    -- heads and rows are as they were
    pub index_after : Index number now entries (heads_of w.state.heads) (rows_of w.state.root) tags w.index.last w.rows.homes w.rows.instances (put w.stripes.by number me) phases
    index_after = record {
      numbers = numbers_after w j moment me op reply entries (heads_of w.state.heads) tags w.rows.homes w.rows.instances entries_below (heads_more w j moment) tags_below (homes_more w j moment) (instances_more w j moment);
      rows_stand = rows_stay w j me moment op reply knows;
      tags_of_prepare = tags_of_prepare;
      open_tags = open_tags;
      changes = changes;
      agreements = agreements;
      sights = λ a zone key name s is. (sees a zone key name s is).safe;
      reads = λ a zone key name s is. (sees a zone key name s is).stays;
    }

  -- ---- no entry changed

  -- no object changed, and each note keeps its change
  pub quiet : (tags : Notes) → Calm w.index.tags tags
      → Knows number w.rows.homes w.rows.instances (rows_of w.state.root) phase
      → ((t : OwnTag) → phase.tag ≡ Some t → IsOwn tags me t)
      → ((a : ActorId) (t : OwnTag) → same_actor a me ≡ false → (w.phases a).tag ≡ Some t → IsOwn tags a t)
      → ((zone : ℕ) (key : Key) (name : List ℕ) (s : Sighting) → phase.seen zone key name ≡ Some s → Sees tags (entries_of w.state.shards) zone key name s)
      → Index number now (entries_of w.state.shards) (heads_of w.state.heads) (rows_of w.state.root) tags w.index.last w.rows.homes w.rows.instances (put w.stripes.by number me) phases
  quiet tags calm knows own own_others mine =
      let t = j.tags_of_prepare in
      index_after tags (entries_of w.state.shards) (entries_more w j moment)
      (λ tag note is. let b = calm.back tag note is in tags_more w j moment tag b.note b.there) knows
      (record {
        in_entries = λ zone key name. all_map _ _ (λ x. noted_more w.index.tags tags calm.keeps zone key name x) _ (t.in_entries zone key name);
        placed = λ tag note is. let b = calm.back tag note is in at_place (IsPlaced w.rows.instances) b.note note b.same (t.placed tag b.note b.there);
        held = t.held;
        own = phase_cases (λ a p. (x : OwnTag) → p.tag ≡ Some x → IsOwn tags a x) w.phases me phase own (λ a apart x is. own_others a x apart is);
      })
      (λ tag note is stands still early.
      let b = calm.back tag note is in
      let deadline = b.same.deadline in
      let rises = clock_rises in
      at_place (λ z k n. has_tag tag (entries_of w.state.shards z k n).tags ≡ true) b.note note b.same (j.open_tags tag b.note b.there (subst (λ k. StandsIn w (container_of k)) (b.same).key stands) (b.still_open still) (omega (arith, early, deadline, rises))))
      (changes_calm w.index.tags tags (heads_of w.state.heads) w.index.last calm j.changes)
      (subst (λ c. Agreements (StandsIn w) c w.rows.instances (entries_of w.state.shards) (heads_of w.state.heads) w.index.last) (sym calm.changes) j.agreements)
      mine (λ a zone key name s is. sees_same tags calm.keeps a zone key name s is)

  -- ---- one entry changed

  module _ (tags : Notes) (keeps : Keeps w.index.tags tags) (same_changes : changes_of tags ≡ changes_of w.index.tags) (zone : ℕ) (key : Key) (name : List ℕ) (s : Shard) (e : EntryView)
      (there : (n : List ℕ) → entry_at s n ≡ entry_in (w.state.shards zone key) n)
      (in_place : IsPlaced w.rows.instances zone key name) where
    abbrev entries_now : Entries
    entries_now = entries_of (put_in w.state.shards zone key (Some (with_entry s name e)))

    abbrev before : EntryView
    before = entries_of w.state.shards zone key name

    cases : (R : ℕ → Key → List ℕ → EntryView → Type 0) → R zone key name (kept_entry e) → ((z : ℕ) (k : Key) (n : List ℕ) → R z k n (entries_of w.state.shards z k n)) → (z : ℕ) (k : Key) (n : List ℕ) → R z k n (entries_now z k n)
    cases R here else = entry_cases R w.state.shards zone key name s e there here else

    pub entry_changed :
        IsNumbered number (kept_entry e)
        → AllByRecursion (IsNoted tags zone key name) e.tags
        → ((tag : ℕ) (note : TagNote) → tags tag ≡ Some note → tag ≤ number)
        → ((tag : ℕ) (note : TagNote) → tags tag ≡ Some note → IsPlaced w.rows.instances note.zone note.key note.name)
        → ((t : OwnTag) → phase.tag ≡ Some t → IsOwn tags me t)
        → ((a : ActorId) (t : OwnTag) → same_actor a me ≡ false → (w.phases a).tag ≡ Some t → IsOwn tags a t)
        → OpenTags (StandsIn w) now tags entries_now
        → ChangesBelow tags (heads_of w.state.heads) w.index.last
        → (StandsIn w (container_of key) → Agreement (changes_of w.index.tags) (heads_of w.state.heads zone (container_of key) name) (w.index.last zone (container_of key) name) before → Agreement (changes_of w.index.tags) (heads_of w.state.heads zone (container_of key) name) (w.index.last zone (container_of key) name) e)
        → ((x : Sighting) → IsSafe (StandsIn w (container_of key)) w.state.count w.state.clock w.index.tags (heads_of w.state.heads zone (container_of key) name) (w.index.last zone (container_of key) name) before x → IsSafe (StandsIn w (container_of key)) number now tags (heads_of w.state.heads zone (container_of key) name) (w.index.last zone (container_of key) name) (kept_entry e) x)
        → ((x : Sighting) → x.moment ≤ w.state.clock → number < 2 ^ 62 → (has_due x.moment before.tags ≡ true → StaysTrue before x) → has_due x.moment (kept_entry e).tags ≡ true → StaysTrue (kept_entry e) x)
        → phase.rows ≡ (w.phases me).rows → phase.work ≡ (w.phases me).work → phase.seen ≡ (w.phases me).seen
        → Index number now entries_now (heads_of w.state.heads) (rows_of w.state.root) tags w.index.last w.rows.homes w.rows.instances (put w.stripes.by number me) phases
    entry_changed numbered noted tags_below placed own own_others open_tags changes agrees safe stays same_rows same_work same_seen =
        let t = j.tags_of_prepare in
        let sees_now : (a : ActorId) (z : ℕ) (k : Key) (n : List ℕ) (x : Sighting) → (w.phases a).seen z k n ≡ Some x → Sees tags entries_now z k n x =
        λ a z k n x is.
        record {
          safe = cases (λ y q m v. (w.phases a).seen y q m ≡ Some x → IsSafe (StandsIn w (container_of q)) number now tags (heads_of w.state.heads y (container_of q) m) (w.index.last y (container_of q) m) v x)
              (λ seen. safe x (j.sights a zone key name x seen)) (λ y q m seen. (sees_same tags keeps a y q m x seen).safe) z k n is;
          stays = λ room. cases (λ y q m v. (w.phases a).seen y q m ≡ Some x → has_due x.moment v.tags ≡ true → StaysTrue v x)
              (λ seen. stays x (j.sights a zone key name x seen).past room (λ due. j.reads a zone key name x seen (omega (arith, room)) due)) (λ y q m seen. (sees_same tags keeps a y q m x seen).stays room) z k n is;
        } in
        index_after tags entries_now
        (cases (λ z k n v. IsNumbered number v) numbered (entries_more w j moment)) tags_below
        (knows_same w j me moment op reply same_rows same_work)
        (record {
          in_entries = cases (λ z k n v. AllByRecursion (IsNoted tags z k n) v.tags) (kept_all _ e noted) (λ z k n. all_map _ _ (λ x. noted_more w.index.tags tags keeps z k n x) _ (t.in_entries z k n));
          placed = placed;
          held = cases (λ z k n v. (v ≡ no_entry) ⊎ IsPlaced w.rows.instances z k n) (inr in_place) t.held;
          own = phase_cases (λ a p. (x : OwnTag) → p.tag ≡ Some x → IsOwn tags a x) w.phases me phase own (λ a apart x is. own_others a x apart is);
        })
        open_tags changes
        (subst (λ c. Agreements (StandsIn w) c w.rows.instances entries_now (heads_of w.state.heads) w.index.last) (sym same_changes)
        (cases (λ z k n v. IsPlaced w.rows.instances z k n → StandsIn w (container_of k) → Agreement (changes_of w.index.tags) (heads_of w.state.heads z (container_of k) n) (w.index.last z (container_of k) n) v)
        (λ p stands. kept_agrees (changes_of w.index.tags) (heads_of w.state.heads zone (container_of key) name) (w.index.last zone (container_of key) name) e (agrees stands (j.agreements zone key name p stands))) j.agreements))
        (subst (λ f. (z : ℕ) (k : Key) (n : List ℕ) (x : Sighting) → f z k n ≡ Some x → Sees tags entries_now z k n x) (sym same_seen) (sees_now me))
        sees_now

    -- an open tag is in an entry that changed where it is in the new one
    pub open_changed : ((tag : ℕ) (note : TagNote) → tags tag ≡ Some note → StandsIn w (container_of note.key) → note.ended ≡ false → now < note.deadline → (z : ℕ) (k : Key) (n : List ℕ) → note.zone ≡ z → note.key ≡ k → note.name ≡ n → has_tag tag (entries_of w.state.shards z k n).tags ≡ true)
        → ((tag : ℕ) (note : TagNote) → tags tag ≡ Some note → note.ended ≡ false → now < note.deadline → has_tag tag before.tags ≡ true → has_tag tag (kept_entry e).tags ≡ true)
        → OpenTags (StandsIn w) now tags entries_now
    open_changed was stays tag note is stands still early =
        cases (λ z k n v. note.zone ≡ z → note.key ≡ k → note.name ≡ n → has_tag tag v.tags ≡ true)
        (λ a b c. stays tag note is still early (was tag note is stands still early zone key name a b c))
        (λ z k n a b c. was tag note is stands still early z k n a b c) note.zone note.key note.name refl refl refl
