-- What is known of an entry with tags, and what calls on it were not refused.
use Rattle.std.proofs.Common.{◌≡◌, ℕ, ◌+◌, ◌==◌, ◌<◌, ◌≤◌, ◌^◌, ◌&&◌, not, Bool, true, false, cond, List, Option, Some, None, refl, sym, subst, ap, ◌∙◌, arith}
use Rattle.std.specs.Prelude.{nat_lt}
use Rattle.std.proofs.lemmas.Bool.Decides.{nat_tests}
use Rattle.rgw_types.specs.declared.pool_key.Key.{Key}
use Rattle.object_words.specs.declared.why.Why.{Why}
use Rattle.object_words.specs.declared.why.Why.TheVariants.{NoTag, Stale}
use Rattle.object_words.specs.Keys.{container_of}
use Rattle.object_words.specs.Numbers.{next}
use Rattle.object_words.specs.Tags.{has_tag, has_due, is_due, tags_due_taken}
use Rattle.object_words.specs.Entries.{EntryView}
use Rattle.object_words.specs.Heads.{Head}
use Rattle.object_words.specs.Refusals.{first_refusal, change_refusal}
use Rattle.object_words.specs.Shards.{Shard, entry_at}
use Rattle.object_words.specs.ShardCalls.{tag_refusal, stale_refusal, suggest_refusal, untimely_refusal}
use Rattle.realm_model.specs.Facts.{TagNote}
use Rattle.realm_model.specs.Phases.{OwnChange}
use Rattle.realm_model.specs.Steps.{suggest_event_refusal}
use Rattle.realm_model.specs.Worlds.{World}
use Rattle.realm_model.proofs.ObjectLemmas.{number_same}
use Rattle.index_law.specs.Tables.{entries_of, heads_of, changes_of, change_in, IsPlaced}
use Rattle.index_law.specs.Tags.{IsNoted}
use Rattle.index_law.specs.Changes.{IsBelow}
use Rattle.index_law.specs.Agreements.{Told}
use Rattle.index_law.specs.Invariants.{IndexHolds}
use Rattle.index_law.proofs.TagLists.{find_any, taken_has}
use Rattle.index_law.proofs.NoteLemmas.{all_map}

-- ---- what is known of an entry's tags

module _ (w : World) (j : IndexHolds w) (zone : ℕ) (key : Key) (name : List ℕ) where
  abbrev e : EntryView
  e = entries_of w.state.shards zone key name

  abbrev h : Head
  h = heads_of w.state.heads zone (container_of key) name

  -- the note of a tag that is there is of this place
  pub noted_at : (tag : ℕ) → has_tag tag e.tags ≡ true → (note : TagNote) → w.index.tags tag ≡ Some note → (note.zone ≡ zone) × (note.key ≡ key) × (note.name ≡ name)
  noted_at tag has note there =
      let f = find_any (λ x. x.tag == tag) (IsNoted w.index.tags zone key name) e.tags has (j.tags_of_prepare.in_entries zone key name) in
      let n = f.holds in
      let notes : Some n.note ≡ Some note = sym n.there ∙ ap w.index.tags (number_same (f.x).tag tag f.passes) ∙ there in
      let same : n.note ≡ note = cc in
      (ap (λ (x : TagNote). x.zone) (sym same) ∙ n.zone_is, ap (λ (x : TagNote). x.key) (sym same) ∙ n.key_is, ap (λ (x : TagNote). x.name) (sym same) ∙ n.name_is)

  -- a tag that is there has a note
  pub has_note : (tag : ℕ) → has_tag tag e.tags ≡ true → (note : TagNote) × (w.index.tags tag ≡ Some note)
  has_note tag has =
      let f = find_any (λ x. x.tag == tag) (IsNoted w.index.tags zone key name) e.tags has (j.tags_of_prepare.in_entries zone key name) in
      let n = f.holds in
      (n.note, ap w.index.tags (sym (number_same (f.x).tag tag f.passes)) ∙ n.there)

  at_here : (P : ℕ → Key → List ℕ → Type 0) (note : TagNote) → (note.zone ≡ zone) × (note.key ≡ key) × (note.name ≡ name) → P note.zone note.key note.name → P zone key name
  at_here P note is here =
      subst (λ z. P z key name) is.0 (subst (λ k. P note.zone k name) is.1 (subst (λ n. P note.zone note.key n) is.2 here))

  -- the place of an entry with a tag is one of a row
  pub tag_placed : (tag : ℕ) → has_tag tag e.tags ≡ true → IsPlaced w.rows.instances zone key name
  tag_placed tag has =
      let n = has_note tag has in
      at_here (IsPlaced w.rows.instances) n.0 (noted_at tag has n.0 n.1) (j.tags_of_prepare.placed tag n.0 n.1)

  pub due_placed : (moment : ℕ) → has_due moment e.tags ≡ true → IsPlaced w.rows.instances zone key name
  due_placed moment due =
      let f = find_any (is_due moment) (IsNoted w.index.tags zone key name) e.tags due (j.tags_of_prepare.in_entries zone key name) in
      let n = f.holds in
      at_here (IsPlaced w.rows.instances) n.note (n.zone_is, n.key_is, n.name_is) (j.tags_of_prepare.placed (f.x).tag n.note n.there)

  -- a change under a tag that is there is one of this name's head
  pub change_below : (tag : ℕ) (change : OwnChange) → has_tag tag e.tags ≡ true → changes_of w.index.tags tag ≡ Some change → IsBelow h change
  change_below tag change has made =
      let n = has_note tag has in
      at_here (λ z k m. IsBelow (heads_of w.state.heads z (container_of k) m) change) n.0 (noted_at tag has n.0 n.1) (j.changes.below tag n.0 change n.1 (ap change_in (sym n.1) ∙ made))

  pub told_below : Told (changes_of w.index.tags) h.version e.tags
  told_below tag change has made = (change_below tag change has made).not_above

  -- the last change is the head's
  pub last_version : (tag : ℕ) (change : OwnChange) → w.index.last zone (container_of key) name ≡ Some tag → changes_of w.index.tags tag ≡ Some change → change.version ≡ h.version
  last_version tag change last made =
      let l = j.changes.last_is zone (container_of key) name tag last in
      let changes : Some l.change ≡ Some change = sym l.made ∙ ap change_in (sym l.there) ∙ made in
      let same : l.change ≡ change = cc in
      ap (λ (c : OwnChange). c.version) (sym same) ∙ l.version_is

  pub last_changed : (tag : ℕ) → w.index.last zone (container_of key) name ≡ Some tag → (change : OwnChange) × (changes_of w.index.tags tag ≡ Some change)
  last_changed tag last =
      let l = j.changes.last_is zone (container_of key) name tag last in
      (l.change, ap change_in l.there ∙ l.made)

  -- a tag whose deadline is later than the moment is not taken
  pub not_taken : (moment tag : ℕ) (note : TagNote) → w.index.tags tag ≡ Some note → moment < note.deadline → has_tag tag e.tags ≡ true → has_tag tag (tags_due_taken moment e.tags) ≡ true
  not_taken moment tag note there late =
      taken_has moment tag e.tags
      (all_map (IsNoted w.index.tags zone key name) (λ x. x.tag ≡ tag → moment < x.deadline)
      (λ x n same.
      let notes : Some n.note ≡ Some note = sym n.there ∙ ap w.index.tags same ∙ there in
      let one : n.note ≡ note = cc in
      subst (λ d. moment < d) (ap (λ (y : TagNote). y.deadline) (sym one) ∙ n.deadline_is) late) e.tags (j.tags_of_prepare.in_entries zone key name))

-- ---- versions and revisions

pub not_below : (version kept : ℕ) → (version ≤ cond (nat_lt kept version) version kept) × (kept ≤ cond (nat_lt kept version) version kept)
not_below version kept =
    elim (nat_lt kept version) as (λ b. nat_lt kept version ≡ b → (version ≤ cond b version kept) × (kept ≤ cond b version kept)) [
      | true ↦ λ less. let l : kept < version = grind (arith, nat_tests) in (omega arith, omega (arith, l))
      | false ↦ λ not_less. let l : version ≤ kept = grind (arith, nat_tests) in (omega (arith, l), omega arith)
    ] refl

pub next_is : (count n : ℕ) → n ≤ count → count + 1 < 2 ^ 62 → next n ≡ n + 1
next_is count n below room = omega (arith, below, room)

-- a refusal that is none has two parts that are none
pub first_none : (a b : Option Why) → first_refusal a b ≡ None → b ≡ None
first_none None b is = is
first_none (Some why) b is = cc

pub tag_there : (e : EntryView) (tag : ℕ) → tag_refusal e tag ≡ None → has_tag tag e.tags ≡ true
tag_there e tag is =
    elim (has_tag tag e.tags) as (λ b. has_tag tag e.tags ≡ b → cond b None (Some NoTag) ≡ None → has_tag tag e.tags ≡ true) [
      | true ↦ λ has none. has
      | false ↦ λ has none. cc
    ] refl is

-- a suggestion that is done has the revision of the entry, which has a tag that is due
pub record IsTimely (e : EntryView) (revision seen : ℕ) : Type 0 where
  pub revision_is : e.revision ≡ revision
  pub due : has_due seen e.tags ≡ true

due_of : (e : EntryView) (seen : ℕ) (d : Bool) → has_due seen e.tags ≡ d → cond (not d) (Some (Stale e.revision)) None ≡ None → has_due seen e.tags ≡ true
due_of e seen true due none = due
due_of e seen false due none = absurd cc

timely_by : (e : EntryView) (revision seen : ℕ) (b : Bool) → (e.revision == revision) ≡ b → cond b None (Some (Stale e.revision)) ≡ None → cond (b && not (has_due seen e.tags)) (Some (Stale e.revision)) None ≡ None → IsTimely e revision seen
timely_by e revision seen false other bad none = absurd cc
timely_by e revision seen true same ok none = record { revision_is = number_same e.revision revision same; due = due_of e seen (has_due seen e.tags) refl none }

pub timely : (s : Shard) (name : List ℕ) (revision seen : ℕ) → suggest_event_refusal s name revision seen ≡ None → IsTimely (entry_at s name) revision seen
timely s name revision seen is = by_first (untimely_refusal s name revision seen) refl is where
  by_first : (o : Option Why) → untimely_refusal s name revision seen ≡ o → first_refusal o (suggest_refusal s name revision) ≡ None → IsTimely (entry_at s name) revision seen
  by_first (Some why) was bad = absurd cc
  by_first None was ok =
      timely_by (entry_at s name) revision seen ((entry_at s name).revision == revision) refl
      (first_none (change_refusal s) (stale_refusal (entry_at s name) revision) ok) was

-- and is not refused by the call
pub not_stale : (s : Shard) (name : List ℕ) (revision seen : ℕ) → suggest_event_refusal s name revision seen ≡ None → suggest_refusal s name revision ≡ None
not_stale s name revision seen is = first_none (untimely_refusal s name revision seen) (suggest_refusal s name revision) is
