-- A preparation that is done: the entry has a tag more, which is noted.
use Rattle.std.proofs.Common.{◌≡◌, inl, inr, ⊎_elim, ℕ, ◌+◌, ◌<◌, ◌≤◌, ◌&&◌, true, false, List, Option, Some, None, refl, sym, subst, ap, arith}
use Rattle.std.specs.Prelude.{nat_lt}
use Rattle.rgw_types.specs.declared.pool_key.Key.{Key}
use Rattle.object_words.specs.declared.bucket.Bucket.{Bucket}
use Rattle.object_words.specs.declared.entry.Tag.{Tag}
use Rattle.object_words.specs.Hashes.{shard_of}
use Rattle.object_words.specs.Keys.{put, shard_key, container_of}
use Rattle.object_words.specs.Names.{entries as names_of}
use Rattle.object_words.specs.Tags.{has_tag, with_tag, guard_of}
use Rattle.object_words.specs.Entries.{EntryView, with_tags}
use Rattle.object_words.specs.Heads.{Head}
use Rattle.object_words.specs.Shards.{Shard, entry_at, with_entry}
use Rattle.object_words.proofs.KeyLemmas.{same_key, number_itself}
use Rattle.realm_model.specs.Settings.{SettingsView, IsSettings}
use Rattle.realm_model.specs.Tests.{is_so}
use Rattle.realm_model.specs.Containers.{entry_in}
use Rattle.realm_model.specs.Facts.{TagNote}
use Rattle.realm_model.specs.Needs.{has_read, names_shard}
use Rattle.realm_model.specs.Phases.{ActorId, OwnTag, Sighting, pending}
use Rattle.realm_model.specs.Learnt.{learnt}
use Rattle.realm_model.specs.States.{at_moment, clock_at, put_in}
use Rattle.realm_model.specs.Steps.{new_tag}
use Rattle.realm_model.specs.Worlds.{World, put_actor}
use Rattle.realm_model.specs.declared.op.Op.{Op}
use Rattle.realm_model.specs.declared.op.Op.TheVariants.{Prepare}
use Rattle.realm_model.specs.declared.event.Reply.{Reply}
use Rattle.realm_model.specs.declared.event.Reply.TheVariants.{Prepared}
use Rattle.realm_model.proofs.Computing.{right_of}
use Rattle.index_law.specs.Tables.{Entries, entries_of, heads_of, rows_of, Notes, changes_of, change_in, IsPlaced, StandsIn}
use Rattle.index_law.specs.Rows.{ReadHolds}
use Rattle.index_law.specs.Tags.{IsNoted, IsOwn, OpenTags}
use Rattle.index_law.specs.Invariants.{Index, IndexHolds}
use Rattle.index_law.proofs.TagLists.{find_any, has_with, has_new, due_with, all_with}
use Rattle.index_law.proofs.Puts.{entry_here, entry_cases}
use Rattle.index_law.proofs.Tests.{so}
use Rattle.index_law.proofs.NoteLemmas.{keeps_added, added_back, added_changes, noted_more, all_map}
use Rattle.index_law.proofs.NumberLaws.{tags_numbered, tags_more, new_tag_number, clock_early}
use Rattle.index_law.proofs.EntryLaws.{kept_has, prepare_agrees, safe_changed, stays_changed}
use Rattle.index_law.proofs.Owns.{own_added}
use Rattle.index_law.proofs.EntryFacts.{next_is}
use Rattle.index_law.proofs.Events.{clock_rises, count_rises, changes_kept, entry_changed}

-- a row that was read names the shard, so the name belongs into it
pub read_places : (w : World) (j : IndexHolds w) (me : ActorId) (zone : ℕ) (key : Key) (name : List ℕ) → has_read ((w.phases me).rows zone) 0 (names_shard key name) ≡ true → IsPlaced w.rows.instances zone key name
read_places w j me zone key name may =
    let f = find_any (λ e. nat_lt 0 (e.1).at && is_so (e.1).row (names_shard key name)) (ReadHolds w.state.count w.rows.homes w.rows.instances (rows_of w.state.root) zone) (names_of ((w.phases me).rows zone)) may ((j.rows_stand.knows me).reads zone) in
    let r = so ((f.x).1).row (names_shard key name) (right_of (nat_lt 0 ((f.x).1).at) (is_so ((f.x).1).row (names_shard key name)) f.passes) in
    let n = (f.holds.shown r.x r.is).named in
    let row : Bucket = r.x in
    let key_is = same_key (shard_key row.id row.instance (shard_of name row.shards)) key r.passes in
    subst (λ k. IsPlaced w.rows.instances zone k name) key_is
    (record { instance = n.instance; placed = n.placed; key_is = ap (λ count. shard_key row.id row.instance (shard_of name count)) (sym n.shards_are) })

module _ (settings : SettingsView) (good : IsSettings settings) (w : World) (j : IndexHolds w) (me : ActorId) (moment : ℕ) (zone : ℕ) (key : Key) (name : List ℕ) (s : Shard) (as_before : (n : List ℕ) → entry_at s n ≡ entry_in (w.state.shards zone key) n)
    (may : has_read ((w.phases me).rows zone) 0 (names_shard key name) ≡ true) where
  abbrev number : ℕ
  number = w.state.count + 1

  abbrev now : ℕ
  now = clock_at w.state.clock moment

  abbrev t : Tag
  t = new_tag settings (at_moment w.state moment)

  abbrev op : Op
  op = Prepare zone key name

  abbrev reply : Reply
  reply = Prepared (guard_of t)

  abbrev new : TagNote
  new = record { actor = me; zone = zone; key = key; name = name; deadline = t.deadline; change = None; ended = false }

  abbrev tags : Notes
  tags = put w.index.tags number (Some new)

  abbrev before : EntryView
  before = entries_of w.state.shards zone key name

  abbrev head : Head
  head = heads_of w.state.heads zone (container_of key) name

  abbrev last : Option ℕ
  last = w.index.last zone (container_of key) name

  abbrev e : EntryView
  e = with_tags before (with_tag t before.tags)

  abbrev entries_now : Entries
  entries_now = entries_of (put_in w.state.shards zone key (Some (with_entry s name e)))

  not_due : now < t.deadline
  not_due = let life = good.tag_life.least in let early = clock_early w j moment in omega (arith, life, early)

  new_here : tags number ≡ Some new
  new_here = rw (number_itself number) refl

  no_change : changes_of w.index.tags number ≡ None
  no_change = none (w.index.tags number) (new_tag_number w j moment) where
    none : (o : Option TagNote) → ((note : TagNote) → o ≡ Some note → ⊥) → change_in o ≡ None
    none None n = refl
    none (Some note) n = absurd (n note refl)

  -- each open tag is there, the new one too
  open_now : OpenTags (StandsIn w) now tags entries_now
  open_now q note is stands still early =
      ⊎_elim
      (λ same.
      let here = subst (λ v. has_tag number v.tags ≡ true) (sym (entry_here w.state.shards zone key name s e)) (kept_has e number (has_new t before.tags)) in
      subst (λ (n : TagNote). has_tag q (entries_now n.zone n.key n.name).tags ≡ true) same.1 (subst (λ k. has_tag k (entries_now zone key name).tags ≡ true) same.0 here))
      (λ old.
      let rises = clock_rises w j me moment op reply in
      entry_cases (λ z k n v. note.zone ≡ z → note.key ≡ k → note.name ≡ n → has_tag q v.tags ≡ true) w.state.shards zone key name s e as_before
      (λ a b c. kept_has e q (has_with t q before.tags (moved q note old stands still early zone key name a b c)))
      (λ z k n a b c. moved q note old stands still early z k n a b c) note.zone note.key note.name refl refl refl)
      (added_back w.index.tags number new q note is) where
        moved : (q : ℕ) (note : TagNote) → w.index.tags q ≡ Some note → StandsIn w (container_of note.key) → note.ended ≡ false → now < note.deadline → (z : ℕ) (k : Key) (n : List ℕ) → note.zone ≡ z → note.key ≡ k → note.name ≡ n → has_tag q (entries_of w.state.shards z k n).tags ≡ true
        moved q note is stands still early z k n a b c =
            let rises = clock_rises w j me moment op reply in
            let there = j.open_tags q note is stands still (omega (arith, early, rises)) in
            subst (λ z. has_tag q (entries_of w.state.shards z k n).tags ≡ true) a (subst (λ k. has_tag q (entries_of w.state.shards note.zone k n).tags ≡ true) b (subst (λ n. has_tag q (entries_of w.state.shards note.zone note.key n).tags ≡ true) c there))

  own_new : (x : OwnTag) → (learnt (w.phases me) op reply number now).tag ≡ Some x → IsOwn tags me x
  own_new x is =
      let same : record { guard = guard_of t; zone = zone; key = key; name = name; announced = false; change = None; stage = pending } ≡ x = cc in
      subst (λ z. IsOwn tags me z) same
      (record { note = new; there = new_here; actor_is = refl; zone_is = refl; key_is = refl; name_is = refl; deadline_is = refl; change_is = refl; not_ended = λ open_still. refl })

  pub prepare_done : Index number now entries_now (heads_of w.state.heads) (rows_of w.state.root) tags w.index.last w.rows.homes w.rows.instances (put w.stripes.by number me) (put_actor w.phases me (learnt (w.phases me) op reply number now))
  prepare_done =
      let none = new_tag_number w j moment in
      let keeps = keeps_added w.index.tags number new none in
      let same = added_changes w.index.tags number new none refl in
      let placed = read_places w j me zone key name may in
      let late = not_due in
      entry_changed w j me moment op reply tags keeps same zone key name s e as_before placed
      (tags_numbered w.state.count before (with_tag t before.tags) (j.numbers.entries_below zone key name))
      (all_with (IsNoted tags zone key name) t before.tags (record { note = new; there = new_here; zone_is = refl; key_is = refl; name_is = refl; deadline_is = refl })
      (all_map _ _ (λ x. noted_more w.index.tags tags keeps zone key name x) before.tags (j.tags_of_prepare.in_entries zone key name)))
      (λ q note is. ⊎_elim (λ x. let at_number = x.0 in omega (arith, at_number)) (λ old. tags_more w j moment q note old) (added_back w.index.tags number new q note is))
      (λ q note is. ⊎_elim (λ x. subst (λ (n : TagNote). IsPlaced w.rows.instances n.zone n.key n.name) x.1 placed) (λ old. j.tags_of_prepare.placed q note old) (added_back w.index.tags number new q note is))
      own_new (λ a x apart is. own_added w.index.tags number new none a x (j.tags_of_prepare.own a x is)) open_now
      (changes_kept w.index.tags tags (heads_of w.state.heads) w.index.last keeps same
      (λ q note change is made. ⊎_elim (λ x. absurd (let no = ap (λ (n : TagNote). n.change) x.1 in cc)) (λ old. j.changes.below q note change old made) (added_back w.index.tags number new q note is)) j.changes)
      (λ stands. prepare_agrees (changes_of w.index.tags) head last before t no_change)
      (λ x is. let past = is.past in
      safe_changed (StandsIn w (container_of key)) w.state.count w.state.clock number now w.index.tags tags head last before e x (count_rises w j me moment op reply) (clock_rises w j me moment op reply) keeps (due_with t x.moment before.tags (later_than x past))
      (λ stands v l note above last_is there later has. ⊎_elim (λ h. inl (has_with t l before.tags h)) (λ high. inr high) has) is)
      (λ x past room was is_due_now. let below = (j.numbers.entries_below zone key name).1 in
      stays_changed w.state.count before e x (omega (arith, room)) below (next_is w.state.count before.revision below room) (due_with t x.moment before.tags (later_than x past)) was is_due_now)
      refl refl refl where
        later_than : (x : Sighting) → x.moment ≤ w.state.clock → x.moment < t.deadline
        later_than x past = let late = not_due in let rises = clock_rises w j me moment op reply in omega (arith, late, rises, past)
