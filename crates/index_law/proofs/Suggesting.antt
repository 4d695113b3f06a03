-- A suggestion that is done: the tags that were due are taken out, and the row is stored where it is newer.
use Rattle.std.proofs.Common.{◌≡◌, ◌⊎◌, inl, inr, ℕ, ◌+◌, ◌<◌, ◌≤◌, true, List, Option, Some, sym, subst, ap, ◌∙◌, arith}
use Rattle.std.proofs.Math.Decide.{dec_lt}
use Rattle.rgw_types.specs.declared.pool_key.Key.{Key}
use Rattle.object_words.specs.Keys.{put, container_of}
use Rattle.object_words.specs.Rows.{RowView}
use Rattle.object_words.specs.Tags.{has_tag, is_due, has_due, tags_due_taken}
use Rattle.object_words.specs.Entries.{EntryView, with_tags, stored_if_newer}
use Rattle.object_words.specs.Heads.{Head}
use Rattle.object_words.specs.Shards.{Shard, entry_at, with_entry}
use Rattle.realm_model.specs.Containers.{entry_in}
use Rattle.realm_model.specs.Facts.{TagNote}
use Rattle.realm_model.specs.Phases.{ActorId, OwnChange, Sighting}
use Rattle.realm_model.specs.Learnt.{learnt}
use Rattle.realm_model.specs.States.{clock_at, put_in}
use Rattle.realm_model.specs.Worlds.{World, put_actor}
use Rattle.realm_model.specs.declared.op.Op.{Op}
use Rattle.realm_model.specs.declared.event.Reply.TheVariants.{Done}
use Rattle.index_law.specs.Tables.{entries_of, heads_of, rows_of, changes_of, StandsIn}
use Rattle.index_law.specs.Agreements.{HasLast}
use Rattle.index_law.specs.Sights.{Still, Later}
use Rattle.index_law.specs.Invariants.{Index, IndexHolds}
use Rattle.index_law.proofs.TagLists.{any_taken, all_taken}
use Rattle.index_law.proofs.Tests.{Suggests}
use Rattle.index_law.proofs.NoteLemmas.{calm_same}
use Rattle.index_law.proofs.NumberLaws.{stored_numbered, tags_more}
use Rattle.index_law.proofs.EntryLaws.{kept_has, suggest_agrees, safe_changed, stays_changed}
use Rattle.index_law.proofs.EntryFacts.{due_placed, change_below, told_below, last_version, last_changed, not_taken, not_below, next_is}
use Rattle.index_law.proofs.Events.{clock_rises, count_rises, entry_changed, open_changed}

module _ (w : World) (j : IndexHolds w) (me : ActorId) (moment : ℕ) (op : Op) (zone : ℕ) (key : Key) (name : List ℕ) (s : Shard) (as_before : (n : List ℕ) → entry_at s n ≡ entry_in (w.state.shards zone key) n)
    (revision seen version : ℕ) (row : RowView) (saw : Suggests ((w.phases me).seen zone key name) revision seen version row) (due : has_due seen (entries_of w.state.shards zone key name).tags ≡ true)
    (same_rows : (learnt (w.phases me) op Done (w.state.count + 1) (clock_at w.state.clock moment)).rows ≡ (w.phases me).rows)
    (same_work : (learnt (w.phases me) op Done (w.state.count + 1) (clock_at w.state.clock moment)).work ≡ (w.phases me).work)
    (same_seen : (learnt (w.phases me) op Done (w.state.count + 1) (clock_at w.state.clock moment)).seen ≡ (w.phases me).seen)
    (same_tag : (learnt (w.phases me) op Done (w.state.count + 1) (clock_at w.state.clock moment)).tag ≡ (w.phases me).tag) where
  abbrev number : ℕ
  number = w.state.count + 1

  abbrev now : ℕ
  now = clock_at w.state.clock moment

  abbrev before : EntryView
  before = entries_of w.state.shards zone key name

  abbrev head : Head
  head = heads_of w.state.heads zone (container_of key) name

  abbrev last : Option ℕ
  last = w.index.last zone (container_of key) name

  abbrev e : EntryView
  e = stored_if_newer (with_tags before (tags_due_taken seen before.tags)) version row

  abbrev read : OwnChange
  read = record { version = version; row = row }

  past : seen ≤ w.state.clock
  past = subst (λ m. m ≤ w.state.clock) saw.moment_is (j.sights me zone key name saw.s saw.is).past

  version_below : version ≤ w.state.count
  version_below = (j.sights me zone key name saw.s saw.is).read_below read saw.head_is

  known : StandsIn w (container_of key) → Still head read ⊎ Later w.index.tags head last before seen version
  known stands =
      subst (λ m. Still head read ⊎ Later w.index.tags head last before m version) saw.moment_is
      ((j.sights me zone key name saw.s saw.is).safe stands (subst (λ m. has_due m before.tags ≡ true) (sym saw.moment_is) due) read saw.head_is)

  exists : HasLast last before.tags → 0 < head.version
  exists l =
      let c = last_changed w j zone key name l.tag l.last_is in
      let positive = (change_below w j zone key name l.tag c.0 l.there c.1).positive in
      let at_head = last_version w j zone key name l.tag c.0 l.last_is c.1 in
      omega (arith, positive, at_head)

  -- what made another suggestion safe makes it safe still
  stays_safe : StandsIn w (container_of key) → (x : Sighting) (v l : ℕ) (note : TagNote) → v < head.version → last ≡ Some l → w.index.tags l ≡ Some note → x.moment < note.deadline → (has_tag l before.tags ≡ true) ⊎ (v ≤ before.version) → (has_tag l e.tags ≡ true) ⊎ (v ≤ e.version)
  stays_safe stands x v l note above last_is there late (inr high) = let rises = (not_below version before.version).1 in inr (omega (arith, high, rises))
  stays_safe stands x v l note above last_is there late (inl has) =
      elim (dec_lt seen note.deadline) [
        | yes later ↦ inl (not_taken w j zone key name seen l note there later has)
        | no taken ↦
            let stored = (not_below version before.version).0 in
            elim (known stands) [
              | inl still ↦ let at_head = still.version_is (omega (arith, above)) in inr (omega (arith, at_head, above, stored))
              | inr k ↦
                  let tags : Some k.tag ≡ Some l = sym k.last_is ∙ last_is in
                  let tag : k.tag ≡ l = cc in
                  let notes : Some k.note ≡ Some note = sym k.there ∙ ap w.index.tags tag ∙ there in
                  let one : k.note ≡ note = cc in
                  absurd (taken (subst (λ (n : TagNote). seen < n.deadline) one k.late))
            ]
      ]

  pub suggest_done : Index number now (entries_of (put_in w.state.shards zone key (Some (with_entry s name e)))) (heads_of w.state.heads) (rows_of w.state.root) w.index.tags w.index.last w.rows.homes w.rows.instances (put w.stripes.by number me) (put_actor w.phases me (learnt (w.phases me) op Done number now))
  suggest_done =
      let tags = w.index.tags in
      let calm = calm_same tags in
      let clock = clock_rises w j me moment op Done in
      let seen_past = past in
      let placed = due_placed w j zone key name seen due in
      entry_changed w j me moment op Done tags calm.keeps calm.changes zone key name s e as_before placed
      (stored_numbered w.state.count before (tags_due_taken seen before.tags) version row version_below (j.numbers.entries_below zone key name))
      (all_taken _ seen before.tags (j.tags_of_prepare.in_entries zone key name)) (tags_more w j moment) j.tags_of_prepare.placed
      (λ t is. j.tags_of_prepare.own me t (sym same_tag ∙ is)) (λ a t apart is. j.tags_of_prepare.own a t is)
      (open_changed w j me moment op Done tags calm.keeps calm.changes zone key name s e as_before placed
      (λ q note is stands still early z k n a b c.
      let there = j.open_tags q note is stands still (omega (arith, early, clock)) in
      subst (λ z. has_tag q (entries_of w.state.shards z k n).tags ≡ true) a (subst (λ k. has_tag q (entries_of w.state.shards note.zone k n).tags ≡ true) b (subst (λ n. has_tag q (entries_of w.state.shards note.zone note.key n).tags ≡ true) c there)))
      (λ q note is still early h. kept_has e q (not_taken w j zone key name seen q note is (omega (arith, early, clock, seen_past)) h)))
      j.changes
      (λ stands. suggest_agrees (changes_of tags) head last before seen version row (told_below w j zone key name) exists tags (λ tag note there late has. not_taken w j zone key name seen tag note there late has) (known stands))
      (λ x is. safe_changed (StandsIn w (container_of key)) w.state.count w.state.clock number now tags tags head last before e x (count_rises w j me moment op Done) clock calm.keeps (any_taken (is_due x.moment) seen before.tags) (λ stands. stays_safe stands x) is)
      (λ x was_past room was is_due_now. let below = (j.numbers.entries_below zone key name).1 in
      stays_changed w.state.count before e x (omega (arith, room)) below (next_is w.state.count before.revision below room) (any_taken (is_due x.moment) seen before.tags) was is_due_now)
      same_rows same_work same_seen
