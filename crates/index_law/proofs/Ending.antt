-- A completion or a cancel that is done: the tag ends and is taken out of the entry.
use Rattle.std.proofs.Common.{◌≡◌, ◌≢◌, inl, inr, ℕ, ◌+◌, ◌<◌, ◌≤◌, ⊎_elim, Bool, true, false, List, Option, Some, None, refl, sym, subst, ap, ◌∙◌, arith}
use Rattle.std.specs.List.{list_any, AllByRecursion}
use Rattle.object_words.specs.declared.entry.Tag.{Tag}
use Rattle.object_words.specs.Numbers.{next}
use Rattle.index_law.specs.Numbers.{IsNumbered}
use native.Mathlib.Decide.{ℕ_discrete}
use Rattle.rgw_types.specs.declared.pool_key.Key.{Key}
use Rattle.object_words.specs.Keys.{put, container_of}
use Rattle.object_words.specs.Rows.{RowView}
use Rattle.object_words.specs.Tags.{has_tag, is_due, without_tag}
use Rattle.object_words.specs.Entries.{EntryView, with_tags, stored_if_newer}
use Rattle.object_words.specs.Heads.{Head}
use Rattle.object_words.specs.Shards.{Shard, entry_at, with_entry}
use Rattle.realm_model.specs.Containers.{entry_in}
use Rattle.realm_model.specs.Facts.{TagNote}
use Rattle.realm_model.specs.Phases.{ActorId, OwnChange, over}
use Rattle.realm_model.specs.Learnt.{at_stage, learnt}
use Rattle.realm_model.specs.States.{clock_at, put_in}
use Rattle.realm_model.specs.Worlds.{World, put_actor, ended_note}
use Rattle.realm_model.specs.declared.op.Op.{Op}
use Rattle.realm_model.specs.declared.event.Reply.TheVariants.{Done}
use Rattle.index_law.specs.Tables.{entries_of, heads_of, rows_of, Notes, changes_of, change_in, IsPlaced, StandsIn}
use Rattle.index_law.specs.Tags.{IsNoted}
use Rattle.index_law.specs.Agreements.{Agreement}
use Rattle.index_law.specs.Invariants.{Index, IndexHolds}
use Rattle.index_law.proofs.TagLists.{any_without, all_without, has_without}
use Rattle.index_law.proofs.Puts.{kept_entry}
use Rattle.index_law.proofs.Tests.{OwnsTag}
use Rattle.index_law.proofs.NoteLemmas.{Calm, calm_ended, noted_more, all_map, at_place, open_is_other}
use Rattle.index_law.proofs.NumberLaws.{tags_numbered, stored_numbered, tags_more}
use Rattle.index_law.proofs.EntryLaws.{kept_has, cancel_agrees, complete_agrees, safe_changed, stays_changed}
use Rattle.index_law.proofs.Owns.{own_ended, own_other}
use Rattle.index_law.proofs.EntryFacts.{tag_placed, change_below, told_below, last_version, last_changed, not_below, next_is}
use Rattle.index_law.proofs.Events.{clock_rises, count_rises, changes_calm, entry_changed, open_changed}

module _ (w : World) (j : IndexHolds w) (me : ActorId) (moment : ℕ) (op : Op) (zone : ℕ) (key : Key) (name : List ℕ) (s : Shard) (as_before : (n : List ℕ) → entry_at s n ≡ entry_in (w.state.shards zone key) n)
    (tag : ℕ) (o : OwnsTag (w.phases me) zone name tag) (has : has_tag tag (entries_of w.state.shards zone key name).tags ≡ true)
    (rows : (learnt (w.phases me) op Done (w.state.count + 1) (clock_at w.state.clock moment)).rows ≡ (w.phases me).rows)
    (work : (learnt (w.phases me) op Done (w.state.count + 1) (clock_at w.state.clock moment)).work ≡ (w.phases me).work)
    (seen : (learnt (w.phases me) op Done (w.state.count + 1) (clock_at w.state.clock moment)).seen ≡ (w.phases me).seen)
    (is_over : (learnt (w.phases me) op Done (w.state.count + 1) (clock_at w.state.clock moment)).tag ≡ at_stage (w.phases me).tag over) where
  abbrev number : ℕ
  number = w.state.count + 1

  abbrev now : ℕ
  now = clock_at w.state.clock moment

  abbrev before : EntryView
  before = entries_of w.state.shards zone key name

  abbrev head : Head
  head = heads_of w.state.heads zone (container_of key) name

  abbrev last : Option ℕ
  last = w.index.last zone (container_of key) name

  abbrev tags : Notes
  tags = put w.index.tags tag (ended_note (w.index.tags tag))

  abbrev old : ℕ → Option OwnChange
  old = changes_of w.index.tags

  -- what is left when the tag is taken out
  abbrev Left : EntryView → Type 0
  Left e = Index number now (entries_of (put_in w.state.shards zone key (Some (with_entry s name e)))) (heads_of w.state.heads) (rows_of w.state.root) tags w.index.last w.rows.homes w.rows.instances (put w.stripes.by number me) (put_actor w.phases me (learnt (w.phases me) op Done number now))

  -- an entry without the tag: its version is not below what it was, and where the tag is that of the last change, not below
  -- what was read before it
  ended : (e : EntryView) → e.tags ≡ without_tag tag before.tags → e.revision ≡ next before.revision → IsNumbered number (kept_entry e) → (StandsIn w (container_of key) → Agreement old head last before → Agreement old head last e) → before.version ≤ e.version
      → ((version : ℕ) → version < head.version → last ≡ Some tag → version ≤ e.version) → Left e
  ended e tags_are revision_is numbered agrees rises mine =
      let calm = calm_ended w.index.tags tag in
      let own = j.tags_of_prepare.own me o.t o.is in
      let placed = tag_placed w j zone key name tag has in
      let fewer : (p : Tag → Bool) → list_any p e.tags ≡ true → list_any p before.tags ≡ true = λ p is. any_without p tag before.tags (subst (λ ts. list_any p ts ≡ true) tags_are is) in
      let others : (u : ℕ) → u ≢ tag → has_tag u before.tags ≡ true → has_tag u e.tags ≡ true = λ u n h. subst (λ ts. has_tag u ts ≡ true) (sym tags_are) (has_without tag u before.tags n h) in
      entry_changed w j me moment op Done tags calm.keeps calm.changes zone key name s e as_before placed numbered
      (subst (λ ts. AllByRecursion (IsNoted tags zone key name) ts) (sym tags_are) (all_without _ tag before.tags (all_map _ _ (λ x. noted_more w.index.tags tags calm.keeps zone key name x) before.tags (j.tags_of_prepare.in_entries zone key name))))
      (λ q note is. let b = calm.back q note is in tags_more w j moment q b.note b.there)
      (λ q note is. let b = calm.back q note is in at_place (IsPlaced w.rows.instances) b.note note b.same (j.tags_of_prepare.placed q b.note b.there))
      (λ t is. own_ended w.index.tags me (w.phases me) zone name tag o own t (sym is_over ∙ is))
      (λ a t apart is. own_other ended_note w.index.tags me a tag t own.note (ap w.index.tags (sym o.tag_is) ∙ own.there) own.actor_is apart (j.tags_of_prepare.own a t is))
      (open_changed w j me moment op Done tags calm.keeps calm.changes zone key name s e as_before placed (was_open calm)
      (λ q note is still early h. kept_has e q (others q (open_is_other w.index.tags tag q note is still) h)))
      (changes_calm w.index.tags tags (heads_of w.state.heads) w.index.last calm j.changes) agrees
      (λ x is.
      safe_changed (StandsIn w (container_of key)) w.state.count w.state.clock number now w.index.tags tags head last before e x (count_rises w j me moment op Done) (clock_rises w j me moment op Done) calm.keeps (fewer (is_due x.moment))
      (λ stands version l note above last_is there late has_l.
      elim (ℕ_discrete l tag) [
        | yes same ↦ inr (mine version above (last_is ∙ ap (λ n. Some n) same))
        | no n ↦ ⊎_elim (λ h. inl (others l n h)) (λ v. inr (omega (arith, v, rises))) has_l
      ]) is)
      (λ x past room was due. let below = (j.numbers.entries_below zone key name).1 in
      stays_changed w.state.count before e x (omega (arith, room)) below (revision_is ∙ next_is w.state.count before.revision below room) (fewer (is_due x.moment)) was due)
      rows work seen where
        was_open : Calm w.index.tags tags → (q : ℕ) (note : TagNote) → tags q ≡ Some note → StandsIn w (container_of note.key) → note.ended ≡ false → now < note.deadline → (z : ℕ) (k : Key) (n : List ℕ) → note.zone ≡ z → note.key ≡ k → note.name ≡ n → has_tag q (entries_of w.state.shards z k n).tags ≡ true
        was_open calm q note is stands still early z k n a b c =
            let x = calm.back q note is in
            let deadline = x.same.deadline in
            let rises = clock_rises w j me moment op Done in
            let there = at_place (λ z k n. has_tag q (entries_of w.state.shards z k n).tags ≡ true) x.note note x.same (j.open_tags q x.note x.there (subst (λ k. StandsIn w (container_of k)) (x.same).key stands) (x.still_open still) (omega (arith, early, deadline, rises))) in
            subst (λ z. has_tag q (entries_of w.state.shards z k n).tags ≡ true) a (subst (λ k. has_tag q (entries_of w.state.shards note.zone k n).tags ≡ true) b (subst (λ n. has_tag q (entries_of w.state.shards note.zone note.key n).tags ≡ true) c there))

  -- ---- a cancel

  pub cancel_done : (o.t).change ≡ None → Left (with_tags before (without_tag tag before.tags))
  cancel_done none =
      let own = j.tags_of_prepare.own me o.t o.is in
      let no_change : old tag ≡ None = ap change_in (ap w.index.tags (sym o.tag_is) ∙ own.there) ∙ own.change_is ∙ none in
      let not_last : (l : ℕ) → last ≡ Some l → l ≢ tag = λ l last_is same. let c = last_changed w j zone key name l last_is in let bad = ap old (sym same) ∙ c.1 in cc in
      ended (with_tags before (without_tag tag before.tags)) refl refl (tags_numbered w.state.count before (without_tag tag before.tags) (j.numbers.entries_below zone key name))
      (λ stands. cancel_agrees old head last before tag not_last) (omega arith) (λ version above last_is. absurd (not_last tag last_is refl))

  -- ---- a completion

  pub complete_done : (version : ℕ) (row : RowView) → (o.t).change ≡ Some (record { version = version; row = row }) → Left (stored_if_newer (with_tags before (without_tag tag before.tags)) version row)
  complete_done version row change =
      let own = j.tags_of_prepare.own me o.t o.is in
      let made : old tag ≡ Some (record { version = version; row = row }) = ap change_in (ap w.index.tags (sym o.tag_is) ∙ own.there) ∙ own.change_is ∙ change in
      let below = change_below w j zone key name tag (record { version = version; row = row }) has made in
      let not_above : version ≤ head.version = below.not_above in
      let most = j.numbers.heads_below zone (container_of key) name in
      let mine : last ≡ Some tag → version ≡ head.version = λ last_is. last_version w j zone key name tag (record { version = version; row = row }) last_is made in
      let both = not_below version before.version in
      ended (stored_if_newer (with_tags before (without_tag tag before.tags)) version row) refl refl
      (stored_numbered w.state.count before (without_tag tag before.tags) version row (omega (arith, not_above, most)) (j.numbers.entries_below zone key name))
      (λ stands. complete_agrees old head last before tag version row has made below.positive not_above below.same_row (told_below w j zone key name) mine) both.1
      (λ v above last_is. let at_head = mine last_is in let high = both.0 in omega (arith, above, at_head, high))
