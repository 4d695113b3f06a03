-- What the stages of a tag and of a change need may come next.
use Rattle.std.proofs.Common.{◌≡◌, ℕ, ◌<◌, ◌≤◌, ◌⊎◌, inl, inr, ◌==◌, ◌&&◌, ◌||◌, not, Bool, true, false, List, Option, Some, None, refl, sym, ◌∙◌, ap, subst, arith}
use Rattle.std.specs.Prelude.{bytes_eq, is_some}
use Rattle.std.proofs.lemmas.Slice.Eq.{bytes_eq-Decides}
use Rattle.rgw_types.specs.declared.pool_key.Key.{Key}
use Rattle.object_words.specs.declared.bucket.Bucket.{Bucket}
use Rattle.object_words.specs.declared.entry.Guard.{Guard}
use Rattle.object_words.specs.Keys.{container_of, instance_of, number_of, shard_key, is_key}
use Rattle.object_words.specs.Limits.{is_name}
use Rattle.object_words.specs.Names.{at}
use Rattle.object_words.specs.Rows.{RowView}
use Rattle.object_words.proofs.KeyLemmas.{key_itself, number_itself}
use Rattle.realm_model.specs.Settings.{SettingsView}
use Rattle.realm_model.specs.Needs.{object_limit, has_read, read_showed, names_shard, is_pending, is_over, has_no_tag, is_tag_of, is_change, is_shard_of_tag, is_tried_again, is_new_shard, may_change_head}
use Rattle.realm_model.specs.Phases.{OwnTag, RowRead, Stage as TagStage}
use Rattle.realm_model.specs.Tests.{is_so, same_flag, same_guard, same_row, same_stamp}
use Rattle.index_update.specs.Stages.{shard_for, op_of}
use Rattle.index_update.specs.Changes.{has_needs}
use Rattle.index_update.specs.Fits.{Asked, Known, HasName, Carries, IsTagFree, tag_for, changed_tag, ReadSince, FitsAt, MayCome}
use Rattle.index_update.specs.declared.head_change.HeadChange.{HeadChange}
use Rattle.index_update.specs.declared.stage.Change.{Change}
use Rattle.index_update.specs.declared.stage.Tried.{Tried}
use Rattle.index_update.specs.declared.stage.After.{After}
use Rattle.index_update.specs.declared.stage.Stage.TheVariants.{Preparing, Announcing, Writing, Cancelling, Completing, LookingForShard}
use Rattle.index_update.proofs.Looking.{in_realm}
use Rattle.index_update.proofs.Rows.{row_names_since}
use Rattle.index_update.proofs.Effects.{head_zone, head_meets, needs_by}
use Rattle.index_update.proofs.Carrying.{both, either, so}

-- ---- tests that pass

right : (a b : Bool) → b ≡ true → (a || b) ≡ true
right true b two = refl
right false b two = two

text_itself : (a : List ℕ) → bytes_eq a a ≡ true
text_itself a = (bytes_eq-Decides a a).1 refl

flag_itself : (a : Bool) → same_flag a a ≡ true
flag_itself true = refl
flag_itself false = refl

guard_itself : (g : Guard) → same_guard g g ≡ true
guard_itself g = both (g.tag == g.tag) (g.deadline == g.deadline) (number_itself g.tag) (number_itself g.deadline)

row_itself : (a : RowView) → same_row a a ≡ true
row_itself a =
    both (same_flag a.exists a.exists) _ (flag_itself a.exists)
    (both (a.size == a.size) _ (number_itself a.size)
    (both (same_stamp a.stamp a.stamp) _ (both (a.stamp.micros == a.stamp.micros) _ (number_itself a.stamp.micros) (number_itself a.stamp.zone))
    (both (bytes_eq a.etag a.etag) _ (text_itself a.etag) (text_itself a.kind))))

-- the tag is of the name
tag_named : (r : Asked) → (r.target.zone == r.target.zone && bytes_eq r.target.name r.target.name) ≡ true
tag_named r = both (r.target.zone == r.target.zone) (bytes_eq r.target.name r.target.name) (number_itself r.target.zone) (text_itself r.target.name)

free : (tag : Option OwnTag) → IsTagFree tag → has_no_tag tag ≡ true
free None is = refl
free (Some t) is = ap (λ s. not (is_pending s)) is

module _ (settings : SettingsView) (r : Asked) (x : Tried) (k : Known) (low : 1 ≤ r.target.zone) (high : r.target.zone ≤ settings.zones) where
  -- ---- under no tag

  pub may_prepare : (key : Key) (change : HeadChange) → HasName r.target → FitsAt r x (Preparing key change) k → MayCome settings r (Preparing key change) k
  may_prepare key change bounds fits =
      let bucket = (fits.1).row in
      let read : RowRead = record { row = Some bucket; at = (fits.1).number } in
      let later = (fits.1).later in
      let some : 0 < (fits.1).number = omega (arith, later) in
      let rows : has_read (k.phase.rows r.target.zone) 0 (names_shard key r.target.name) ≡ true =
      ap (λ q. has_read (k.phase.rows r.target.zone) 0 (names_shard q r.target.name)) (fits.1).names
      ∙ row_names_since (k.phase.rows r.target.zone) r.target.container r.target.name read bucket 0 (fits.1).read refl some in
      in_realm settings k.phase (op_of r.target (Preparing key change)) low high
      (both (has_no_tag k.phase.tag) _ (free k.phase.tag fits.3)
      (both (is_name object_limit r.target.name) (has_read (k.phase.rows r.target.zone) 0 (names_shard key r.target.name)) bounds rows))

  -- ---- under a tag

  pub may_announce : (key : Key) (guard : Guard) (change : HeadChange) → FitsAt r x (Announcing key guard change) k → MayCome settings r (Announcing key guard change) k
  may_announce key guard change fits =
      let row : Bucket = (fits.1).row in
      let read : RowRead = record { row = Some row; at = (fits.1).number } in
      let own : OwnTag = tag_for r key guard false in
      let again : Key = shard_key (container_of key) (instance_of key) (number_of key) in
      let same : is_key key again ≡ true =
      ap (λ q. is_key q (shard_key (container_of q) (instance_of q) (number_of q))) (fits.1).names ∙ key_itself (shard_for row r.target.name) in
      let tagged : is_so k.phase.tag (λ t. is_pending t.stage && (t.zone == r.target.zone && is_key t.key again)) ≡ true =
      so k.phase.tag own (λ t. is_pending t.stage && (t.zone == r.target.zone && is_key t.key again)) fits.3
      (both (r.target.zone == r.target.zone) (is_key key again) (number_itself r.target.zone) same) in
      let id : (row.id == container_of key) ≡ true = ap (λ q. row.id == container_of q) (fits.1).names ∙ number_itself row.id in
      let shown : read_showed (k.phase.rows r.target.zone) r.target.container (λ q. q.id == container_of key) ≡ true =
      so (at (k.phase.rows r.target.zone) r.target.container) read (λ q. is_so q.row (λ b. b.id == container_of key)) (fits.1).read id in
      in_realm settings k.phase (op_of r.target (Announcing key guard change)) low high
      (both (is_so k.phase.tag (λ t. is_pending t.stage && (t.zone == r.target.zone && is_key t.key again)) || is_new_shard k.phase r.target.zone again)
      (read_showed (k.phase.rows r.target.zone) r.target.container (λ q. q.id == container_of key))
      (either (is_so k.phase.tag (λ t. is_pending t.stage && (t.zone == r.target.zone && is_key t.key again))) (is_new_shard k.phase r.target.zone again) tagged) shown)

  -- what the change needs of the own tails holds still
  needs : (change : HeadChange) → Carries r change k → has_needs k.phase r.target.zone change ≡ true
  needs change is =
      ap (λ c. has_needs k.phase r.target.zone c) is.same
      ∙ needs_by r.target.zone k.phase r.start.phase r.change is.since.own
      ∙ is.needs

  pub may_write : (key : Key) (guard : Guard) (change : HeadChange) → FitsAt r x (Writing key guard change) k → MayCome settings r (Writing key guard change) k
  may_write key guard change fits =
      let own : OwnTag = tag_for r key guard true in
      let free : may_change_head k.phase r.target.zone (container_of key) r.target.name guard ≡ true =
      so k.phase.tag own (λ t. is_pending t.stage && (t.announced && (not (is_some t.change) && (is_tag_of t r.target.zone r.target.name && (container_of t.key == container_of key && same_guard t.guard guard))))) fits.3
      (both (r.target.zone == r.target.zone && bytes_eq r.target.name r.target.name) (container_of key == container_of key && same_guard guard guard) (tag_named r)
      (both (container_of key == container_of key) (same_guard guard guard) (number_itself (container_of key)) (guard_itself guard))) in
      in_realm settings k.phase (op_of r.target (Writing key guard change))
      (subst (λ z. 1 ≤ z) (sym (head_zone r.target.zone (container_of key) r.target.name guard change)) low)
      (subst (λ z. z ≤ settings.zones) (sym (head_zone r.target.zone (container_of key) r.target.name guard change)) high)
      (head_meets settings k.phase r.target.zone (container_of key) r.target.name guard change free (needs change fits.2))

  pub may_cancel : (key : Key) (tag : ℕ) (after : After) → FitsAt r x (Cancelling key tag after) k → MayCome settings r (Cancelling key tag after) k
  may_cancel key tag after fits =
      let guard : Guard = (fits.0).guard in
      let own : OwnTag = tag_for r key guard true in
      let numbered : (guard.tag == tag) ≡ true = ap (λ n. n == tag) (fits.0).numbered ∙ number_itself tag in
      in_realm settings k.phase (op_of r.target (Cancelling key tag after)) low high
      (so k.phase.tag own (λ t. is_pending t.stage && (not (is_some t.change) && (is_tag_of t r.target.zone r.target.name && (t.guard.tag == tag && is_key t.key key)))) (fits.0).tag
      (both (r.target.zone == r.target.zone && bytes_eq r.target.name r.target.name) (guard.tag == tag && is_key key key) (tag_named r)
      (both (guard.tag == tag) (is_key key key) numbered (key_itself key))))

  -- ---- once the head was changed

  -- the shard of the tag, or one that a read since the first answer Moved named
  shard_served : (key : Key) (made : Change) (guard : Guard) (stage : TagStage) → (key ≡ made.home) ⊎ ReadSince r made.home key stage k
      → is_shard_of_tag (changed_tag r made guard stage) (k.phase.rows r.target.zone) key r.target.name ≡ true
  shard_served key made guard stage (inl home) =
      let own : OwnTag = changed_tag r made guard stage in
      either (is_key made.home key) (is_tried_again own (k.phase.rows r.target.zone) key r.target.name stage)
      (ap (λ q. is_key made.home q) home ∙ key_itself made.home)
  shard_served key made guard stage (inr since) =
      let own : OwnTag = changed_tag r made guard stage in
      let read : RowRead = record { row = Some since.row; at = since.number } in
      let rows = k.phase.rows r.target.zone in
      let id : (container_of key == container_of made.home) ≡ true =
      ap (λ q. container_of q == container_of made.home) since.names ∙ ap (λ n. n == container_of made.home) since.of_container ∙ number_itself (container_of made.home) in
      let named : has_read rows since.first (names_shard key r.target.name) ≡ true =
      ap (λ q. has_read rows since.first (names_shard q r.target.name)) since.names
      ∙ row_names_since rows r.target.container r.target.name read since.row since.first since.read refl since.since in
      right (is_key made.home key) (is_tried_again own rows key r.target.name stage)
      (ap (λ s. is_tried_again own rows key r.target.name s) since.is_tried
      ∙ both (container_of key == container_of made.home) (has_read rows since.first (names_shard key r.target.name)) id named)

  pub may_complete : (key : Key) (made : Change) → FitsAt r x (Completing key made) k → MayCome settings r (Completing key made) k
  may_complete key made fits =
      let stage : TagStage = fits.0 in
      let guard : Guard = (fits.1).guard in
      let own : OwnTag = changed_tag r made guard stage in
      let rows = k.phase.rows r.target.zone in
      let numbered : (guard.tag == made.tag) ≡ true = ap (λ n. n == made.tag) (fits.1).numbered ∙ number_itself made.tag in
      let waits : not (is_over stage) ≡ true = ap (λ b. not b) (fits.1).waits in
      let told : (made.version == made.version && same_row made.row made.row) ≡ true = both (made.version == made.version) (same_row made.row made.row) (number_itself made.version) (row_itself made.row) in
      let served : is_shard_of_tag own rows key r.target.name ≡ true = shard_served key made guard stage fits.2 in
      in_realm settings k.phase (op_of r.target (Completing key made)) low high
      (so k.phase.tag own (λ t. not (is_over t.stage) && (is_tag_of t r.target.zone r.target.name && (t.guard.tag == made.tag && (is_change t.change made.version made.row && is_shard_of_tag t rows key r.target.name)))) (fits.1).tag
      (both (not (is_over stage)) _ waits
      (both (r.target.zone == r.target.zone && bytes_eq r.target.name r.target.name) _ (tag_named r)
      (both (guard.tag == made.tag) _ numbered
      (both (made.version == made.version && same_row made.row made.row) (is_shard_of_tag own rows key r.target.name) told served)))))

  pub may_look_for_shard : (made : Change) → FitsAt r x (LookingForShard made) k → MayCome settings r (LookingForShard made) k
  may_look_for_shard made fits = in_realm settings k.phase (op_of r.target (LookingForShard made)) low high refl
