-- A container without changes under way stays so until the next is prepared; and each of its names is listed and counted
-- as its head.
use Rattle.std.proofs.Common.{◌≡◌, ◌≢◌, ⊎_elim, ℕ, ◌≤◌, ◌<◌, ◌==◌, ◌%◌, ◌^◌, true, cond, List, [], ◌∷◌, ◌++◌, length, Option, Some, None, refl, sym, ◌∙◌, ap, subst, arith}
use Rattle.std.proofs.Math.Nat.{mod-lt}
use Rattle.object_words.specs.declared.bucket.Bucket.{Bucket}
use Rattle.object_words.specs.declared.entry.Tag.{Tag}
use Rattle.object_words.specs.Hashes.{hash_of, mixed, shard_of}
use Rattle.rgw_types.specs.declared.pool_key.Key.{Key}
use Rattle.object_words.specs.Entries.{EntryView, no_entry, entry_of}
use Rattle.object_words.specs.Keys.{shard_key, number_of}
use Rattle.object_words.specs.Names.{at}
use Rattle.object_words.specs.Shards.{Shard}
use Rattle.realm_model.specs.Rises.{found_in}
use Rattle.index_law.specs.Tables.{IsPlaced}
use Rattle.index_law.specs.Serving.{IsHeld}
use Rattle.index_law.proofs.Shards.{shards_serve}
use Rattle.object_words.proofs.KeyLemmas.{number_itself}
use Rattle.realm_model.specs.Containers.{with_id, row_at_home, row_in, is_standing, entry_in, entry_of_name, is_settled}
use Rattle.realm_model.specs.Settings.{SettingsView, IsSettings}
use Rattle.realm_model.specs.Worlds.{World, start, happens}
use Rattle.realm_model.specs.Histories.{run, world_of, state_of, Legal}
use Rattle.realm_model.specs.declared.event.Event.{Event}
use Rattle.realm_model.proofs.Runs.{run-append}
use Rattle.index_law.proofs.Consequences.{row_is_of, row_has_shards, shown, listed}
use Rattle.index_law.proofs.Keeping.{holds}
use Rattle.realm_law.specs.Totals.{IsAtRest}
use Rattle.realm_law.proofs.Counting.{objects_counted, bytes_shown}
use Rattle.repair_law.specs.Repaired.{HasNoTags}
use Rattle.repair_law.specs.Settled.{NonePrepares, IsSettled}
use Rattle.repair_law.proofs.Visits.{empty_next}

none_from : (settings : SettingsView) (zone : ℕ) (row : Bucket) (es : List Event) (w : World) → NonePrepares zone row es → HasNoTags w.state zone row → HasNoTags (run settings w es).state zone row
none_from settings zone row [] w calm none = none
none_from settings zone row (e ∷ es) w calm none =
    none_from settings zone row es (happens settings w e) calm.1 (λ number name less. empty_next settings zone [] row w e calm.0 number name less (none number name less))

pub none_later : (settings : SettingsView) (history later : List Event) (zone : ℕ) (row : Bucket) → HasNoTags (state_of settings history) zone row → NonePrepares zone row later → HasNoTags (state_of settings (history ++ later)) zone row
none_later settings history later zone row none calm =
    subst (λ (w : World). HasNoTags w.state zone row) (sym (run-append settings (start settings) history later)) (none_from settings zone row later (world_of settings history) calm none)

pub within : (row : Bucket) → 1 ≤ row.shards → (name : List ℕ) → shard_of name row.shards < row.shards
within row some name = mod-lt (mixed (hash_of name % 2 ^ 32) % 7877) (omega (arith, some))

-- the row under a name is that of its container
pub row_in_here : (settings : SettingsView) (history : List Event) (zone : ℕ) (bucket : List ℕ) (row : Bucket) → IsSettings settings → Legal settings history → at ((state_of settings history).root zone).buckets bucket ≡ Some row
    → row_in (world_of settings history).rows (state_of settings history) zone row.id ≡ Some row
row_in_here settings history zone bucket row good legal kept =
    let st = state_of settings history in
    let n = ((holds settings history good legal).rows_stand.kept zone bucket row kept).named in
    ap (λ o. row_at_home o st zone row.id) n.made
    ∙ ap (λ b. with_id (at (st.root zone).buckets b) row.id) n.name_is
    ∙ ap (λ o. with_id o row.id) kept
    ∙ ap (λ b. cond b (Some row) None) (number_itself row.id)

-- a name has no entry in another shard than that of its hash
module _ (settings : SettingsView) (history : List Event) (good : IsSettings settings) (legal : Legal settings history) (zone container : ℕ) (row : Bucket)
    (is : row_in (world_of settings history).rows (state_of settings history) zone container ≡ Some row) (number : ℕ) (name : List ℕ) where
  abbrev w : World
  w = world_of settings history

  abbrev key : Key
  key = shard_key row.id row.instance number

  placed_there : IsPlaced w.rows.instances zone key name → shard_of name row.shards ≡ number
  placed_there p =
      let r = row_is_of w zone container row is in
      let n = ((holds settings history good legal).rows_stand.kept zone (r.home).name row r.kept).named in
      let same : Some p.instance ≡ Some n.instance = sym p.placed ∙ n.placed in
      let one : p.instance ≡ n.instance = cc in
      sym (ap number_of p.key_is ∙ ap (λ i. shard_of name i.shards) one ∙ ap (shard_of name) n.shards_are)

  blank_entry : (e : EntryView) → IsHeld name e → e ≡ no_entry → ⊥
  blank_entry e held none = let revision = held.revision in let zero = ap (λ (x : EntryView). x.revision) none in absurd (omega (arith, revision, zero))

  found_once : (s : Shard) → w.state.shards zone key ≡ Some s → shard_of name row.shards ≢ number → (o : Option EntryView) → at s.entries name ≡ o → o ≡ None
  found_once s there other None here = refl
  found_once s there other (Some e) here =
      let held = (shards_serve settings history legal).held zone key s there name e here in
      absurd (
      ⊎_elim (λ none. blank_entry e held (sym (ap (λ o. entry_in o name) there ∙ ap entry_of here) ∙ none)) (λ placed. other (placed_there placed))
      ((holds settings history good legal).tags_of_prepare.held zone key name))

  once : shard_of name row.shards ≢ number → found_in (w.state.shards zone key) name ≡ None
  once other =
      elim (w.state.shards zone key) as (λ o. w.state.shards zone key ≡ o → found_in o name ≡ None) [
        | None ↦ λ there. refl
        | Some s ↦ λ there. found_once s there other (at s.entries name) refl
      ] refl

pub settled_at : (settings : SettingsView) (history : List Event) (zone container : ℕ) (row : Bucket) → IsSettings settings → Legal settings history → row_in (world_of settings history).rows (state_of settings history) zone container ≡ Some row
    → is_standing (world_of settings history).rows (state_of settings history) container ≡ true → HasNoTags (state_of settings history) zone row → IsSettled settings history zone container row
settled_at settings history zone container row good legal is stands none =
    let some = row_has_shards settings history zone container row good legal is in
    let settled : (name : List ℕ) → is_settled (entry_of_name (state_of settings history) zone row name) ≡ true =
    λ name. ap (λ (tags : List Tag). length tags == 0) (none (shard_of name row.shards) name (within row some name)) in
    let rests : IsAtRest (world_of settings history) zone container row = record { row_is = is; stands = stands; settled = settled } in
    record {
      shown = λ name. shown settings history zone container name row good legal is stands (settled name);
      listed = λ name. listed settings history zone container name row good legal is stands (settled name);
      once = once settings history good legal zone container row is;
      objects = objects_counted settings history zone container row good legal rests;
      bytes = bytes_shown settings history zone container row good legal rests;
    }
