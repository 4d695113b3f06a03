-- No preparation is refused where all containers are open.
use Rattle.std.proofs.Common.{◌≡◌, ℕ, true, List, [], ◌∷◌, ◌++◌, Some, sym, ◌∙◌, ap, subst}
use Rattle.rgw_types.specs.declared.pool_key.Key.{Key}
use Rattle.object_words.specs.declared.entry.Guard.{Guard}
use Rattle.object_words.specs.Hashes.{shard_of}
use Rattle.object_words.specs.Keys.{shard_key, container_of, instance_of}
use Rattle.object_words.specs.Tags.{guard_of}
use Rattle.object_words.specs.ShardCalls.{prepare_refusal}
use Rattle.realm_model.specs.Settings.{SettingsView, IsSettings}
use Rattle.realm_model.specs.States.{State, at_moment}
use Rattle.realm_model.specs.Steps.{reply_or, on_shard, new_tag, reply_of}
use Rattle.realm_model.specs.Phases.{Phase}
use Rattle.realm_model.specs.Facts.{Instance}
use Rattle.realm_model.specs.Needs.{is_between}
use Rattle.realm_model.specs.Allowed.{meets_need}
use Rattle.realm_model.specs.Ops.{zone_of}
use Rattle.realm_model.specs.Worlds.{actor_of}
use Rattle.realm_model.specs.Histories.{world_of, state_of, phase_of, Legal}
use Rattle.realm_model.specs.declared.op.Op.TheVariants.{Prepare}
use Rattle.realm_model.specs.declared.event.Reply.TheVariants.{Prepared}
use Rattle.realm_model.specs.declared.event.Event.{Event}
use Rattle.realm_model.proofs.Computing.{right_of}
use Rattle.realm_model.proofs.Runs.{last_is_next}
use Rattle.index_law.specs.Invariants.{IndexHolds}
use Rattle.index_law.specs.Serving.{IsMade}
use Rattle.index_law.specs.Tables.{IsPlaced}
use Rattle.index_law.proofs.Tests.{prepares}
use Rattle.index_law.proofs.Consequences.{holds_at, shards_at, stands_of}
use Rattle.index_law.proofs.Served.{open_shards_serve}
use Rattle.index_law.proofs.Preparing.{read_places}
use Rattle.task_list.proofs.Passing.{shard_within}
use Rattle.once_law.specs.Runs.{IsOpen}
use Rattle.once_law.proofs.Calm.{serves_change}

same_some : {X : Type 0} {x y : X} → Some x ≡ Some y → x ≡ y
same_some same = cc

-- a shard that is placed was made, where its container stands
placed_made : (settings : SettingsView) (history later : List Event) (good : IsSettings settings) → Legal settings (history ++ later) → IsOpen settings history
    → (zone : ℕ) (key : Key) (name : List ℕ) → IsPlaced (world_of settings history).rows.instances zone key name → IsMade (state_of settings history).shards zone key
placed_made settings history later good legal opened zone key name placed =
    let j : IndexHolds (world_of settings history) = holds_at settings history later good legal in
    let made = j.rows_stand.homed zone (container_of key) (instance_of key) placed.instance placed.placed in
    let stands = stands_of (world_of settings history) (container_of key) (opened.stand (container_of key) made.home made.made) in
    let in_row = j.rows_stand.in_row zone (container_of key) (instance_of key) placed.instance placed.placed stands in
    let row = in_row.row in
    let named = (j.rows_stand.kept zone in_row.home.name row in_row.kept).named in
    let same : named.instance ≡ placed.instance =
    same_some (sym named.placed ∙ (λ i. (world_of settings history).rows.instances zone (in_row.id_is i) (in_row.instance_is i)) ∙ placed.placed) in
    let shards : placed.instance.shards ≡ row.shards = sym (ap (λ (x : Instance). x.shards) same) ∙ named.shards_are in
    let key_is : shard_key row.id row.instance (shard_of name row.shards) ≡ key =
    (λ i. shard_key (in_row.id_is i) (in_row.instance_is i) (shard_of name (sym shards i))) ∙ sym placed.key_is in
    let made = (shards_at settings history later legal).of_rows zone in_row.home.name row in_row.kept (shard_of name row.shards)
    (shard_within name row.shards named.some) in
    subst (λ k. IsMade (state_of settings history).shards zone k) key_is made

-- so no preparation is refused
pub is_prepared : (settings : SettingsView) (good : IsSettings settings) (history : List Event) (e : Event) → Legal settings (history ++ e ∷ []) → IsOpen settings history
    → (zone : ℕ) (key : Key) (name : List ℕ) → e.op ≡ Prepare zone key name → (guard : Guard) × (e.reply ≡ Prepared guard)
is_prepared settings good history e legal opened zone key name is =
    let next = last_is_next settings history e legal in
    let p : Phase = phase_of settings history (actor_of e) in
    let st : State = at_moment (state_of settings history) e.moment in
    let need = subst (λ o. meets_need settings p o ≡ true) is (right_of (is_between 1 settings.zones (zone_of e.op)) (meets_need settings p e.op) next.may) in
    let read = (prepares settings p zone key name need).read in
    let j : IndexHolds (world_of settings history) = holds_at settings history (e ∷ []) good legal in
    let made = placed_made settings history (e ∷ []) good legal opened zone key name (read_places (world_of settings history) j (actor_of e) zone key name read) in
    let serving = open_shards_serve settings history opened.closes zone key made.shard made.there in
    let guard = guard_of (new_tag settings st) in (
      guard,
      next.answer ∙ ap (reply_of settings st) is
          ∙ ap (λ o. on_shard o (λ s. reply_or (Prepared guard) (prepare_refusal s))) made.there
          ∙ ap (λ r. reply_or (Prepared guard) r) (serves_change made.shard serving),
    )
