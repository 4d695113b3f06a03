-- No name of a container without changes under way changes until the next is prepared: whoever changes a head has a tag
-- that is open, and so in an entry of a shard of the row.
use Rattle.std.proofs.Common.{◌≡◌, ℕ, ◌≤◌, ◌<◌, true, List, [], ◌∷◌, ◌++◌, Some, refl, sym, ◌∙◌, ap, subst, arith}
use Rattle.rgw_types.specs.declared.pool_key.Key.{Key}
use Rattle.object_words.specs.declared.bucket.Bucket.{Bucket}
use Rattle.object_words.specs.declared.entry.Guard.{Guard}
use Rattle.object_words.specs.declared.head.Conditions.{Conditions}
use Rattle.object_words.specs.declared.head.NewHead.{NewHead}
use Rattle.object_words.specs.Hashes.{shard_of}
use Rattle.object_words.specs.Keys.{shard_key, container_of, instance_of}
use Rattle.object_words.specs.Tags.{has_tag}
use Rattle.realm_model.specs.Containers.{row_in, is_standing, key_of_name}
use Rattle.realm_model.specs.Facts.{Instance}
use Rattle.realm_model.specs.Maps.{Maps, no_maps, mapped, mapped_by, heads}
use Rattle.realm_model.specs.Needs.{is_between, may_change_head, has_parts}
use Rattle.realm_model.specs.Allowed.{meets_need}
use Rattle.realm_model.specs.Ops.{zone_of}
use Rattle.realm_model.specs.Settings.{SettingsView, IsSettings}
use Rattle.realm_model.specs.States.{at_moment}
use Rattle.realm_model.specs.Phases.{ActorId}
use Rattle.realm_model.specs.Worlds.{World, start, actor_of, happens}
use Rattle.realm_model.specs.Histories.{run, world_of, state_of, IsNext, LegalFrom, Legal}
use Rattle.realm_model.specs.declared.op.Op.TheVariants.{HeadWrite}
use Rattle.realm_model.specs.declared.event.Event.{Event}
use Rattle.realm_model.proofs.Computing.{left_of, right_of}
use Rattle.realm_model.proofs.Runs.{run-append, legal_front, legal_back}
use Rattle.index_law.specs.Tables.{entries_of, rows_of, IsPlaced, StandsIn}
use Rattle.index_law.specs.Invariants.{IndexHolds}
use Rattle.index_law.proofs.Consequences.{row_is_of, stands_of}
use Rattle.index_law.proofs.Keeping.{keeps, holds}
use Rattle.index_law.proofs.Moves.{rows_move, stood_from}
use Rattle.index_law.proofs.MapStays.{map_stays, mapped_by-append}
use Rattle.index_law.proofs.Tests.{writes}
use Rattle.repair_law.specs.Repaired.{tags_in, HasNoTags}
use Rattle.repair_law.specs.Settled.{NonePrepares}
use Rattle.repair_law.proofs.Visits.{empty_next}
use Rattle.repair_law.proofs.Staying.{within}

same_some : {X : Type 0} {x y : X} → Some x ≡ Some y → x ≡ y
same_some is = cc

-- the row's instance was put into a row of the zone, with its shards, of which there is one at least
pub record IsPut (w : World) (zone : ℕ) (row : Bucket) : Type 0 where
  pub instance : Instance
  pub placed : w.rows.instances zone row.id row.instance ≡ Some instance
  pub shards_are : instance.shards ≡ row.shards
  pub some : 1 ≤ row.shards

module _ (settings : SettingsView) (w : World) (j : IndexHolds w) (zone : ℕ) (row : Bucket) (put_there : IsPut w zone row) (stands : StandsIn w row.id) (none : HasNoTags w.state zone row) where
  -- an instance of a container that stands is that of its row
  in_row : (number : ℕ) (instance : Instance) → w.rows.instances zone row.id number ≡ Some instance → number ≡ row.instance
  in_row number instance placed =
      let r = j.rows_stand.in_row zone row.id number instance placed stands in
      let n = j.rows_stand.in_row zone row.id row.instance put_there.instance put_there.placed stands in
      let homes : Some r.home ≡ Some n.home = sym r.made ∙ n.made in
      let rows : Some r.row ≡ Some n.row = sym r.kept ∙ ap (λ h. rows_of w.state.root zone h.name) (same_some homes) ∙ n.kept in
      sym r.instance_is ∙ ap (λ (b : Bucket). b.instance) (same_some rows) ∙ n.instance_is

  -- a tag of the container was prepared in the shard where the row puts its name
  prepared_here : (key : Key) (name : List ℕ) → IsPlaced w.rows.instances zone key name → container_of key ≡ row.id → key ≡ key_of_name row name
  prepared_here key name p of_row =
      let instance = in_row (instance_of key) p.instance (subst (λ c. w.rows.instances zone c (instance_of key) ≡ Some p.instance) of_row p.placed) in
      let instances : Some p.instance ≡ Some put_there.instance = sym p.placed ∙ (λ i. w.rows.instances zone (of_row i) (instance i)) ∙ put_there.placed in
      let shards : p.instance.shards ≡ row.shards = ap (λ x. x.shards) (same_some instances) ∙ put_there.shards_are in
      p.key_is ∙ (λ i. shard_key (of_row i) (instance i) (shard_of name (shards i)))

  no_write : (me : ActorId) (name : List ℕ) (guard : Guard) (new : NewHead) (when : Conditions) (clock : ℕ) → w.state.clock ≤ clock → clock < guard.deadline → meets_need settings (w.phases me) (HeadWrite zone row.id name guard new when) ≡ true → ⊥
  no_write me name guard new when clock come late may =
      let p = w.phases me in
      let own = writes p zone row.id name guard (left_of (may_change_head p zone row.id name guard) (has_parts p zone new) may) in
      let t = (own.owns).t in
      let o = j.tags_of_prepare.own me t (own.owns).is in
      let note = o.note in
      let deadline : note.deadline ≡ guard.deadline = o.deadline_is ∙ own.deadline_is in
      let of_row : container_of note.key ≡ row.id = ap container_of o.key_is ∙ own.container_is in
      let open_in = j.open_tags t.guard.tag note o.there (subst (StandsIn w) (sym of_row) stands) (o.not_ended own.pending) (omega (arith, come, late, deadline)) in
      let zone_is : note.zone ≡ zone = o.zone_is ∙ (own.owns).zone_is in
      let placed = subst (λ z. IsPlaced w.rows.instances z note.key note.name) zone_is (j.tags_of_prepare.placed t.guard.tag note o.there) in
      let key_is = prepared_here note.key note.name placed of_row in
      let empty = none (shard_of note.name row.shards) note.name (within row put_there.some note.name) in
      let has : has_tag t.guard.tag (tags_in w.state zone row (shard_of note.name row.shards) note.name) ≡ true =
      subst (λ z. has_tag t.guard.tag (entries_of w.state.shards z (key_of_name row note.name) note.name).tags ≡ true) zone_is
      (subst (λ k. has_tag t.guard.tag (entries_of w.state.shards note.zone k note.name).tags ≡ true) key_is open_in) in
      let bad : has_tag t.guard.tag [] ≡ true = subst (λ ts. has_tag t.guard.tag ts ≡ true) empty has in
      cc

  pub map_next : (maps : Maps) (e : Event) → IsNext settings w e → mapped maps e.op e.reply zone row.id ≡ maps zone row.id
  map_next maps e next =
      let me = actor_of e in
      let st = at_moment w.state e.moment in
      let come : w.state.clock ≤ st.clock = omega arith in
      map_stays settings (w.phases me) zone row.id st maps e.op e.reply (λ name guard new when. no_write me name guard new when st.clock come) (right_of (is_between 1 settings.zones (zone_of e.op)) (meets_need settings (w.phases me) e.op) next.may) next.answer

-- ---- over events

map_from : (settings : SettingsView) (zone : ℕ) (row : Bucket) (es : List Event) (w : World) (maps : Maps) → IsSettings settings → IndexHolds w → LegalFrom settings w es → IsPut w zone row → StandsIn (run settings w es) row.id
    → HasNoTags w.state zone row → NonePrepares zone row es → mapped_by maps es zone row.id ≡ maps zone row.id
map_from settings zone row [] w maps good j legal put_there stands none calm = refl
map_from settings zone row (e ∷ es) w maps good j legal put_there stands none calm =
    let next = keeps settings good w j e legal.0 in
    let r = (rows_move settings good w j e legal.0).rise zone row.id row.instance put_there.instance put_there.placed in
    let made = j.rows_stand.homed zone row.id row.instance put_there.instance put_there.placed in
    let put_later : IsPut (happens settings w e) zone row = record { instance = r.instance; placed = r.placed; shards_are = sym r.shards_are ∙ put_there.shards_are; some = put_there.some } in
    map_from settings zone row es (happens settings w e) (mapped maps e.op e.reply) good next legal.1 put_later stands
    (λ number name less. empty_next settings zone [] row w e calm.0 number name less (none number name less)) calm.1
    ∙ map_next settings w j zone row put_there (stood_from settings w (e ∷ es) good j legal row.id made stands) none maps e legal.0

pub map_later : (settings : SettingsView) (history later : List Event) (zone container : ℕ) (row : Bucket) → IsSettings settings → Legal settings (history ++ later) → row_in (world_of settings history).rows (state_of settings history) zone container ≡ Some row
    → is_standing (world_of settings (history ++ later)).rows (state_of settings (history ++ later)) container ≡ true → HasNoTags (state_of settings history) zone row → NonePrepares zone row later
    → heads (history ++ later) zone container ≡ heads history zone container
map_later settings history later zone container row good legal is standing none calm =
    let w = world_of settings history in
    let r = row_is_of w zone container row is in
    let front = legal_front settings (start settings) history later legal in
    let j = holds settings history good front in
    let n = (j.rows_stand.kept zone (r.home).name row r.kept).named in
    let put_there : IsPut w zone row = record { instance = n.instance; placed = n.placed; shards_are = n.shards_are; some = n.some } in
    let stands : StandsIn (run settings w later) row.id =
    subst (StandsIn (run settings w later)) (sym r.id_is)
    (subst (λ v. StandsIn v container) (run-append settings (start settings) history later) (stands_of (world_of settings (history ++ later)) container standing)) in
    ap (λ maps. maps zone container) (mapped_by-append no_maps history later)
    ∙ subst (λ c. mapped_by (heads history) later zone c ≡ heads history zone c) r.id_is
    (map_from settings zone row later w (heads history) good j (legal_back settings (start settings) history later legal) put_there stands none calm)
