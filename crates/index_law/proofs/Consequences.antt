-- What follows from the parts for those who read.
use Rattle.std.proofs.Common.{◌≡◌, ⊎_elim, ℕ, ◌+◌, ◌==◌, ◌||◌, not, ◌<◌, ◌≤◌, ◌^◌, true, false, cond, List, [], ◌∷◌, ◌++◌, length, Option, Some, None, refl, sym, subst, ap, ◌∙◌, arith, Bool}
use Rattle.std.specs.Prelude.{IfSome, IsSomeAnd, is_some, unwrap_or}
use Rattle.rgw_types.specs.declared.pool_key.Key.{Key}
use Rattle.rgw_types.specs.declared.stamp.Stamp.{Stamp}
use Rattle.rgw_types.specs.Stamps.{IsEarlier}
use Rattle.object_words.specs.declared.bucket.Bucket.{Bucket}
use Rattle.object_words.specs.declared.entry.Guard.{Guard}
use Rattle.object_words.specs.declared.entry.Tag.{Tag}
use Rattle.object_words.specs.declared.head.Changed.{Changed as ChangedOf}
use Rattle.object_words.specs.declared.head.Conditions.{Conditions}
use Rattle.object_words.specs.declared.head.NewHead.{NewHead}
use Rattle.object_words.specs.declared.head.SeenSlot.{SeenSlot}
use Rattle.object_words.specs.declared.head.SeenSlot.TheVariants.{Nothing, Live, Mark}
use Rattle.object_words.specs.declared.shard.ShardStats.{ShardStats}
use Rattle.object_words.specs.declared.why.Why.{Why}
use Rattle.object_words.specs.Names.{at}
use Rattle.object_words.specs.Entries.{EntryView, entry_of}
use Rattle.object_words.specs.Heads.{Head, row_of, is_live, seen_stamp}
use Rattle.object_words.specs.HeadCalls.{write_refusal, stamp_next, change_of}
use Rattle.object_words.specs.Hashes.{shard_of}
use Rattle.object_words.specs.Keys.{head_key, shard_key}
use Rattle.object_words.specs.Refusals.{unless_refused, fate_refusal}
use Rattle.object_words.specs.Rows.{RowView, no_row}
use Rattle.object_words.specs.Shards.{Shard, object_count, byte_count, stats_of}
use Rattle.object_words.specs.Tags.{has_tag}
use Rattle.realm_model.specs.Containers.{with_id, row_at_home, row_in, is_standing, entry_in, key_of_name, entry_of_name, Shows, is_settled}
use Rattle.realm_model.specs.Counts.{live_count, live_bytes}
use Rattle.realm_model.specs.Facts.{Home}
use Rattle.realm_model.specs.Histories.{world_of, state_of, Legal}
use Rattle.realm_model.specs.Maps.{slot_at, heads}
use Rattle.realm_model.specs.Rises.{found_in}
use Rattle.realm_model.specs.Settings.{SettingsView, IsSettings}
use Rattle.realm_model.specs.States.{State, at_moment, number_next, put_in}
use Rattle.realm_model.specs.Steps.{reply_or, on_shard, reply_of, after}
use Rattle.realm_model.specs.Worlds.{World, start}
use Rattle.realm_model.specs.declared.event.Event.{Event}
use Rattle.realm_model.specs.declared.event.Reply.TheVariants.{Changed, Stats}
use Rattle.realm_model.specs.declared.op.Op.{Op}
use Rattle.realm_model.specs.declared.op.Op.TheVariants.{HeadWrite, Stats as stats_op}
use Rattle.realm_model.proofs.Agreeing.{heads_agree}
use Rattle.object_words.proofs.KeyLemmas.{number_itself}
use Rattle.realm_model.proofs.ObjectLemmas.{number_same}
use Rattle.realm_model.proofs.Rising.{bounded, rising}
use Rattle.realm_model.proofs.Runs.{legal_front, last_is_next, state-next}
use Rattle.index_law.specs.Tables.{rows_of, heads_of, IsPlaced, StandsIn}
use Rattle.index_law.specs.Invariants.{IndexHolds}
use Rattle.rgw_model.specs.declared.slot.Slot.{Slot}
use Rattle.index_law.specs.Stamps.{IsReached, StampsGiven}
use Rattle.index_law.specs.Serving.{IsHeld, HoldsEntries, ShardsServe}
use Rattle.index_law.proofs.Stamping.{above_zone, stamps_given}
use Rattle.index_law.proofs.Shards.{shards_serve}
use Rattle.index_law.proofs.Puts.{head_here}
use Rattle.index_law.proofs.Keeping.{holds}

-- ---- after every event

pub stamps_at : (settings : SettingsView) (history later : List Event) → IsSettings settings → Legal settings (history ++ later) → StampsGiven (heads_of (state_of settings history).heads) (world_of settings history).stamps.slots
stamps_at settings history later good legal = stamps_given settings history good (legal_front settings (start settings) history later legal)

pub shards_at : (settings : SettingsView) (history later : List Event) → Legal settings (history ++ later) → ShardsServe (state_of settings history).shards (rows_of (state_of settings history).root) (world_of settings history).phases
shards_at settings history later legal = shards_serve settings history (legal_front settings (start settings) history later legal)

pub holds_at : (settings : SettingsView) (history later : List Event) → IsSettings settings → Legal settings (history ++ later) → IndexHolds (world_of settings history)
holds_at settings history later good legal = holds settings history good (legal_front settings (start settings) history later legal)

-- ---- a settled name

-- the row of a container is one that its zone keeps, under the name of its home
pub record IsRowOf (w : World) (zone container : ℕ) (row : Bucket) : Type 0 where
  pub home : Home
  pub kept : rows_of w.state.root zone home.name ≡ Some row
  pub id_is : row.id ≡ container

pub row_is_of : (w : World) (zone container : ℕ) (row : Bucket) → row_in w.rows w.state zone container ≡ Some row → IsRowOf w zone container row
row_is_of w zone container row is = by_home (w.rows.homes container) is where
  by_row : (home : Home) (o : Option Bucket) → rows_of w.state.root zone home.name ≡ o → with_id o container ≡ Some row → IsRowOf w zone container row
  by_row home None kept none = cc
  by_row home (Some r) kept some =
      elim (r.id == container) as (λ b. (r.id == container) ≡ b → cond b (Some r) None ≡ Some row → IsRowOf w zone container row) [
        | true ↦ λ same here. let one : r ≡ row = cc in record { home = home; kept = kept ∙ here; id_is = ap (λ (x : Bucket). x.id) (sym one) ∙ number_same r.id container same }
        | false ↦ λ other none. cc
      ] refl some

  by_home : (o : Option Home) → row_at_home o w.state zone container ≡ Some row → IsRowOf w zone container row
  by_home None none = cc
  by_home (Some home) some = by_row home (rows_of w.state.root zone home.name) refl some

-- and it has a shard at least
pub row_has_shards : (settings : SettingsView) (history : List Event) (zone container : ℕ) (row : Bucket) → IsSettings settings → Legal settings history → row_in (world_of settings history).rows (state_of settings history) zone container ≡ Some row → 1 ≤ row.shards
row_has_shards settings history zone container row good legal is =
    let r = row_is_of (world_of settings history) zone container row is in
    ((holds settings history good legal).rows_stand.kept zone (r.home).name row r.kept).named.some

-- a container that stands has its row in zone 1
pub stands_of : (w : World) (container : ℕ) → is_standing w.rows w.state container ≡ true → StandsIn w container
stands_of w container is = by_home (w.rows.homes container) refl is where
  by_row : (home : Home) (o : Option Bucket) → w.rows.homes container ≡ Some home → rows_of w.state.root 1 home.name ≡ o → is_some (with_id o container) ≡ true → StandsIn w container
  by_row home None made kept none = cc
  by_row home (Some r) made kept some =
      elim (r.id == container) as (λ b. (r.id == container) ≡ b → is_some (cond b (Some r) None) ≡ true → StandsIn w container) [
        | true ↦ λ same here. record { home = home; made = made; row = r; kept = kept; id_is = number_same r.id container same }
        | false ↦ λ other none. absurd cc
      ] refl some

  by_home : (o : Option Home) → w.rows.homes container ≡ o → is_some (row_at_home o w.state 1 container) ≡ true → StandsIn w container
  by_home None made none = cc
  by_home (Some home) made some = by_row home (rows_of w.state.root 1 home.name) made refl some

pub standing_of : (w : World) (container : ℕ) → StandsIn w container → is_standing w.rows w.state container ≡ true
standing_of w container s =
    ap (λ o. is_some (row_at_home o w.state 1 container)) s.made
    ∙ ap (λ o. is_some (with_id o container)) s.kept
    ∙ ap (λ c. is_some (cond (c == container) (Some s.row) None)) s.id_is
    ∙ ap (λ b. is_some (cond b (Some s.row) None)) (number_itself container)

-- and the row in zone 1 says that it stands
pub stands_by_row : (w : World) (container : ℕ) (row : Bucket) → row_in w.rows w.state 1 container ≡ Some row → is_standing w.rows w.state container ≡ true
stands_by_row w container row is = ap (λ o. is_some o) is

no_tag_left : (tags : List Tag) (tag : ℕ) → (length tags == 0) ≡ true → has_tag tag tags ≡ true → ⊥
no_tag_left [] tag none has = cc
no_tag_left (t ∷ ts) tag none has = let zero = number_same (length (t ∷ ts)) 0 none in omega (arith, zero)

module _ (settings : SettingsView) (history : List Event) (zone container : ℕ) (name : List ℕ) (row : Bucket) (good : IsSettings settings) (legal : Legal settings history)
    (is : row_in (world_of settings history).rows (state_of settings history) zone container ≡ Some row) (stands : is_standing (world_of settings history).rows (state_of settings history) container ≡ true) (settled : is_settled (entry_of_name (state_of settings history) zone row name) ≡ true) where
  abbrev w : World
  w = world_of settings history

  pub shown : Shows (entry_of_name (state_of settings history) zone row name) (slot_at (heads history zone container) name)
  shown =
      let j = holds settings history good legal in
      let r = row_is_of w zone container row is in
      let n = (j.rows_stand.kept zone (r.home).name row r.kept).named in
      let key = key_of_name row name in
      let placed : IsPlaced w.rows.instances zone key name = record { instance = n.instance; placed = n.placed; key_is = ap (λ count. shard_key row.id row.instance (shard_of name count)) (sym n.shards_are) } in
      let a = j.agreements zone key name placed (subst (StandsIn w) (sym r.id_is) (stands_of w container stands)) in
      let slot : slot_at (heads history zone container) name ≡ (w.state.heads zone (head_key row.id name)).slot =
      heads_agree settings history legal zone container name ∙ ap (λ c. (w.state.heads zone (head_key c name)).slot) (sym r.id_is) in
      ⊎_elim (λ l. absurd (no_tag_left (entry_of_name w.state zone row name).tags l.tag settled l.there)) (λ s. s.0 ∙ ap row_of (sym slot)) a.agree

  counted_as : (slot : SeenSlot) (e : EntryView) → Shows e slot → object_count e ≡ live_count slot
  counted_as Nothing e shows = ap (λ (v : RowView). cond v.exists 1 0) shows
  counted_as (Live new stamp) e shows = ap (λ (v : RowView). cond v.exists 1 0) shows
  counted_as (Mark stamp) e shows = ap (λ (v : RowView). cond v.exists 1 0) shows

  sized_as : (slot : SeenSlot) (e : EntryView) → Shows e slot → byte_count e ≡ live_bytes slot
  sized_as Nothing e shows = ap (λ (v : RowView). cond v.exists v.size 0) shows
  sized_as (Live new stamp) e shows = ap (λ (v : RowView). cond v.exists v.size 0) shows
  sized_as (Mark stamp) e shows = ap (λ (v : RowView). cond v.exists v.size 0) shows

  -- a kept entry without a tag exists
  kept_exists : (exists : Bool) (tags : List Tag) → (exists || not (length tags == 0)) ≡ true → (length tags == 0) ≡ true → exists ≡ true
  kept_exists true tags kept none = refl
  kept_exists false tags kept none = absurd (let bad : not true ≡ true = subst (λ b. not b ≡ true) none kept in cc)

  live_is : (slot : SeenSlot) → (row_of slot).exists ≡ is_live slot
  live_is Nothing = refl
  live_is (Live new stamp) = refl
  live_is (Mark stamp) = refl

  found_live : (o : Option EntryView) (slot : SeenSlot) → ((e : EntryView) → o ≡ Some e → IsHeld name e) → is_settled (entry_of o) ≡ true → Shows (entry_of o) slot → is_some o ≡ is_live slot
  found_live None slot held none shows = ap (λ (r : RowView). r.exists) shows ∙ live_is slot
  found_live (Some e) slot held none shows = sym (kept_exists e.row.exists e.tags (held e refl).kept none) ∙ ap (λ (r : RowView). r.exists) shows ∙ live_is slot

  in_shard : (o : Option Shard) (slot : SeenSlot) → ((s : Shard) → o ≡ Some s → HoldsEntries s) → is_settled (entry_in o name) ≡ true → Shows (entry_in o name) slot → is_some (found_in o name) ≡ is_live slot
  in_shard None slot serving none shows = found_live None slot (λ e is. absurd cc) none shows
  in_shard (Some s) slot serving none shows = found_live (at s.entries name) slot (serving s refl name) none shows

  pub listed : is_some (found_in ((state_of settings history).shards zone (key_of_name row name)) name) ≡ is_live (slot_at (heads history zone container) name)
  listed =
      in_shard ((state_of settings history).shards zone (key_of_name row name)) (slot_at (heads history zone container) name)
      ((shards_serve settings history legal).held zone (key_of_name row name)) settled shown

  pub counted : object_count (entry_of_name (state_of settings history) zone row name) ≡ live_count (slot_at (heads history zone container) name)
  counted = counted_as (slot_at (heads history zone container) name) (entry_of_name (state_of settings history) zone row name) shown

  pub sized : byte_count (entry_of_name (state_of settings history) zone row name) ≡ live_bytes (slot_at (heads history zone container) name)
  sized = sized_as (slot_at (heads history zone container) name) (entry_of_name (state_of settings history) zone row name) shown

-- ---- statistics

pub sums : (settings : SettingsView) (history : List Event) (e : Event) (zone : ℕ) (key : Key) (stats : ShardStats) → Legal settings (history ++ e ∷ []) → e.op ≡ stats_op zone key → e.reply ≡ Stats stats
    → IsSomeAnd ((state_of settings history).shards zone key) (λ s. stats ≡ stats_of s)
sums settings history e zone key stats legal op reply =
    let next = last_is_next settings history e legal in
    let answer : Stats stats ≡ reply_of settings (at_moment (state_of settings history) e.moment) (stats_op zone key) =
    sym reply ∙ next.answer ∙ ap (λ o. reply_of settings (at_moment (state_of settings history) e.moment) o) op in
    by_shard ((state_of settings history).shards zone key) answer where
      by_fate : (s : Shard) (r : Option Why) → Stats stats ≡ reply_or (Stats (stats_of s)) r → stats ≡ stats_of s
      by_fate s None told = cc
      by_fate s (Some why) told = cc

      by_shard : (o : Option Shard) → Stats stats ≡ on_shard o (λ s. reply_or (Stats (stats_of s)) (fate_refusal s.fate)) → IsSomeAnd o (λ s. stats ≡ stats_of s)
      by_shard None told = absurd cc
      by_shard (Some s) told = by_fate s (fate_refusal s.fate) told

-- ---- stamps

later_of : (old new : SeenSlot) (fallback : Stamp) → IsSomeAnd (seen_stamp new) (λ now. IfSome (seen_stamp old) (λ before. IsEarlier before now)) → IfSome (seen_stamp old) (λ before. IsEarlier before (unwrap_or (seen_stamp new) fallback))
later_of old Nothing fallback is = absurd is
later_of old (Live new stamp) fallback is = is
later_of old (Mark stamp) fallback is = is

-- a change that was made left a head of a new version, and answered its stamp
record Wrote (settings : SettingsView) (st : State) (zone container : ℕ) (name : List ℕ) (op : Op) (change : ChangedOf) : Type 0 where
  head : Head
  left : (after settings st op).heads zone (head_key container name) ≡ head
  change_is : change ≡ change_of (st.heads zone (head_key container name)) head
  version_is : head.version ≡ st.count + 1
  zone_is : change.stamp.zone ≡ zone

wrote : (settings : SettingsView) (st : State) (zone container : ℕ) (name : List ℕ) (guard : Guard) (new : NewHead) (when : Conditions) (change : ChangedOf) → Changed change ≡ reply_of settings st (HeadWrite zone container name guard new when) → Wrote settings st zone container name (HeadWrite zone container name guard new when) change
wrote settings st zone container name guard new when change told =
    elim (write_refusal head guard new when st.clock (st.free zone) settings.frame) as (λ r. write_refusal head guard new when st.clock (st.free zone) settings.frame ≡ r → Changed change ≡ reply_or (Changed (change_of head (unless_refused r head changed))) r → Wrote settings st zone container name (HeadWrite zone container name guard new when) change) [
      | None ↦ λ ok answer. record {
        head = changed;
        left = ap (λ r. heads_of (put_in st.heads zone (head_key container name) (unless_refused r head changed)) zone container name) ok ∙ head_here st.heads zone container name changed;
        change_is = cc;
        version_is = refl;
        zone_is = let change_is : change ≡ change_of head changed = cc in ap (λ (c : ChangedOf). c.stamp.zone) change_is ∙ above_zone (seen_stamp head.slot) st.clock zone;
      }
      | Some why ↦ λ no answer. absurd cc
    ] refl told where
      head : Head
      head = st.heads zone (head_key container name)

      changed : Head
      changed = record { version = number_next st; slot = Live new (stamp_next head zone st.clock) }

pub stamp_later : (settings : SettingsView) (history : List Event) (e : Event) (zone container : ℕ) (name : List ℕ) (guard : Guard) (new : NewHead) (when : Conditions) (change : ChangedOf) → Legal settings (history ++ e ∷ []) → length history < 2 ^ 62
    → e.op ≡ HeadWrite zone container name guard new when → e.reply ≡ Changed change → IfSome (seen_stamp (slot_at (heads history zone container) name)) (λ before. IsEarlier before change.stamp)
stamp_later settings history e zone container name guard new when change legal room op reply =
    let next = last_is_next settings history e legal in
    let old = state_of settings history in
    let st = at_moment old e.moment in
    let key = head_key container name in
    let answer : Changed change ≡ reply_of settings st (HeadWrite zone container name guard new when) = sym reply ∙ next.answer ∙ ap (λ o. reply_of settings st o) op in
    let x = wrote settings st zone container name guard new when change answer in
    let head_is : (state_of settings (history ++ e ∷ [])).heads zone key ≡ x.head =
    ap (λ (s : State). s.heads zone key) (state-next settings history e ∙ ap (λ o. after settings st o) op) ∙ x.left in
    let slot = heads_agree settings history (legal_front settings (start settings) history (e ∷ []) legal) zone container name in
    let below = ((bounded settings history).heads zone key).version in
    let rises : IfSome (seen_stamp (old.heads zone key).slot) (λ before. IsEarlier before change.stamp) =
    ⊎_elim
    (λ same.
    let version = ap (λ (h : Head). h.version) (sym same ∙ head_is) in
    let new_version = x.version_is in
    absurd (omega (arith, below, version, new_version)))
    (λ r.
    let now = subst (λ (h : Head). IsSomeAnd (seen_stamp h.slot) (λ now. IfSome (seen_stamp (old.heads zone key).slot) (λ before. IsEarlier before now))) head_is r.stamp in
    subst (λ (c : ChangedOf). IfSome (seen_stamp (old.heads zone key).slot) (λ before. IsEarlier before c.stamp)) (sym x.change_is) (later_of (old.heads zone key).slot (x.head).slot (no_row).stamp now))
    ((rising settings history e room).heads zone key) in
    subst (λ o. IfSome (seen_stamp o) (λ before. IsEarlier before change.stamp)) (sym slot) rises

pub stamp_unused : (settings : SettingsView) (history : List Event) (e : Event) (zone container : ℕ) (name : List ℕ) (guard : Guard) (new : NewHead) (when : Conditions) (change : ChangedOf) → IsSettings settings → Legal settings (history ++ e ∷ []) → length history < 2 ^ 62
    → e.op ≡ HeadWrite zone container name guard new when → e.reply ≡ Changed change → (world_of settings history).stamps.slots container name change.stamp ≡ None
stamp_unused settings history e zone container name guard new when change good legal room op reply =
    by_slot ((world_of settings history).stamps.slots container name change.stamp) refl where
      front : Legal settings history
      front = legal_front settings (start settings) history (e ∷ []) legal

      at_zone : change.stamp.zone ≡ zone
      at_zone =
          let next = last_is_next settings history e legal in
          let st = at_moment (state_of settings history) e.moment in
          let answer : Changed change ≡ reply_of settings st (HeadWrite zone container name guard new when) = sym reply ∙ next.answer ∙ ap (λ o. reply_of settings st o) op in
          (wrote settings st zone container name guard new when change answer).zone_is

      given : StampsGiven (heads_of (state_of settings history).heads) (world_of settings history).stamps.slots
      given = stamps_given settings history good front

      -- a head that reached the stamp has a later one than the change gives
      never : (r : IsReached (heads_of (state_of settings history).heads change.stamp.zone container name) change.stamp) → ⊥
      never r =
          let here : seen_stamp ((state_of settings history).heads zone (head_key container name)).slot ≡ Some r.now = ap (λ z. seen_stamp (heads_of (state_of settings history).heads z container name).slot) (sym at_zone) ∙ r.has in
          let slot = ap seen_stamp (heads_agree settings history front zone container name) ∙ here in
          let later : IsEarlier r.now change.stamp = subst (λ o. IfSome o (λ before. IsEarlier before change.stamp)) slot (stamp_later settings history e zone container name guard new when change legal room op reply) in
          let own = (given.own zone container name r.now here).zone_is in
          let reached = r.not_below in
          ⊎_elim (λ less. omega (arith, less, reached)) (λ tie. let less = tie.1 in omega (arith, less, own, at_zone)) later

      by_slot : (o : Option Slot) → (world_of settings history).stamps.slots container name change.stamp ≡ o → (world_of settings history).stamps.slots container name change.stamp ≡ None
      by_slot None is = is
      by_slot (Some x) is = absurd (never (given.reached container name change.stamp x is))
