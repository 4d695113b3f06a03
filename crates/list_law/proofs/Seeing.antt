-- What own pages and own reads of heads show of a name is what the container's map has under it at that event.
use Rattle.std.proofs.Common.{◌≡◌, ⊎_elim, ℕ, suc, zero, ◌<◌, ◌==◌, ◌||◌, not, Bool, true, false, cond, List, [], ◌∷◌, take, length, Option, Some, None, refl, sym, ◌∙◌, ap, subst, arith}
use Rattle.std.specs.Prelude.{nat_le}
use Rattle.std.specs.List.{Contains}
use Rattle.std.specs.Ordering.{is_lt, eq_by_cmp}
use Rattle.std.specs.FinMap.{nat_cmp-IsAntisymmetric, slice_cmp-IsAntisymmetric}
use Rattle.std.specs.FinMap.Entries.{find, below_all, is_sorted, where_key, find-where_key, is_sorted-where_key}
use Rattle.std.proofs.lemmas.Bool.{and_parts, both_ways, not-true, true_from_ne_false}
use Rattle.std.proofs.lemmas.Bool.Decides.{nat_tests}
use Rattle.std.proofs.lemmas.List.{take_all}
use Rattle.object_words.specs.declared.bucket.Bucket.{Bucket}
use Rattle.object_words.specs.declared.entry.EntryPage.{EntryPage}
use Rattle.object_words.specs.declared.entry.Tag.{Tag}
use Rattle.object_words.specs.declared.head.HeadSeen.{HeadSeen}
use Rattle.object_words.specs.declared.head.SeenSlot.{SeenSlot}
use Rattle.object_words.specs.declared.head.SeenSlot.TheVariants.{Nothing, Live, Mark}
use Rattle.object_words.specs.declared.why.Why.{Why}
use Rattle.object_words.specs.Entries.{EntryView, entry_of}
use Rattle.object_words.specs.Hashes.{shard_of}
use Rattle.object_words.specs.Heads.{row_of}
use Rattle.object_words.specs.HeadCalls.{seen}
use Rattle.object_words.specs.Keys.{head_key, shard_key}
use Rattle.object_words.specs.Names.{name_cmp, at, entries, where_name}
use Rattle.object_words.specs.Refusals.{fate_refusal}
use Rattle.object_words.specs.Rows.{RowView}
use Rattle.object_words.specs.Shards.{Shard}
use Rattle.object_words.specs.ShardCalls.{page_of}
use Rattle.object_words.specs.Tags.{has_tag}
use Rattle.object_words.proofs.NameLemmas.{name_itself}
use Rattle.realm_model.specs.Allowed.{page_limit}
use Rattle.realm_model.specs.Settings.{SettingsView, IsSettings}
use Rattle.realm_model.specs.States.{at_moment, number_next}
use Rattle.realm_model.specs.Steps.{reply_or, on_shard, row_reply, reply_of}
use Rattle.realm_model.specs.Containers.{entry_in}
use Rattle.realm_model.specs.Maps.{slot_at, no_maps, mapped, heads}
use Rattle.realm_model.specs.Worlds.{World}
use Rattle.realm_model.specs.Histories.{world_of, state_of, Legal}
use Rattle.realm_model.specs.Owns.{OwnEvent, own_events}
use Rattle.realm_model.specs.Phases.{ActorId}
use Rattle.realm_model.specs.declared.op.Op.TheVariants.{BucketRead}
use Rattle.realm_model.specs.declared.event.Reply.{Reply}
use Rattle.realm_model.specs.declared.event.Reply.TheVariants.{Row, Entries, Head as head_reply}
use Rattle.realm_model.specs.declared.event.Event.{Event}
use Rattle.realm_model.proofs.Agreeing.{heads_agree}
use Rattle.realm_model.proofs.ObjectLemmas.{number_same}
use Rattle.index_law.specs.Tables.{IsPlaced, StandsIn}
use Rattle.index_law.specs.Rows.{IsNamed}
use Rattle.index_law.specs.Invariants.{IndexHolds}
use Rattle.index_law.proofs.Keeping.{holds}
use Rattle.list_words.specs.declared.command.ListCommand.{ListCommand}
use Rattle.list_words.specs.Listings.{is_before}
use Rattle.list_words.proofs.Texts.{same_place, before_trans}
use Rattle.task_list.specs.Listed.{last_name, reaches, is_settled, row_if_there, entry_row, slot_row, IsByPage, IsByHead}
use Rattle.task_list.proofs.Names.{truth, from_truth, find-below}
use Rattle.list_law.specs.Maps.{slot_after}
use Rattle.list_law.proofs.Turned.{mapped_by-append}
use Rattle.list_law.proofs.Places.{Stands, stands, legal_before, is_next, with_event, risen_between, made_between, stood_before}

abbrev Rows : Type 0
Rows = List (List ℕ × EntryView)

-- ---- the first entries of a shard

-- nothing that is not above the last of the first ones stands behind them
find-take : (k : ℕ) (es : Rows) (name : List ℕ) → is_sorted name_cmp es ≡ true → is_before (last_name (take (suc k) es)) name ≡ false → find name_cmp name (take (suc k) es) ≡ find name_cmp name es
find-take k [] name rise upto = refl
find-take zero (e ∷ []) name rise upto = refl
find-take (suc k) (e ∷ []) name rise upto = refl
find-take zero (e ∷ f ∷ es) name rise upto =
    elim (eq_by_cmp name_cmp name e.0) as (λ t. eq_by_cmp name_cmp name e.0 ≡ t → cond t (Some e.1) None ≡ cond t (Some e.1) (find name_cmp name (f ∷ es))) [
      | true ↦ λ tied. refl
      | false ↦ λ apart.
          let parts = and_parts (below_all name_cmp e.0 (f ∷ es)) (is_sorted name_cmp (f ∷ es)) rise in
          let after = (and_parts (is_before e.0 f.0) (below_all name_cmp e.0 es) parts.0).0 in
          let below : is_before name e.0 ≡ true =
          true_from_ne_false _ (λ other.
          let same = same_place name e.0 other upto in
          both_ways _ apart (subst (λ n. eq_by_cmp name_cmp name n ≡ true) same (name_itself name))) in
          sym (find-below name f es (from_truth _ parts.1) (before_trans name e.0 f.0 below after))
    ] refl
find-take (suc k) (e ∷ f ∷ es) name rise upto =
    let parts = and_parts (below_all name_cmp e.0 (f ∷ es)) (is_sorted name_cmp (f ∷ es)) rise in
    ap (cond (eq_by_cmp name_cmp name e.0) (Some e.1)) (find-take k (f ∷ es) name parts.1 upto)

find-reached : (limit : ℕ) (es : Rows) (name : List ℕ) → 0 < limit → is_sorted name_cmp es ≡ true → reaches (nat_le (length es) limit) (take limit es) name ≡ true → find name_cmp name (take limit es) ≡ find name_cmp name es
find-reached zero es name some rise within = absurd (omega (arith, some))
find-reached (suc k) es name some rise within =
    elim (nat_le (length es) (suc k)) as (λ b. nat_le (length es) (suc k) ≡ b → (b || not (is_before (last_name (take (suc k) es)) name)) ≡ true → find name_cmp name (take (suc k) es) ≡ find name_cmp name es) [
      | true ↦ λ all end. ap (find name_cmp name) (take_all (suc k) es (grind (arith, nat_tests, all)))
      | false ↦ λ more upto. find-take k es name rise (not-true _ upto)
    ] refl within

-- ---- what a page shows

-- what a page shows of a name that it reaches is what the shard has of it
page_finds : (s : Shard) (after : List ℕ) (clock : ℕ) (name : List ℕ) → is_before after name ≡ true → reaches (page_of s after page_limit clock).end (page_of s after page_limit clock).rows name ≡ true
    → find name_cmp name (page_of s after page_limit clock).rows ≡ at s.entries name
unfolding entries where_name at
page_finds s after clock name above within =
    let list = (s.entries).list in
    let test : List ℕ → Bool = λ n. is_lt (name_cmp after n) in
    let rise = truth _ (is_sorted-where_key name_cmp test list (s.entries).sorted) in
    find-reached page_limit (where_key name_cmp test list) name (omega arith) rise within
    ∙ find-where_key name_cmp test name (λ m tied. ap test (sym (slice_cmp-IsAntisymmetric nat_cmp-IsAntisymmetric name m tied))) list
    ∙ ap (λ b. cond b (find name_cmp name list) None) above

entries_is : {one other : EntryPage} → Entries one ≡ Entries other → one ≡ other
entries_is same = cc

by_refusal : (refusal : Option Why) (s : Shard) (after : List ℕ) (clock : ℕ) (page : EntryPage) → Entries page ≡ reply_or (Entries (page_of s after page_limit clock)) refusal → page ≡ page_of s after page_limit clock
by_refusal None s after clock page is = entries_is is
by_refusal (Some why) s after clock page is = cc

shard_shows : (found : Option Shard) (after : List ℕ) (clock : ℕ) (page : EntryPage) (name : List ℕ) → Entries page ≡ on_shard found (λ s. reply_or (Entries (page_of s after page_limit clock)) (fate_refusal s.fate))
    → is_before after name ≡ true → reaches page.end page.rows name ≡ true → entry_of (find name_cmp name page.rows) ≡ entry_in found name
shard_shows None after clock page name is above within = cc
shard_shows (Some s) after clock page name is above within =
    let same = by_refusal (fate_refusal s.fate) s after clock page is in
    ap (λ (p : EntryPage). entry_of (find name_cmp name p.rows)) same
    ∙ ap entry_of (page_finds s after clock name above (subst (λ (p : EntryPage). reaches p.end p.rows name ≡ true) same within))

row_is : (found : Option Bucket) (row : Bucket) → Row row ≡ row_reply found → found ≡ Some row
row_is None row is = cc
row_is (Some other) row is = cc

-- ---- a name that is settled

no_tag : (tags : List Tag) (tag : ℕ) → (length tags == 0) ≡ true → has_tag tag tags ≡ true → ⊥
no_tag [] tag none has = cc
no_tag (t ∷ ts) tag none has = let empty = number_same (length (t ∷ ts)) 0 none in omega (arith, empty)

untagged : (shown : Option EntryView) → is_settled shown ≡ true → (length (entry_of shown).tags == 0) ≡ true
untagged None settled = refl
untagged (Some e) settled =
    elim (length e.tags == 0) as (λ b. not (not b) ≡ true → b ≡ true) [
      | true ↦ λ is. refl
      | false ↦ λ is. is
    ] settled

row_shown : (shown : Option EntryView) → entry_row shown ≡ row_if_there (entry_of shown).row
row_shown None = refl
row_shown (Some e) = refl

slot_shown : (slot : SeenSlot) → row_if_there (row_of slot) ≡ slot_row slot
slot_shown Nothing = refl
slot_shown (Live new stamp) = refl
slot_shown (Mark stamp) = refl

-- ---- at an own event

module _ (settings : SettingsView) (history : List Event) (good : IsSettings settings) (legal : Legal settings history) where
  -- the map that an own event leaves is the one before it, where it changes none
  slot_before : (own : OwnEvent) (s : Stands history own) → ((reply : Reply) → mapped (heads s.before) own.op reply ≡ heads s.before) → (zone container : ℕ) (name : List ℕ)
      → slot_after history own.number zone container name ≡ ((state_of settings s.before).heads zone (head_key container name)).slot
  slot_before own s calm zone container name =
      ap (λ h. slot_at (heads h zone container) name) (with_event history own s)
      ∙ ap (λ ms. slot_at (ms zone container) name) (mapped_by-append no_maps s.before (s.e ∷ []) ∙ ap (λ op. mapped (heads s.before) op (s.e).reply) s.op_is ∙ calm (s.e).reply)
      ∙ heads_agree settings s.before (legal_before settings history own s legal) zone container name

  answered : (own : OwnEvent) (s : Stands history own) → own.reply ≡ reply_of settings (at_moment (state_of settings s.before) (s.e).moment) own.op
  answered own s =
      sym s.reply_is ∙ (is_next settings history own s legal).answer ∙ ap (λ op. reply_of settings (at_moment (state_of settings s.before) (s.e).moment) op) s.op_is

  -- the row that a bucket read shows has its instance in the tables
  row_named : (own : OwnEvent) (s : Stands history own) (zone : ℕ) (name : List ℕ) (row : Bucket) → own.op ≡ BucketRead zone name → own.reply ≡ Row row
      → IsNamed (world_of settings s.before).rows.homes (world_of settings s.before).rows.instances zone name row
  row_named own s zone name row asks told =
      let st = state_of settings s.before in
      let shown : Row row ≡ row_reply (at (st.root zone).buckets name) = sym told ∙ answered own s ∙ ap (λ op. reply_of settings (at_moment st (s.e).moment) op) asks in
      let j = holds settings s.before good (legal_before settings history own s legal) in
      (j.rows_stand.kept zone name row (row_is (at (st.root zone).buckets name) row shown)).named

  module _ (actor : ActorId) (zone : ℕ) (c : ListCommand) (container : ℕ) (name : List ℕ) where
    abbrev events : List OwnEvent
    events = own_events history actor

    -- an own event shows this row of the name: what the index shows of its slot then
    pub record ShownAt (row : Option RowView) : Type 0 where
      pub own : OwnEvent
      pub made : Contains events own
      pub row_is : row ≡ slot_row (slot_after history own.number zone container name)

    -- what the shard has of a name without tags shows its head
    settled_shows : (w : World) → IndexHolds w → (row : Bucket) → IsPlaced w.rows.instances zone (shard_key row.id row.instance (shard_of name row.shards)) name → StandsIn w row.id
        → (e : EntryView) → e ≡ entry_in (w.state.shards zone (shard_key row.id row.instance (shard_of name row.shards))) name → (length e.tags == 0) ≡ true
        → e.row ≡ row_of (w.state.heads zone (head_key row.id name)).slot
    settled_shows w j row placed stands e is none =
        let key = shard_key row.id row.instance (shard_of name row.shards) in
        let a = j.agreements zone key name placed stands in
        ap (λ (x : EntryView). x.row) is
        ∙ ⊎_elim (λ l. absurd (no_tag (entry_in (w.state.shards zone key) name).tags l.tag (subst (λ (x : EntryView). (length x.tags == 0) ≡ true) is none) l.there)) (λ s. s.0) a.agree

    -- while the container stands, a page shows its names
    pub by_page : StandsIn (world_of settings history) container → (row : Option RowView) → IsByPage zone c container name row events → ShownAt row
    by_page stood row b =
        let p = b.paged in
        let bucket = p.row in
        let l = stands history actor p.look p.looked in
        let s = stands history actor p.page p.paged in
        let w = world_of settings s.before in
        let key = shard_key bucket.id bucket.instance (shard_of name bucket.shards) in
        let j = holds settings s.before good (legal_before settings history p.page s legal) in
        let n = row_named p.look l zone c.container bucket p.looks p.told_row in
        let r = risen_between settings history p.look p.page l s good legal p.in_order zone bucket.id bucket.instance n.instance n.placed in
        let placed : IsPlaced w.rows.instances zone key name = record {
          instance = r.instance;
          placed = r.placed;
          key_is = ap (λ count. shard_key bucket.id bucket.instance (shard_of name count)) (sym n.shards_are ∙ r.shards_are);
        } in
        let made = made_between settings history p.look p.page l s good legal p.in_order bucket.id (record { home = n.home; made = n.made }) in
        let stands = stood_before settings history p.page s good legal bucket.id made (subst (StandsIn (world_of settings history)) (sym p.in_container) stood) in
        let told = sym p.told ∙ answered p.page s ∙ ap (λ op. reply_of settings (at_moment w.state (s.e).moment) op) p.asks in
        let entry = shard_shows (w.state.shards zone key) p.after (at_moment w.state (s.e).moment).clock p.entries name told p.above p.within in
        let e : entry_of b.shown ≡ entry_in (w.state.shards zone key) name = ap entry_of (sym p.shows) ∙ entry in
        let head = settled_shows w j bucket placed stands (entry_of b.shown) e (untagged b.shown b.settled) in
        let slot = slot_before p.page s (λ reply. ap (λ op. mapped (heads s.before) op reply) p.asks) zone container name in
        record {
          own = p.page;
          made = p.paged;
          row_is =
              b.row_is ∙ row_shown b.shown ∙ ap row_if_there head
              ∙ slot_shown (w.state.heads zone (head_key bucket.id name)).slot
              ∙ ap slot_row (ap (λ id. (w.state.heads zone (head_key id name)).slot) p.in_container ∙ sym slot);
        }

    pub by_head : (row : Option RowView) → IsByHead zone c container name row events → ShownAt row
    by_head row b =
        let s = stands history actor b.head b.read in
        let w = world_of settings s.before in
        let st = at_moment w.state (s.e).moment in
        let told : head_reply b.seen b.clock ≡ head_reply (seen (st.heads zone (head_key container name)) (number_next st)) st.clock =
        sym b.told ∙ answered b.head s ∙ ap (λ op. reply_of settings st op) b.asks in
        let head : b.seen ≡ seen (st.heads zone (head_key container name)) (number_next st) = seen_is told in
        let slot = slot_before b.head s (λ reply. ap (λ op. mapped (heads s.before) op reply) b.asks) zone container name in
        record {
          own = b.head;
          made = b.read;
          row_is = b.row_is ∙ ap (λ (h : HeadSeen). slot_row h.slot) head ∙ ap slot_row (sym slot);
        }
      where
        seen_is : {one other : HeadSeen} {now then : ℕ} → head_reply one now ≡ head_reply other then → one ≡ other
        seen_is same = cc
