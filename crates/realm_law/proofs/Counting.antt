-- What the shards of a row count together is what the map of its container counts.
use Rattle.std.proofs.Common.{◌≡◌, ⊎_elim, ℕ, ◌+◌, ◌≤◌, ◌<◌, ◌==◌, ◌%◌, ◌^◌, true, false, cond, List, [], ◌∷◌, length, Option, Some, None, refl, sym, ◌∙◌, ap, subst, arith}
use Rattle.std.specs.Prelude.{sum_by, unwrap_or, min}
use Rattle.std.specs.List.{range_with_len}
use Rattle.std.proofs.Math.Nat.{mod-lt}
use Rattle.std.proofs.lemmas.List.Sums.{sum_by-cons, get_or-le-sum_by}
use Rattle.std.proofs.lemmas.List.FromFn.{length-range_with_len, get_or-range_with_len}
use Rattle.object_words.specs.declared.bucket.Bucket.{Bucket}
use Rattle.object_words.specs.declared.head.SeenSlot.{SeenSlot}
use Rattle.object_words.specs.declared.head.SeenSlot.TheVariants.{Nothing}
use Rattle.object_words.specs.Names.{Named, none, at, entries}
use Rattle.object_words.specs.Numbers.{greatest}
use Rattle.object_words.specs.Keys.{shard_key, number_of}
use Rattle.object_words.specs.Hashes.{hash_of, mixed, shard_of}
use Rattle.object_words.specs.Entries.{EntryView, no_entry}
use Rattle.object_words.specs.Shards.{Shard, total, sum_over, object_count, byte_count, tag_count, stats_of}
use Rattle.object_words.proofs.NameLemmas.{at-none}
use Rattle.object_words.proofs.KeyLemmas.{number_itself}
use Rattle.object_words.proofs.Sums.{count_of}
use Rattle.realm_model.specs.Settings.{SettingsView, IsSettings}
use Rattle.realm_model.specs.Containers.{row_in, is_standing, entry_in, key_of_name, entry_of_name, is_settled}
use Rattle.realm_model.specs.Counts.{live_count, live_bytes, counts_of}
use Rattle.realm_model.specs.Histories.{world_of, state_of, Legal}
use Rattle.realm_model.specs.Maps.{slot_at, heads}
use Rattle.realm_model.specs.States.{State}
use Rattle.realm_model.specs.Worlds.{World}
use Rattle.realm_model.specs.declared.event.Event.{Event}
use Rattle.realm_model.proofs.ObjectLemmas.{number_same}
use Rattle.index_law.specs.Tables.{IsPlaced}
use Rattle.index_law.proofs.Keeping.{holds}
use Rattle.index_law.proofs.Consequences.{row_is_of, counted, sized, row_has_shards}
use Rattle.realm_law.specs.Totals.{counted_in, over_shards, names_of_shard, IsAtRest}
use Rattle.realm_law.proofs.MapSums.{at-where_name, Alike, alike_totals, count-le-total, sum_same, parts_of_map}

-- ---- a shard's entries as a map

-- the entries of a shard; one that was never made has none
abbrev entries_in : Option Shard → Named EntryView
entries_in None = none
entries_in (Some s) = s.entries

none_total : (f : EntryView → ℕ) → total f (entries (none {X = EntryView})) ≡ 0
unfolding none entries
none_total f = refl

total_in : (f : EntryView → ℕ) (o : Option Shard) → counted_in (sum_over f) o ≡ total f (entries (entries_in o))
total_in f None = sym (none_total f)
total_in f (Some s) = refl

count_found : (f : EntryView → ℕ) → f no_entry ≡ 0 → (found : Option EntryView) → count_of f found ≡ f (unwrap_or found no_entry)
count_found f empty None = sym empty
count_found f empty (Some e) = refl

-- an entry counts as it is found; an absent one counts nothing
count_in : (f : EntryView → ℕ) → f no_entry ≡ 0 → (o : Option Shard) (q : List ℕ) → count_of f (at (entries_in o) q) ≡ f (entry_in o q)
count_in f empty None q = ap (count_of f) (at-none q) ∙ sym empty
count_in f empty (Some s) q = count_found f empty (at s.entries q)

slot_counts : (g : SeenSlot → ℕ) → g Nothing ≡ 0 → (map : Named SeenSlot) (q : List ℕ) → g (slot_at map q) ≡ count_of g (at map q)
slot_counts g empty map q = found (at map q) where
  found : (o : Option SeenSlot) → g (unwrap_or o Nothing) ≡ count_of g o
  found None = empty
  found (Some slot) = refl

within : (row : Bucket) → 1 ≤ row.shards → (q : List ℕ) → shard_of q row.shards < row.shards
within row some q = mod-lt (mixed (hash_of q % 2 ^ 32) % 7877) (omega (arith, some))

-- ---- one shard of a row

untagged_in : (o : Option Shard) (q : List ℕ) → counted_in (λ s. (stats_of s).tags) o ≡ 0 → is_settled (entry_in o q) ≡ true
untagged_in None q empty = refl
untagged_in (Some s) q empty =
    let least = count-le-total tag_count s.entries q in
    let found = count_found tag_count refl (at s.entries q) in
    let zero : length (entry_in (Some s) q).tags ≡ 0 = omega (arith, least, found, empty) in
    ap (λ k. k == 0) zero

module _ (settings : SettingsView) (history : List Event) (zone container : ℕ) (row : Bucket) (good : IsSettings settings) (legal : Legal settings history)
    (row_is : row_in (world_of settings history).rows (state_of settings history) zone container ≡ Some row) (stands : is_standing (world_of settings history).rows (state_of settings history) container ≡ true) where
  abbrev w : World
  w = world_of settings history

  abbrev map : Named SeenSlot
  map = heads history zone container

  abbrev shard : ℕ → Option Shard
  shard n = w.state.shards zone (shard_key row.id row.instance n)

  abbrev IsSettled : List ℕ → Type 0
  IsSettled q = is_settled (entry_of_name w.state zone row q) ≡ true

  -- a name has an entry in the shard of its hash alone
  placed_there : (n : ℕ) (q : List ℕ) → IsPlaced w.rows.instances zone (shard_key row.id row.instance n) q → shard_of q row.shards ≡ n
  placed_there n q p =
      let j = holds settings history good legal in
      let r = row_is_of w zone container row row_is in
      let named = (j.rows_stand.kept zone (r.home).name row r.kept).named in
      let same : Some p.instance ≡ Some named.instance = sym p.placed ∙ named.placed in
      let one : p.instance ≡ named.instance = cc in
      sym (ap number_of p.key_is ∙ ap (λ i. shard_of q i.shards) one ∙ ap (shard_of q) named.shards_are)

  elsewhere : (f : EntryView → ℕ) → f no_entry ≡ 0 → (n : ℕ) (q : List ℕ) → (shard_of q row.shards == n) ≡ false → f (entry_in (shard n) q) ≡ 0
  elsewhere f empty n q other =
      ⊎_elim (λ absent. ap f absent ∙ empty)
      (λ placed. let itself = subst (λ k. (shard_of q row.shards == k) ≡ true) (placed_there n q placed) (number_itself (shard_of q row.shards)) in absurd (let bad : true ≡ false = sym itself ∙ other in cc))
      ((holds settings history good legal).tags_of_prepare.held zone (shard_key row.id row.instance n) q)

  module _ (f : EntryView → ℕ) (g : SeenSlot → ℕ) (f_empty : f no_entry ≡ 0) (g_empty : g Nothing ≡ 0)
      (shown : (q : List ℕ) → IsSettled q → f (entry_of_name w.state zone row q) ≡ g (slot_at map q)) where
    alike : (n : ℕ) → ((q : List ℕ) → shard_of q row.shards ≡ n → IsSettled q) → Alike f g (entries_in (shard n)) (names_of_shard row n map)
    alike n settled q =
        count_in f f_empty (shard n) q
        ∙ elim (shard_of q row.shards == n) as (λ b. (shard_of q row.shards == n) ≡ b → f (entry_in (shard n) q) ≡ count_of g (cond b (at map q) None)) [
          | true ↦ λ same.
              let here = number_same (shard_of q row.shards) n same in
              ap (λ k. f (entry_in (shard k) q)) (sym here) ∙ shown q (settled q here) ∙ slot_counts g g_empty map q
          | false ↦ elsewhere f f_empty n q
        ] refl
        ∙ sym (ap (count_of g) (at-where_name (λ q. shard_of q row.shards == n) map q))

    shard_counts : (n : ℕ) → ((q : List ℕ) → shard_of q row.shards ≡ n → IsSettled q) → counted_in (sum_over f) (shard n) ≡ total g (entries (names_of_shard row n map))
    shard_counts n settled = total_in f (shard n) ∙ alike_totals f g (entries_in (shard n)) (names_of_shard row n map) (alike n settled)

    row_counts : 1 ≤ row.shards → ((q : List ℕ) → IsSettled q) → over_shards (sum_over f) w.state zone row ≡ total g (entries map)
    row_counts some settled =
        sum_same (λ n. counted_in (sum_over f) (shard n)) (λ n. total g (entries (names_of_shard row n map))) (λ n. shard_counts n (λ q here. settled q)) (range_with_len 0 row.shards)
        ∙ parts_of_map g (λ q. shard_of q row.shards) row.shards (within row some) map

  objects_shown : (q : List ℕ) → IsSettled q → object_count (entry_of_name w.state zone row q) ≡ live_count (slot_at map q)
  objects_shown q settled = counted settings history zone container q row good legal row_is stands settled

  bytes_shown_of : (q : List ℕ) → IsSettled q → byte_count (entry_of_name w.state zone row q) ≡ live_bytes (slot_at map q)
  bytes_shown_of q settled = sized settings history zone container q row good legal row_is stands settled

  module _ (n : ℕ) (s : Shard) (there : shard n ≡ Some s) (untagged : (stats_of s).tags ≡ 0) where
    settled_there : (q : List ℕ) → shard_of q row.shards ≡ n → IsSettled q
    settled_there q here =
        subst (λ k. is_settled (entry_in (shard k) q) ≡ true) (sym here)
        (untagged_in (shard n) q (ap (counted_in (λ s. (stats_of s).tags)) there ∙ untagged))

    pub shard_objects : (stats_of s).objects ≡ (counts_of (names_of_shard row n map)).objects
    shard_objects = sym (ap (counted_in (sum_over object_count)) there) ∙ shard_counts object_count live_count refl refl objects_shown n settled_there

    pub shard_bytes : (stats_of s).bytes ≡ min (counts_of (names_of_shard row n map)).bytes greatest
    shard_bytes = ap (λ sum. min sum greatest) (sym (ap (counted_in (sum_over byte_count)) there) ∙ shard_counts byte_count live_bytes refl refl bytes_shown_of n settled_there)

-- ---- over all shards of a row

header_objects : (o : Option Shard) → counted_in (λ s. (stats_of s).objects) o ≡ counted_in (sum_over object_count) o
header_objects None = refl
header_objects (Some s) = refl

header_bytes : (o : Option Shard) → counted_in (λ s. (stats_of s).bytes) o ≡ min (counted_in (sum_over byte_count) o) greatest
header_bytes None = omega arith
header_bytes (Some s) = refl

capped : (most : ℕ) (F : ℕ → ℕ) (ns : List ℕ) → min (sum_by (λ n. min (F n) most) ns) most ≡ min (sum_by F ns) most
capped most F [] = refl
capped most F (n ∷ ns) =
    let rest = capped most F ns in
    let all = sum_by-cons F n ns in
    let cut = sum_by-cons (λ n. min (F n) most) n ns in
    omega (arith, rest, all, cut)

module _ (settings : SettingsView) (history : List Event) (zone container : ℕ) (row : Bucket) (good : IsSettings settings) (legal : Legal settings history)
    (rests : IsAtRest (world_of settings history) zone container row) where
  abbrev st : State
  st = state_of settings history

  abbrev at_shard : ℕ → Option Shard
  at_shard n = st.shards zone (shard_key row.id row.instance n)

  pub objects_counted : over_shards (λ s. (stats_of s).objects) st zone row ≡ (counts_of (heads history zone container)).objects
  objects_counted =
      sum_same (λ n. counted_in (λ s. (stats_of s).objects) (at_shard n)) (λ n. counted_in (sum_over object_count) (at_shard n)) (λ n. header_objects (at_shard n)) (range_with_len 0 row.shards)
      ∙ row_counts settings history zone container row good legal rests.row_is rests.stands object_count live_count refl refl (objects_shown settings history zone container row good legal rests.row_is rests.stands) (row_has_shards settings history zone container row good legal rests.row_is) rests.settled

  pub bytes_counted : over_shards (sum_over byte_count) st zone row ≡ (counts_of (heads history zone container)).bytes
  bytes_counted =
      row_counts settings history zone container row good legal rests.row_is rests.stands byte_count live_bytes refl refl (bytes_shown_of settings history zone container row good legal rests.row_is rests.stands) (row_has_shards settings history zone container row good legal rests.row_is) rests.settled

  pub bytes_shown : min (over_shards (λ s. (stats_of s).bytes) st zone row) greatest ≡ min (counts_of (heads history zone container)).bytes greatest
  bytes_shown =
      ap (λ sum. min sum greatest)
      (sum_same (λ n. counted_in (λ s. (stats_of s).bytes) (at_shard n)) (λ n. min (counted_in (sum_over byte_count) (at_shard n)) greatest) (λ n. header_bytes (at_shard n)) (range_with_len 0 row.shards))
      ∙ capped greatest (λ n. counted_in (sum_over byte_count) (at_shard n)) (range_with_len 0 row.shards)
      ∙ ap (λ sum. min sum greatest) bytes_counted

-- ---- headers without tags

pub settled_without : (st : State) (zone : ℕ) (row : Bucket) (name : List ℕ) → 1 ≤ row.shards → over_shards (λ s. (stats_of s).tags) st zone row ≡ 0 → is_settled (entry_of_name st zone row name) ≡ true
settled_without st zone row name some empty =
    let ns = range_with_len 0 row.shards in
    let i = shard_of name row.shards in
    let F : ℕ → ℕ = λ n. counted_in (λ s. (stats_of s).tags) (st.shards zone (shard_key row.id row.instance n)) in
    let low = within row some name in
    let len = length-range_with_len 0 row.shards in
    let least = get_or-le-sum_by F ns i 0 (omega (arith, low, len)) in
    let from_zero : 0 + i ≡ i = omega arith in
    let here = ap F (get_or-range_with_len 0 row.shards i 0 low ∙ from_zero) in
    let zero : F i ≡ 0 = omega (arith, least, empty, here) in
    untagged_in (st.shards zone (key_of_name row name)) name zero
