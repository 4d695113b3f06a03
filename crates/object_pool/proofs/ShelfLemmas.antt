-- What the objects by their keys are where one is written, added or forgotten.
use Rattle.std.proofs.Common.{◌≡◌, ◌≢◌, ℕ, Bool, true, false, cond, List, [], ◌∷◌, map, Option, Some, None, IsNone, is_some, ◌⊎◌, inl, inr, refl, sym, ◌∙◌, ap, ap₂, subst}
use Rattle.std.specs.List.{AllByRecursion, filter}
use Rattle.std.specs.List.Sorted.{IsStrictlySortedBy}
use Rattle.std.specs.Option.{option_map}
use Rattle.std.specs.Map.{keys_of, lookup, set_value}
use Rattle.std.specs.BTreeMap.{insert_entry}
use Rattle.std.specs.declared.cmp.Ordering.TheVariants.{Less, Equal, Greater}
use Rattle.std.specs.Ordering.{is_eq, match_ordering}
use Rattle.std.proofs.lemmas.Bool.{cases_eq}
use Rattle.slab.specs.Slab.{Slab, get, with_value, Updates}
use Rattle.slab.proofs.SlabLemmas.{Updates-with_value}
use Rattle.rgw_types.specs.declared.pool_key.Key.{Key}
use Rattle.object_pool.specs.declared.object.Stored.{Stored}
use Rattle.object_pool.specs.declared.shelf.Kept.{Kept}
use Rattle.object_pool.specs.Objects.{is_key, key_cmp}
use Rattle.object_pool.specs.Stored.{Entries, is_stored}
use Rattle.object_pool.specs.Shelves.{Numbers, object_in, exists_in, stored_at, is_stored_at, left_of, entries_of, HasKey, IsShelf, IsSwept}
use Rattle.object_pool.proofs.EntryLemmas.{lookup_map, all_map, cond-true, cond-false}
use Rattle.object_pool.proofs.Insertions.{map_insert, none_is}
use Rattle.object_pool.proofs.Keys.{itself, same_key}

same_some : {X : Type 0} (x y : X) (o : Option X) → o ≡ Some x → o ≡ Some y → x ≡ y
same_some x y o first second = let both : Some x ≡ Some y = sym first ∙ second in cc

-- a key that is found has its number
pub number_found : (kept : Slab Kept) (numbers : Numbers) (key : Key) (n : ℕ) → AllByRecursion (λ e. HasKey kept e.1 e.0) numbers → lookup (is_key key) numbers ≡ Some n → HasKey kept n key
number_found kept [] key n named found = absurd (let bad : None ≡ Some n = found in cc)
number_found kept (e ∷ es) key n named found =
    elim (is_key key e.0) as (λ b. is_key key e.0 ≡ b → cond b (Some e.1) (lookup (is_key key) es) ≡ Some n → HasKey kept n key) [
      | true ↦ λ here found.
          let number : e.1 ≡ n = cc in
          subst (λ k. HasKey kept n k) (sym (same_key key e.0 here)) (subst (λ m. HasKey kept m e.0) number named.0)
      | false ↦ λ _ later. number_found kept es key n named.1 later
    ] refl found

module _ (kept : Slab Kept) (numbers : Numbers) (shelf : IsShelf kept numbers) where
  -- what has a key has the key's number
  pub found_number : (n : ℕ) (key : Key) → HasKey kept n key → lookup (is_key key) numbers ≡ Some n
  found_number n key has = shelf.numbered n (record { key = key; object = has.object }) has.there

  pub found_object : (n : ℕ) (key : Key) (x : Kept) → lookup (is_key key) numbers ≡ Some n → get kept n ≡ Some x → lookup (is_key key) (entries_of kept numbers) ≡ Some x.object
  found_object n key x found at =
      lookup_map (is_key key) (stored_at kept) numbers
      ∙ ap (λ o. option_map (stored_at kept) o) found
      ∙ ap (λ o. Some (object_in o)) at

-- another object with the same number and key
module _ (kept : Slab Kept) (numbers : Numbers) (shelf : IsShelf kept numbers) (key : Key) (n : ℕ) (has : HasKey kept n key) (w : Stored) where
  abbrev after : Slab Kept
  after = with_value kept n (record { key = key; object = w })

  writes : Updates kept after n (Some (record { key = key; object = w }))
  writes = Updates-with_value kept n (record { key = key; object = w }) (ap is_some has.there)

  own_key : (m : ℕ) (k : Key) → HasKey kept m k → m ≡ n → k ≡ key
  own_key m k of_m same = ap (λ (x : Kept). x.key) (same_some (record { key = k; object = of_m.object }) (record { key = key; object = has.object }) (get kept n) (ap (get kept) (sym same) ∙ of_m.there) has.there)

  still_has : (m : ℕ) (k : Key) → HasKey kept m k → HasKey after m k
  still_has m k of_m =
      elim (cases_eq m n) [
        | inl same ↦ record { object = w; there = ap (get after) same ∙ writes.changed ∙ ap (λ (z : Key). let x : Option Kept = Some (record { key = z; object = w }) in x) (sym (own_key m k of_m same)) }
        | inr differs ↦ record { object = of_m.object; there = writes.others m differs ∙ of_m.there }
      ]

  pub written_shelf : IsShelf after numbers
  written_shelf = record {
    in_order = shelf.in_order;
    named = all_map numbers (λ e. still_has e.1 e.0) shelf.named;
    numbered = λ m x at. elim (cases_eq m n) [
      | inl same ↦
          let is : x.key ≡ key = ap (λ (x : Kept). x.key) (same_some x (record { key = key; object = w }) (get after n) (ap (get after) (sym same) ∙ at) writes.changed) in
          subst (λ k. lookup (is_key k) numbers ≡ Some m) (sym is) (found_number kept numbers shelf n key has ∙ ap (λ i. Some i) (sym same))
      | inr differs ↦ shelf.numbered m x (sym (writes.others m differs) ∙ at)
    ];
  }

  other_number : (e : Key × ℕ) → HasKey kept e.1 e.0 → is_key key e.0 ≡ false → e.1 ≢ n
  other_number e named other same =
      let here : is_key key e.0 ≡ true = subst (λ k. is_key key k ≡ true) (sym (own_key e.1 e.0 named same)) (itself key) in
      let no : false ≡ true = sym other ∙ here in cc

  unwritten : (es : Numbers) → AllByRecursion (λ y. key_cmp key y ≡ Less) (keys_of es) → AllByRecursion (λ e. HasKey kept e.1 e.0) es → entries_of after es ≡ entries_of kept es
  unwritten [] above named = refl
  unwritten (e ∷ es) above named =
      ap₂ (λ x z. (e.0, object_in x) ∷ z) (writes.others e.1 (other_number e named.0 (ap is_eq above.0))) (unwritten es above.1 named.1)

  written_from : (es : Numbers) → IsStrictlySortedBy key_cmp (keys_of es) → AllByRecursion (λ e. HasKey kept e.1 e.0) es → entries_of after es ≡ set_value (is_key key) (entries_of kept es) w
  unfolding IsStrictlySortedBy
  written_from [] sorted named = refl
  written_from (e ∷ es) sorted named =
      elim (is_key key e.0) as (λ b. is_key key e.0 ≡ b → entries_of after (e ∷ es) ≡ cond b ((e.0, w) ∷ entries_of kept es) ((e.0, stored_at kept e.1) ∷ set_value (is_key key) (entries_of kept es) w)) [
        | true ↦ λ here.
            let own : e.0 ≡ key = sym (same_key key e.0 here) in
            let number : e.1 ≡ n = same_some e.1 n (lookup (is_key key) numbers) (subst (λ k. lookup (is_key k) numbers ≡ Some e.1) own (found_number kept numbers shelf e.1 e.0 named.0)) (found_number kept numbers shelf n key has) in
            let above : AllByRecursion (λ y. key_cmp key y ≡ Less) (keys_of es) = subst (λ k. AllByRecursion (λ y. key_cmp k y ≡ Less) (keys_of es)) own sorted.0 in
            ap₂ (λ x z. (e.0, object_in x) ∷ z) (ap (get after) number ∙ writes.changed) (unwritten es above named.1)
        | false ↦ λ other.
            ap₂ (λ x z. (e.0, object_in x) ∷ z) (writes.others e.1 (other_number e named.0 other)) (written_from es sorted.1 named.1)
      ] refl

  pub written_view : entries_of after numbers ≡ set_value (is_key key) (entries_of kept numbers) w
  written_view = written_from numbers shelf.in_order shelf.named

-- what is at the number of a key has the key, and another object may take its place
module _ (kept : Slab Kept) (numbers : Numbers) (shelf : IsShelf kept numbers) (key : Key) (n : ℕ) (found : lookup (is_key key) numbers ≡ Some n) (x : Kept) (at : get kept n ≡ Some x) (w : Stored) where
  has_key : HasKey kept n key
  has_key = number_found kept numbers key n shelf.named found

  key_is : key ≡ x.key
  key_is = ap (λ (x : Kept). x.key) (same_some (record { key = key; object = has_key.object }) x (get kept n) has_key.there at)

  pub lent_shelf : IsShelf (with_value kept n (record { key = x.key; object = w })) numbers
  lent_shelf = subst (λ k. IsShelf (with_value kept n (record { key = k; object = w })) numbers) key_is (written_shelf kept numbers shelf key n has_key w)

  pub lent_view : entries_of (with_value kept n (record { key = x.key; object = w })) numbers ≡ set_value (is_key key) (entries_of kept numbers) w
  lent_view =
      ap (λ k. entries_of (with_value kept n (record { key = k; object = w })) numbers) (sym key_is)
      ∙ written_view kept numbers shelf key n has_key w

-- an object more, with a number that none has
module _ (kept after : Slab Kept) (numbers : Numbers) (shelf : IsShelf kept numbers) (key : Key) (object : Stored) (n : ℕ) (none : IsNone (lookup (is_key key) numbers)) (vacant : get kept n ≡ None)
    (updates : Updates kept after n (Some (record { key = key; object = object }))) where
  other : (m : ℕ) (x : Kept) → get kept m ≡ Some x → m ≢ n
  other m x at same = let both : None ≡ Some x = sym vacant ∙ ap (get kept) (sym same) ∙ at in cc

  keeps : (m : ℕ) (k : Key) → HasKey kept m k → HasKey after m k
  keeps m k has = record { object = has.object; there = updates.others m (other m _ has.there) ∙ has.there }

  unchanged : (es : Numbers) → AllByRecursion (λ e. HasKey kept e.1 e.0) es → entries_of after es ≡ entries_of kept es
  unchanged [] named = refl
  unchanged (e ∷ es) named = ap₂ (λ x z. (e.0, object_in x) ∷ z) (updates.others e.1 (other e.1 _ named.0.there)) (unchanged es named.1)

  named_after : (es : Numbers) → AllByRecursion (λ e. HasKey kept e.1 e.0) es → IsNone (lookup (is_key key) es) → AllByRecursion (λ e. HasKey after e.1 e.0) (insert_entry key_cmp es key n)
  named_after [] named gone = (record { object = object; there = updates.changed }, tt)
  named_after (e ∷ es) named gone =
      elim (key_cmp key e.0) as (λ o. IsNone (cond (is_eq o) (Some e.1) (lookup (is_key key) es)) → AllByRecursion (λ e. HasKey after e.1 e.0) (match_ordering o ((key, n) ∷ e ∷ es) ((e.0, n) ∷ es) (e ∷ insert_entry key_cmp es key n))) [
        | Less ↦ λ _. (record { object = object; there = updates.changed }, (keeps e.1 e.0 named.0, all_map es (λ e. keeps e.1 e.0) named.1))
        | Equal ↦ λ bad. absurd (let no : true ≡ false = bad in cc)
        | Greater ↦ λ later. (keeps e.1 e.0 named.0, named_after es named.1 later)
      ] gone

  pub inserted_shelf : (more : Numbers) → more ≡ insert_entry key_cmp numbers key n → IsStrictlySortedBy key_cmp (keys_of more) → lookup (is_key key) more ≡ Some n → ((q : Key) → lookup (is_key q) more ≡ cond (is_key key q) (Some n) (lookup (is_key q) numbers)) → IsShelf after more
  inserted_shelf more is in_order own found = record {
    in_order = in_order;
    named = subst (AllByRecursion (λ e. HasKey after e.1 e.0)) (sym is) (named_after numbers shelf.named none);
    numbered = λ m x at. elim (cases_eq m n) [
      | inl same ↦
          let is_key_of : x.key ≡ key = ap (λ (x : Kept). x.key) (same_some x (record { key = key; object = object }) (get after n) (ap (get after) (sym same) ∙ at) updates.changed) in
          subst (λ k. lookup (is_key k) more ≡ Some m) (sym is_key_of) (own ∙ ap (λ i. Some i) (sym same))
      | inr differs ↦
          let before : lookup (is_key x.key) numbers ≡ Some m = shelf.numbered m x (sym (updates.others m differs) ∙ at) in
          found x.key ∙ elim (is_key key x.key) as (λ b. is_key key x.key ≡ b → cond b (Some n) (lookup (is_key x.key) numbers) ≡ Some m) [
            | true ↦ λ here.
                let there : lookup (is_key key) numbers ≡ Some m = subst (λ k. lookup (is_key k) numbers ≡ Some m) (sym (same_key key x.key here)) before in
                let no : None ≡ Some m = sym (none_is _ none) ∙ there in
                absurd cc
            | false ↦ λ _. before
          ] refl
    ];
  }

  pub inserted_entries : entries_of after (insert_entry key_cmp numbers key n) ≡ insert_entry key_cmp (entries_of kept numbers) key object
  inserted_entries =
      map_insert key (stored_at after) n numbers
      ∙ ap₂ (λ z x. insert_entry key_cmp z key (object_in x)) (unchanged numbers shelf.named) updates.changed

  pub inserted_found : (more : Numbers) → ((q : Key) → lookup (is_key q) more ≡ cond (is_key key q) (Some n) (lookup (is_key q) numbers)) → (q : Key) → lookup (is_key q) (entries_of after more) ≡ cond (is_key key q) (Some object) (lookup (is_key q) (entries_of kept numbers))
  inserted_found more found q =
      lookup_map (is_key q) (stored_at after) more
      ∙ ap (option_map (stored_at after)) (found q)
      ∙ elim (is_key key q) as (λ b. option_map (stored_at after) (cond b (Some n) (lookup (is_key q) numbers)) ≡ cond b (Some object) (lookup (is_key q) (entries_of kept numbers))) [
        | true ↦ ap (λ x. Some (object_in x)) updates.changed
        | false ↦ sym (lookup_map (is_key q) (stored_at after) numbers) ∙ ap (lookup (is_key q)) (unchanged numbers shelf.named)
      ]

left_whole : (o : Option Kept) → exists_in o ≡ true → left_of o ≡ o
left_whole None exists = refl
left_whole (Some x) exists = cond-true _ _ exists

left_none : (o : Option Kept) → exists_in o ≡ false → left_of o ≡ None
left_none None gone = refl
left_none (Some x) gone = cond-false _ _ gone

-- what is left exists as before, and all of it is left
pub exists_left : (o : Option Kept) → exists_in (left_of o) ≡ exists_in o
exists_left None = refl
exists_left (Some x) =
    elim (is_stored x.object) as (λ b. is_stored x.object ≡ b → exists_in (cond b (Some x) None) ≡ is_stored x.object) [
      | true ↦ λ _. refl
      | false ↦ λ gone. sym gone
    ] refl

pub left_twice : (o : Option Kept) → left_of (left_of o) ≡ left_of o
left_twice o =
    elim (exists_in o) as (λ b. exists_in o ≡ b → left_of (left_of o) ≡ left_of o) [
      | true ↦ λ exists. ap left_of (left_whole o exists)
      | false ↦ λ gone. ap left_of (left_none o gone) ∙ sym (left_none o gone)
    ] refl

pub stays_there : (kept : Slab Kept) (n : ℕ) → is_stored_at kept n ≡ true → Updates kept kept n (left_of (get kept n))
stays_there kept n exists = record { changed = sym (left_whole (get kept n) exists); others = λ m _. refl }

pub leaves_none : (old new : Slab Kept) (n : ℕ) → is_stored_at old n ≡ false → Updates old new n None → Updates old new n (left_of (get old n))
leaves_none old new n gone updates = subst (Updates old new n) (sym (left_none (get old n) gone)) updates

-- a number of the list
abbrev pub IsAmong : ℕ → List ℕ → Type 0
IsAmong m [] = ⊥
IsAmong m (n ∷ ns) = (m ≡ n) ⊎ IsAmong m ns

-- only at these numbers is there something yet to forget
pub record SweepsAll (old new : Slab Kept) (rest : List ℕ) : Type 0 where
  pub same : (m : ℕ) → left_of (get new m) ≡ left_of (get old m)
  pub done : (m : ℕ) → IsAmong m rest ⊎ (left_of (get new m) ≡ get new m)

found_among : (test : Key → Bool) (es : Numbers) (m : ℕ) → lookup test es ≡ Some m → IsAmong m (map (λ e. e.1) es)
found_among test [] m found = absurd (let bad : None ≡ Some m = found in cc)
found_among test (e ∷ es) m found =
    elim (test e.0) as (λ b. cond b (Some e.1) (lookup test es) ≡ Some m → (m ≡ e.1) ⊎ IsAmong m (map (λ e. e.1) es)) [
      | true ↦ λ here. let number : m ≡ e.1 = cc in inl number
      | false ↦ λ later. inr (found_among test es m later)
    ] found

pub sweep_starts : (kept : Slab Kept) (numbers : Numbers) → IsShelf kept numbers → SweepsAll kept kept (map (λ e. e.1) numbers)
sweep_starts kept numbers shelf = record {
  same = λ m. refl;
  done = λ m. elim (get kept m) as (λ o. get kept m ≡ o → IsAmong m (map (λ e. e.1) numbers) ⊎ (left_of o ≡ o)) [
    | None ↦ λ _. inr refl
    | Some x ↦ λ at. inl (found_among (is_key x.key) numbers m (shelf.numbered m x at))
  ] refl;
}

pub sweep_goes_on : (old mid new : Slab Kept) (n : ℕ) (rest : List ℕ) → SweepsAll old mid (n ∷ rest) → Updates mid new n (left_of (get mid n)) → SweepsAll old new rest
sweep_goes_on old mid new n rest so_far updates = record {
  same = λ m. elim (cases_eq m n) [
    | inl same ↦
        let at : get new m ≡ left_of (get mid m) = ap (get new) same ∙ updates.changed ∙ ap (λ k. left_of (get mid k)) (sym same) in
        ap left_of at ∙ left_twice (get mid m) ∙ so_far.same m
    | inr differs ↦ ap left_of (updates.others m differs) ∙ so_far.same m
  ];
  done = λ m. elim (cases_eq m n) [
    | inl same ↦
        let at : get new m ≡ left_of (get mid m) = ap (get new) same ∙ updates.changed ∙ ap (λ k. left_of (get mid k)) (sym same) in
        inr (ap left_of at ∙ left_twice (get mid m) ∙ sym at)
    | inr differs ↦
        elim (so_far.done m) [
          | inl among ↦ elim among [
            | inl same ↦ absurd (differs same)
            | inr later ↦ inl later
          ]
          | inr whole ↦
              let at : get new m ≡ get mid m = updates.others m differs in
              inr (ap left_of at ∙ whole ∙ sym at)
        ]
  ];
}

pub sweep_ends : (old new : Slab Kept) (rest : List ℕ) → rest ≡ [] → SweepsAll old new rest → IsSwept old new
sweep_ends old new rest none all m =
    let last : SweepsAll old new [] = subst (SweepsAll old new) none all in
    elim (last.done m) [
      | inl bad ↦ absurd bad
      | inr whole ↦ sym whole ∙ last.same m
    ]

-- the same numbers are those of objects that exist
pub same_numbers : (old new : Slab Kept) (numbers : Numbers) → IsSwept old new → filter (λ e. is_stored_at new e.1) numbers ≡ filter (λ e. is_stored_at old e.1) numbers
same_numbers old new numbers swept =
    let same : (m : ℕ) → is_stored_at new m ≡ is_stored_at old m = λ m. ap exists_in (swept m) ∙ exists_left (get old m) in
    λ i. filter (λ e. same e.1 i) numbers

-- only the objects that exist
module _ (kept after : Slab Kept) (numbers : Numbers) (shelf : IsShelf kept numbers) (retains : IsSwept kept after) where
  abbrev stays : Key × ℕ → Bool
  stays e = is_stored_at kept e.1

  exists_there : (m : ℕ) (k : Key) (has : HasKey kept m k) → is_stored_at kept m ≡ is_stored has.object
  exists_there m k has = ap exists_in has.there

  left_there : (m : ℕ) (k : Key) → HasKey kept m k → is_stored_at kept m ≡ true → HasKey after m k
  left_there m k has exists = record { object = has.object; there = retains m ∙ ap left_of has.there ∙ cond-true _ _ (sym (exists_there m k has) ∙ exists) }

  named_left : (es : Numbers) → AllByRecursion (λ e. HasKey kept e.1 e.0) es → AllByRecursion (λ e. HasKey after e.1 e.0) (filter stays es)
  named_left [] named = tt
  named_left (e ∷ es) named =
      elim (stays e) as (λ b. stays e ≡ b → AllByRecursion (λ e. HasKey after e.1 e.0) (cond b (e ∷ filter stays es) (filter stays es))) [
        | true ↦ λ exists. (left_there e.1 e.0 named.0 exists, named_left es named.1)
        | false ↦ λ _. named_left es named.1
      ] refl

  found_left : (test : Key → Bool) (es : Numbers) (m : ℕ) → lookup test es ≡ Some m → is_stored_at kept m ≡ true → lookup test (filter stays es) ≡ Some m
  found_left test [] m found exists = found
  found_left test (e ∷ es) m found exists =
      elim (test e.0) as (λ t. test e.0 ≡ t → cond t (Some e.1) (lookup test es) ≡ Some m → lookup test (cond (stays e) (e ∷ filter stays es) (filter stays es)) ≡ Some m) [
        | true ↦ λ here found.
            let number : m ≡ e.1 = cc in
            let stay : stays e ≡ true = ap (is_stored_at kept) (sym number) ∙ exists in
            ap (λ b. lookup test (cond b (e ∷ filter stays es) (filter stays es))) stay ∙ cond-true _ _ here ∙ found
        | false ↦ λ other later.
            let more = found_left test es m later exists in
            elim (stays e) as (λ b. lookup test (cond b (e ∷ filter stays es) (filter stays es)) ≡ Some m) [
              | true ↦ cond-false _ _ other ∙ more
              | false ↦ more
            ]
      ] refl found

  was_there : (x : Kept) (o : Option Kept) → left_of o ≡ Some x → (o ≡ Some x) × (exists_in o ≡ true)
  was_there x None left = absurd (let bad : None ≡ Some x = left in cc)
  was_there x (Some y) left =
      elim (is_stored y.object) as (λ b. is_stored y.object ≡ b → cond b (Some y) None ≡ Some x → (Some y ≡ Some x) × (is_stored y.object ≡ true)) [
        | true ↦ λ exists same. (same, exists)
        | false ↦ λ _ bad. absurd (let no : None ≡ Some x = bad in cc)
      ] refl left

  pub retained_shelf : (fewer : Numbers) → fewer ≡ filter stays numbers → IsStrictlySortedBy key_cmp (keys_of fewer) → IsShelf after fewer
  retained_shelf fewer is in_order = record {
    in_order = in_order;
    named = subst (AllByRecursion (λ e. HasKey after e.1 e.0)) (sym is) (named_left numbers shelf.named);
    numbered = λ m x at.
        let was = was_there x (get kept m) (sym (retains m) ∙ at) in
        ap (lookup (is_key x.key)) is ∙ found_left (is_key x.key) numbers m (shelf.numbered m x was.0) was.1;
  }

  retained_from : (es : Numbers) → AllByRecursion (λ e. HasKey kept e.1 e.0) es → entries_of after (filter stays es) ≡ filter (λ e. is_stored e.1) (entries_of kept es)
  unfolding left_there
  retained_from [] named = refl
  retained_from (e ∷ es) named =
      let E : Entries → Entries = filter (λ e. is_stored e.1) in
      let there : stored_at kept e.1 ≡ named.0.object = ap object_in named.0.there in
      let same : stays e ≡ is_stored (stored_at kept e.1) = exists_there e.1 e.0 named.0 ∙ ap is_stored (sym there) in
      let more = retained_from es named.1 in
      elim (stays e) as (λ b. stays e ≡ b → entries_of after (cond b (e ∷ filter stays es) (filter stays es)) ≡ E (entries_of kept (e ∷ es))) [
        | true ↦ λ exists.
            let now : stored_at after e.1 ≡ stored_at kept e.1 = ap object_in (left_there e.1 e.0 named.0 exists).there ∙ sym there in
            ap₂ (λ x z. (e.0, x) ∷ z) now more ∙ sym (cond-true _ _ (sym same ∙ exists))
        | false ↦ λ gone. more ∙ sym (cond-false _ _ (sym same ∙ gone))
      ] refl

  pub retained_entries : entries_of after (filter stays numbers) ≡ filter (λ e. is_stored e.1) (entries_of kept numbers)
  retained_entries = retained_from numbers shelf.named

same_keys : (kept : Slab Kept) (es : Numbers) → keys_of (entries_of kept es) ≡ keys_of es
same_keys kept [] = refl
same_keys kept (e ∷ es) = ap (λ z. e.0 ∷ z) (same_keys kept es)

pub entries_in_order : (kept : Slab Kept) (es : Numbers) → IsStrictlySortedBy key_cmp (keys_of es) → IsStrictlySortedBy key_cmp (keys_of (entries_of kept es))
entries_in_order kept es = subst (IsStrictlySortedBy key_cmp) (sym (same_keys kept es))

-- a number is found where an object is
pub number_or_not : (kept : Slab Kept) (numbers : Numbers) (entries : Entries) (test : Key → Bool) → entries_of kept numbers ≡ entries → is_some (lookup test numbers) ≡ is_some (lookup test entries)
number_or_not kept numbers entries test same =
    let mapped : lookup test entries ≡ option_map (stored_at kept) (lookup test numbers) = ap (lookup test) (sym same) ∙ lookup_map test (stored_at kept) numbers in
    sym (ap is_some mapped ∙ elim (lookup test numbers) as (λ o. is_some (option_map (stored_at kept) o) ≡ is_some o) [
      | None ↦ refl
      | Some n ↦ refl
    ])

pub found_nothing : (kept : Slab Kept) (numbers : Numbers) (test : Key → Bool) → lookup test numbers ≡ None → lookup test (entries_of kept numbers) ≡ None
found_nothing kept numbers test none = lookup_map test (stored_at kept) numbers ∙ ap (λ o. option_map (stored_at kept) o) none

-- more room changes nothing that is there
pub reserved_shelf : (old new : Slab Kept) (numbers : Numbers) → new ≡ record old { capacity = new.capacity } → IsShelf old numbers → IsShelf new numbers
reserved_shelf old new numbers same shelf =
    let still : (n : ℕ) → get new n ≡ get old n = λ n. ap (λ s. get s n) same in
    record {
      in_order = shelf.in_order;
      named = all_map numbers (λ e has. record { object = has.object; there = still e.1 ∙ has.there }) shelf.named;
      numbered = λ n x at. shelf.numbered n x (sym (still n) ∙ at);
    }
