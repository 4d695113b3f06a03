-- What a search among first keys, and then in one leaf, says of all rows.
use Rattle.std.proofs.Common.{◌≡◌, ℕ, suc, ◌+◌, ◌-◌, ◌<◌, ◌≤◌, true, ◌&&◌, List, [], ◌∷◌, ◌++◌, length, get_or, inl, inr, refl, sym, ap, ◌∙◌, arith}
use Rattle.std.specs.Ordering.{is_lt, ordering_reverse, ordering_index}
use Rattle.std.specs.declared.cmp.Ordering.{Ordering}
use Rattle.std.specs.declared.cmp.Ordering.TheVariants.{Less, Equal, Greater}
use Rattle.std.specs.Cmp.{IsTotalOrder}
use Rattle.std.specs.FinMap.Entries.{below_all, is_sorted}
use Rattle.std.specs.List.Sorted.{IsNonDecreasingBy}
use Rattle.std.proofs.lemmas.Bool.{and_parts, cases_lt}
use Rattle.std.proofs.lemmas.Cmp.{nat_list_cmp_total}
use Rattle.std.proofs.lemmas.List.{take_all, get_or_default}
use Rattle.std.proofs.lemmas.List.Sorted.{searchable_from_sorted}
use Rattle.omap_pages.specs.Leaves.{flat, first_key_of, AreLeaves}
use Rattle.omap_pages.specs.Places.{IsAt, IsGapFor}
use Rattle.omap_pages.specs.Rows.{key_cmp}
use Rattle.omap_pages.proofs.FlatLemmas.{front, back, around, read_at, length_next, length_front_le, front_le}
use Rattle.omap_pages.proofs.PlaceLemmas.{less_at, ComesAfter, ComesBefore}
use Rattle.omap_pages.proofs.Searched.{turned, before_at, after_at}

module _ {K X : Type 0} (R : K → K → Ordering) where
  below_all_parts : (x : K) (xs ys : List (K × X)) → below_all R x (xs ++ ys) ≡ true → record { left : below_all R x xs ≡ true; right : below_all R x ys ≡ true }
  below_all_parts x [] ys h = record { left = refl; right = h }
  below_all_parts x (e ∷ xs) ys h =
      let parts = and_parts (is_lt (R x e.0)) (below_all R x (xs ++ ys)) h in
      let rest = below_all_parts x xs ys parts.1 in
      record { left = λ i. parts.0 i && rest.left i; right = rest.right }

  -- the parts of a list in order are in order
  pub sorted_parts : (xs ys : List (K × X)) → is_sorted R (xs ++ ys) ≡ true → record { left : is_sorted R xs ≡ true; right : is_sorted R ys ≡ true }
  sorted_parts [] ys h = record { left = refl; right = h }
  sorted_parts (e ∷ xs) ys h =
      let parts = and_parts (below_all R e.0 (xs ++ ys)) (is_sorted R (xs ++ ys)) h in
      let rest = sorted_parts xs ys parts.1 in
      record { left = λ i. (below_all_parts e.0 xs ys parts.0).left i && rest.left i; right = rest.right }

module _ {K X : Type 0} {R : K → K → Ordering} (o : IsTotalOrder R) (es : List (K × X)) (sorted : is_sorted R es ≡ true) (key : K) (p : ℕ) where
  -- in a list in order it is enough to see the next one on each side
  below_gap : p ≤ length es → ((q : ℕ) (d : K × X) → suc q ≡ p → R key (get_or es q d).0 ≡ Greater) → ComesAfter R es key p
  below_gap le below j d lt = elim (cases_lt (suc j) p) [
    | inl far ↦
        let q : ℕ = p - 1 in
        let next : suc q ≡ p = omega arith in
        let in_range : q < length es = omega arith in
        let before : j < q = omega arith in
        turned o _ _ Less (o.trans _ _ _ (less_at R es sorted j q d before in_range) (turned o _ _ Greater (below q d next)))
    | inr next ↦ below j d (omega arith)
  ]

  above_gap : ((d : K × X) → p < length es → R key (get_or es p d).0 ≡ Less) → ComesBefore R es key p
  above_gap above j d from lt = elim (cases_lt p j) [
    | inl far ↦ let in_range : p < length es = omega arith in o.trans _ _ _ (above d in_range) (less_at R es sorted p j d far lt)
    | inr next ↦ let same : j ≡ p = omega arith in let in_range : p < length es = omega arith in rw same (above d in_range)
  ]

module _ {X : Type 0} (es : List (List ℕ × X)) (sorted : is_sorted key_cmp es ≡ true) (key : List ℕ) (p : ℕ) where
  pub at_from_here : p < length es → ((d : List ℕ × X) → key_cmp key (get_or es p d).0 ≡ Equal) → IsAt es key p
  at_from_here lt tie =
      let tie' : (d : List ℕ × X) → key_cmp (get_or es p d).0 key ≡ Equal = λ d. turned nat_list_cmp_total key (get_or es p d).0 Equal (tie d) in
      record {
        in_range = lt;
        before = before_at nat_list_cmp_total es sorted key p lt tie';
        here = tie;
        after = after_at nat_list_cmp_total es sorted key p tie';
      }

  pub gap_from_neighbours : p ≤ length es → ((q : ℕ) (d : List ℕ × X) → suc q ≡ p → key_cmp key (get_or es q d).0 ≡ Greater) → ((d : List ℕ × X) → p < length es → key_cmp key (get_or es p d).0 ≡ Less) → IsGapFor es key p
  gap_from_neighbours le below above = record {
    in_range = le;
    before = below_gap nat_list_cmp_total es sorted key p le below;
    after = above_gap nat_list_cmp_total es sorted key p above;
  }

some_row : {Y : Type 0} (l : List Y) → 0 < length l → Y
some_row [] lt = absurd (omega arith)
some_row (y ∷ ys) lt = y

some_leaf : {Y : Type 0} (ls : List (List Y)) → 0 < length (flat ls) → 0 < length ls
some_leaf [] lt = absurd (omega arith)
some_leaf (l ∷ ls) lt = omega arith

first_is : {X : Type 0} (l : List (List ℕ × X)) (d : List ℕ × X) → 0 < length l → first_key_of l ≡ (get_or l 0 d).0
first_is [] d lt = absurd (omega arith)
first_is (e ∷ es) d lt = refl

-- leaves whose rows are in order
module _ {X : Type 0} (ls : List (List (List ℕ × X))) (sorted : is_sorted key_cmp (flat ls) ≡ true) (leaves : AreLeaves ls) where
  pub sorted_leaf : (i : ℕ) → i < length ls → is_sorted key_cmp (get_or ls i []) ≡ true
  sorted_leaf i lt =
      let rest = (sorted_parts key_cmp (front ls i) (get_or ls i [] ++ back ls i) (ap (is_sorted key_cmp) (sym (around ls i lt)) ∙ sorted)).right in
      (sorted_parts key_cmp (get_or ls i []) (back ls i) rest).left

  row_bound : (i r : ℕ) → i < length ls → r < length (get_or ls i []) → length (front ls i) + r < length (flat ls)
  row_bound i r lt row = omega (arith, length_front_le ls (i + 1), length_next ls i lt)

  -- an earlier row is below a later one
  row_before : (i j r s : ℕ) (d : List ℕ × X) → i < length ls → j < length ls → r < length (get_or ls i []) → s < length (get_or ls j []) → length (front ls i) + r < length (front ls j) + s → key_cmp (get_or (get_or ls i []) r d).0 (get_or (get_or ls j []) s d).0 ≡ Less
  row_before i j r s d i_in j_in r_in s_in lt =
      (λ t. key_cmp (sym (read_at ls i i_in r d r_in) t).0 (sym (read_at ls j j_in s d s_in) t).0)
      ∙ less_at key_cmp (flat ls) sorted (length (front ls i) + r) (length (front ls j) + s) d lt (row_bound j s j_in s_in)

  some_rows : (i : ℕ) → i < length ls → 0 < length (get_or ls i [])
  some_rows i lt = (leaves i [] lt).0

  first_keys_rise : (j k : ℕ) (d : List (List ℕ × X)) → j < k → k < length ls → key_cmp (first_key_of (get_or ls j d)) (first_key_of (get_or ls k d)) ≡ Less
  first_keys_rise j k d lt in_range =
      let j_in : j < length ls = omega arith in
      let j_some = some_rows j j_in in
      let k_some = some_rows k in_range in
      let row = some_row (get_or ls j []) j_some in
      (λ t. key_cmp (first_key_of (get_or_default ls j d [] j_in t)) (first_key_of (get_or_default ls k d [] in_range t)))
      ∙ (λ t. key_cmp (first_is (get_or ls j []) row j_some t) (first_is (get_or ls k []) row k_some t))
      ∙ row_before j k 0 0 row j_in in_range j_some k_some (omega (arith, front_le ls j k lt (omega arith)))

  pub comparisons_of_first_keys_rise : (key : List ℕ) → IsNonDecreasingBy (λ leaf. ordering_index (key_cmp (first_key_of leaf) key)) ls
  comparisons_of_first_keys_rise key = searchable_from_sorted nat_list_cmp_total first_key_of ls key (λ j d low high. ap is_lt (turned nat_list_cmp_total (first_key_of (get_or ls j d)) (first_key_of (get_or ls (j + 1) d)) Less (first_keys_rise j (j + 1) d (omega arith) high)))

  module _ (key : List ℕ) where
    -- how the key compares with the first row of a leaf
    first_row : (i : ℕ) (d : List ℕ × X) (r : Ordering) → i < length ls → ((e : List (List ℕ × X)) → key_cmp (first_key_of (get_or ls i e)) key ≡ r) → key_cmp key (get_or (get_or ls i []) 0 d).0 ≡ ordering_reverse r
    first_row i d r lt is = ap (key_cmp key) (sym (first_is (get_or ls i []) d (some_rows i lt))) ∙ turned nat_list_cmp_total (first_key_of (get_or ls i [])) key r (is [])

    -- the key is the first one of a leaf
    pub found_first : (i : ℕ) → i < length ls → ((e : List (List ℕ × X)) → key_cmp (first_key_of (get_or ls i e)) key ≡ Equal) → IsAt (flat ls) key (length (front ls i) + 0)
    found_first i lt is = at_from_here (flat ls) sorted key (length (front ls i) + 0) (row_bound i 0 lt (some_rows i lt)) (λ d. ap (λ (e : List ℕ × X). key_cmp key e.0) (read_at ls i lt 0 d (some_rows i lt)) ∙ first_row i d Equal lt is)

    -- the key is below all first ones
    pub gap_before_all : ((i : ℕ) (e : List (List ℕ × X)) → i < length ls → key_cmp (first_key_of (get_or ls i e)) key ≡ Greater) → IsGapFor (flat ls) key 0
    gap_before_all above = gap_from_neighbours (flat ls) sorted key 0 (omega arith) (λ q d e. absurd (omega arith)) (λ d lt.
        let some = some_leaf ls lt in
        ap (λ (e : List ℕ × X). key_cmp key e.0) (read_at ls 0 some 0 d (some_rows 0 some)) ∙ first_row 0 d Greater some (λ e. above 0 e some))

    module _ (i r : ℕ) (lt : i < length ls) where
      pub found_within : IsAt (get_or ls i []) key r → IsAt (flat ls) key (length (front ls i) + r)
      found_within at = at_from_here (flat ls) sorted key (length (front ls i) + r) (row_bound i r lt at.in_range) (λ d. ap (λ (e : List ℕ × X). key_cmp key e.0) (read_at ls i lt r d at.in_range) ∙ at.here d)

      -- the key is above the first one of the leaf, and below that of the next
      pub gap_within : ((e : List (List ℕ × X)) → key_cmp (first_key_of (get_or ls i e)) key ≡ Less) → ((e : List (List ℕ × X)) → i + 1 < length ls → key_cmp (first_key_of (get_or ls (i + 1) e)) key ≡ Greater) → IsGapFor (get_or ls i []) key r → IsGapFor (flat ls) key (length (front ls i) + r)
      gap_within first next gap = gap_from_neighbours (flat ls) sorted key (length (front ls i) + r) (omega (arith, gap.in_range, length_front_le ls (i + 1), length_next ls i lt))
          (λ q d e. elim (cases_lt 0 r) [
            | inl some ↦
                let last : ℕ = r - 1 in
                let below : last < r = omega arith in
                let is : q ≡ length (front ls i) + last = omega arith in
                let within : last < length (get_or ls i []) = omega (arith, gap.in_range) in
                ap (λ n. key_cmp key (get_or (flat ls) n d).0) is ∙ ap (λ (e : List ℕ × X). key_cmp key e.0) (read_at ls i lt last d within) ∙ gap.before last d below
            | inr none ↦
                let after = gap.after 0 d none (some_rows i lt) in
                let before = first_row i d Less lt first in
                absurd (cc (after, before))
          ])
          (λ d in_all. elim (cases_lt r (length (get_or ls i []))) [
            | inl inner ↦ ap (λ (e : List ℕ × X). key_cmp key e.0) (read_at ls i lt r d inner) ∙ gap.after r d (omega arith) inner
            | inr end ↦
                let size = length_next ls i lt in
                let last : r ≡ length (get_or ls i []) = omega (arith, gap.in_range) in
                let more : i + 1 < length ls = elim (cases_lt (i + 1) (length ls)) [ inl more ↦ more | inr all ↦ absurd (omega (arith, ap (λ z. length (flat z)) (take_all (i + 1) ls all))) ] in
                let is : length (front ls i) + r ≡ length (front ls (i + 1)) + 0 = omega arith in
                ap (λ n. key_cmp key (get_or (flat ls) n d).0) is ∙ ap (λ (e : List ℕ × X). key_cmp key e.0) (read_at ls (i + 1) more 0 d (some_rows (i + 1) more)) ∙ first_row (i + 1) d Greater more (λ e. next e more)
          ])
