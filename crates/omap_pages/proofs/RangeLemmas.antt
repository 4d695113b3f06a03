-- The rows from one key to below another, by their places.
use Rattle.std.proofs.Common.{◌≡◌, ℕ, ◌+◌, ◌<◌, ◌≤◌, Bool, true, false, not, ◌&&◌, List, length, get_or, max, refl, ap, ◌∙◌, arith}
use Rattle.std.specs.List.{remove_range}
use Rattle.std.specs.Ordering.{is_lt, is_le, ordering_reverse}
use Rattle.std.specs.declared.cmp.Ordering.{Ordering}
use Rattle.std.specs.declared.cmp.Ordering.TheVariants.{Less, Equal, Greater}
use Rattle.std.specs.FinMap.Entries.{where_key}
use Rattle.std.proofs.lemmas.Cmp.{nat_list_cmp_total}
use Rattle.omap_pages.specs.Places.{IsPartedAt}
use Rattle.omap_pages.specs.Rows.{key_cmp, is_within}
use Rattle.omap_pages.proofs.FilterLemmas.{filter_outside, length-filter_inside}

turned_test : (o : Ordering) → is_lt (ordering_reverse o) ≡ not (is_le o)
turned_test Less = refl
turned_test Equal = refl
turned_test Greater = refl

-- a key is below another exactly where that one is not at most this
below_test : (k to : List ℕ) → is_lt (key_cmp k to) ≡ not (is_le (key_cmp to k))
below_test k to = ap is_lt (nat_list_cmp_total.antisymm k to) ∙ turned_test (key_cmp to k)

and_false : (b : Bool) → b && false ≡ false
and_false true = refl
and_false false = refl

module _ {X : Type 0} (rows : List (List ℕ × X)) (from to : List ℕ) (start stop end : ℕ)
    (first : IsPartedAt (λ k. is_le (key_cmp from k)) rows start) (last : IsPartedAt (λ k. is_le (key_cmp to k)) rows stop) (greater : end ≡ max stop start) where
  before_range : (j : ℕ) (d : List ℕ × X) → j < start → is_within from to (get_or rows j d).0 ≡ false
  before_range j d l = ap (λ b. b && is_lt (key_cmp (get_or rows j d).0 to)) (first.before j d l)

  in_range : (j : ℕ) (d : List ℕ × X) → start ≤ j → j < end → is_within from to (get_or rows j d).0 ≡ true
  in_range j d low high =
      let k = (get_or rows j d).0 in
      (λ i. first.after j d low (omega (arith, last.in_range)) i && (below_test k to ∙ ap not (last.before j d (omega arith))) i)

  after_range : (j : ℕ) (d : List ℕ × X) → end ≤ j → j < length rows → is_within from to (get_or rows j d).0 ≡ false
  after_range j d low high =
      let k = (get_or rows j d).0 in
      ap (λ b. is_le (key_cmp from k) && b) (below_test k to ∙ ap not (last.after j d (omega arith) high)) ∙ and_false (is_le (key_cmp from k))

  pub outside_range : remove_range rows start end ≡ where_key key_cmp (λ k. not (is_within from to k)) rows
  outside_range = filter_outside (λ e. not (is_within from to e.0)) rows start end (omega arith) (omega (arith, first.in_range, last.in_range))
      (λ j d l. ap not (before_range j d l)) (λ j d l m. ap not (in_range j d l m)) (λ j d l m. ap not (after_range j d l m))

  pub length-within_range : length (where_key key_cmp (is_within from to) rows) + start ≡ end
  length-within_range = length-filter_inside (λ e. is_within from to e.0) rows start end (omega arith) (omega (arith, first.in_range, last.in_range)) before_range in_range after_range
