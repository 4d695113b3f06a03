-- What a binary search finds among rows in order.
use Rattle.std.proofs.Common.{◌≡◌, ℕ, ◌+◌, ◌<◌, true, List, length, get_or, Result, Ok, Err, IfOk, IfErr, sym, ap, subst, ◌∙◌, arith}
use Rattle.std.specs.List.Sorted.{IsSearchInRange, IsBinarySearchResult, IsNonDecreasingBy}
use Rattle.std.specs.Ordering.{is_lt, ordering_reverse, ordering_index}
use Rattle.std.specs.declared.cmp.Ordering.{Ordering}
use Rattle.std.specs.declared.cmp.Ordering.TheVariants.{Less, Equal, Greater}
use Rattle.std.specs.Cmp.{IsTotalOrder}
use Rattle.std.specs.FinMap.Entries.{is_sorted}
use Rattle.std.proofs.lemmas.Cmp.{nat_list_cmp_total}
use Rattle.std.proofs.lemmas.List.Sorted.{searchable_from_sorted}
use Rattle.omap_pages.specs.Rows.{key_cmp}
use Rattle.omap_pages.specs.Places.{IsAt, IsGapFor}
use Rattle.omap_pages.proofs.PlaceLemmas.{less_at, ComesAfter}

pub turned : {K : Type 0} {R : K → K → Ordering} (o : IsTotalOrder R) (a b : K) (r : Ordering) → R a b ≡ r → R b a ≡ ordering_reverse r
turned o a b r e = o.antisymm b a ∙ ap ordering_reverse e

module _ {K X : Type 0} {R : K → K → Ordering} (o : IsTotalOrder R) where
  comparisons_rise : (es : List (K × X)) → is_sorted R es ≡ true → (k : K) → IsNonDecreasingBy (λ e. ordering_index (R e.0 k)) es
  comparisons_rise es sorted k = searchable_from_sorted o (λ (e : K × X). e.0) es k (λ j d low high. ap is_lt (turned o _ _ Less (less_at R es sorted j (j + 1) d (omega arith) high)))

  pub before_at : (es : List (K × X)) → is_sorted R es ≡ true → (k : K) (i : ℕ) → i < length es → ((d : K × X) → R (get_or es i d).0 k ≡ Equal) → ComesAfter R es k i
  before_at es sorted k i lt tie j d l = sym (o.congr _ _ _ (tie d)) ∙ turned o _ _ Less (less_at R es sorted j i d l lt)

  pub after_at : (es : List (K × X)) → is_sorted R es ≡ true → (k : K) (i : ℕ) → ((d : K × X) → R (get_or es i d).0 k ≡ Equal) → (j : ℕ) (d : K × X) → i < j → j < length es → R k (get_or es j d).0 ≡ Less
  after_at es sorted k i tie j d l m = sym (o.congr _ _ _ (tie d)) ∙ less_at R es sorted i j d l m

pub searched : {X : Type 0} (es : List (List ℕ × X)) → is_sorted key_cmp es ≡ true → (k : List ℕ) (r : Result ℕ ℕ) → IsSearchInRange r (length es) → IsBinarySearchResult (λ e. key_cmp e.0 k) es r → record { found : IfOk r (IsAt es k); absent : IfErr r (IsGapFor es k) }
searched es sorted k (Ok i) in_range equal = record {
  found = record {
    in_range = in_range;
    before = before_at nat_list_cmp_total es sorted k i in_range equal;
    here = λ d. turned nat_list_cmp_total (get_or es i d).0 k Equal (equal d);
    after = after_at nat_list_cmp_total es sorted k i equal;
  };
  absent = tt;
}
searched es sorted k (Err i) in_range parted = record {
  found = tt;
  absent = record {
    in_range = in_range;
    before = λ j d l. turned nat_list_cmp_total (get_or es j d).0 k Less ((parted (comparisons_rise nat_list_cmp_total es sorted k)).0 j d (omega arith) l);
    after = λ j d l m. turned nat_list_cmp_total (get_or es j d).0 k Greater ((parted (comparisons_rise nat_list_cmp_total es sorted k)).1 j d l m);
  };
}

-- the list that was searched is es
pub searched_in : {X : Type 0} (seen es : List (List ℕ × X)) → seen ≡ es → is_sorted key_cmp es ≡ true → (k : List ℕ) (r : Result ℕ ℕ) → IsSearchInRange r (length seen) → IsBinarySearchResult (λ e. key_cmp e.0 k) seen r → record { found : IfOk r (IsAt es k); absent : IfErr r (IsGapFor es k) }
searched_in seen es same sorted k r in_range is = searched es sorted k r (subst (λ s. IsSearchInRange r (length s)) same in_range) (subst (λ s. IsBinarySearchResult (λ e. key_cmp e.0 k) s r) same is)
