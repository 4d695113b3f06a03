-- Entries written as rows, and where a page of names begins.
use Rattle.std.proofs.Common.{◌≡◌, ℕ, true, false, cond, true≢false, T, List, [], ◌∷◌, map, Option, Some, option_map, refl, sym, ap, ◌∙◌, subst}
use Rattle.std.specs.declared.cmp.Ordering.TheVariants.{Less, Equal, Greater}
use Rattle.std.specs.Ordering.{eq_by_cmp, is_lt, ordering_reverse}
use Rattle.std.specs.Cmp.Lexicographic.{nat_list_cmp_total}
use Rattle.std.specs.FinMap.Entries.{below_all, find, is_sorted}
use Rattle.omap_pages.specs.Rows.{key_cmp}
use Rattle.object_words.specs.Entries.{EntryView}
use Rattle.index_entry.specs.Layouts.{entry_bytes}
use Rattle.class_words.specs.Pages.{StartsAt, top, written}
use Rattle.class_words.proofs.AboveLog.{name_above, left_of, right_of, both_of, same_key, is_less, below_then}

-- ---- entries as rows

pub find_written : (q : List ℕ) (es : List (List ℕ × EntryView)) → find key_cmp q (map written es) ≡ option_map entry_bytes (find key_cmp q es)
find_written q [] = refl
find_written q (e ∷ es) =
    elim (eq_by_cmp key_cmp q e.0) as (λ b. cond b (Some (entry_bytes e.1)) (find key_cmp q (map written es)) ≡ option_map entry_bytes (cond b (Some e.1) (find key_cmp q es))) [
      | true ↦ refl
      | false ↦ find_written q es
    ]

below_written : (x : List ℕ) (es : List (List ℕ × EntryView)) → T (below_all key_cmp x es) → T (below_all key_cmp x (map written es))
below_written x [] h = tt
below_written x (e ∷ es) h = both_of _ _ (left_of _ _ h) (below_written x es (right_of _ _ h))

pub sorted_written : (es : List (List ℕ × EntryView)) → T (is_sorted key_cmp es) → T (is_sorted key_cmp (map written es))
sorted_written [] h = tt
sorted_written (e ∷ es) h = both_of _ _ (below_written e.0 es (left_of _ _ h)) (sorted_written es (right_of _ _ h))

-- ---- where a page begins

-- from a name that is not below the end of the log, or else from that end
pub starts_itself : (after : List ℕ) → is_lt (key_cmp after top) ≡ false → StartsAt after after
starts_itself after high = record {
  low = λ name is. refl;
  log = λ q above.
      elim (key_cmp after top) as (λ o. key_cmp after top ≡ o → is_lt o ≡ false → is_lt (key_cmp top q) ≡ true) [
        | Less ↦ λ e not. absurd (true≢false not)
        | Equal ↦ λ e not. subst (λ k. is_lt (key_cmp k q) ≡ true) (same_key after top e) above
        | Greater ↦ λ e not. below_then top after q (nat_list_cmp_total.antisymm top after ∙ ap ordering_reverse e) (is_less _ above)
      ] refl high;
}

pub starts_above_log : (after : List ℕ) → is_lt (key_cmp after top) ≡ true → StartsAt after top
starts_above_log after low = record {
  low = λ name is. let over = name_above name is in over ∙ sym (below_then after top name (is_less _ low) (is_less _ over));
  log = λ q above. above;
}
