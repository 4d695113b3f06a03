-- Keys above all those of a log, and names, which are.
use Rattle.std.proofs.Common.{◌≡◌, ℕ, zero, suc, ◌-◌, ◌<◌, ◌^◌, ◌==◌, nat_lt, ◌&&◌, Bool, true, false, cond, true≢false, T, List, [], ◌∷◌, length, replicate, None, refl, sym, ap, ◌∙◌, arith}
use Rattle.std.specs.List.{AllByRecursion}
use Rattle.std.specs.declared.cmp.Ordering.{Ordering}
use Rattle.std.specs.declared.cmp.Ordering.TheVariants.{Less, Equal, Greater}
use Rattle.std.specs.Ordering.{is_lt, nat_cmp, ordering_then}
use Rattle.std.specs.Cmp.Lexicographic.{nat_list_cmp_total, slice_cmp}
use Rattle.std.specs.FinMap.{nat_cmp-IsAntisymmetric, slice_cmp-IsAntisymmetric}
use Rattle.std.specs.FinMap.Entries.{find}
use Rattle.std.proofs.lemmas.Bool.Decides.{nat_tests}
use Rattle.omap_pages.specs.Rows.{key_cmp}
use Rattle.object_words.specs.declared.log.LogRow.{LogRow}
use Rattle.index_entry.specs.Numbers.{number_bytes}
use Rattle.index_entry.specs.LogRows.{log_key}
use Rattle.class_words.specs.LogRows.{log_rows}
use Rattle.class_words.specs.Pages.{top}
use Rattle.class_words.specs.Shards.{IsObjectName}
use Rattle.class_words.proofs.LogLemmas.{no_zero, other_name}

pub lower : (a b : ℕ) → a < b → nat_lt a b ≡ true
lower a b h = grind (arith, nat_tests)

not_lower : (x : ℕ) → x < 256 → nat_lt 255 x ≡ false
not_lower x fits = grind (arith, nat_tests)

never_above : (xs : List ℕ) → AllByRecursion (λ b. b < 256) xs → is_lt (slice_cmp nat_cmp (replicate (length xs) 255) xs) ≡ false
never_above [] all = refl
never_above (x ∷ xs) all =
    rw (not_lower x all.0)
    (elim (255 == x) as (λ b. is_lt (ordering_then (cond b Equal Greater) (slice_cmp nat_cmp (replicate (length xs) 255) xs)) ≡ false) [
      | true ↦ never_above xs all.1
      | false ↦ refl
    ])

bytes_fit : (n : ℕ) → AllByRecursion (λ b. b < 256) (number_bytes n)
unfolding number_bytes
bytes_fit n = (omega arith, (omega arith, (omega arith, (omega arith, (omega arith, (omega arith, (omega arith, (omega arith, tt))))))))

most_bytes : number_bytes (2 ^ 64 - 1) ≡ replicate 8 255
unfolding number_bytes
most_bytes = refl

long_bytes : (n : ℕ) → length (number_bytes n) ≡ 8
unfolding number_bytes
long_bytes n = refl

-- no key of a log is above the greatest
pub log_low : (position : ℕ) → is_lt (key_cmp top (log_key position)) ≡ false
log_low position =
    ap (λ l. is_lt (slice_cmp nat_cmp l (number_bytes position))) (most_bytes ∙ sym (ap (λ n. replicate n 255) (long_bytes position)))
    ∙ never_above (number_bytes position) (bytes_fit position)

pub none_in : (rows : List LogRow) (q : List ℕ) → is_lt (key_cmp top q) ≡ true → find key_cmp q (log_rows rows) ≡ None
none_in [] q above = refl
none_in (row ∷ rows) q above =
    let differs = other_name q (log_key row.position) (λ same. true≢false (sym above ∙ ap (λ k. is_lt (key_cmp top k)) same ∙ log_low row.position)) in
    rw differs (none_in rows q above)

pub name_above : (name : List ℕ) → IsObjectName name → is_lt (key_cmp top name) ≡ true
name_above [] is = absurd (true≢false (sym is.0))
name_above (zero ∷ rest) is = absurd (true≢false (sym (no_zero (0 ∷ rest) is)))
name_above (suc n ∷ rest) is =
    ap (λ b. is_lt (ordering_then (cond b Less (cond (0 == suc n) Equal Greater)) (slice_cmp nat_cmp (number_bytes (2 ^ 64 - 1)) rest))) (lower 0 (suc n) (omega arith))

pub left_of : (a b : Bool) → T (a && b) → T a
left_of true b p = tt
left_of false b p = p

pub right_of : (a b : Bool) → T (a && b) → T b
right_of true b p = p
right_of false b p = absurd p

pub both_of : (a b : Bool) → T a → T b → T (a && b)
both_of true b p q = q
both_of false b p q = p

-- ---- orders

pub same_key : (q k : List ℕ) → key_cmp q k ≡ Equal → q ≡ k
same_key = slice_cmp-IsAntisymmetric nat_cmp-IsAntisymmetric

pub is_less : (o : Ordering) → is_lt o ≡ true → o ≡ Less
is_less Less below = refl
is_less Equal below = absurd (true≢false (sym below))
is_less Greater below = absurd (true≢false (sym below))

pub below_then : (a b c : List ℕ) → key_cmp a b ≡ Less → key_cmp b c ≡ Less → is_lt (key_cmp a c) ≡ true
below_then a b c p q = ap is_lt (nat_list_cmp_total.trans a b c p q)
