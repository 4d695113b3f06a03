-- The keys of account rows, and all other keys.
use Rattle.std.proofs.Common.{◌≡◌, ◌≢◌, ℕ, ◌^◌, ◌+◌, ◌/◌, ◌<◌, ◌==◌, nat_lt, true, false, true≢false, cond, List, [], ◌∷◌, ◌++◌, length, drop, get_or, inl, inr, refl, sym, ap, ◌∙◌, subst, arith, ltb-true}
use Rattle.std.specs.declared.cmp.Ordering.TheVariants.{Less, Equal, Greater}
use Rattle.std.specs.Ordering.{is_lt, nat_cmp, ordering_then}
use Rattle.std.specs.Cmp.Lexicographic.{slice_cmp}
use Rattle.std.proofs.lemmas.Bool.{and_parts}
use Rattle.std.proofs.lemmas.Bool.Decides.{nat_tests}
use lib.Utf8.{scalar, scalar_cases, scalars, encode, encodes, next}
use Rattle.omap_pages.specs.Rows.{key_cmp}
use Rattle.cls_record.specs.BucketRows.{text_bytes}
use Rattle.cls_record.specs.RootObjects.{IsBucketName, account_key, accounts_start}
use Rattle.cls_record.proofs.PieceLemmas.{piece_start}

pub lower : (a b : ℕ) → a < b → nat_lt a b ≡ true
lower a b h = grind (arith, nat_tests)

-- ---- no text begins with byte 255

scalar_high : (c : ℕ) → scalar c ≡ true → c < 1114112
scalar_high c is = elim (scalar_cases c is) [
  | inl low ↦ omega arith
  | inr high ↦ high.1
]

first_of : (c : ℕ) (rest : List ℕ) → scalar c ≡ true → get_or (encode c ++ rest) 0 0 < 255
unfolding encode
first_of c rest is =
    let two = (192 + c / 64) ∷ next c ∷ [] in
    let three = (224 + c / 4096) ∷ next (c / 64) ∷ next c ∷ [] in
    let four = (240 + c / 262144) ∷ next (c / 4096) ∷ next (c / 64) ∷ next c ∷ [] in
    elim (nat_lt c 128) as (λ t. nat_lt c 128 ≡ t → get_or (cond t (c ∷ []) (cond (nat_lt c 2048) two (cond (nat_lt c 65536) three four)) ++ rest) 0 0 < 255) [
      | true ↦ λ e. let h : c < 128 = ltb-true _ _ e in omega arith
      | false ↦ λ _. elim (nat_lt c 2048) as (λ t. nat_lt c 2048 ≡ t → get_or (cond t two (cond (nat_lt c 65536) three four) ++ rest) 0 0 < 255) [
        | true ↦ λ e. let h : c < 2048 = ltb-true _ _ e in omega arith
        | false ↦ λ _. elim (nat_lt c 65536) as (λ t. nat_lt c 65536 ≡ t → get_or (cond t three four ++ rest) 0 0 < 255) [
          | true ↦ λ e. let h : c < 65536 = ltb-true _ _ e in omega arith
          | false ↦ λ _. let h : c < 1114112 = scalar_high c is in omega arith
        ] refl
      ] refl
    ] refl

pub text_low : (b : ℕ) (bs cs : List ℕ) → scalars cs ≡ true → encodes cs ≡ b ∷ bs → b < 255
text_low b bs [] is e = absurd (omega (arith, ap length e))
text_low b bs (c ∷ cs) is e = subst (λ n. n < 255) (ap (λ l. get_or l 0 0) e) (first_of c (encodes cs) (and_parts _ _ is).0)

below_start : (b : ℕ) (bs : List ℕ) → b < 255 → is_lt (key_cmp (b ∷ bs) accounts_start) ≡ true
below_start b bs low = ap (λ t. is_lt (ordering_then (cond t Less (cond (b == 255) Equal Greater)) (slice_cmp nat_cmp bs []))) (lower b 255 low)

-- a name is below all keys of account rows
pub name_low : (name : List ℕ) → IsBucketName name → is_lt (key_cmp name accounts_start) ≡ true
name_low [] is = absurd (true≢false (sym is.0))
name_low (b ∷ bs) is = below_start b bs (text_low b bs is.1.0 is.1.1.0 is.1.1.1)

never_low : (xs : List ℕ) → is_lt (slice_cmp nat_cmp xs []) ≡ false
never_low [] = refl
never_low (x ∷ xs) = refl

pub account_high : (account name : List ℕ) → is_lt (key_cmp (account_key account name) accounts_start) ≡ false
account_high account name = never_low (text_bytes account ++ name)

-- a key that is below them is none of them
pub other_key : (account name key : List ℕ) → is_lt (key_cmp key accounts_start) ≡ true → account_key account name ≢ key
other_key account name key low same = true≢false (sym low ∙ ap (λ k. is_lt (key_cmp k accounts_start)) (sym same) ∙ account_high account name)

-- the key of an account row names one account and one container
pub one_account : (a b n m : List ℕ) → length a < 2 ^ 64 → length b < 2 ^ 64 → account_key a n ≡ account_key b m → (a ≡ b) × (n ≡ m)
one_account a b n m fa fb e = piece_start a b n m fa fb (ap (drop 1) e)
