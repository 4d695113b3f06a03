-- Numbers, texts and pairs that stand one after another.
use Rattle.std.proofs.Common.{◌≡◌, ℕ, ◌^◌, ◌<◌, List, [], ◌∷◌, ◌++◌, length, take, drop, Option, Some, None, Result, Ok, Err, OnErr, unwrap_or, refl, sym, ap, ◌∙◌, arith, append_assoc}
use Rattle.std.specs.List.{AllByRecursion}
use Rattle.std.specs.Option.{IsSome, IsSomeAnd}
use Rattle.std.proofs.lemmas.List.{take_at, drop_at, append-nil}
use Rattle.index_entry.specs.Numbers.{number_bytes}
use Rattle.index_entry.proofs.PieceLemmas.{length-number_bytes}
use Rattle.index_entry.proofs.Uniqueness.{same_number}
use Rattle.cls_record.specs.BucketRows.{IsPair, IsText, pairs_bytes, text_bytes}

pub same_in_some : {A : Type 0} (x y : A) → Some x ≡ Some y → x ≡ y
same_in_some x y e = ap (λ o. unwrap_or o x) e

-- bytes that begin with two numbers begin with one
pub number_start : (x y : ℕ) (r s : List ℕ) → x < 2 ^ 64 → y < 2 ^ 64 → number_bytes x ++ r ≡ number_bytes y ++ s → (x ≡ y) × (r ≡ s)
number_start x y r s fx fy e = (
  same_number (number_bytes x ++ r) 0 x y r s fx fy refl e,
  sym (drop_at (number_bytes x) r 8 (length-number_bytes x)) ∙ ap (drop 8) e ∙ drop_at (number_bytes y) s 8 (length-number_bytes y),
)

-- and so with pieces of bytes after their lengths
pub piece_start : (a b r s : List ℕ) → length a < 2 ^ 64 → length b < 2 ^ 64 → text_bytes a ++ r ≡ text_bytes b ++ s → (a ≡ b) × (r ≡ s)
piece_start a b r s fa fb e =
    let flat = sym (append_assoc (number_bytes (length a)) a r) ∙ e ∙ append_assoc (number_bytes (length b)) b s in
    let n = number_start (length a) (length b) (a ++ r) (b ++ s) fa fb flat in (
      sym (take_at a r (length a) refl) ∙ ap (take (length a)) n.1 ∙ take_at b s (length a) (sym n.0),
      sym (drop_at a r (length a) refl) ∙ ap (drop (length a)) n.1 ∙ drop_at b s (length a) (sym n.0),
    )

pub text_start : (a b r s : List ℕ) → IsText a → IsText b → text_bytes a ++ r ≡ text_bytes b ++ s → (a ≡ b) × (r ≡ s)
text_start a b r s ta tb e = piece_start a b r s ta.1 tb.1 e

pub pair_split : (p : List ℕ × List ℕ) (ps : List (List ℕ × List ℕ)) (r : List ℕ) → pairs_bytes (p ∷ ps) ++ r ≡ text_bytes p.0 ++ (text_bytes p.1 ++ (pairs_bytes ps ++ r))
pair_split p ps r =
    append_assoc (text_bytes p.0) (text_bytes p.1 ++ pairs_bytes ps) r ∙ ap (λ z. text_bytes p.0 ++ z) (append_assoc (text_bytes p.1) (pairs_bytes ps) r)

-- as many pairs as there are, are all of them
pub all_pairs : (xs ys : List (List ℕ × List ℕ)) (r : List ℕ) → AllByRecursion IsPair xs → AllByRecursion IsPair ys → length xs ≡ length ys
    → pairs_bytes xs ++ r ≡ pairs_bytes ys → (xs ≡ ys) × (r ≡ [])
all_pairs [] [] r ax ay len e = (refl, e)
all_pairs [] (y ∷ ys) r ax ay len e = absurd (omega (arith, len))
all_pairs (x ∷ xs) [] r ax ay len e = absurd (omega (arith, len))
all_pairs (x ∷ xs) (y ∷ ys) r ax ay len e =
    let n = text_start x.0 y.0 (text_bytes x.1 ++ (pairs_bytes xs ++ r)) (text_bytes y.1 ++ pairs_bytes ys) ax.0.0 ay.0.0 (sym (pair_split x xs r) ∙ e) in
    let v = text_start x.1 y.1 (pairs_bytes xs ++ r) (pairs_bytes ys) ax.0.1 ay.0.1 n.1 in
    let more = all_pairs xs ys r ax.1 ay.1 (omega (arith, len)) v.1 in
    (λ i. (n.0 i, v.0 i) ∷ more.0 i, more.1)

-- bytes that begin with a pair
pub record StartsWithPair (bs : List ℕ) : Type 0 where
  pub pair : List ℕ × List ℕ
  pub rest : List ℕ
  pub is : IsPair pair
  pub here : bs ≡ text_bytes pair.0 ++ (text_bytes pair.1 ++ rest)

-- behind some pairs of more there is one more
pub one_more : (xs ys : List (List ℕ × List ℕ)) (r : List ℕ) → AllByRecursion IsPair xs → AllByRecursion IsPair ys → length xs < length ys
    → pairs_bytes xs ++ r ≡ pairs_bytes ys → StartsWithPair r
one_more xs [] r ax ay less e = absurd (omega (arith, less))
one_more [] (y ∷ ys) r ax ay less e = record { pair = y; rest = pairs_bytes ys; is = ay.0; here = e }
one_more (x ∷ xs) (y ∷ ys) r ax ay less e =
    let n = text_start x.0 y.0 (text_bytes x.1 ++ (pairs_bytes xs ++ r)) (text_bytes y.1 ++ pairs_bytes ys) ax.0.0 ay.0.0 (sym (pair_split x xs r) ∙ e) in
    let v = text_start x.1 y.1 (pairs_bytes xs ++ r) (pairs_bytes ys) ax.0.1 ay.0.1 n.1 in
    one_more xs ys r ax.1 ay.1 (omega (arith, less)) v.1

pub pairs_bytes-append : (xs ys : List (List ℕ × List ℕ)) → pairs_bytes (xs ++ ys) ≡ pairs_bytes xs ++ pairs_bytes ys
pairs_bytes-append [] ys = refl
pairs_bytes-append (x ∷ xs) ys = ap (λ z. text_bytes x.0 ++ (text_bytes x.1 ++ z)) (pairs_bytes-append xs ys) ∙ sym (pair_split x xs (pairs_bytes ys))

pub all_more : (xs : List (List ℕ × List ℕ)) (x : List ℕ × List ℕ) → AllByRecursion IsPair xs → IsPair x → AllByRecursion IsPair (xs ++ x ∷ [])
all_more [] x all one = (one, tt)
all_more (y ∷ ys) x all one = (all.0, all_more ys x all.1 one)

-- one pair more behind others
pub pairs_more : (xs : List (List ℕ × List ℕ)) (x : List ℕ × List ℕ) (r : List ℕ) → pairs_bytes (xs ++ x ∷ []) ++ r ≡ pairs_bytes xs ++ (text_bytes x.0 ++ (text_bytes x.1 ++ r))
pairs_more xs x r =
    ap (λ z. z ++ r) (pairs_bytes-append xs (x ∷ [])) ∙ append_assoc (pairs_bytes xs) (pairs_bytes (x ∷ [])) r ∙ ap (λ z. pairs_bytes xs ++ z) (pair_split x [] r)

-- one pair more behind what was written
pub one_pair_written : (out : List ℕ) (xs : List (List ℕ × List ℕ)) (p : List ℕ × List ℕ)
    → ((out ++ pairs_bytes xs) ++ text_bytes p.0) ++ text_bytes p.1 ≡ out ++ pairs_bytes (xs ++ p ∷ [])
one_pair_written out xs p =
    let e : pairs_bytes (xs ++ p ∷ []) ≡ pairs_bytes xs ++ (text_bytes p.0 ++ text_bytes p.1) =
    pairs_bytes-append xs (p ∷ []) ∙ ap (λ z. pairs_bytes xs ++ (text_bytes p.0 ++ z)) (append-nil (text_bytes p.1)) in
    append_assoc (out ++ pairs_bytes xs) (text_bytes p.0) (text_bytes p.1) ∙ append_assoc out (pairs_bytes xs) (text_bytes p.0 ++ text_bytes p.1) ∙ ap (λ z. out ++ z) (sym e)

pub not_some_and : {A : Type 0} (o : Option A) (P : A → Type 0) → ((x : A) → o ≡ Some x → ⊥) → IsSomeAnd o P → ⊥
not_some_and None P other is = is
not_some_and (Some x) P other is = other x refl

pub some_of : {A : Type 0} (o : Option A) (P : A → Type 0) → IsSomeAnd o P → IsSome o
some_of None P is = absurd is
some_of (Some x) P is = refl

pub err_holds : {T E : Type 0} (result : Result T E) (P : Type 0) → P → OnErr result P
err_holds (Ok x) P p = tt
err_holds (Err e) P p = p

pub shared_flat : (o a b d e f g : List ℕ) → o ≡ [] → (((((o ++ a) ++ b) ++ d) ++ e) ++ f) ++ g ≡ a ++ (b ++ (d ++ (e ++ (f ++ g))))
shared_flat o a b d e f g none = rw none (simp append_assoc refl)
