-- Comparing two texts byte by byte.
use Rattle.std.proofs.Common.{◌≡◌, ℕ, zero, suc, ◌+◌, ◌<◌, ◌&&◌, List, [], ◌∷◌, length, take, get_or, Bool, true, false, eqb, refl, ap, bytes_eq, arith, add-one, ◌∙◌}

and_true : (b : Bool) → (b && true) ≡ b
and_true true = refl
and_true false = refl

and_assoc : (a b c : Bool) → (a && (b && c)) ≡ ((a && b) && c)
and_assoc true b c = refl
and_assoc false b c = refl

more : (xs ys : List ℕ) (i : ℕ) → i < length xs → length xs ≡ length ys
    → bytes_eq (take (suc i) xs) (take (suc i) ys) ≡ (bytes_eq (take i xs) (take i ys) && eqb (get_or xs i 0) (get_or ys i 0))
more [] ys i lt same = absurd (omega arith)
more (x ∷ xs) [] i lt same = absurd (omega arith)
more (x ∷ xs) (y ∷ ys) zero lt same = and_true (eqb x y)
more (x ∷ xs) (y ∷ ys) (suc i) lt same =
    ap (λ b. eqb x y && b) (more xs ys i (omega arith) (omega arith)) ∙ and_assoc (eqb x y) (bytes_eq (take i xs) (take i ys)) (eqb (get_or xs i 0) (get_or ys i 0))

-- one byte more
pub bytes_eq_more : (xs ys : List ℕ) (i : ℕ) → i < length xs → length xs ≡ length ys
    → bytes_eq (take (i + 1) xs) (take (i + 1) ys) ≡ (bytes_eq (take i xs) (take i ys) && eqb (get_or xs i 0) (get_or ys i 0))
bytes_eq_more xs ys i lt same = rw add-one (more xs ys i lt same)
