-- A splice in two steps: as many bytes as both have are written over, and then the rest is cut away or put in.
use Rattle.std.proofs.Common.{◌≡◌, ℕ, ◌+◌, ◌≤◌, List, ◌++◌, length, take, drop, sym, ap, ◌∙◌, arith, append_assoc, length-append}
use Rattle.std.specs.List.{splice, remove_range}
use Rattle.std.proofs.lemmas.List.{length-take-le}
use Rattle.std.proofs.lemmas.Slice.{drop-append-drop}
use Rattle.std.proofs.Math.Seq.{take-append_seam}

module _ {X : Type 0} (xs over : List X) (start n : ℕ) (all : length over ≡ n) (within : start + n ≤ length xs) where
  written : length (take start xs ++ over) ≡ start + n
  written = omega (arith, length-append (take start xs) over, length-take-le start xs (omega arith))

  grouped : splice xs start (start + n) over ≡ (take start xs ++ over) ++ drop (start + n) xs
  grouped = sym (append_assoc (take start xs) over (drop (start + n) xs))

  front : take (start + n) (splice xs start (start + n) over) ≡ take start xs ++ over
  front = ap (take (start + n)) grouped
      ∙ ap (λ m. take m ((take start xs ++ over) ++ drop (start + n) xs)) (sym written)
      ∙ take-append_seam (take start xs ++ over) (drop (start + n) xs)

  back : (m : ℕ) → start + n ≤ m → drop m (splice xs start (start + n) over) ≡ drop m xs
  back m past = ap (drop m) grouped ∙ drop-append-drop (start + n) xs (take start xs ++ over) m past written

  pub remove_range-splice : (m : ℕ) → start + n ≤ m → remove_range (splice xs start (start + n) over) (start + n) m ≡ splice xs start m over
  remove_range-splice m past = rw (front, back m past) (append_assoc (take start xs) over (drop m xs))

  pub splice-splice : (more : List X) → splice (splice xs start (start + n) over) (start + n) (start + n) more ≡ splice xs start (start + n) (over ++ more)
  splice-splice more = rw (front, back (start + n) (omega arith)) (append_assoc (take start xs) over (more ++ drop (start + n) xs) ∙ ap (λ t. take start xs ++ t) (sym (append_assoc over more (drop (start + n) xs))))
