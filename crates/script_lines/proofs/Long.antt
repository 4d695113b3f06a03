-- A line that is too long.
use Rattle.std.proofs.Common.{◌≡◌, ◌⊎◌, inl, inr, ⊎_elim, ℕ, ◌+◌, ◌<◌, ◌≤◌, List, ◌∷◌, ◌++◌, length, take, drop, Option, Some, None, sym, ap, ◌∙◌, subst, append_assoc, arith}
use Rattle.std.specs.Prelude.{unwrap_or, is_some}
use mir.Val.{bool_byte}
use Rattle.std.proofs.lemmas.List.{length-append, length-take-le, take-append-drop, take_all}
use Rattle.script_lines.specs.declared.reader.TheConstants.{LINE_LIMIT, INPUT_LIMIT}
use Rattle.script_lines.specs.Lines.{IsUnbroken}
use Rattle.script_lines.specs.Fronts.{IsLineEnd}
use Rattle.script_lines.specs.Reading.{BeginsTooLong}
use Rattle.script_lines.proofs.Breaks.{unbroken-append}

-- the line so far with the first n bytes behind it
pub long_by : (given : ℕ) (line piece : List ℕ) (n : ℕ) → IsUnbroken line → IsUnbroken (take n piece) → n ≤ length piece
    → (LINE_LIMIT < length line + n) ⊎ ((INPUT_LIMIT < given + (length line + n))
    ⊎ ((INPUT_LIMIT < given + (length line + n + 1)) × ((more : List ℕ) × (drop n piece ≡ 10 ∷ more))))
    → BeginsTooLong given (line ++ piece)
long_by given line piece n one other within long =
    let count : length (line ++ take n piece) ≡ length line + n = length-append line (take n piece) ∙ ap (λ k. length line + k) (length-take-le n piece within) in record {
      front = line ++ take n piece;
      rest = drop n piece;
      bytes = ap (λ l. line ++ l) (sym (take-append-drop n piece)) ∙ sym (append_assoc line (take n piece) (drop n piece));
      one = unbroken-append line (take n piece) one other;
      long = subst (λ k. (LINE_LIMIT < k) ⊎ ((INPUT_LIMIT < given + k) ⊎ ((INPUT_LIMIT < given + (k + 1)) × ((more : List ℕ) × (drop n piece ≡ 10 ∷ more))))) (sym count) long;
    }

-- up to the line feed, if there is one
pub too_long : (given : ℕ) (line piece : List ℕ) (end : Option ℕ) (count feed : ℕ) → IsUnbroken line → IsLineEnd piece end
    → count ≡ unwrap_or end (length piece) → feed ≡ bool_byte (is_some end)
    → (LINE_LIMIT < length line + count) ⊎ (INPUT_LIMIT < given + (length line + count) + feed) → BeginsTooLong given (line ++ piece)
too_long given line piece None count feed one unbroken is_count is_feed long =
    let whole : take (length piece) piece ≡ piece = take_all (length piece) piece (omega arith) in
    long_by given line piece (length piece) one (subst IsUnbroken (sym whole) unbroken) (omega arith)
    (⊎_elim (λ (l : LINE_LIMIT < length line + count). inl (omega arith)) (λ (l : INPUT_LIMIT < given + (length line + count) + feed). inr (inl (omega arith))) long)
too_long given line piece (Some at) count feed one end is_count is_feed long =
    long_by given line piece at one end.1 (omega (arith, end.0))
    (⊎_elim (λ (l : LINE_LIMIT < length line + count). inl (omega arith)) (λ (l : INPUT_LIMIT < given + (length line + count) + feed). inr (inr (omega arith, (drop (at + 1) piece, end.2)))) long)
