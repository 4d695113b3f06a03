-- The bytes from one place of a list to another.
use Rattle.std.proofs.Common.{◌≡◌, ℕ, ◌+◌, ◌≤◌, List, ◌++◌, length, take, drop, slice_range, sym, ap, ◌∙◌, arith}
use Rattle.std.proofs.Math.Seq.{take-add}
use Rattle.std.proofs.lemmas.List.{drop-append-le, drop-drop, length-take-le}
use Rattle.std.proofs.lemmas.Slice.{between_is}

-- without the first n
pub held_less : (bytes : List ℕ) (start end n : ℕ) → slice_range bytes (start + n) end ≡ drop n (slice_range bytes start end)
held_less bytes start end n =
    between_is bytes (start + n) end ∙ sym (drop-drop n start (take end bytes)) ∙ ap (drop n) (sym (between_is bytes start end))

-- what stands behind them does not matter
pub held_same : (old new : List ℕ) (start end : ℕ) → take end new ≡ take end old → slice_range new start end ≡ slice_range old start end
held_same old new start end same = between_is new start end ∙ ap (drop start) same ∙ sym (between_is old start end)

-- with the next n
pub held_more : (bytes : List ℕ) (start end n : ℕ) → start ≤ end → end ≤ length bytes
    → slice_range bytes start (end + n) ≡ slice_range bytes start end ++ take n (drop end bytes)
held_more bytes start end n ordered within =
    let front : start ≤ length (take end bytes) = omega (arith, length-take-le end bytes within) in
    between_is bytes start (end + n) ∙ ap (drop start) (take-add end n bytes)
    ∙ drop-append-le start (take end bytes) (take n (drop end bytes)) front
    ∙ ap (λ l. l ++ take n (drop end bytes)) (sym (between_is bytes start end))
