-- The bytes of a piece.
use Rattle.std.proofs.Common.{◌≡◌, ℕ, ◌+◌, List, take, drop, slice_range, sym, ap, ◌∙◌}
use Rattle.std.proofs.lemmas.List.{drop-drop}
use Rattle.std.proofs.lemmas.Slice.{between_is}

-- without the first n
pub range_behind : (bytes : List ℕ) (start end n : ℕ) → slice_range bytes (start + n) end ≡ drop n (slice_range bytes start end)
range_behind bytes start end n =
    let whole = between_is bytes start end in
    between_is bytes (start + n) end ∙ sym (ap (drop n) whole ∙ drop-drop n start (take end bytes))
