-- Pairs of a name and a value, by rising name.
use Rattle.std.specs.Prelude.{ℕ, Bool, true, ◌&&◌, List, [], ◌∷◌, Option, Some, None, bytes_eq, if◌then◌else◌}
use Rattle.std.specs.Ordering.{nat_cmp, is_lt}
use Rattle.std.specs.Cmp.Lexicographic.{slice_cmp}

-- the first text is before the second, byte by byte
abbrev pub is_before : List ℕ → List ℕ → Bool
is_before x y = is_lt (slice_cmp nat_cmp x y)

-- each name is before the next one
abbrev pub is_risen : List (List ℕ × List ℕ) → Bool
is_risen [] = true
is_risen (p ∷ []) = true
is_risen (p ∷ q ∷ ps) = is_before p.0 q.0 && is_risen (q ∷ ps)

-- the value that stands under a name
abbrev pub value_of : List (List ℕ × List ℕ) → List ℕ → Option (List ℕ)
value_of [] name = None
value_of (p ∷ ps) name = if bytes_eq p.0 name then Some p.1 else value_of ps name
