-- A finite map from keys to values, both bytes, as the list of its rows in the order of their keys.
use Rattle.std.specs.Prelude.{◌≡◌, ◌≢◌, ℕ, Bool, false, not, ◌&&◌, List, Option, None, IsTrue}
use Rattle.std.specs.Ordering.{nat_cmp, is_lt, is_le, eq_by_cmp}
use Rattle.std.specs.declared.cmp.Ordering.{Ordering}
use Rattle.std.specs.Cmp.Lexicographic.{slice_cmp}
use Rattle.std.specs.FinMap.Entries.{find, put, where_key, is_sorted}

-- a key and its value, each as bytes
abbrev pub Rows : Type 0
Rows = List (List ℕ × List ℕ)

-- byte by byte, and a key before those that it begins
abbrev pub key_cmp : List ℕ → List ℕ → Ordering
key_cmp = slice_cmp nat_cmp

-- each key is above the one before
abbrev pub IsInOrder : Rows → Type 0
IsInOrder rows = IsTrue (is_sorted key_cmp rows)

-- the value at the key
abbrev pub value_at : Rows → List ℕ → Option (List ℕ)
value_at rows key = find key_cmp key rows

-- the rows with the value at the key
abbrev pub with_row : Rows → List ℕ → List ℕ → Rows
with_row rows key value = put key_cmp key value rows

-- the rows of the other keys
abbrev pub without_row : Rows → List ℕ → Rows
without_row rows key = where_key key_cmp (λ k. not (eq_by_cmp key_cmp key k)) rows

-- the rows whose keys are above the key
abbrev pub rows_after : Rows → List ℕ → Rows
rows_after rows key = where_key key_cmp (λ k. is_lt (key_cmp key k)) rows

-- the key is at least `from` and below `to`
abbrev pub is_within : List ℕ → List ℕ → List ℕ → Bool
is_within from to key = is_le (key_cmp from key) && is_lt (key_cmp key to)

-- the rows with such keys
abbrev pub rows_within : Rows → List ℕ → List ℕ → Rows
rows_within rows from to = where_key key_cmp (is_within from to) rows

-- the rows with other keys
abbrev pub rows_outside : Rows → List ℕ → List ℕ → Rows
rows_outside rows from to = where_key key_cmp (λ k. not (is_within from to k)) rows

-- each other key has what it had
abbrev pub KeepsOthers : Rows → Rows → List ℕ → Type 0
KeepsOthers old new key = (q : List ℕ) → q ≢ key → value_at new q ≡ value_at old q

-- no row has a key from `from` to below `to`
abbrev pub HasNoneWithin : Rows → List ℕ → List ℕ → Type 0
HasNoneWithin rows from to = (q : List ℕ) → IsTrue (is_within from to q) → value_at rows q ≡ None

-- each key outside has what it had
abbrev pub KeepsOutside : Rows → Rows → List ℕ → List ℕ → Type 0
KeepsOutside old new from to = (q : List ℕ) → is_within from to q ≡ false → value_at new q ≡ value_at old q
