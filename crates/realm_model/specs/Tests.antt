-- Whether two values are one, as tests.
use Rattle.std.specs.Prelude.{ℕ, ◌==◌, ◌&&◌, nat_eq, not, Bool, true, false, List, bytes_eq, Option, Some, None}
use Rattle.std.specs.Cmp.Lexicographic.{pointwise}
use Rattle.rgw_types.specs.declared.stamp.Stamp.{Stamp}
use Rattle.object_words.specs.declared.entry.Guard.{Guard}
use Rattle.object_words.specs.Rows.{RowView}

-- both hold or neither
abbrev pub same_flag : Bool → Bool → Bool
same_flag true b = b
same_flag false b = not b

-- the same moment in the same zone
abbrev pub same_stamp : Stamp → Stamp → Bool
same_stamp a b = a.micros == b.micros && a.zone == b.zone

-- the same tag with the same deadline
abbrev pub same_guard : Guard → Guard → Bool
same_guard a b = a.tag == b.tag && a.deadline == b.deadline

-- the same row in each field
abbrev pub same_row : RowView → RowView → Bool
same_row a b =
    same_flag a.exists b.exists
    && (a.size == b.size && (same_stamp a.stamp b.stamp && (bytes_eq a.etag b.etag && bytes_eq a.kind b.kind)))

-- the same numbers in the same order
abbrev pub same_numbers : List ℕ → List ℕ → Bool
same_numbers = pointwise nat_eq

-- there is one, and it passes the test
abbrev pub is_so : {A : Type 0} → Option A → (A → Bool) → Bool
is_so None test = false
is_so (Some x) test = test x

-- there is none, or it passes the test
abbrev pub is_none_or : {A : Type 0} → Option A → (A → Bool) → Bool
is_none_or None test = true
is_none_or (Some x) test = test x
