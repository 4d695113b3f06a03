-- Objects that a number names, and the numbers by their keys. No public clause cites this module.
use Rattle.std.specs.Prelude.{◌≡◌, ℕ, Bool, false, List, Option, Some, None, map, if◌then◌else◌}
use Rattle.std.specs.List.{AllByRecursion}
use Rattle.std.specs.List.Sorted.{IsStrictlySortedBy}
use Rattle.std.specs.Map.{keys_of, lookup}
use Rattle.slab.specs.Slab.{Slab, get}
use Rattle.rgw_types.specs.declared.pool_key.Key.{Key}
use Rattle.object_pool.specs.declared.object.Stored.{Stored}
use Rattle.object_pool.specs.declared.shelf.Kept.{Kept}
use Rattle.object_pool.specs.Parts.{no_parts}
use Rattle.object_pool.specs.Objects.{is_key, key_cmp}
use Rattle.object_pool.specs.Stored.{Entries, is_stored}

abbrev pub Numbers : Type 0
Numbers = List (Key × ℕ)

-- stands where no object has a number
abbrev pub no_object : Stored
no_object = record { run = record { first = 0; count = 0 }; size = 0; parts = no_parts }

abbrev pub object_in : Option Kept → Stored
object_in None = no_object
object_in (Some kept) = kept.object

abbrev pub exists_in : Option Kept → Bool
exists_in None = false
exists_in (Some kept) = is_stored kept.object

-- the object with this number
abbrev pub stored_at : Slab Kept → ℕ → Stored
stored_at kept n = object_in (get kept n)

-- whether it exists
abbrev pub is_stored_at : Slab Kept → ℕ → Bool
is_stored_at kept n = exists_in (get kept n)

-- what is left of something once what does not exist is forgotten
abbrev pub left_of : Option Kept → Option Kept
left_of None = None
left_of (Some kept) = if is_stored kept.object then Some kept else None

-- what does not exist is forgotten, and each number is still that of what it was
abbrev pub IsSwept : Slab Kept → Slab Kept → Type 0
IsSwept old new = (n : ℕ) → get new n ≡ left_of (get old n)

-- the objects by their keys
abbrev pub entries_of : Slab Kept → Numbers → Entries
entries_of kept numbers = map (λ e. (e.0, stored_at kept e.1)) numbers

-- something has this number and key
pub record HasKey (kept : Slab Kept) (n : ℕ) (key : Key) : Type 0 where
  pub object : Stored
  pub there : get kept n ≡ Some (record { key = key; object = object })

-- each number by a key is that of something with the key, and what has a number has it by its key
pub record IsShelf (kept : Slab Kept) (numbers : Numbers) : Type 0 where
  pub in_order : IsStrictlySortedBy key_cmp (keys_of numbers)
  pub named : AllByRecursion (λ e. HasKey kept e.1 e.0) numbers
  pub numbered : (n : ℕ) (x : Kept) → get kept n ≡ Some x → lookup (is_key x.key) numbers ≡ Some n
