-- What a contract sees of a pool: objects by their keys, each of bytes, attributes and rows.
use Rattle.std.specs.Prelude.{◌≡◌, ◌≢◌, ℕ, ◌+◌, Bool, not, ◌&&◌, ◌==◌, if◌then◌else◌, List, [], length, sum_by, unwrap_or}
use Rattle.std.specs.List.{filter}
use Rattle.std.specs.Int.{div_ceil}
use Rattle.std.specs.declared.cmp.Ordering.{Ordering}
use Rattle.std.specs.List.Sorted.{IsStrictlySortedBy}
use Rattle.std.specs.Map.{keys_of, lookup, set_value}
use Rattle.std.specs.BTreeMap.{is_at}
use Rattle.rgw_types.specs.declared.pool_key.Key.{Key}
use Rattle.rgw_types.specs.contracts.pool_key.KeyOrd.TheImpl as key_order
use Rattle.omap_pages.specs.Contents.{Contents}

pub record Object : Type 0 where
  pub bytes : List ℕ
  pub attrs : List ℕ
  pub rows : Contents

abbrev pub no_rows : Contents
no_rows = record { rows = []; rooms = []; spare = 0 }

abbrev pub nothing : Object
nothing = record { bytes = []; attrs = []; rows = no_rows }

-- it has bytes, attributes or rows
abbrev pub exists : Object → Bool
exists object = not (length object.bytes == 0 && (length object.attrs == 0 && length object.rows.rows == 0))

-- the object, or nothing where it does not exist
abbrev pub settled : Object → Object
settled object = if exists object then object else nothing

-- the object with no bytes, attributes and rows, and with the spare rows that it had
abbrev pub dropped : Object → Object
dropped object = record { bytes = []; attrs = []; rows = record { rows = []; rooms = []; spare = object.rows.spare } }

-- how many frames its bytes take
abbrev pub frames_of : ℕ → Object → ℕ
frames_of frame object = div_ceil (length object.bytes) frame

-- what is kept under each key, in the order of the keys
abbrev pub Slots : Type 0
Slots = List (Key × Object)

abbrev pub key_cmp : Key → Key → Ordering
key_cmp = (key_order.ghosts).cmp

abbrev pub is_key : Key → Key → Bool
is_key key = is_at (key_cmp key)

-- what is kept under the key
abbrev pub slot_at : Slots → Key → Object
slot_at slots key = unwrap_or (lookup (is_key key) slots) nothing

-- a pool: the bytes of one frame, how many frames there are, how many of them are free, and what is kept
-- under each key, which may be an object that does not exist
pub record PoolView : Type 0 where
  pub frame : ℕ
  pub frames : ℕ
  pub free : ℕ
  pub slots : Slots

-- the object of the key, which is nothing where there is none
abbrev pub object_at : PoolView → Key → Object
object_at pool key = settled (slot_at pool.slots key)

-- the objects that exist
abbrev pub objects : PoolView → Slots
objects pool = filter (λ e. exists e.1) pool.slots

-- they are in the order of their keys, and each key has among them what it has in the pool
pub record IsMap (pool : PoolView) : Type 0 where
  pub in_order : IsStrictlySortedBy key_cmp (keys_of (objects pool))
  pub at_key : (key : Key) → object_at pool key ≡ slot_at (objects pool) key

-- the free frames, with the frames of each object, are all frames
abbrev pub HasFrameSum : PoolView → Type 0
HasFrameSum pool = pool.free + sum_by (λ e. frames_of pool.frame e.1) (objects pool) ≡ pool.frames

-- each object of another key is what it was
abbrev pub KeepsOthers : PoolView → PoolView → Key → Type 0
KeepsOthers old new key = (q : Key) → q ≢ key → object_at new q ≡ object_at old q

-- no object changes
abbrev pub KeepsAll : PoolView → PoolView → Type 0
KeepsAll old new = (q : Key) → object_at new q ≡ object_at old q

-- the frames and how many of them are free stay
pub record KeepsCounts (old new : PoolView) : Type 0 where
  pub frame : new.frame ≡ old.frame
  pub frames : new.frames ≡ old.frames
  pub free : new.free ≡ old.free

-- the pool with this under the key, where something is kept there, and so many free frames
abbrev pub with_object : PoolView → Key → Object → ℕ → PoolView
with_object pool key object free = record pool { free = free; slots = set_value (is_key key) pool.slots object }
