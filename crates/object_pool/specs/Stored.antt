-- How a pool keeps its objects. No public clause cites this module.
use Rattle.std.specs.Prelude.{◌≡◌, ℕ, ◌+◌, ◌*◌, ◌≤◌, Bool, not, ◌&&◌, ◌==◌, length, List, [], ◌∷◌, map, take, sum_by, Result, OnOk}
use Rattle.std.specs.List.{AllByRecursion}
use Rattle.std.specs.List.Sorted.{IsStrictlySortedBy}
use Rattle.std.specs.Map.{keys_of}
use Rattle.std.specs.Int.{div_ceil}
use Rattle.rgw_types.specs.declared.pool_key.Key.{Key}
use Rattle.frame_region.specs.Region.{RegionView, bytes_of, Owns, Apart}
use Rattle.object_pool.specs.declared.object.Stored.{Stored}
use Rattle.object_pool.specs.Objects.{HasFrameSum, KeepsAll, KeepsCounts, Object, PoolView, Slots, key_cmp, nothing, objects, slot_at}

abbrev pub Entries : Type 0
Entries = List (Key × Stored)

-- it has bytes, attributes or rows
abbrev pub is_stored : Stored → Bool
is_stored o = not (o.size == 0 && (length o.parts.attrs == 0 && length o.parts.rows.rows == 0))

abbrev pub object_in : RegionView → Stored → Object
object_in region o = record { bytes = take o.size (bytes_of region o.run); attrs = o.parts.attrs; rows = o.parts.rows }

abbrev pub slots_in : RegionView → Entries → Slots
slots_in region entries = map (λ e. (e.0, object_in region e.1)) entries

-- its run is the region's, and has just the frames that its bytes need
pub record IsHeld (region : RegionView) (o : Stored) : Type 0 where
  pub owned : Owns region o.run
  pub fits : o.size ≤ o.run.count * region.frame
  pub count : o.run.count ≡ div_ceil o.size region.frame

abbrev pub AreApart : Stored → Stored → Type 0
AreApart a b = Apart a.run b.run × Apart b.run a.run

-- no two entries share a frame
unfoldable pub AllApart : Entries → Type 0
AllApart [] = Unit {0}
AllApart (e ∷ es) = AllByRecursion (λ f. AreApart e.1 f.1) es × AllApart es

abbrev pub AllHeld : RegionView → Entries → Type 0
AllHeld region entries = AllByRecursion (λ e. IsHeld region e.1) entries

pub record IsSound (region : RegionView) (frame : ℕ) (entries : Entries) : Type 0 where
  pub frame_is : region.frame ≡ frame
  pub not_too_small : 16 ≤ frame
  pub not_too_large : frame ≤ 65536
  pub not_too_many : region.frames ≤ 4194304
  pub held : AllHeld region entries
  pub apart : AllApart entries
  pub in_order : IsStrictlySortedBy key_cmp (keys_of entries)
  pub sum : region.free + sum_by (λ e. e.1.run.count) entries ≡ region.frames

-- nothing is put in the place of a key whose object does not exist: no object changes, and no count of frames
pub record PutsNothing {T E : Type 0} (key : Key) (old new : PoolView) (result : Result T E) : Type 0 where
  pub put : OnOk result (slot_at new.slots key ≡ nothing)
  pub objects : objects new ≡ objects old
  pub all : KeepsAll old new
  pub counts : KeepsCounts old new
  pub sum : HasFrameSum old → HasFrameSum new
