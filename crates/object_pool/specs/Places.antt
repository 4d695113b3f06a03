-- What a contract sees of a place: the pool that it is in, its key, and the object there.
use Rattle.std.specs.Prelude.{◌≡◌, ℕ, Option, Result}
use Rattle.std.specs.Borrow.{Fml, GName, MutBor, RestsIfErr, RestsIfNone}
use Rattle.rgw_types.specs.declared.pool_key.Key.{Key}
use Rattle.omap_pages.specs.declared.error.OutOfMemory.{OutOfMemory}
use Rattle.omap_pages.specs.Contents.{Contents}
use Rattle.omap_pages.specs.Contents as contents
use Rattle.object_pool.specs.Objects.{Object, PoolView, slot_at, objects, with_object, KeepsAll, KeepsCounts, KeepsOthers, HasFrameSum}
use Rattle.object_pool.specs.declared.place.Place.{Place}
use Rattle.object_pool.specs.contracts.pool.Pool.{the_row}

-- the pool as it is now, which it also is once the place is given up
abbrev pub pool_of : Place → PoolView
pool_of place = place.pool.now

-- the borrow of the pool
abbrev pub borrow_of : Place → GName
borrow_of place = place.pool.ghost_name

abbrev pub key_of : Place → Key
key_of place = place.key.now

-- the object at the place, also one that does not exist, with the spare rows that are ready for it
abbrev pub object_of : Place → Object
object_of place = slot_at place.pool.now.slots place.key.now

abbrev pub rows_of : Place → Contents
rows_of place = (object_of place).rows

-- a place in the pool, whose other objects are as they were
pub record IsPlaceIn (old : PoolView) (at : Key) (is : Object) (place : Place) : Type 0 where
  pub key : key_of place ≡ at
  pub object : object_of place ≡ is
  pub all : KeepsAll old (pool_of place)
  pub list : objects (pool_of place) ≡ objects old
  pub counts : KeepsCounts old (pool_of place)
  pub sum : HasFrameSum (pool_of place)

-- the object at the place becomes this, and so many frames are free; nothing else changes
pub record Becomes (old new : Place) (is : Object) (free : ℕ) : Type 0 where
  pub same_borrow : borrow_of new ≡ borrow_of old
  pub key : key_of new ≡ key_of old
  pub object : object_of new ≡ is
  pub others : KeepsOthers (pool_of old) (pool_of new) (key_of old)
  pub after : pool_of new ≡ with_object (pool_of old) (key_of old) is free
  pub sum : HasFrameSum (pool_of new)

-- the same, with as many free frames as before
abbrev pub Changes : Place → Place → Object → Type 0
Changes old new is = Becomes old new is (pool_of old).free

-- only the rows of the object change
abbrev pub ChangesRows : Place → Place → Type 0
ChangesRows old new = Changes old new (record (object_of old) { rows = rows_of new })

-- the object is as it was, but for rooms and spare rows that are no lower
pub record Readies (old new : Place) : Type 0 where
  pub change : ChangesRows old new
  pub kept : contents.Readies (rows_of old) (rows_of new)

-- nothing changes
pub record Stays (old new : Place) : Type 0 where
  pub same_borrow : borrow_of new ≡ borrow_of old
  pub key : key_of new ≡ key_of old
  pub pool : pool_of new ≡ pool_of old

-- where no place is given, the pool is as it was
abbrev pub IsUnchanged : PoolView → PoolView → Type 0
IsUnchanged old new = KeepsAll old new × (objects new ≡ objects old) × KeepsCounts old new

abbrev pub rests_if_none : MutBor PoolView → Option Place → Fml
rests_if_none pool result = RestsIfNone the_row pool borrow_of result (λ last. last ≡ pool.now)

abbrev pub rests_if_refused : MutBor PoolView → Result Place OutOfMemory → Fml
rests_if_refused pool result = RestsIfErr the_row pool borrow_of result (IsUnchanged pool.now)
