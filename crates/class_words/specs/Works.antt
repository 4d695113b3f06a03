-- What a call on one object leaves of the pool that the object is in.
use Rattle.std.specs.Prelude.{◌≡◌, ℕ}
use Rattle.object_pool.specs.declared.place.Place.{Place}
use Rattle.object_pool.specs.Objects.{KeepsCounts, KeepsOthers}
use Rattle.object_pool.specs.Places.{borrow_of, key_of, object_of, pool_of}

-- only the object at the place changes, and so many frames are free then
pub record WorksWith (old new : Place) (left : ℕ) : Type 0 where
  pub same_borrow : borrow_of new ≡ borrow_of old
  pub key : key_of new ≡ key_of old
  pub others : KeepsOthers (pool_of old) (pool_of new) (key_of old)
  pub frame : (pool_of new).frame ≡ (pool_of old).frame
  pub frames : (pool_of new).frames ≡ (pool_of old).frames
  pub free : (pool_of new).free ≡ left

-- only the object at the place changes, and no frame is taken or given back
pub record Works (old new : Place) : Type 0 where
  pub same_borrow : borrow_of new ≡ borrow_of old
  pub key : key_of new ≡ key_of old
  pub others : KeepsOthers (pool_of old) (pool_of new) (key_of old)
  pub counts : KeepsCounts (pool_of old) (pool_of new)

-- and of the object only its rows
pub record WorksOnRows (old new : Place) : Type 0 where
  pub works : Works old new
  pub bytes : (object_of new).bytes ≡ (object_of old).bytes
  pub attrs : (object_of new).attrs ≡ (object_of old).attrs
