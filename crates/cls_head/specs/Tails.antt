-- When an object of a pool is a tail, and what a call on a tail leaves of it.
use Rattle.std.specs.Prelude.{◌≡◌, ◌+◌, ◌-◌, []}
use Rattle.object_pool.specs.declared.place.Place.{Place}
use Rattle.object_pool.specs.Objects.{Object, no_rows}
use Rattle.object_pool.specs.Places.{object_of, pool_of}
use Rattle.object_words.specs.Heads.{frames_for}
use Rattle.object_words.specs.Tails.{Tail}

-- the object is that tail: it has the tail's bytes, and nothing else
pub record IsTail (o : Object) (t : Tail) : Type 0 where
  pub bytes : o.bytes ≡ t.bytes
  pub attrs : o.attrs ≡ []
  pub rows : o.rows ≡ no_rows

-- a call leaves this tail in the place of that one, and the frames that the bytes took or gave back
pub record LeavesTail (old new : Place) (before after : Tail) : Type 0 where
  pub tail : IsTail (object_of new) after
  pub free : (pool_of new).free ≡ (pool_of old).free + frames_for (pool_of old).frame before.bytes - frames_for (pool_of old).frame after.bytes
