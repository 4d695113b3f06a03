-- When an object of a pool is a head, and what a call on a head leaves of it.
use Rattle.std.specs.Prelude.{◌≡◌, ◌+◌, ◌-◌}
use Rattle.object_pool.specs.declared.place.Place.{Place}
use Rattle.object_pool.specs.Objects.{Object, no_rows}
use Rattle.object_pool.specs.Places.{object_of, pool_of}
use Rattle.object_words.specs.Heads.{Head, first_bytes, frames_for}
use Rattle.cls_head.specs.Layouts.{IsWritten, head_bytes}

-- the object is that head: it has the head's first bytes, the rest in its attributes, and no rows
pub record IsHead (o : Object) (h : Head) : Type 0 where
  pub bytes : o.bytes ≡ first_bytes h.slot
  pub attrs : o.attrs ≡ head_bytes h
  pub rows : o.rows ≡ no_rows
  pub bounds : IsWritten h

-- a call leaves this head in the place of that one, and the frames that the first bytes took or gave back
pub record LeavesHead (old new : Place) (before after : Head) : Type 0 where
  pub head : IsHead (object_of new) after
  pub free : (pool_of new).free ≡ (pool_of old).free + frames_for (pool_of old).frame (first_bytes before.slot) - frames_for (pool_of old).frame (first_bytes after.slot)
