-- What a change of a root needs and leaves.
use Rattle.std.specs.Prelude.{◌^◌, ◌<◌, Result, OnOk, OnErr}
use Rattle.object_pool.specs.declared.place.Place.{Place}
use Rattle.object_pool.specs.Places.{object_of}
use Rattle.object_words.specs.Roots.{Root}
use Rattle.class_words.specs.Works.{Works}
use Rattle.cls_record.specs.RootObjects.{IsRoot}

-- the place is a root, and its log takes one row more
abbrev pub MayLog : Place → Type 0
MayLog root = (r : Root) × IsRoot (object_of root) r × (r.log.last < 2 ^ 63)

-- it is the root that comes of the one it was, or the same for want of memory
pub record LeavesRoot {T E : Type 0} (old new : Place) (result : Result T E) (after : Root → Root) : Type 0 where
  pub works : Works old new
  pub ok : OnOk result ((r : Root) → IsRoot (object_of old) r → r.log.last < 2 ^ 63 → IsRoot (object_of new) (after r))
  pub err : OnErr result ((r : Root) → IsRoot (object_of old) r → IsRoot (object_of new) r)
