-- Which events the tasks of calls make: events on objects alone. No row of a container is changed, and no shard is made.
use Rattle.std.specs.Prelude.{◌≡◌, Bool, true, false, List}
use Rattle.std.specs.List.{AllByRecursion}
use Rattle.realm_model.specs.Owns.{OwnEvent}
use Rattle.realm_model.specs.declared.op.Op.{Op}
use Rattle.realm_model.specs.declared.op.Op.TheVariants.{BucketRead, Prepare, Complete, Cancel, HeadRead, HeadWrite, TailMake, TailRead, Announce}

-- a GET or a HEAD reads the container's row, the head, and tails
abbrev pub is_of_get : Op → Bool
is_of_get (BucketRead zone name) = true
is_of_get (HeadRead zone container name) = true
is_of_get (TailRead zone write part start count) = true
is_of_get op = false

-- a PUT reads the container's row, makes tails, prepares a change of the name, announces it, changes the head, and ends the
-- change
abbrev pub is_of_put : Op → Bool
is_of_put (BucketRead zone name) = true
is_of_put (TailMake zone write part bytes) = true
is_of_put (Prepare zone key name) = true
is_of_put (Announce zone container instance shard bucket) = true
is_of_put (HeadWrite zone container name guard new when) = true
is_of_put (Complete zone key name tag version row) = true
is_of_put (Cancel zone key name tag) = true
is_of_put op = false

abbrev pub AreOfGet : List OwnEvent → Type 0
AreOfGet events = AllByRecursion (λ e. is_of_get e.op ≡ true) events

abbrev pub AreOfPut : List OwnEvent → Type 0
AreOfPut events = AllByRecursion (λ e. is_of_put e.op ≡ true) events
