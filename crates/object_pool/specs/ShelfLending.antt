-- What a shelf is once the borrow of an object has ended.
use Rattle.std.specs.Borrow.{Fml, MutBor, Lends}
use Rattle.std.specs.Map.{set_value}
use Rattle.rgw_types.specs.declared.pool_key.Key.{Key}
use Rattle.object_pool.specs.declared.object.Stored.{Stored}
use Rattle.object_pool.specs.Objects.{is_key}
use Rattle.object_pool.specs.Stored.{Entries}
use Rattle.object_pool.specs.contracts.shelf.Shelf as shelf
use Rattle.object_pool.specs.contracts.object.Stored as stored

abbrev pub LendsStored : MutBor Entries → Key → MutBor Stored → Fml
LendsStored s key r = Lends shelf.the_row stored.the_row s r (set_value (is_key key) s.now)
