-- What a pool is once the borrow that a call returns has ended.
use Rattle.std.specs.Borrow.{Fml, MutBor, Lends}
use Rattle.std.specs.Map.{set_value}
use Rattle.rgw_types.specs.declared.pool_key.Key.{Key}
use Rattle.object_pool.specs.Objects.{PoolView, slot_at, is_key}
use Rattle.object_pool.specs.Parts.{Parts}
use Rattle.object_pool.specs.contracts.pool.Pool as pool
use Rattle.object_pool.specs.contracts.object.ObjectParts as parts

-- the pool with these attributes and rows under the key
abbrev pub with_parts : PoolView → Key → Parts → PoolView
with_parts p key w =
    record p { slots = set_value (is_key key) p.slots (record (slot_at p.slots key) { attrs = w.attrs; rows = w.rows }) }

abbrev pub LendsParts : MutBor PoolView → Key → MutBor Parts → Fml
LendsParts s key r = Lends pool.the_row parts.the_row s r (with_parts s.now key)
