-- The key that a label stands for. No public clause cites this module.
use Rattle.rgw_types.specs.declared.pool_key.Key.{Key}
use Rattle.rgw_types.specs.declared.pool_key.Key.TheVariants as keys
use Rattle.object_pool.specs.declared.kept_key.Label.{Label}
use Rattle.object_pool.specs.declared.kept_key.Label.TheVariants.{Head, Other}

abbrev pub key_in : Label → Key
key_in (Head container name) = keys.Head container name.items
key_in (Other key) = key
