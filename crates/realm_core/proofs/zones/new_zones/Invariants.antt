use Rattle.std.proofs.Common.{◌≡◌, replicate}
use Rattle.zone_core.specs.Stands.{new_pool}
use Rattle.realm_core.proofs.zones.new_zones.Given as goal

-- a pool for each zone so far
abbrev pub invariant-loop-zone : goal.invariant-loop-zone
invariant-loop-zone l = l.zones.items ≡ replicate l.zone (new_pool l.settings)
