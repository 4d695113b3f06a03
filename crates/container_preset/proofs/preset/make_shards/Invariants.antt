use Rattle.std.proofs.Common.{◌≡◌, ◌≤◌}
use Rattle.container_preset.specs.Presets.{HasMade}
use Rattle.container_preset.proofs.preset.make_shards.Given as goal

abbrev pub invariant-loop-shard : goal.invariant-loop-shard
invariant-loop-shard g l =
    (g.D.Door.tells → HasMade l.settings g.D.Door.alone (g.D.Door.told l.fn.door) (g.D.Door.told l.door) l.bucket l.id l.moment l.shard)
    × (g.D.Door.settings l.door ≡ g.D.Door.settings l.fn.door)
    × (g.D.Door.home l.door ≡ g.D.Door.home l.fn.door)
    × (l.settings ≡ l.fn.settings)
    × (l.bucket ≡ l.fn.bucket)
    × (l.id ≡ l.fn.id)
    × (l.moment ≡ l.fn.moment)
    × (l.shard-end ≡ l.settings.shards)
    × (l.shard ≤ l.shard-end)
