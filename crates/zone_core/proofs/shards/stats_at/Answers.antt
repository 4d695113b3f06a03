use Rattle.std.proofs.Common.{sym, subst, refl}
use Rattle.class_words.specs.Shards.{IsShard}
use Rattle.zone_core.proofs.ShardCallLemmas.{shard_here}
use Rattle.zone_core.proofs.shards.stats_at.Goals as goal

pub stats-requires : goal.stats-requires
stats-requires c =
    let given = c.requires.stands in
    let here = shard_here given.0 given.1 c.args.pool.now c.args.pool.now given.2 c.args.key.now c.requires.shard given.3 (c.in-Some.ensures.found.0 refl) in
    (here.0, subst (λ o. IsShard o here.0) (sym c.in-Some.ensures.some.object) here.2)
