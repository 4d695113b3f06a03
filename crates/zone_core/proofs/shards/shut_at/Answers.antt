use Rattle.std.proofs.Common.{rules, sym, subst, refl}
use Rattle.object_words.specs.HoldCalls.{shut_down}
use Rattle.class_words.specs.Shards.{IsShard}
use Rattle.zone_core.proofs.ShardCallLemmas.{class_changes, shard_here}
use Rattle.zone_core.proofs.shards.shut_at.Goals as goal

pub shut-requires : goal.shut-requires
shut-requires c =
    let given = c.requires.stands in
    let here = shard_here given.0 given.1 c.args.pool.now c.args.pool.now given.2 c.args.key.now c.requires.shard given.3 (c.in-Some.ensures.found.0 refl) in
    (here.0, subst (λ o. IsShard o here.0) (sym c.in-Some.ensures.some.object) here.2)

pub returns-in-Some : goal.returns-in-Some
returns-in-Some c settings zone st stands =
    class_changes settings zone c.args.pool.now _ st c.args.key.now c.requires.shard stands c.in-Some.shard c.shut.new.shard (c.in-Some.ensures.found.0 refl) c.in-Some.ensures.some c.shut.ensures.works (search rules)
    (shut_down) c.shut.ensures.shard
