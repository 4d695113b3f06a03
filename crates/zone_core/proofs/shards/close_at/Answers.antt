use Rattle.std.proofs.Common.{rules, sym, subst, refl}
use Rattle.object_words.specs.HoldCalls.{close_refusal, closed}
use Rattle.class_words.specs.Shards.{IsShard}
use Rattle.zone_core.proofs.ShardCallLemmas.{class_answers, shard_here}
use Rattle.zone_core.proofs.shards.close_at.Goals as goal

pub close-requires : goal.close-requires
close-requires c =
    let given = c.requires.stands in
    let here = shard_here given.0 given.1 c.args.pool.now c.args.pool.now given.2 c.args.key.now c.requires.shard given.3 (c.in-Some.ensures.found.0 refl) in
    (here.0, subst (λ o. IsShard o here.0) (sym c.in-Some.ensures.some.object) here.2)

pub returns : goal.returns
returns c settings zone st stands =
    let told = class_answers settings zone c.args.pool.now _ st c.args.key.now c.requires.shard stands c.in-Some.shard c.close.new.shard (c.in-Some.ensures.found.0 refl) c.in-Some.ensures.some c.close.ensures.works (search rules) c.close.result
    (λ s. close_refusal s c.args.id c.args.force) (λ s done. Unit {0}) (λ s. closed s c.args.id c.args.force)
    (λ s found is. c.close.ensures.answers s is) in
    told.2
