use Rattle.std.proofs.Common.{rules, sym, subst, refl}
use Rattle.object_words.specs.ShardCalls.{complete_refusal, completed}
use Rattle.class_words.specs.Shards.{IsShard}
use Rattle.zone_core.proofs.ShardCallLemmas.{class_replies, room_here, shard_here}
use Rattle.zone_core.proofs.shards.complete_at.Goals as goal

pub complete-requires : goal.complete-requires
complete-requires c =
    let given = c.requires.1 in
    let key = c.args.key.now in
    let here = shard_here given.0 given.1 c.args.pool.now c.args.pool.now given.2 key c.requires.0 given.3.stands (c.in-Some.ensures.found.0 refl) in
    (here.0, subst (λ o. IsShard o here.0) (sym c.in-Some.ensures.some.object) here.2, room_here given.0 given.1 c.args.pool.now given.2 key given.3 here.0 here.1)

pub returns : goal.returns
returns c settings zone st ready =
    let p = c.args.pool.now in
    let key = c.args.key.now in
    let told = class_replies settings zone p _ st key c.requires.0 ready.stands c.in-Some.shard c.complete.new.shard (c.in-Some.ensures.found.0 refl) c.in-Some.ensures.some c.complete.ensures.works (search rules) c.complete.result
    (λ s. complete_refusal s c.args.name.now c.args.tag) (λ s done. Unit {0}) (λ s. completed s c.args.name.now c.args.tag c.args.version c.args.row.now)
    (λ s found is. c.complete.ensures.answers s is (room_here settings zone p st key ready s found)) in
    told.2
