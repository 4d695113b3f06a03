use Rattle.std.proofs.Common.{rules, sym, subst}
use Rattle.object_pool.specs.Places.{IsUnchanged}
use Rattle.class_words.specs.Shards.{IsShardOr}
use Rattle.zone_core.proofs.HeadCallLemmas.{stands_stays, stands_still}
use Rattle.zone_core.proofs.ShardCallLemmas.{on_err, on_ok, stands_made}
use Rattle.zone_core.proofs.shards.make_at.Goals as goal

pub returns-in_default-clause-err : goal.returns-in_default-clause-err
returns-in_default-clause-err c settings zone st stands =
    let same : IsUnchanged c.args.pool.now c.place.follows.lender-at-none = search rules in
    stands_still settings zone c.args.pool.now c.place.follows.lender-at-none st stands same.0 same.2.frame same.2.free

pub make-requires : goal.make-requires
make-requires c =
    let given = c.requires.stands in
    let key = c.args.key.now in
    (given.2.shards given.1 key, subst (λ o. IsShardOr o (given.2.shards given.1 key)) (sym c.in-Ok.ensures.ok.object) (given.3.shards key c.requires.shard))

pub returns-clause-ok : goal.returns-clause-ok
returns-clause-ok c settings zone st stands =
    let key = c.args.key.now in
    let found = st.shards zone key in
    let at = c.in-Ok.ensures.ok in
    on_ok c.make.result (stands_made settings zone c.args.pool.now _ st key c.requires.shard stands c.in-Ok.shard c.make.new.shard at c.make.ensures.works (search rules))
    (c.make.ensures.ok found (subst (λ o. IsShardOr o found) (sym at.object) (stands.shards key c.requires.shard)))

pub returns-clause-err : goal.returns-clause-err
returns-clause-err c settings zone st stands =
    on_err c.make.result (stands_stays settings zone c.args.pool.now _ st stands c.args.key.now c.in-Ok.shard c.make.new.shard c.in-Ok.ensures.ok (search rules)) c.make.ensures.err
