use Rattle.std.proofs.Common.{subst, sym}
use Rattle.std.specs.Prelude.{IsSomeAnd}
use Rattle.index_law.specs.Serving.{IsServing}
use Rattle.index_law.proofs.Consequences.{row_has_shards}
use Rattle.index_law.proofs.Served.{row_shard_made, row_shard_held, open_shards_serve}
use Rattle.index_law.proofs.laws.shards_of_rows_serve.Goals as goal

pub returns-clause-some : goal.returns-clause-some
returns-clause-some c = row_has_shards

pub returns-clause-held : goal.returns-clause-held
returns-clause-held c = row_shard_held

pub returns-clause-free : goal.returns-clause-free
returns-clause-free c settings history zone container shard row legal none is less =
    let m = row_shard_made settings history zone container shard row legal is less in
    subst (λ o. IsSomeAnd o IsServing) (sym m.there) (open_shards_serve settings history none zone _ m.shard m.there)
