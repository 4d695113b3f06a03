use Rattle.std.proofs.Common.{sym, subst}
use Rattle.index_update.specs.Fits.{known_at}
use Rattle.index_update.specs.Paths.{ready}
use Rattle.index_update.specs.Updates.{start_at, fits}
use Rattle.index_update.proofs.Beginning.{preparing_begins}
use Rattle.index_update.proofs.update.IndexUpdate.in_shard.Goals as goal

pub returns-clause-fits : goal.returns-clause-fits
returns-clause-fits c = λ settings d may at.
    subst (λ u. fits (start_at ready c.args.change settings d) u settings d) (sym c.begun.ensures.update)
    (preparing_begins settings (known_at settings d) c.args.target c.args.change c.args.key c.begun.ensures.named may at)
