use Rattle.std.proofs.Common.{sym, subst}
use Rattle.index_update.specs.Fits.{known_at}
use Rattle.index_update.specs.Paths.{turned}
use Rattle.index_update.specs.Updates.{start_at, fits}
use Rattle.index_update.proofs.Beginning.{looking_begins}
use Rattle.index_update.proofs.update.IndexUpdate.new.Goals as goal

pub returns-clause-fits : goal.returns-clause-fits
returns-clause-fits c = λ settings d may.
    subst (λ u. fits (start_at turned c.args.change settings d) u settings d) (sym c.begun.ensures.update)
    (looking_begins settings (known_at settings d) c.args.target c.args.change c.begun.ensures.named may)
