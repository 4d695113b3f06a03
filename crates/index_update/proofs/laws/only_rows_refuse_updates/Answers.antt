use Rattle.index_update.proofs.Refusing.{refused_by_rows}
use Rattle.index_update.proofs.laws.only_rows_refuse_updates.Goals as goal

pub returns : goal.returns
returns c = refused_by_rows
