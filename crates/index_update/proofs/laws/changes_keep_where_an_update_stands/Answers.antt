use Rattle.index_update.proofs.ChangingHeads.{write_kept}
use Rattle.index_update.proofs.laws.changes_keep_where_an_update_stands.Goals as goal

pub returns : goal.returns
returns c = λ r x key guard change k reply fits. write_kept r x key guard change k fits reply
