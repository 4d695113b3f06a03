use Rattle.index_update.proofs.ChangingEnds.{complete_kept, shard_kept}
use Rattle.index_update.proofs.laws.completions_keep_where_an_update_stands.Goals as goal

pub returns-clause-complete : goal.returns-clause-complete
returns-clause-complete c = λ r x key made k reply fits. complete_kept r x key made k fits reply

pub returns-clause-look : goal.returns-clause-look
returns-clause-look c = λ r x made k reply fits. shard_kept r x made k fits reply
