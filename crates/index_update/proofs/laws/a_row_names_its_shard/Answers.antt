use Rattle.index_update.proofs.Rows.{row_names}
use Rattle.index_update.proofs.laws.a_row_names_its_shard.Goals as goal

pub returns : goal.returns
returns c = row_names
