use Rattle.index_update.proofs.Looking.{looking_kept}
use Rattle.index_update.proofs.laws.reads_of_the_row_keep_where_an_update_stands.Goals as goal

pub returns : goal.returns
returns c = looking_kept
