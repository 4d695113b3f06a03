use Rattle.task_put.proofs.Knowing.{fits_later}
use Rattle.task_put.proofs.keeping.others_keep_where_a_put_stands.Goals as goal

pub returns : goal.returns
returns c = fits_later
