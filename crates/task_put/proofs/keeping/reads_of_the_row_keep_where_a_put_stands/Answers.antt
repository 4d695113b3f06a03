use Rattle.task_put.specs.declared.stage.Stage.TheVariants.{Looking}
use Rattle.task_put.proofs.Stepping.{kept_so}
use Rattle.task_put.proofs.keeping.reads_of_the_row_keep_where_a_put_stands.Goals as goal

pub returns : goal.returns
returns c = λ settings r draft k reply f. kept_so settings r k (Looking draft) reply tt f
