use Rattle.task_put.specs.declared.stage.Stage.TheVariants.{Feeding}
use Rattle.task_put.proofs.Stepping.{may_so, kept_so, settled_so}
use Rattle.task_put.proofs.keeping.tails_keep_where_a_put_stands.Goals as goal

pub returns-clause-may : goal.returns-clause-may
returns-clause-may c = λ settings r write key draft k f waits low high. may_so settings r k (Feeding write key draft) low high waits f

pub returns-clause-tail : goal.returns-clause-tail
returns-clause-tail c = λ settings r write key draft k f waits reply. kept_so settings r k (Feeding write key draft) reply waits f

pub returns-clause-end : goal.returns-clause-end
returns-clause-end c = settled_so
