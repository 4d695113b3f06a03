use Rattle.task_put.proofs.Taking.{fed_fits, ended_fits}
use Rattle.task_put.proofs.keeping.bodies_keep_where_a_put_stands.Goals as goal

pub returns-clause-fed : goal.returns-clause-fed
returns-clause-fed c = fed_fits

pub returns-clause-ended : goal.returns-clause-ended
returns-clause-ended c = ended_fits
