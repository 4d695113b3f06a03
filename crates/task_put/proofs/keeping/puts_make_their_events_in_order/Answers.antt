use Rattle.task_put.proofs.Ordering.{path_more, in_order, ordered_behind, finished_behind}
use Rattle.task_put.proofs.keeping.puts_make_their_events_in_order.Goals as goal

pub returns-clause-more : goal.returns-clause-more
returns-clause-more c = path_more

pub returns-clause-order : goal.returns-clause-order
returns-clause-order c = in_order

pub returns-clause-update : goal.returns-clause-update
returns-clause-update c = ordered_behind

pub returns-clause-finish : goal.returns-clause-finish
returns-clause-finish c = finished_behind
