use Rattle.index_update.proofs.Counting.{path_more}
use Rattle.index_update.proofs.Ordering.{in_order}
use Rattle.index_update.proofs.laws.updates_make_their_events_in_order.Goals as goal

pub returns-clause-more : goal.returns-clause-more
returns-clause-more c = path_more

pub returns-clause-order : goal.returns-clause-order
returns-clause-order c = in_order
