use Rattle.index_entry.proofs.KeyOrder.{keys_in_order}
use Rattle.index_entry.proofs.laws.log_keys_are_in_order.Goals as goal

pub returns : goal.returns
returns c = keys_in_order
