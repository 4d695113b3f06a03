use Rattle.index_law.proofs.Consequences.{stamp_later, stamp_unused}
use Rattle.index_law.proofs.laws.a_change_has_a_new_stamp.Goals as goal

pub returns-clause-later : goal.returns-clause-later
returns-clause-later c = stamp_later

pub returns-clause-unused : goal.returns-clause-unused
returns-clause-unused c = stamp_unused
