use Rattle.index_law.proofs.Removed.{removed_empty, kept_map, removed_for_good}
use Rattle.index_law.proofs.laws.a_removed_container_is_empty.Goals as goal

pub returns-clause-now : goal.returns-clause-now
returns-clause-now c = removed_empty

pub returns-clause-later : goal.returns-clause-later
returns-clause-later c = removed_for_good

pub returns-clause-map : goal.returns-clause-map
returns-clause-map c settings history e later name expected row good legal op reply here = kept_map settings good history e later legal name expected op reply row here
