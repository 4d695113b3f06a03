use Rattle.index_law.proofs.Consequences.{shown, listed, counted, sized}
use Rattle.index_law.proofs.laws.settled_names_are_shown.Goals as goal

pub returns-clause-shown : goal.returns-clause-shown
returns-clause-shown c = shown

pub returns-clause-listed : goal.returns-clause-listed
returns-clause-listed c = listed

pub returns-clause-counted : goal.returns-clause-counted
returns-clause-counted c = counted

pub returns-clause-sized : goal.returns-clause-sized
returns-clause-sized c = sized
