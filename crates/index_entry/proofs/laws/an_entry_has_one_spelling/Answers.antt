use Rattle.index_entry.proofs.Uniqueness.{entry_most, one_entry}
use Rattle.index_entry.proofs.laws.an_entry_has_one_spelling.Goals as goal

pub returns-clause-one : goal.returns-clause-one
returns-clause-one c = one_entry

pub returns-clause-most : goal.returns-clause-most
returns-clause-most c = entry_most
