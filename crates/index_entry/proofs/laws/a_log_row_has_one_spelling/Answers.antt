use Rattle.index_entry.proofs.Uniqueness.{no_name, one_position, one_what, what_most}
use Rattle.index_entry.proofs.laws.a_log_row_has_one_spelling.Goals as goal

pub returns-clause-one : goal.returns-clause-one
returns-clause-one c = one_what

pub returns-clause-most : goal.returns-clause-most
returns-clause-most c = what_most

pub returns-clause-key : goal.returns-clause-key
returns-clause-key c = one_position

pub returns-clause-no_name : goal.returns-clause-no_name
returns-clause-no_name c = no_name
