use Rattle.list_words.proofs.Rows.{outside, folded, behind}
use Rattle.list_words.proofs.laws.other_names_change_nothing.Goals as goal

pub returns-clause-outside : goal.returns-clause-outside
returns-clause-outside c = outside

pub returns-clause-folded : goal.returns-clause-folded
returns-clause-folded c = folded

pub returns-clause-behind : goal.returns-clause-behind
returns-clause-behind c = behind
