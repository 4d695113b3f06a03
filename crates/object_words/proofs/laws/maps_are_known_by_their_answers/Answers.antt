use Rattle.object_words.proofs.NameLemmas.{at-with_name, at-without_name, same_map}
use Rattle.object_words.proofs.laws.maps_are_known_by_their_answers.Goals as goal

pub returns-clause-with_name : goal.returns-clause-with_name
returns-clause-with_name c m name q x = at-with_name m name x q

pub returns-clause-without_name : goal.returns-clause-without_name
returns-clause-without_name c = at-without_name

pub returns-clause-same : goal.returns-clause-same
returns-clause-same c = same_map
