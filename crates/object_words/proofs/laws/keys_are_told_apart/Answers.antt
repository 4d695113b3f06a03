use Rattle.object_words.proofs.KeyLemmas.{same_key, key_itself}
use Rattle.object_words.proofs.laws.keys_are_told_apart.Goals as goal

pub returns-clause-same : goal.returns-clause-same
returns-clause-same c = same_key

pub returns-clause-itself : goal.returns-clause-itself
returns-clause-itself c = key_itself
