use Rattle.list_words.proofs.Keys.{keys_rise, past, together, apart}
use Rattle.list_words.proofs.laws.keys_rise_with_names.Goals as goal

pub returns-clause-rise : goal.returns-clause-rise
returns-clause-rise c = keys_rise

pub returns-clause-past : goal.returns-clause-past
returns-clause-past c = past

pub returns-clause-together : goal.returns-clause-together
returns-clause-together c = together

pub returns-clause-apart : goal.returns-clause-apart
returns-clause-apart c = apart
