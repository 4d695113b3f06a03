use Rattle.class_words.proofs.LogLemmas.{entry_at_name}
use Rattle.class_words.proofs.a_shard_has_its_entries.Goals as goal

pub returns : goal.returns
returns c = entry_at_name
