use Rattle.class_words.proofs.LogLemmas.{no_log_row, same_position}
use Rattle.class_words.proofs.logs_and_names_stand_apart.Goals as goal

pub returns-clause-apart : goal.returns-clause-apart
returns-clause-apart c = no_log_row

pub returns-clause-once : goal.returns-clause-once
returns-clause-once c = same_position
