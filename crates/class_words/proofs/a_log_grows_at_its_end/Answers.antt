use Rattle.class_words.proofs.LogLemmas.{absent_after, grown_there, grown_others, grown_log}
use Rattle.class_words.proofs.a_log_grows_at_its_end.Goals as goal

pub returns-clause-absent : goal.returns-clause-absent
returns-clause-absent c = absent_after

pub returns-clause-there : goal.returns-clause-there
returns-clause-there c = grown_there

pub returns-clause-others : goal.returns-clause-others
returns-clause-others c = grown_others

pub returns-clause-kept : goal.returns-clause-kept
returns-clause-kept c = grown_log
