use Rattle.script_player.proofs.Words.{start_few, do_few}
use Rattle.script_player.proofs.laws.lines_have_few_bytes.Goals as goal

pub returns-clause-start : goal.returns-clause-start
returns-clause-start c = start_few

pub returns-clause-once : goal.returns-clause-once
returns-clause-once c = do_few
