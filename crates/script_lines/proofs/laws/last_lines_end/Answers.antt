use Rattle.script_lines.proofs.LineLemmas.{is_last}
use Rattle.script_lines.proofs.laws.last_lines_end.Goals as goal

pub returns : goal.returns
returns c = is_last
