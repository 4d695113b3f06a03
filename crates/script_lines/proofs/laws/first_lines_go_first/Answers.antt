use Rattle.script_lines.proofs.LineLemmas.{goes_first}
use Rattle.script_lines.proofs.laws.first_lines_go_first.Goals as goal

pub returns : goal.returns
returns c = goes_first
