use Rattle.script_lines.proofs.Breaks.{ends_at}
use Rattle.script_lines.proofs.front.line_end.Goals as goal

pub returns : goal.returns
returns c = ends_at c.args.bytes.now c.memchr.result c.memchr.ensures
