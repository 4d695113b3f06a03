use Rattle.std.proofs.Common.{sym, ◌∙◌}
use Rattle.http_intake.proofs.Given.{line_due}
use Rattle.http_intake.proofs.BodyGrammar.{reads_bytes, reads_chunk}
use Rattle.http_intake.proofs.intake.Intake.body.Goals as goal

pub returns-then-is_line_due-clause-grammar : goal.returns-then-is_line_due-clause-grammar
returns-then-is_line_due-clause-grammar g c = λ goes.
    let due = line_due c.args.self.now c.args.out.now (sym c.is_line_due.ensures ∙ c.if-is_line_due.true) in
    reads_chunk _ _ c.args.self.now c.give_chunk.new.self c.give_chunk.new.out c.give_chunk.result due.0 due.1 c.give_chunk.ensures.given

pub returns-clause-grammar : goal.returns-clause-grammar
returns-clause-grammar g c = λ goes. reads_bytes _ _ c.args.self.now c.give_bytes.new.self c.give_bytes.new.out c.give_bytes.result c.give_bytes.ensures.given
