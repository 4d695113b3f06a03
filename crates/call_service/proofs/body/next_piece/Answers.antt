use Rattle.call_service.proofs.Passing.{is_cut_in}
use Rattle.call_service.proofs.body.next_piece.Goals as goal

pub returns-in-Err-Cut-clause-passed : goal.returns-in-Err-Cut-clause-passed
returns-in-Err-Cut-clause-passed g c =
    is_cut_in c.args.intake.now c.body.new.self (g.S.Source.left c.args.source.now) (g.S.Source.left c.body.new.source) c.body.new.out c.in-Err-Cut.field-0 c.in-Err-Cut.field-0-is c.requires.sound (c.in-Err-Cut.ensures.grammar c.requires.sound)
