use Rattle.script_lines.proofs.Searching.{goes_on}
use Rattle.script_lines.proofs.front.find_front.Goals as goal

pub pieces-preserved : goal.pieces-preserved
pieces-preserved g c =
    goes_on _ _ _ _ _ _ _ _ _ _ _ _ _ _ _ c.pieces.invariant (rw c.in-Part.is at c.in_ok-front.ensures) c.in_ok-refill.ensures.read c.in_ok-refill.ensures.cause.good
