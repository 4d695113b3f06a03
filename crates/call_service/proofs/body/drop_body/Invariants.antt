use Rattle.std.proofs.Common.{◌≡◌, ◌<◌, ℕ, List, length}
use Rattle.std.specs.Prelude.{None}
use Rattle.call_service.specs.Bodies.{most_due, HasGiven}
use Rattle.call_service.proofs.body.drop_body.Given as goal

abbrev pub invariant-pieces : goal.invariant-pieces
invariant-pieces g l = record {
  room : 0 < length l.buffer;
  kept : length l.buffer ≡ length l.fn.buffer;
  sound : l.intake.failed ≡ None;
  faults : g.S.Source.faults l.source ≡ g.S.Source.faults l.fn.source;
  so_far : (given : List ℕ) × HasGiven l.fn.intake l.intake (g.S.Source.left l.fn.source) (g.S.Source.left l.source) given;
}

abbrev pub decreases-pieces : goal.decreases-pieces
decreases-pieces g l = most_due l.intake
