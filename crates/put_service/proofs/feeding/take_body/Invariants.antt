use Rattle.std.proofs.Common.{◌≡◌, ◌≤◌, ◌<◌, ◌+◌, ℕ, false, None, List, length}
use Rattle.task_put.specs.Bodies.{most_bytes}
use Rattle.task_put.specs.Runs.{request_of, stage_of, fault_of}
use Rattle.task_put.specs.Taking.{WantsBytes, fed_request}
use Rattle.call_service.specs.Bodies.{most_due, HasGiven}
use Rattle.door_moments.specs.Acts.{Asks}
use Rattle.put_service.specs.Standing.{IsUp, IsSteady}
use Rattle.put_service.proofs.feeding.take_body.Given as goal

abbrev pub invariant-pieces : goal.invariant-pieces
invariant-pieces g l = record {
  room : 0 < length l.buffer;
  kept : length l.buffer ≡ length l.fn.buffer;
  sound : fault_of l.task ≡ None;
  steady : IsSteady l.task.stages;
  wants : WantsBytes (stage_of l.task);
  intake : l.intake.failed ≡ None;
  few : length ((request_of l.task).bytes) + most_due l.intake ≤ most_bytes;
  faults : g.S.Source.faults l.source ≡ g.S.Source.faults l.fn.source;
  so_far : (given : List ℕ) × HasGiven l.fn.intake l.intake (g.S.Source.left l.fn.source) (g.S.Source.left l.source) given
      × (request_of l.task ≡ fed_request (request_of l.fn.task) given);
  up : IsUp g.D.Door.tells (g.D.Door.settings l.fn.door) l.task (g.D.Door.told l.door);
  asks : Asks g.D.Door.tells g.D.Door.alone (g.D.Door.settings l.fn.door) false (g.D.Door.told l.fn.door) (g.D.Door.told l.door) (g.C.Clock.told l.fn.clock) (g.C.Clock.told l.clock);
  settings : g.D.Door.settings l.door ≡ g.D.Door.settings l.fn.door;
  home : g.D.Door.home l.door ≡ g.D.Door.home l.fn.door;
  plan : g.C.Clock.plan l.clock ≡ g.C.Clock.plan l.fn.clock;
}

abbrev pub decreases-pieces : goal.decreases-pieces
decreases-pieces g l = most_due l.intake
