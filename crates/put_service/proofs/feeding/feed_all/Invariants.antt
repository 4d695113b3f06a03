use Rattle.std.proofs.Common.{◌≡◌, ◌≤◌, ◌+◌, ℕ, false, None, List, ◌++◌, length}
use Rattle.task_put.specs.Bodies.{most_bytes}
use Rattle.task_put.specs.Runs.{request_of, stage_of, fault_of}
use Rattle.task_put.specs.Taking.{WantsBytes, fed_request}
use Rattle.door_moments.specs.Acts.{Asks}
use Rattle.put_service.specs.Standing.{IsUp, IsSteady}
use Rattle.put_service.proofs.feeding.feed_all.Given as goal

abbrev pub invariant-parts : goal.invariant-parts
invariant-parts g l = record {
  sound : fault_of l.task ≡ None;
  steady : IsSteady l.task.stages;
  wants : WantsBytes (stage_of l.task);
  few : length ((request_of l.task).bytes) + length l.rest ≤ most_bytes;
  so_far : (taken : List ℕ) × (taken ++ l.rest ≡ l.fn.bytes) × (request_of l.task ≡ fed_request (request_of l.fn.task) taken);
  up : IsUp g.D.Door.tells (g.D.Door.settings l.fn.door) l.task (g.D.Door.told l.door);
  asks : Asks g.D.Door.tells g.D.Door.alone (g.D.Door.settings l.fn.door) false (g.D.Door.told l.fn.door) (g.D.Door.told l.door) (g.C.Clock.told l.fn.clock) (g.C.Clock.told l.clock);
  settings : g.D.Door.settings l.door ≡ g.D.Door.settings l.fn.door;
  home : g.D.Door.home l.door ≡ g.D.Door.home l.fn.door;
  plan : g.C.Clock.plan l.clock ≡ g.C.Clock.plan l.fn.clock;
}

abbrev pub decreases-parts : goal.decreases-parts
decreases-parts g l = length l.rest
