use Rattle.std.proofs.Common.{◌≡◌, ◌-◌, ◌^◌, false, None}
use Rattle.task_put.specs.Runs.{request_of, fault_of}
use Rattle.door_moments.specs.Acts.{Asks}
use Rattle.put_service.specs.Standing.{IsUp, IsSteady}
use Rattle.put_service.proofs.stepping.advance.Given as goal

abbrev pub invariant-events : goal.invariant-events
invariant-events g l = record {
  sound : fault_of l.task ≡ None;
  steady : IsSteady l.task.stages;
  up : IsUp g.D.Door.tells (g.D.Door.settings l.fn.door) l.task (g.D.Door.told l.door);
  asks : Asks g.D.Door.tells g.D.Door.alone (g.D.Door.settings l.fn.door) false (g.D.Door.told l.fn.door) (g.D.Door.told l.door) (g.C.Clock.told l.fn.clock) (g.C.Clock.told l.clock);
  request : request_of l.task ≡ request_of l.fn.task;
  settings : g.D.Door.settings l.door ≡ g.D.Door.settings l.fn.door;
  home : g.D.Door.home l.door ≡ g.D.Door.home l.fn.door;
  plan : g.C.Clock.plan l.clock ≡ g.C.Clock.plan l.fn.clock;
}

abbrev pub decreases-events : goal.decreases-events
decreases-events g l = 2 ^ 62 - g.D.Door.last l.door
