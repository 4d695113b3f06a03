use Rattle.std.proofs.Common.{◌≡◌, ◌-◌, ◌^◌, false, None}
use Rattle.door_moments.specs.Acts.{Asks, IsUpTo}
use Rattle.door_moments.proofs.acting.act_to_end.Given as goal

abbrev pub invariant-events : goal.invariant-events
invariant-events g l = record {
  sound : l.task.fault ≡ None;
  up : IsUpTo g.T.Staged.fits g.D.Door.tells (g.D.Door.settings l.fn.door) l.task.stages (g.D.Door.told l.door);
  command : g.T.Staged.command l.task.stages ≡ g.T.Staged.command l.fn.task.stages;
  settings : g.D.Door.settings l.door ≡ g.D.Door.settings l.fn.door;
  home : g.D.Door.home l.door ≡ g.D.Door.home l.fn.door;
  plan : g.C.Clock.plan l.clock ≡ g.C.Clock.plan l.fn.clock;
  asks : Asks g.D.Door.tells g.D.Door.alone (g.D.Door.settings l.fn.door) false (g.D.Door.told l.fn.door) (g.D.Door.told l.door) (g.C.Clock.told l.fn.clock) (g.C.Clock.told l.clock);
}

abbrev pub decreases-events : goal.decreases-events
decreases-events g l = 2 ^ 62 - g.D.Door.last l.door
