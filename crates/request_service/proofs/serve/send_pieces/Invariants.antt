use Rattle.std.proofs.Common.{◌≡◌, ◌^◌, false, None, ◌-◌}
use Rattle.door_moments.specs.Acts.{Asks, IsUpTo}
use Rattle.request_service.specs.Writing.{HasWritten}
use Rattle.request_service.proofs.serve.send_pieces.Given as goal

abbrev pub invariant-events : goal.invariant-events
invariant-events g l = record {
  unfaulted : l.task.fault ≡ None;
  sound : g.T.Request.is_sound l.task.stages;
  up : IsUpTo g.T.Staged.fits g.D.Door.tells (g.D.Door.settings l.fn.door) l.task.stages (g.D.Door.told l.door);
  command : g.T.Staged.command l.task.stages ≡ g.T.Staged.command l.fn.task.stages;
  settings : g.D.Door.settings l.door ≡ g.D.Door.settings l.fn.door;
  home : g.D.Door.home l.door ≡ g.D.Door.home l.fn.door;
  plan : g.C.Clock.plan l.clock ≡ g.C.Clock.plan l.fn.clock;
  asks : Asks g.D.Door.tells g.D.Door.alone (g.D.Door.settings l.fn.door) false (g.D.Door.told l.fn.door) (g.D.Door.told l.door) (g.C.Clock.told l.fn.clock) (g.C.Clock.told l.clock);
  written : HasWritten g.D.Door.tells l.form (g.T.Request.question (g.T.Staged.command l.fn.task.stages)).asked (g.T.Request.shown l.task.stages)
      (g.T.Request.brought (g.T.Staged.command l.fn.task.stages) (g.D.Door.told l.door)) l.begun (g.K.Sink.taken l.fn.sink) (g.K.Sink.taken l.sink);
  faults : g.K.Sink.faults l.sink ≡ g.K.Sink.faults l.fn.sink;
}

abbrev pub decreases-events : goal.decreases-events
decreases-events g l = 2 ^ 62 - g.D.Door.last l.door
