use Rattle.std.proofs.Common.{◌≡◌, ◌<◌, ◌-◌, length}
use Rattle.http_model.specs.declared.head.TheConstants.{REQUEST_LIMIT}
use Rattle.call_service.specs.Connections.{names}
use Rattle.call_service.specs.Serving.{side}
use Rattle.gateway.specs.Calls.{MayBegin, place_of}
use Rattle.gateway.specs.Requests.{IsReady}
use Rattle.gateway.proofs.Connection.{HasServed, IsQuiet}
use Rattle.gateway.proofs.serve.serve_requests.Given as goal

abbrev pub invariant-requests : goal.invariant-requests
invariant-requests g l = record {
  below : l.done < REQUEST_LIMIT;
  room : 0 < length l.connection.buffer.now;
  ready : IsReady l.settings.largest l.connection.intake.now;
  settings : g.D.Door.settings l.connection.door.now ≡ g.D.Door.settings l.fn.connection.door.now;
  home : g.D.Door.home l.connection.door.now ≡ g.D.Door.home l.fn.connection.door.now;
  names : names l.connection.door.ghost_name l.connection.clock.ghost_name l.connection.intake.ghost_name l.connection.source.ghost_name l.connection.sink.ghost_name l.connection.buffer.ghost_name l.connection.out.ghost_name ≡ names l.fn.connection.door.ghost_name l.fn.connection.clock.ghost_name l.fn.connection.intake.ghost_name l.fn.connection.source.ghost_name l.fn.connection.sink.ghost_name l.fn.connection.buffer.ghost_name l.fn.connection.out.ghost_name;
  kept : length l.connection.buffer.now ≡ length l.fn.connection.buffer.now;
  may : g.D.Door.tells → MayBegin l.settings (g.D.Door.told l.connection.door.now);
  quiet : IsQuiet (record { left = g.S.Source.left l.fn.connection.source.now; taken = g.K.Sink.taken l.fn.connection.sink.now; told = g.C.Clock.told l.fn.connection.clock.now; plan = g.C.Clock.plan l.fn.connection.clock.now; read_faults = g.S.Source.faults l.fn.connection.source.now; write_faults = g.K.Sink.faults l.fn.connection.sink.now })
      (record { left = g.S.Source.left l.connection.source.now; taken = g.K.Sink.taken l.connection.sink.now; told = g.C.Clock.told l.connection.clock.now; plan = g.C.Clock.plan l.connection.clock.now; read_faults = g.S.Source.faults l.connection.source.now; write_faults = g.K.Sink.faults l.connection.sink.now });
  served : HasServed g.D.Door.tells g.D.Door.alone (place_of l.settings l.zone l.users) l.done
      (side (g.D.Door.told l.fn.connection.door.now) l.fn.connection.intake.now (record { left = g.S.Source.left l.fn.connection.source.now; taken = g.K.Sink.taken l.fn.connection.sink.now; told = g.C.Clock.told l.fn.connection.clock.now; plan = g.C.Clock.plan l.fn.connection.clock.now; read_faults = g.S.Source.faults l.fn.connection.source.now; write_faults = g.K.Sink.faults l.fn.connection.sink.now }))
      (side (g.D.Door.told l.connection.door.now) l.connection.intake.now (record { left = g.S.Source.left l.connection.source.now; taken = g.K.Sink.taken l.connection.sink.now; told = g.C.Clock.told l.connection.clock.now; plan = g.C.Clock.plan l.connection.clock.now; read_faults = g.S.Source.faults l.connection.source.now; write_faults = g.K.Sink.faults l.connection.sink.now }));
}

abbrev pub decreases-requests : goal.decreases-requests
decreases-requests g l = REQUEST_LIMIT - l.done
