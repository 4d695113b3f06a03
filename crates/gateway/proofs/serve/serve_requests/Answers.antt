use Rattle.std.proofs.Common.{◌+◌, ◌∙◌, ap, arith}
use Rattle.http_intake.specs.Intake.{IntakeState}
use Rattle.call_words.specs.Bodies.{is_left}
use Rattle.call_service.specs.Serving.{side}
use Rattle.gateway.specs.Calls.{place_of}
use Rattle.gateway.proofs.Connection.{goes_below, ok_no_fault, one_more_served, served_to_fault, served_to_end}
use Rattle.gateway.proofs.serve.serve_requests.Goals as goal

pub requests-preserved : goal.requests-preserved
requests-preserved g c =
    let taken = c.in-Ok-Further.ensures.turn in
    let turn = rw c.in-Ok-Further.field-0-is at taken.turn in
    record {
      below = goes_below (c.requests.done + 1) turn.0.call.request.head (is_left turn.0.call.fate) turn.0.stays_open;
      room = omega (arith, c.requests.invariant.room, c.take_turn.ensures.stays.kept);
      ready = turn.1;
      settings = c.take_turn.ensures.stays.settings ∙ c.requests.invariant.settings;
      home = c.take_turn.ensures.stays.home ∙ c.requests.invariant.home;
      names = c.take_turn.ensures.stays.names ∙ c.requests.invariant.names;
      kept = c.take_turn.ensures.stays.kept ∙ c.requests.invariant.kept;
      may = λ is. (turn.0.replied.answered.settled is).advances.may_begin;
      quiet = record {
        plan = taken.cause.plan ∙ c.requests.invariant.quiet.plan;
        read_faults = taken.cause.read_kept (λ e. ok_no_fault _ _ e) ∙ c.requests.invariant.quiet.read_faults;
        write_faults = taken.cause.write_kept (λ e. ok_no_fault _ _ e) ∙ c.requests.invariant.quiet.write_faults;
      };
      served = one_more_served g.D.Door.tells g.D.Door.alone (place_of c.args.settings.now c.args.zone c.args.users.now) c.requests.done _ _ _ c.requests.invariant.served turn.0;
    }

pub returns-in-Err-clause-served : goal.returns-in-Err-clause-served
returns-in-Err-clause-served g c =
    let taken = c.in-Err.ensures.turn in
    served_to_fault g.D.Door.tells g.D.Door.alone (place_of c.args.settings.now c.args.zone c.args.users.now) c.requests.done
    (side (g.D.Door.told c.args.connection.now.door.now) c.args.connection.now.intake.now (record { left = g.S.Source.left c.args.connection.now.source.now; taken = g.K.Sink.taken c.args.connection.now.sink.now; told = g.C.Clock.told c.args.connection.now.clock.now; plan = g.C.Clock.plan c.args.connection.now.clock.now; read_faults = g.S.Source.faults c.args.connection.now.source.now; write_faults = g.K.Sink.faults c.args.connection.now.sink.now })) _ (side (g.D.Door.told c.take_turn.new.connection.door.now) c.take_turn.new.connection.intake.now _) (g.D.Door.found c.take_turn.new.connection.door.now) c.requests.invariant.served c.requests.invariant.quiet
    (ap (λ (i : IntakeState). side (g.D.Door.told c.args.connection.now.door.now) i (record { left = g.S.Source.left c.args.connection.now.source.now; taken = g.K.Sink.taken c.args.connection.now.sink.now; told = g.C.Clock.told c.args.connection.now.clock.now; plan = g.C.Clock.plan c.args.connection.now.clock.now; read_faults = g.S.Source.faults c.args.connection.now.source.now; write_faults = g.K.Sink.faults c.args.connection.now.sink.now })) c.requires.unread) c.in-Err.fault taken.turn taken.cause

pub returns-in-Ok-Over-clause-served : goal.returns-in-Ok-Over-clause-served
returns-in-Ok-Over-clause-served g c =
    let taken = c.in-Ok-Over.ensures.turn in
    served_to_end g.D.Door.tells g.D.Door.alone (place_of c.args.settings.now c.args.zone c.args.users.now) c.requests.done
    (side (g.D.Door.told c.args.connection.now.door.now) c.args.connection.now.intake.now (record { left = g.S.Source.left c.args.connection.now.source.now; taken = g.K.Sink.taken c.args.connection.now.sink.now; told = g.C.Clock.told c.args.connection.now.clock.now; plan = g.C.Clock.plan c.args.connection.now.clock.now; read_faults = g.S.Source.faults c.args.connection.now.source.now; write_faults = g.K.Sink.faults c.args.connection.now.sink.now })) _ (side (g.D.Door.told c.take_turn.new.connection.door.now) c.take_turn.new.connection.intake.now _) (g.D.Door.found c.take_turn.new.connection.door.now) c.requests.invariant.served c.requests.invariant.quiet
    (ap (λ (i : IntakeState). side (g.D.Door.told c.args.connection.now.door.now) i (record { left = g.S.Source.left c.args.connection.now.source.now; taken = g.K.Sink.taken c.args.connection.now.sink.now; told = g.C.Clock.told c.args.connection.now.clock.now; plan = g.C.Clock.plan c.args.connection.now.clock.now; read_faults = g.S.Source.faults c.args.connection.now.source.now; write_faults = g.K.Sink.faults c.args.connection.now.sink.now })) c.requires.unread) _ c.in-Ok-Over.replies c.in-Ok-Over.end (rw c.in-Ok-Over.field-0-is at taken.turn) taken.cause

pub returns-in-Ok-Over-clause-stays : goal.returns-in-Ok-Over-clause-stays
returns-in-Ok-Over-clause-stays g c =
    let stays = c.take_turn.ensures.stays in
    record {
      settings = stays.settings ∙ c.requests.invariant.settings;
      home = stays.home ∙ c.requests.invariant.home;
      kept = stays.kept ∙ c.requests.invariant.kept;
      names = stays.names ∙ c.requests.invariant.names;
    }

pub returns-in-Err-clause-stays : goal.returns-in-Err-clause-stays
returns-in-Err-clause-stays g c =
    let stays = c.take_turn.ensures.stays in
    record {
      settings = stays.settings ∙ c.requests.invariant.settings;
      home = stays.home ∙ c.requests.invariant.home;
      kept = stays.kept ∙ c.requests.invariant.kept;
      names = stays.names ∙ c.requests.invariant.names;
    }
