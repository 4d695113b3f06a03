use Rattle.std.proofs.Common.{refl, arith}
use Rattle.std.proofs.KnownBytes.{Appends-nil}
use Rattle.call_words.specs.Streams.{at_clean}
use Rattle.gateway.specs.Calls.{place_of}
use Rattle.gateway.proofs.Ending.{end_served, end_comes_to, end_cause}
use Rattle.gateway.proofs.Behind.{next_good, next_bad, quiet_cause}
use Rattle.gateway.proofs.turn.take_turn.Goals as goal

pub returns-in-Ok-None-clause-turn : goal.returns-in-Ok-None-clause-turn
returns-in-Ok-None-clause-turn g c =
    let found = rw c.in-Ok-None.field-0-is at (c.in-Ok-None.ensures.found c.requires.ready.0) in
    record {
      turn = end_served g.D.Door.tells g.D.Door.alone (place_of c.args.settings.now c.args.zone c.args.users.now) c.args.k (g.D.Door.told c.args.connection.now.door.now) c.args.connection.now.intake.now c.next.new.self _ _ c.requires.goes.may
          found.0 found.1 (Appends-nil (g.C.Clock.told c.args.connection.now.clock.now)) at_clean found.2.0 tt found.2.1 (Appends-nil (g.K.Sink.taken c.args.connection.now.sink.now));
      few = omega arith;
      cause = quiet_cause _ _ _ refl (next_good c.args.connection.now.intake.now.failed (g.S.Source.faults c.args.connection.now.source.now) (g.S.Source.faults c.next.new.source) _ c.requires.ready.0 c.in-Ok-None.ensures.cause) refl;
    }

pub returns-in-Err-clause-turn : goal.returns-in-Err-clause-turn
returns-in-Err-clause-turn g c =
    let found = c.in-Err.ensures.found c.requires.ready.0 in
    let both = end_comes_to g.D.Door.tells g.D.Door.alone (place_of c.args.settings.now c.args.zone c.args.users.now) c.args.k (g.D.Door.told c.args.connection.now.door.now) c.args.connection.now.intake.now c.next.new.self _ _ c.requires.goes.may
    found.0 found.1 (Appends-nil (g.C.Clock.told c.args.connection.now.clock.now)) (g.D.Door.found c.args.connection.now.door.now) c.in-Err.fault c.end_heads.result found.2.0 c.end_heads.ensures.ended c.end_heads.ensures.left in
    record {
      turn = both.0;
      few = both.1;
      cause = end_cause c.in-Err.fault (g.S.Source.faults c.args.connection.now.source.now) (g.S.Source.faults c.next.new.source)
          (next_bad c.args.connection.now.intake.now.failed (g.S.Source.faults c.args.connection.now.source.now) (g.S.Source.faults c.next.new.source) c.in-Err.fault c.requires.ready.0 c.in-Err.ensures.cause)
          c.end_heads.result _ _ c.end_heads.ensures.ended c.end_heads.ensures.left refl refl refl c.end_heads.ensures.cause;
    }
