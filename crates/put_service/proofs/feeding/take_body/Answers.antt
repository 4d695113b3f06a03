use Rattle.std.proofs.Common.{◌≡◌, ◌≤◌, ◌+◌, rules, true, false, ℕ, List, [], None, ◌++◌, take, length, refl, sym, ap, ◌∙◌, subst, arith, append_assoc, length-append}
use Rattle.std.proofs.lemmas.List.{append-nil}
use Rattle.realm_model.specs.Settings.{SettingsView}
use Rattle.task_put.specs.declared.stage.PutRequest.{PutRequest}
use Rattle.task_put.specs.Bodies.{most_bytes}
use Rattle.task_put.specs.Runs.{request_of}
use Rattle.task_put.specs.Taking.{fed_request}
use Rattle.call_service.specs.Bodies.{most_due}
use Rattle.door_moments.specs.Acts.{Asks}
use Rattle.door_moments.proofs.Asking.{both_ask}
use Rattle.call_service.proofs.Passing.{none_given, give_more, end_behind}
use Rattle.call_service.specs.Serving.{body_of}
use Rattle.put_service.specs.declared.stepping.Pause.{Pause}
use Rattle.put_service.specs.Standing.{IsUp, PausesAt, is_untold}
use Rattle.put_service.specs.Parts.{HasDone, TakesBytes, place}
use Rattle.put_service.proofs.Doing.{has_done, done_of}
use Rattle.put_service.proofs.Joining.{fed_none, fed_behind, step_stops}
use Rattle.put_service.proofs.feeding.take_body.Goals as goal

pub returns-in_err-pause-clause-fault : goal.returns-in_err-pause-clause-fault
returns-in_err-pause-clause-fault g c =
    let settings = g.D.Door.settings c.args.door.now in
    let r = request_of c.args.task.now in
    let stops = step_stops g.D.Door.tells g.D.Door.alone settings r (g.D.Door.found c.advance.new.door) _
    (place (g.D.Door.told c.args.door.now) c.args.intake.now (g.S.Source.left c.args.source.now) (g.C.Clock.told c.args.clock.now))
    (place (g.D.Door.told c.advance.new.door) c.args.intake.now (g.S.Source.left c.args.source.now) (g.C.Clock.told c.advance.new.clock))
    c.in_err-pause.ensures.fault
    (record {
      body = body_of [];
      came = none_given c.args.intake.now (g.S.Source.left c.args.source.now) c.requires.intake;
      more = true;
      asks = c.in_err-pause.ensures.stopped;
      so_far = done_of g.D.Door.tells settings r r (g.D.Door.told c.advance.new.door) c.requires.none c.requires.open [] [] [] None refl (sym (fed_none r)) c.in_err-pause.ensures.left;
    }) in
    search (rules, stops)

pub returns-in-Over-clause-taken : goal.returns-in-Over-clause-taken
returns-in-Over-clause-taken g c =
    let pauses = subst (λ (p : Pause). PausesAt p c.advance.new.task) c.in-Over.is c.in_ok-pause.ensures.pauses in (
      [],
      none_given c.args.intake.now (g.S.Source.left c.args.source.now) c.requires.intake,
      (pauses.0, pauses.1, [], [], refl, c.advance.ensures.request ∙ sym (fed_none (request_of c.args.task.now))),
    )

pub pieces-init : goal.pieces-init
pieces-init g c =
    let pauses = subst (λ (p : Pause). PausesAt p c.advance.new.task) c.in-Wants.is c.in_ok-pause.ensures.pauses in
    record {
      room = c.requires.room;
      kept = refl;
      sound = c.in_ok-pause.ensures.sound;
      steady = pauses.0;
      wants = pauses.1;
      intake = c.requires.intake;
      few = subst (λ (q : PutRequest). length q.bytes + most_due c.args.intake.now ≤ most_bytes) (sym c.advance.ensures.request) c.requires.few;
      faults = refl;
      so_far = (
        [],
        none_given c.args.intake.now (g.S.Source.left c.args.source.now) c.requires.intake,
        c.advance.ensures.request ∙ sym (fed_none (request_of c.args.task.now)),
      );
      up = c.advance.ensures.up;
      asks = subst (λ (p : Pause). Asks g.D.Door.tells g.D.Door.alone (g.D.Door.settings c.args.door.now) (is_untold p) (g.D.Door.told c.args.door.now) (g.D.Door.told c.advance.new.door) (g.C.Clock.told c.args.clock.now) (g.C.Clock.told c.advance.new.clock)) c.in-Wants.is c.in_ok-pause.ensures.asks;
      settings = c.advance.ensures.stays.settings;
      home = c.advance.ensures.stays.home;
      plan = c.advance.ensures.stays.plan;
    }

pub returns-in_err-feed_all-in-Bytes-clause-fault : goal.returns-in_err-feed_all-in-Bytes-clause-fault
returns-in_err-feed_all-in-Bytes-clause-fault g c =
    let i = c.pieces.invariant in
    let settings = g.D.Door.settings c.args.door.now in
    let piece = take c.in-Bytes.count c.next_piece.new.buffer in
    let refused = c.in_err-feed_all-in-Bytes.ensures.stopped in
    let asks = both_ask g.D.Door.tells g.D.Door.alone settings (g.D.Door.settings c.pieces.door) refused.0 (g.D.Door.told c.args.door.now) (g.D.Door.told c.pieces.door) (g.D.Door.told c.feed_all.new.door) (g.C.Clock.told c.args.clock.now) (g.C.Clock.told c.pieces.clock) (g.C.Clock.told c.feed_all.new.clock)
    i.settings i.asks refused.1 in
    let gives = give_more c.args.intake.now c.pieces.intake (g.S.Source.left c.args.source.now) (g.S.Source.left c.pieces.source) (g.S.Source.left c.next_piece.new.source) i.so_far.0 piece c.next_piece.new.intake i.so_far.1 c.in-Bytes.ensures.passed.0 in
    let r = request_of c.args.task.now in
    let given = i.so_far.0 ++ piece in
    let request : fed_request (request_of c.pieces.task) piece ≡ fed_request r given = fed_behind r (request_of c.pieces.task) _ i.so_far.0 piece i.so_far.2 refl in
    let done = subst (λ (s : SettingsView). HasDone g.D.Door.tells s (fed_request (request_of c.pieces.task) piece) (g.D.Door.told c.feed_all.new.door)) i.settings c.in_err-feed_all-in-Bytes.ensures.left in
    let stops = step_stops g.D.Door.tells g.D.Door.alone settings r (g.D.Door.found c.feed_all.new.door) _
    (place (g.D.Door.told c.args.door.now) c.args.intake.now (g.S.Source.left c.args.source.now) (g.C.Clock.told c.args.clock.now))
    (place (g.D.Door.told c.feed_all.new.door) c.next_piece.new.intake (g.S.Source.left c.next_piece.new.source) (g.C.Clock.told c.feed_all.new.clock))
    c.in_err-feed_all-in-Bytes.ensures.fault
    (record {
      body = body_of given;
      came = gives;
      more = refused.0;
      asks = asks;
      so_far = done_of g.D.Door.tells settings r (fed_request (request_of c.pieces.task) piece) (g.D.Door.told c.feed_all.new.door) c.requires.none c.requires.open given given [] None (sym (append-nil given)) request done;
    }) in
    search (rules, stops)

pub returns-then-not-branch-clause-taken : goal.returns-then-not-branch-clause-taken
returns-then-not-branch-clause-taken g c =
    let i = c.pieces.invariant in
    let piece = take c.in-Bytes.count c.next_piece.new.buffer in
    let over : c.in_ok-feed_all-in-Bytes.field-0 ≡ false = search rules in
    let taken = subst (λ b. TakesBytes c.pieces.task c.feed_all.new.task piece b) over c.in_ok-feed_all-in-Bytes.ensures.taken in (
      i.so_far.0 ++ piece,
      give_more c.args.intake.now c.pieces.intake (g.S.Source.left c.args.source.now) (g.S.Source.left c.pieces.source) (g.S.Source.left c.next_piece.new.source) i.so_far.0 piece c.next_piece.new.intake i.so_far.1 c.in-Bytes.ensures.passed.0,
      (
        taken.0,
        taken.1,
        i.so_far.0 ++ taken.2,
        taken.3,
        ap (λ l. i.so_far.0 ++ l) taken.4 ∙ sym (append_assoc i.so_far.0 taken.2 taken.3),
        fed_behind (request_of c.args.task.now) (request_of c.pieces.task) (request_of c.feed_all.new.task) i.so_far.0 taken.2 i.so_far.2 taken.5,
      ),
    )

pub returns-then-not-branch-clause-asks : goal.returns-then-not-branch-clause-asks
returns-then-not-branch-clause-asks g c =
    let i = c.pieces.invariant in
    both_ask g.D.Door.tells g.D.Door.alone (g.D.Door.settings c.args.door.now) (g.D.Door.settings c.pieces.door) false (g.D.Door.told c.args.door.now) (g.D.Door.told c.pieces.door) (g.D.Door.told c.feed_all.new.door) (g.C.Clock.told c.args.clock.now) (g.C.Clock.told c.pieces.clock) (g.C.Clock.told c.feed_all.new.clock)
    i.settings i.asks c.in_ok-feed_all-in-Bytes.ensures.asks

few_after : (r s : PutRequest) (piece : List ℕ) (before after : ℕ) → s ≡ fed_request r piece → length piece + after ≤ before → length r.bytes + before ≤ most_bytes → length s.bytes + after ≤ most_bytes
few_after r s piece before after is due few =
    subst (λ (q : PutRequest). length q.bytes + after ≤ most_bytes) (sym is) (omega (arith, length-append r.bytes piece, due, few))

pub pieces-preserved : goal.pieces-preserved
pieces-preserved g c =
    let i = c.pieces.invariant in
    let piece = take c.in-Bytes.count c.next_piece.new.buffer in
    let gives = c.in-Bytes.ensures.passed.0 in
    let all : c.in_ok-feed_all-in-Bytes.field-0 ≡ true = search rules in
    let taken = subst (λ b. TakesBytes c.pieces.task c.feed_all.new.task piece b) all c.in_ok-feed_all-in-Bytes.ensures.taken in
    record {
      room = omega (arith, i.room, c.next_piece.ensures.kept);
      kept = c.next_piece.ensures.kept ∙ i.kept;
      sound = c.in_ok-feed_all-in-Bytes.ensures.sound;
      steady = taken.0;
      wants = taken.1;
      intake = gives.failed;
      few = few_after (request_of c.pieces.task) (request_of c.feed_all.new.task) piece (most_due c.pieces.intake) (most_due c.next_piece.new.intake) taken.2 gives.due i.few;
      faults = c.in-Bytes.ensures.cause ∙ i.faults;
      so_far = (
        i.so_far.0 ++ piece,
        give_more c.args.intake.now c.pieces.intake (g.S.Source.left c.args.source.now) (g.S.Source.left c.pieces.source) (g.S.Source.left c.next_piece.new.source) i.so_far.0 piece c.next_piece.new.intake i.so_far.1 gives,
        fed_behind (request_of c.args.task.now) (request_of c.pieces.task) (request_of c.feed_all.new.task) i.so_far.0 piece i.so_far.2 taken.2,
      );
      up = subst (λ (s : SettingsView). IsUp g.D.Door.tells s c.feed_all.new.task (g.D.Door.told c.feed_all.new.door)) i.settings c.feed_all.ensures.up;
      asks = both_ask g.D.Door.tells g.D.Door.alone (g.D.Door.settings c.args.door.now) (g.D.Door.settings c.pieces.door) false (g.D.Door.told c.args.door.now) (g.D.Door.told c.pieces.door) (g.D.Door.told c.feed_all.new.door) (g.C.Clock.told c.args.clock.now) (g.C.Clock.told c.pieces.clock) (g.C.Clock.told c.feed_all.new.clock)
          i.settings i.asks c.in_ok-feed_all-in-Bytes.ensures.asks;
      settings = c.feed_all.ensures.stays.settings ∙ i.settings;
      home = c.feed_all.ensures.stays.home ∙ i.home;
      plan = c.feed_all.ensures.stays.plan ∙ i.plan;
    }

pub returns-in-Ended-clause-taken : goal.returns-in-Ended-clause-taken
returns-in-Ended-clause-taken g c =
    let i = c.pieces.invariant in (
      i.so_far.0 ++ [],
      end_behind c.args.intake.now c.pieces.intake (g.S.Source.left c.args.source.now) (g.S.Source.left c.pieces.source) (g.S.Source.left c.next_piece.new.source) i.so_far.0 c.next_piece.new.intake [] c.in-Ended.end i.so_far.1 c.in-Ended.ensures.passed,
      (i.steady, i.wants, fed_behind (request_of c.args.task.now) (request_of c.pieces.task) (request_of c.pieces.task) i.so_far.0 [] i.so_far.2 (sym (fed_none (request_of c.pieces.task)))),
    )

pub returns-in-Failed-clause-fault : goal.returns-in-Failed-clause-fault
returns-in-Failed-clause-fault g c =
    let i = c.pieces.invariant in
    let settings = g.D.Door.settings c.args.door.now in
    let r = request_of c.args.task.now in
    let given = i.so_far.0 in
    record {
      given = given;
      falls = record { between = c.pieces.intake; left = g.S.Source.left c.pieces.source; has_given = i.so_far.1; falls = c.in-Failed.ensures.passed };
      asks = i.asks;
      so_far = done_of g.D.Door.tells settings r (request_of c.pieces.task) (g.D.Door.told c.pieces.door) c.requires.none c.requires.open given given [] None (sym (append-nil given)) i.so_far.2
          (has_done g.D.Door.tells settings c.pieces.task (g.D.Door.told c.pieces.door) i.sound (λ tells. (i.up tells).1));
    }
