use Rattle.std.proofs.Common.{◌≡◌, rules, ℕ, List, [], Some, None, true, sym, ap, ◌∙◌, subst}
use Rattle.std.proofs.lemmas.List.{append-nil}
use Rattle.http_chunks.specs.declared.body.BodyEnd.TheVariants as End
use Rattle.std.proofs.lemmas.Result.{IfOk-weaker, IfErr-weaker}
use Rattle.realm_model.specs.Settings.{SettingsView}
use Rattle.call_service.specs.Bodies.{ReadsTo}
use Rattle.door_moments.proofs.Asking.{both_ask}
use Rattle.task_put.specs.Taking.{fed_request, ended_request}
use Rattle.task_put.specs.Runs.{request_of, fits}
use Rattle.put_service.specs.declared.feeding.Taken.{Taken}
use Rattle.put_service.specs.Parts.{HasDone, TakesBytes, TakesBody, EndsSo, RunsTask, task_end, place}
use Rattle.put_service.proofs.Joining.{step_stops}
use Rattle.put_service.proofs.Doing.{has_done, done_of, done_ended}
use Rattle.put_service.proofs.Ending.{concluded, come_to, drops_behind, leaves_behind}
use Rattle.put_service.proofs.put.run_put.Goals as goal

pub conclude-requires-clause-going : goal.conclude-requires-clause-going
conclude-requires-clause-going g c κs within =
    let x = place (g.D.Door.told c.args.door.now) c.args.intake.now (g.S.Source.left c.args.source.now) (g.C.Clock.told c.args.clock.now) in
    let m = place (g.D.Door.told c.take_body.new.door) c.take_body.new.intake (g.S.Source.left c.take_body.new.source) (g.C.Clock.told c.take_body.new.clock) in
    let taken = subst (λ (t : Taken). TakesBody c.args.task.now c.take_body.new.task x m t) c.in-Ended.is c.in_ok-take_body.ensures.taken in
    record { sound = search rules; steady = taken.2.0; up = search rules }

pub conclude-requires-clause-open : goal.conclude-requires-clause-open
conclude-requires-clause-open g c κs within =
    let x = place (g.D.Door.told c.args.door.now) c.args.intake.now (g.S.Source.left c.args.source.now) (g.C.Clock.told c.args.clock.now) in
    let m = place (g.D.Door.told c.take_body.new.door) c.take_body.new.intake (g.S.Source.left c.take_body.new.source) (g.C.Clock.told c.take_body.new.clock) in
    let taken = subst (λ (t : Taken). TakesBody c.args.task.now c.take_body.new.task x m t) c.in-Ended.is c.in_ok-take_body.ensures.taken in
    ap (λ r. r.end) taken.2.2 ∙ c.requires.open

pub returns-in_err-conclude-in_default-clause-fault : goal.returns-in_err-conclude-in_default-clause-fault
returns-in_err-conclude-in_default-clause-fault g c =
    let x = place (g.D.Door.told c.args.door.now) c.args.intake.now (g.S.Source.left c.args.source.now) (g.C.Clock.told c.args.clock.now) in
    let m = place (g.D.Door.told c.take_body.new.door) c.take_body.new.intake (g.S.Source.left c.take_body.new.source) (g.C.Clock.told c.take_body.new.clock) in
    let y = place (g.D.Door.told c.conclude.new.door) c.take_body.new.intake (g.S.Source.left c.take_body.new.source) (g.C.Clock.told c.conclude.new.clock) in
    let taken = subst (λ (t : Taken). TakesBody c.args.task.now c.take_body.new.task x m t) c.in-Ended.is c.in_ok-take_body.ensures.taken in
    let asks = both_ask g.D.Door.tells g.D.Door.alone (g.D.Door.settings c.args.door.now) (g.D.Door.settings c.take_body.new.door) true x.door m.door y.door x.told m.told y.told
    c.take_body.ensures.stays.settings c.in_ok-take_body.ensures.asks c.in_err-conclude-in_default.ensures.stopped in
    let settings = g.D.Door.settings c.args.door.now in
    let r = request_of c.args.task.now in
    let end = task_end c.in-Ended.end in
    let request : ended_request (request_of c.take_body.new.task) c.task_end.result ≡ ended_request (fed_request r taken.0) end = λ i. ended_request (taken.2.2 i) (c.task_end.ensures i) in
    let done = subst (λ (s : SettingsView). HasDone g.D.Door.tells s (ended_request (request_of c.take_body.new.task) c.task_end.result) y.door) c.take_body.ensures.stays.settings c.in_err-conclude-in_default.ensures.left in
    let stops = step_stops g.D.Door.tells g.D.Door.alone settings r (g.D.Door.found c.conclude.new.door) _ x y c.in_err-conclude-in_default.ensures.fault
    (record {
      body = record { bytes = taken.0; end = Some end };
      came = come_to x y taken.0 c.in-Ended.end c.in_default.not-Cut taken.1;
      more = true;
      asks = asks;
      so_far = done_ended g.D.Door.tells settings r (ended_request (request_of c.take_body.new.task) c.task_end.result) y.door c.requires.none c.requires.open taken.0 end request done;
    }) in
    search (rules, stops)

pub returns-in_ok-conclude-in_default-clause-ran : goal.returns-in_ok-conclude-in_default-clause-ran
returns-in_ok-conclude-in_default-clause-ran g c =
    let x = place (g.D.Door.told c.args.door.now) c.args.intake.now (g.S.Source.left c.args.source.now) (g.C.Clock.told c.args.clock.now) in
    let m = place (g.D.Door.told c.take_body.new.door) c.take_body.new.intake (g.S.Source.left c.take_body.new.source) (g.C.Clock.told c.take_body.new.clock) in
    let y = place (g.D.Door.told c.conclude.new.door) c.take_body.new.intake (g.S.Source.left c.take_body.new.source) (g.C.Clock.told c.conclude.new.clock) in
    let taken = subst (λ (t : Taken). TakesBody c.args.task.now c.take_body.new.task x m t) c.in-Ended.is c.in_ok-take_body.ensures.taken in
    let end = c.in-Ended.end in
    let told = subst (λ e. EndsSo g.D.Door.tells g.D.Door.alone (g.D.Door.settings c.take_body.new.door) c.conclude.new.task e m.door y.door m.told y.told) c.task_end.ensures c.in_ok-conclude-in_default.ensures.ended in
    concluded g.D.Door.tells g.D.Door.alone (g.D.Door.settings c.args.door.now) (g.D.Door.settings c.take_body.new.door) (request_of c.args.task.now) c.conclude.new.task x y m.door m.told taken.0 end c.in_default.not-Cut
    c.take_body.ensures.stays.settings taken.1 (c.conclude.ensures.request ∙ ap (λ e. ended_request (request_of c.take_body.new.task) e) c.task_end.ensures ∙ ap (λ r. ended_request r (task_end end)) taken.2.2) c.requires.none c.requires.open c.in_ok-conclude-in_default.ensures.sound
    (λ tells. subst (λ (s : SettingsView). fits c.conclude.new.task s (g.D.Door.told c.conclude.new.door)) c.take_body.ensures.stays.settings (c.conclude.ensures.up tells).1)
    c.in_ok-take_body.ensures.asks told

pub returns-in-Over-clause-ran : goal.returns-in-Over-clause-ran
returns-in-Over-clause-ran g c =
    let x = place (g.D.Door.told c.args.door.now) c.args.intake.now (g.S.Source.left c.args.source.now) (g.C.Clock.told c.args.clock.now) in
    let m = place (g.D.Door.told c.take_body.new.door) c.take_body.new.intake (g.S.Source.left c.take_body.new.source) (g.C.Clock.told c.take_body.new.clock) in
    let y = place (g.D.Door.told c.take_body.new.door) c.drop_body.new.intake (g.S.Source.left c.drop_body.new.source) (g.C.Clock.told c.take_body.new.clock) in
    let taken = subst (λ (t : Taken). TakesBody c.args.task.now c.take_body.new.task x m t) c.in-Over.is c.in_ok-take_body.ensures.taken in
    IfOk-weaker c.drop_body.result _ _
    (drops_behind g.D.Door.tells g.D.Door.alone (g.D.Door.settings c.args.door.now) (request_of c.args.task.now) c.take_body.new.task x y m.intake m.left taken.0 taken.2.2 taken.2.3
    taken.1 taken.2.4 taken.2.5 c.requires.none c.requires.open c.in_ok-take_body.ensures.sound c.take_body.ensures.up c.in_ok-take_body.ensures.asks taken.2.0 taken.2.1)
    c.drop_body.ensures.dropped

pub returns-in-Over-clause-fault : goal.returns-in-Over-clause-fault
returns-in-Over-clause-fault g c =
    let x = place (g.D.Door.told c.args.door.now) c.args.intake.now (g.S.Source.left c.args.source.now) (g.C.Clock.told c.args.clock.now) in
    let m = place (g.D.Door.told c.take_body.new.door) c.take_body.new.intake (g.S.Source.left c.take_body.new.source) (g.C.Clock.told c.take_body.new.clock) in
    let y = place (g.D.Door.told c.take_body.new.door) c.drop_body.new.intake (g.S.Source.left c.drop_body.new.source) (g.C.Clock.told c.take_body.new.clock) in
    let taken = subst (λ (t : Taken). TakesBody c.args.task.now c.take_body.new.task x m t) c.in-Over.is c.in_ok-take_body.ensures.taken in
    IfErr-weaker c.drop_body.result _ _
    (λ fault. leaves_behind g.D.Door.tells g.D.Door.alone (g.D.Door.settings c.args.door.now) (request_of c.args.task.now) c.take_body.new.task x y m.intake m.left taken.0 taken.2.2 taken.2.3
    taken.1 taken.2.4 taken.2.5 c.requires.none c.requires.open c.in_ok-take_body.ensures.sound c.take_body.ensures.up c.in_ok-take_body.ensures.asks (g.D.Door.found c.take_body.new.door) fault taken.1.failed)
    c.drop_body.ensures.err

pub returns-in-Cut-clause-ran : goal.returns-in-Cut-clause-ran
returns-in-Cut-clause-ran g c =
    let x = place (g.D.Door.told c.args.door.now) c.args.intake.now (g.S.Source.left c.args.source.now) (g.C.Clock.told c.args.clock.now) in
    let m = place (g.D.Door.told c.take_body.new.door) c.take_body.new.intake (g.S.Source.left c.take_body.new.source) (g.C.Clock.told c.take_body.new.clock) in
    let settings = g.D.Door.settings c.args.door.now in
    let r = request_of c.args.task.now in
    let taken = subst (λ (t : Taken). TakesBody c.args.task.now c.take_body.new.task x m t) c.in-Ended.is c.in_ok-take_body.ensures.taken in
    let end = subst (λ e. (given : List ℕ) × ReadsTo x.intake m.intake x.left m.left given e × TakesBytes c.args.task.now c.take_body.new.task given true) c.in-Cut.is taken in
    let given = end.0 in
    let ran : RunsTask g.D.Door.tells g.D.Door.alone settings r c.take_body.new.task x m End.Cut = (
      record {
        given = given;
        falls = end.1.0;
        asks = c.in_ok-take_body.ensures.asks;
        so_far = done_of g.D.Door.tells settings r (request_of c.take_body.new.task) m.door c.requires.none c.requires.open given given [] None (sym (append-nil given)) end.2.2
            (has_done g.D.Door.tells settings c.take_body.new.task m.door c.in_ok-take_body.ensures.sound (λ tells. (c.take_body.ensures.up tells).1));
      },
      end.1.1,
    ) in
    rw c.in-Cut.is ran
