use Rattle.std.proofs.Common.{rules, ◌≡◌, Some, refl, subst}
use Rattle.std.proofs.lemmas.Result.{on_ok_weaker, IfErr-weaker}
use Rattle.std.specs.Io.KnownBytes.{Appends}
use Rattle.realm_model.specs.Doors.{DoorView}
use Rattle.realm_model.specs.Settings.{SettingsView}
use Rattle.task_words.specs.declared.reply.MapReply.{MapReply}
use Rattle.call_service.specs.Serving.{BearsOutSoFar}
use Rattle.call_service.specs.Replying.{stand, StopsReply}
use Rattle.request_service.specs.Requests.{site_of, MayEnd, EndsSo, ShowsFront}
use Rattle.request_service.specs.Writing.{end_text, StopsEnd}
use Rattle.request_service.proofs.Ends.{at_site}
use Rattle.request_service.proofs.Writing.{ended}
use Rattle.request_service.proofs.Stopping.{end_stops}
use Rattle.request_service.proofs.serve.send_reply.Given.{Over}
use Rattle.request_service.proofs.serve.send_reply.Goals as goal

-- how the task ended
may_end : (g : Over) (k t outcome : _) → g.T.Staged.command t ≡ k → g.T.Request.is_sound t → g.T.Request.ends_with t outcome → MayEnd (g.T.Request.question k).asked (g.T.Request.shown t) (g.T.Request.end_by outcome)
may_end g k t outcome command sound is = subst (λ k. MayEnd (g.T.Request.question k).asked (g.T.Request.shown t) (g.T.Request.end_by outcome)) command (g.met.T.Request.may_end t outcome sound is)

ends_so : (g : Over) (k t outcome : _) (settings : SettingsView) (d : DoorView) → g.T.Staged.command t ≡ k → g.T.Request.is_sound t → g.T.Staged.fits t settings d → g.T.Request.ends_with t outcome
    → EndsSo (site_of settings (g.T.Request.question k)) (g.T.Request.question k).asked (g.T.Request.brought k d) d (g.T.Request.end_by outcome)
ends_so g k t outcome settings d command sound fits is =
    subst (λ k. EndsSo (site_of settings (g.T.Request.question k)) (g.T.Request.question k).asked (g.T.Request.brought k d) d (g.T.Request.end_by outcome)) command (g.met.T.Request.right t settings d outcome sound fits is)

pub returns-clause-written : goal.returns-clause-written
returns-clause-written g c =
    let before = c.in_ok-begun.ensures in
    let t = c.send_pieces.new.task.stages in
    let k = g.T.Staged.command c.args.task.now.stages in
    let settings = g.D.Door.settings c.args.door.now in
    let d = g.D.Door.told c.send_pieces.new.door in
    let outcome = c.in-Some.outcome.now in
    let end = g.T.Request.end_by outcome in
    let begun = c.in_ok-begun.begun in
    let mid = g.K.Sink.taken c.send_pieces.new.sink in
    let now = g.K.Sink.taken c.send_end.new.sink in
    on_ok_weaker c.send_end.result
    (λ ok. ended g.D.Door.tells (site_of settings (g.T.Request.question k)) c.args.form (g.T.Request.question k).asked d (g.T.Request.shown t) (g.T.Request.brought k d) end (may_end g k t outcome before.command before.sound (search rules))
    (λ is. ends_so g k t outcome settings d before.command before.sound (before.up is).1 (search rules)) ok.0 begun (g.K.Sink.taken c.args.sink.now) mid now before.written
    (subst (λ k. Appends mid now (end_text c.args.form (g.T.Request.question k).asked begun end)) before.command ok.1))
    c.send_end.ensures.ok

pub returns-clause-stopped : goal.returns-clause-stopped
returns-clause-stopped g c =
    let before = c.in_ok-begun.ensures in
    let settings = g.D.Door.settings c.args.door.now in
    let tells = g.D.Door.tells in
    let k = g.T.Staged.command c.args.task.now.stages in
    let t = c.send_pieces.new.task.stages in
    let d = g.D.Door.told c.send_pieces.new.door in
    let outcome = c.in-Some.outcome.now in
    let end = g.T.Request.end_by outcome in
    let mid = g.K.Sink.taken c.send_pieces.new.sink in
    let now = g.K.Sink.taken c.send_end.new.sink in
    let told = g.C.Clock.told c.send_pieces.new.clock in
    let x = stand (g.D.Door.told c.args.door.now) (g.K.Sink.taken c.args.sink.now) (g.C.Clock.told c.args.clock.now) in
    let found = g.D.Door.found c.send_pieces.new.door in
    let q = g.T.Request.question k in
    let fronts : tells → (reply : MapReply) → g.T.Request.shown t ≡ Some reply → ShowsFront (site_of settings q) q.asked reply (g.T.Request.brought k d) (g.T.Request.whole k settings d) d =
    λ is reply shown. subst (λ k. ShowsFront (site_of settings (g.T.Request.question k)) (g.T.Request.question k).asked reply (g.T.Request.brought k d) (g.T.Request.whole k settings d) d) before.command
    (g.met.T.Request.front t settings d reply (before.up is).1 shown) in
    IfErr-weaker c.send_end.result (StopsEnd c.args.form (g.T.Request.question (g.T.Staged.command t)).asked c.in_ok-begun.begun end mid now) (StopsReply tells g.D.Door.alone (site_of settings q) c.args.form q.asked found x (stand d now told))
    (λ fault stops. end_stops tells g.D.Door.alone (site_of settings q) c.args.form q.asked found x d (g.T.Request.shown t) (g.T.Request.brought k d) (g.T.Request.whole k settings d) end (may_end g k t outcome before.command before.sound (search rules))
    (λ is body. at_site g.T.Request.question (λ s a. BearsOutSoFar s a body d) settings settings k (g.T.Staged.command t) refl before.command (g.met.T.Request.so_far t settings d body (before.up is).1))
    (λ is. ends_so g k t outcome settings d before.command before.sound (before.up is).1 (search rules)) fronts c.in_ok-begun.begun fault mid now told before.asks before.written
    (subst (λ k. StopsEnd c.args.form (g.T.Request.question k).asked c.in_ok-begun.begun end mid now fault) before.command stops))
    c.send_end.ensures.err
