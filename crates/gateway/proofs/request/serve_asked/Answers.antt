use Rattle.call_words.specs.Streams.{use_of}
use Rattle.std.proofs.Common.{◌≡◌, Bool, true, false, not, refl, sym, ap, ◌∙◌, arith}
use Rattle.swift_requests.specs.Asks.{asked_of}
use Rattle.swift_requests.specs.Bodies.{body_use, is_unread, is_awaited}
use Rattle.swift_requests.specs.declared.asked.Asked.{Asked}
use Rattle.call_service.specs.Bodies.{dropped_if}
use Rattle.swift_requests.specs.declared.asked.Asked.TheVariants as asks
use Rattle.gateway.specs.Calls.{site_of}
use Rattle.gateway.proofs.Growing.{may_serve}
use Rattle.gateway.proofs.Fates.{waits_so, head_waits}
use Rattle.gateway.proofs.Heads.{put_body, put_use, unfed_use, is_by_head}
use Rattle.gateway.proofs.Joining.{asked_served, asked_left}
use Rattle.gateway.proofs.Refusals.{head_served, head_left}
use Rattle.gateway.proofs.Tasks.{put_served_if, put_stopped_if, unwanted_served, unwanted_stopped, site_is}
use Rattle.gateway.proofs.request.serve_asked.Goals as goal

not_false : (b : Bool) → not b ≡ false → b ≡ true
not_false true is = refl
not_false false is = absurd (cc)

pub serve_put-requires-clause-few : goal.serve_put-requires-clause-few
serve_put-requires-clause-few g c κs within =
    let e : asked_of c.args.settings.now.largest c.args.users.now c.args.head.now ≡ asks.Put c.in-Put.asker c.in-Put.command = sym c.requires.asks ∙ c.in-Put.is in
    let low = (put_body c.args.settings.now.largest c.args.users.now c.args.head.now c.args.connection.now.intake.now c.in-Put.asker c.in-Put.command e c.requires.behind).0 in
    omega (arith, low, c.requires.most)

pub serve_put-requires-clause-form : goal.serve_put-requires-clause-form
serve_put-requires-clause-form g c κs within =
    let e : asked_of c.args.settings.now.largest c.args.users.now c.args.head.now ≡ asks.Put c.in-Put.asker c.in-Put.command = sym c.requires.asks ∙ c.in-Put.is in
    c.requires.form ∙ (put_body c.args.settings.now.largest c.args.users.now c.args.head.now c.args.connection.now.intake.now c.in-Put.asker c.in-Put.command e c.requires.behind).1

pub serve_put-requires-clause-ready : goal.serve_put-requires-clause-ready
serve_put-requires-clause-ready g c κs within =
    let settings = c.begin.ensures.settings ∙ c.requires.goes.site.same in
    may_serve g.D.Door.tells c.args.settings.now _ _ c.args.zone (g.D.Door.told c.args.connection.now.door.now) (g.D.Door.told c.begin.new.self) c.args.connection.now.intake.now _ c.requires.goes c.requires.behind.failed c.begin.ensures.begins settings

pub serve_command-requires-clause-ready : goal.serve_command-requires-clause-ready
serve_command-requires-clause-ready g c κs within =
    let settings = c.begin-in-Unfed.ensures.settings ∙ c.requires.goes.site.same in
    may_serve g.D.Door.tells c.args.settings.now _ _ c.args.zone (g.D.Door.told c.args.connection.now.door.now) (g.D.Door.told c.begin-in-Unfed.new.self) c.args.connection.now.intake.now _ c.requires.goes c.requires.behind.failed c.begin-in-Unfed.ensures.begins settings

pub serve_command-requires-clause-shut : goal.serve_command-requires-clause-shut
serve_command-requires-clause-shut g c κs within is =
    c.requires.shut (sym (ap is_unread c.requires.used) ∙ sym c.is_unread-read.ensures ∙ not_false c.is_unread-read.result is)

pub serve_by_head-served-requires-clause-quiet : goal.serve_by_head-served-requires-clause-quiet
serve_by_head-served-requires-clause-quiet g c =
    let by_head = is_by_head c.args.asked c.in_default.not-Put c.in_default.not-Unfed in
    let plan_by = c.requires.used ∙ ap (body_use c.args.settings.now.largest c.args.head.now) (sym c.requires.asks) in
    ap is_awaited plan_by ∙ sym (waits_so c.args.settings.now.largest c.args.head.now c.args.asked) ∙ head_waits c.args.head.now c.args.asked by_head

pub serve_by_head-served-requires-clause-shut : goal.serve_by_head-served-requires-clause-shut
serve_by_head-served-requires-clause-shut g c unread =
    c.requires.shut (sym (ap is_unread c.requires.used) ∙ unread)

pub returns-in-Put-clause-served : goal.returns-in-Put-clause-served
returns-in-Put-clause-served g c =
    let asks_so = asks.Put c.in-Put.asker c.in-Put.command in
    let e : asked_of c.args.settings.now.largest c.args.users.now c.args.head.now ≡ asks_so = sym c.requires.asks ∙ c.in-Put.is in
    let waiting = waits_so c.args.settings.now.largest c.args.head.now asks_so ∙ ap (λ (a : Asked). is_awaited (body_use c.args.settings.now.largest c.args.head.now a)) (sym e) in
    asked_served g.D.Door.tells g.D.Door.alone (site_of c.args.settings.now c.args.zone) c.args.head.now c.args.asked asks_so c.args.form _ _
    (use_of c.args.settings.now.largest c.args.users.now c.args.head.now) c.in-Put.is c.serve_put.result
    (put_served_if g.D.Door.tells g.D.Door.alone (site_of c.args.settings.now c.args.zone) c.args.form c.in-Put.asker c.in-Put.command _ (g.D.Door.told c.begin.new.self) _ c.requires.goes.may c.begin.ensures.begins
    c.args.head.now c.requires.behind.failed (use_of c.args.settings.now.largest c.args.users.now c.args.head.now) c.is_awaited-waits.result (put_use c.args.settings.now.largest c.args.users.now c.args.head.now c.in-Put.asker c.in-Put.command e) waiting
    (c.is_awaited-waits.ensures ∙ ap is_awaited c.requires.used)
    _ c.serve_put.result (site_is (g.D.Door.settings c.begin.new.self) c.args.settings.now c.args.zone (c.begin.ensures.settings ∙ c.requires.goes.site.same)) c.serve_put.ensures.served)

pub returns-in-Put-clause-left : goal.returns-in-Put-clause-left
returns-in-Put-clause-left g c =
    let asks_so = asks.Put c.in-Put.asker c.in-Put.command in
    let e : asked_of c.args.settings.now.largest c.args.users.now c.args.head.now ≡ asks_so = sym c.requires.asks ∙ c.in-Put.is in
    let waiting = waits_so c.args.settings.now.largest c.args.head.now asks_so ∙ ap (λ (a : Asked). is_awaited (body_use c.args.settings.now.largest c.args.head.now a)) (sym e) in
    asked_left g.D.Door.tells g.D.Door.alone (site_of c.args.settings.now c.args.zone) c.args.head.now c.args.asked asks_so c.args.form _ _
    (use_of c.args.settings.now.largest c.args.users.now c.args.head.now) c.in-Put.is (g.D.Door.found c.serve_put.new.connection.door.now) c.serve_put.result
    (put_stopped_if g.D.Door.tells g.D.Door.alone (site_of c.args.settings.now c.args.zone) c.args.form c.in-Put.asker c.in-Put.command _ (g.D.Door.told c.begin.new.self) _ c.requires.goes.may c.begin.ensures.begins
    c.args.head.now c.requires.behind.failed (use_of c.args.settings.now.largest c.args.users.now c.args.head.now) c.is_awaited-waits.result (put_use c.args.settings.now.largest c.args.users.now c.args.head.now c.in-Put.asker c.in-Put.command e) waiting
    (c.is_awaited-waits.ensures ∙ ap is_awaited c.requires.used)
    _ (g.D.Door.found c.serve_put.new.connection.door.now) c.serve_put.result (site_is (g.D.Door.settings c.begin.new.self) c.args.settings.now c.args.zone (c.begin.ensures.settings ∙ c.requires.goes.site.same)) c.serve_put.ensures.stopped)

pub returns-in-Unfed-clause-served : goal.returns-in-Unfed-clause-served
returns-in-Unfed-clause-served g c =
    let asks_so = asks.Unfed c.in-Unfed.asker c.in-Unfed.command in
    let e : asked_of c.args.settings.now.largest c.args.users.now c.args.head.now ≡ asks_so = sym c.requires.asks ∙ c.in-Unfed.is in
    let quiet = sym (waits_so c.args.settings.now.largest c.args.head.now asks_so ∙ ap (λ (a : Asked). is_awaited (body_use c.args.settings.now.largest c.args.head.now a)) (sym e)) in
    asked_served g.D.Door.tells g.D.Door.alone (site_of c.args.settings.now c.args.zone) c.args.head.now c.args.asked asks_so c.args.form _ _
    (use_of c.args.settings.now.largest c.args.users.now c.args.head.now) c.in-Unfed.is c.serve_command.result
    (unwanted_served g.D.Door.tells g.D.Door.alone (site_of c.args.settings.now c.args.zone) c.args.form asks_so _ (g.D.Door.told c.begin-in-Unfed.new.self) _ c.requires.goes.may c.begin-in-Unfed.ensures.begins
    c.args.head.now (use_of c.args.settings.now.largest c.args.users.now c.args.head.now) refl quiet _ (ap (λ b. dropped_if (not b)) (c.is_unread-read.ensures ∙ ap is_unread c.requires.used) ∙ unfed_use c.args.settings.now.largest c.args.users.now c.args.head.now c.in-Unfed.asker c.in-Unfed.command e)
    refl (λ shut. c.requires.shut shut) _ c.serve_command.result (site_is (g.D.Door.settings c.begin-in-Unfed.new.self) c.args.settings.now c.args.zone (c.begin-in-Unfed.ensures.settings ∙ c.requires.goes.site.same)) c.serve_command.ensures.served)

pub returns-in-Unfed-clause-left : goal.returns-in-Unfed-clause-left
returns-in-Unfed-clause-left g c =
    let asks_so = asks.Unfed c.in-Unfed.asker c.in-Unfed.command in
    let e : asked_of c.args.settings.now.largest c.args.users.now c.args.head.now ≡ asks_so = sym c.requires.asks ∙ c.in-Unfed.is in
    let quiet = sym (waits_so c.args.settings.now.largest c.args.head.now asks_so ∙ ap (λ (a : Asked). is_awaited (body_use c.args.settings.now.largest c.args.head.now a)) (sym e)) in
    asked_left g.D.Door.tells g.D.Door.alone (site_of c.args.settings.now c.args.zone) c.args.head.now c.args.asked asks_so c.args.form _ _
    (use_of c.args.settings.now.largest c.args.users.now c.args.head.now) c.in-Unfed.is (g.D.Door.found c.serve_command.new.connection.door.now) c.serve_command.result
    (unwanted_stopped g.D.Door.tells g.D.Door.alone (site_of c.args.settings.now c.args.zone) c.args.form asks_so _ (g.D.Door.told c.begin-in-Unfed.new.self) _ c.requires.goes.may c.begin-in-Unfed.ensures.begins
    c.args.head.now (use_of c.args.settings.now.largest c.args.users.now c.args.head.now) refl quiet _ (ap (λ b. dropped_if (not b)) (c.is_unread-read.ensures ∙ ap is_unread c.requires.used) ∙ unfed_use c.args.settings.now.largest c.args.users.now c.args.head.now c.in-Unfed.asker c.in-Unfed.command e)
    (g.D.Door.found c.serve_command.new.connection.door.now) (λ fault x. (g.D.Door.told c.begin-in-Unfed.new.self, c.begin-in-Unfed.ensures.begins, x)) _ c.serve_command.result (site_is (g.D.Door.settings c.begin-in-Unfed.new.self) c.args.settings.now c.args.zone (c.begin-in-Unfed.ensures.settings ∙ c.requires.goes.site.same)) c.serve_command.ensures.stopped)

pub returns-in_default-clause-served : goal.returns-in_default-clause-served
returns-in_default-clause-served g c =
    let by_head = is_by_head c.args.asked c.in_default.not-Put c.in_default.not-Unfed in
    let plan_by = c.requires.used ∙ ap (body_use c.args.settings.now.largest c.args.head.now) (sym c.requires.asks) in
    head_served g.D.Door.tells g.D.Door.alone (site_of c.args.settings.now c.args.zone) c.args.head.now c.args.asked by_head c.args.settings.now.largest c.args.plan plan_by c.args.form
    (λ unread. c.requires.shut (sym (ap is_unread c.requires.used) ∙ unread))
    (g.D.Door.told c.args.connection.now.door.now) c.args.connection.now.intake.now c.serve_by_head-served.new.intake _ _ c.requires.goes.may refl c.args.asked (use_of c.args.settings.now.largest c.args.users.now c.args.head.now) c.serve_by_head-served.result refl c.requires.used c.serve_by_head-served.ensures.served

pub returns-in_default-clause-left : goal.returns-in_default-clause-left
returns-in_default-clause-left g c =
    let by_head = is_by_head c.args.asked c.in_default.not-Put c.in_default.not-Unfed in
    let plan_by = c.requires.used ∙ ap (body_use c.args.settings.now.largest c.args.head.now) (sym c.requires.asks) in
    head_left g.D.Door.tells g.D.Door.alone (site_of c.args.settings.now c.args.zone) c.args.head.now c.args.asked by_head c.args.settings.now.largest c.args.plan plan_by c.args.form
    (λ unread. c.requires.shut (sym (ap is_unread c.requires.used) ∙ unread))
    (g.D.Door.told c.args.connection.now.door.now) c.args.connection.now.intake.now c.serve_by_head-served.new.intake _ _ c.requires.goes.may refl (g.D.Door.found c.args.connection.now.door.now) c.args.asked (use_of c.args.settings.now.largest c.args.users.now c.args.head.now) c.serve_by_head-served.result refl c.requires.used c.serve_by_head-served.ensures.left
