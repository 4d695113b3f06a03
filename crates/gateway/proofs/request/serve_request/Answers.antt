use Rattle.std.proofs.Common.{◌∙◌, ap}
use Rattle.realm_model.specs.Settings.{SettingsView}
use Rattle.swift_requests.specs.Asks.{asked_of}
use Rattle.swift_requests.specs.Bodies.{body_use, closes}
use Rattle.gateway.specs.Calls.{place_of}
use Rattle.gateway.proofs.Behind.{served_cut, served_closed, served_on, served_broken, served_refused, served_not, not_judged, used_so, shut_by}
use Rattle.gateway.proofs.request.serve_request.Goals as goal

pub returns-in-Err-clause-turn : goal.returns-in-Err-clause-turn
returns-in-Err-clause-turn g c x reads =
    not_judged g.D.Door.tells g.D.Door.alone (place_of c.args.settings.now c.args.zone c.args.users.now) c.args.k x _ c.args.head.now (g.D.Door.found c.args.connection.now.door.now) c.requires.goes.may reads

pub returns-in-Err-serve_asked-clause-turn : goal.returns-in-Err-serve_asked-clause-turn
returns-in-Err-serve_asked-clause-turn g c x reads =
    served_not g.D.Door.tells g.D.Door.alone (place_of c.args.settings.now c.args.zone c.args.users.now) c.args.k x _ _ c.args.head.now reads c.in-Ok.asked c.body_use-plan.result c.is_bodiless-bodiless.result c.closes-close.result
    (c.in-Ok.ensures ∙ ap (λ n. asked_of n c.args.users.now c.args.head.now) (ap (λ (s : SettingsView). s.largest) c.settings.view_is))
    (c.body_use-plan.ensures ∙ ap (λ n. body_use n c.args.head.now c.in-Ok.asked) (ap (λ (s : SettingsView). s.largest) c.settings.view_is)) c.is_bodiless-bodiless.ensures (c.closes-close.ensures ∙ ap (closes c.args.k c.args.head.now) c.is_unread.ensures) (g.D.Door.found c.serve_asked.new.connection.door.now) c.in-Err-serve_asked.fault c.requires.goes.may c.in-Err-serve_asked.ensures.left

pub returns-in-Ok-Cut-clause-turn : goal.returns-in-Ok-Cut-clause-turn
returns-in-Ok-Cut-clause-turn g c x reads =
    served_cut g.D.Door.tells g.D.Door.alone (place_of c.args.settings.now c.args.zone c.args.users.now) c.args.k x _ _ c.args.head.now reads c.in-Ok.asked c.body_use-plan.result c.is_bodiless-bodiless.result c.closes-close.result
    (c.in-Ok.ensures ∙ ap (λ n. asked_of n c.args.users.now c.args.head.now) (ap (λ (s : SettingsView). s.largest) c.settings.view_is))
    (c.body_use-plan.ensures ∙ ap (λ n. body_use n c.args.head.now c.in-Ok.asked) (ap (λ (s : SettingsView). s.largest) c.settings.view_is)) c.is_bodiless-bodiless.ensures (c.closes-close.ensures ∙ ap (closes c.args.k c.args.head.now) c.is_unread.ensures) c.in-Ok-Cut.field-0 c.in-Ok-Cut.field-0-is c.in-Ok-Cut.ensures.served

pub returns-in-Ok-Replied-clause-turn : goal.returns-in-Ok-Replied-clause-turn
returns-in-Ok-Replied-clause-turn g c x reads =
    served_closed g.D.Door.tells g.D.Door.alone (place_of c.args.settings.now c.args.zone c.args.users.now) c.args.k x _ _ c.args.head.now reads c.in-Ok.asked c.body_use-plan.result c.is_bodiless-bodiless.result c.closes-close.result
    (c.in-Ok.ensures ∙ ap (λ n. asked_of n c.args.users.now c.args.head.now) (ap (λ (s : SettingsView). s.largest) c.settings.view_is))
    (c.body_use-plan.ensures ∙ ap (λ n. body_use n c.args.head.now c.in-Ok.asked) (ap (λ (s : SettingsView). s.largest) c.settings.view_is)) c.is_bodiless-bodiless.ensures (c.closes-close.ensures ∙ ap (closes c.args.k c.args.head.now) c.is_unread.ensures) c.in-Ok-Replied.field-0 c.closing_end-end.result c.in-Ok-Replied.field-0-is c.if-close.true c.closing_end-end.ensures c.in-Ok-Replied.ensures.served

pub returns-in-Ok-Replied-2-clause-turn : goal.returns-in-Ok-Replied-2-clause-turn
returns-in-Ok-Replied-2-clause-turn g c x reads =
    served_on g.D.Door.tells g.D.Door.alone (place_of c.args.settings.now c.args.zone c.args.users.now) c.args.k x _ _ c.args.head.now reads c.in-Ok.asked c.body_use-plan.result c.is_bodiless-bodiless.result c.closes-close.result
    (c.in-Ok.ensures ∙ ap (λ n. asked_of n c.args.users.now c.args.head.now) (ap (λ (s : SettingsView). s.largest) c.settings.view_is))
    (c.body_use-plan.ensures ∙ ap (λ n. body_use n c.args.head.now c.in-Ok.asked) (ap (λ (s : SettingsView). s.largest) c.settings.view_is)) c.is_bodiless-bodiless.ensures (c.closes-close.ensures ∙ ap (closes c.args.k c.args.head.now) c.is_unread.ensures) c.in-Ok-Replied.field-0 c.in-Ok-Replied.field-0-is c.if-close.false c.in-Ok-Replied.ensures.served

pub returns-in-Ok-Closed-clause-turn : goal.returns-in-Ok-Closed-clause-turn
returns-in-Ok-Closed-clause-turn g c x reads =
    served_broken g.D.Door.tells g.D.Door.alone (place_of c.args.settings.now c.args.zone c.args.users.now) c.args.k x _ _ c.args.head.now reads c.in-Ok.asked c.body_use-plan.result c.is_bodiless-bodiless.result c.closes-close.result
    (c.in-Ok.ensures ∙ ap (λ n. asked_of n c.args.users.now c.args.head.now) (ap (λ (s : SettingsView). s.largest) c.settings.view_is))
    (c.body_use-plan.ensures ∙ ap (λ n. body_use n c.args.head.now c.in-Ok.asked) (ap (λ (s : SettingsView). s.largest) c.settings.view_is)) c.is_bodiless-bodiless.ensures (c.closes-close.ensures ∙ ap (closes c.args.k c.args.head.now) c.is_unread.ensures) c.in-Ok-Closed.field-0 c.in-Ok-Closed.field-0-is c.in-Ok-Closed.ensures.served

pub returns-in-Ok-Refused-clause-turn : goal.returns-in-Ok-Refused-clause-turn
returns-in-Ok-Refused-clause-turn g c x reads =
    served_refused g.D.Door.tells g.D.Door.alone (place_of c.args.settings.now c.args.zone c.args.users.now) c.args.k x _ _ c.args.head.now reads c.in-Ok.asked c.body_use-plan.result c.is_bodiless-bodiless.result c.closes-close.result
    (c.in-Ok.ensures ∙ ap (λ n. asked_of n c.args.users.now c.args.head.now) (ap (λ (s : SettingsView). s.largest) c.settings.view_is))
    (c.body_use-plan.ensures ∙ ap (λ n. body_use n c.args.head.now c.in-Ok.asked) (ap (λ (s : SettingsView). s.largest) c.settings.view_is)) c.is_bodiless-bodiless.ensures (c.closes-close.ensures ∙ ap (closes c.args.k c.args.head.now) c.is_unread.ensures) c.in-Ok-Refused.field-0 c.in-Ok-Refused.field-0-is c.in-Ok-Refused.ensures.served

pub serve_asked-requires-clause-shut : goal.serve_asked-requires-clause-shut
serve_asked-requires-clause-shut g c κs within is =
    shut_by c.args.settings.now.largest c.args.users.now c.args.k c.args.head.now c.in-Ok.asked c.body_use-plan.result c.closes-close.result c.is_unread.result
    (c.in-Ok.ensures ∙ ap (λ n. asked_of n c.args.users.now c.args.head.now) (ap (λ (s : SettingsView). s.largest) c.settings.view_is))
    (c.body_use-plan.ensures ∙ ap (λ n. body_use n c.args.head.now c.in-Ok.asked) (ap (λ (s : SettingsView). s.largest) c.settings.view_is)) c.is_unread.ensures c.closes-close.ensures is

pub serve_asked-requires-clause-used : goal.serve_asked-requires-clause-used
serve_asked-requires-clause-used g c κs within =
    used_so c.args.settings.now.largest c.args.users.now c.args.head.now c.in-Ok.asked c.body_use-plan.result
    (c.in-Ok.ensures ∙ ap (λ n. asked_of n c.args.users.now c.args.head.now) (ap (λ (s : SettingsView). s.largest) c.settings.view_is))
    (c.body_use-plan.ensures ∙ ap (λ n. body_use n c.args.head.now c.in-Ok.asked) (ap (λ (s : SettingsView). s.largest) c.settings.view_is))
