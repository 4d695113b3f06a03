use Rattle.std.proofs.Common.{◌∙◌, ap, subst}
use Rattle.realm_model.specs.Suits.{Suits}
use Rattle.realm_door.specs.Steps.{back_of}
use Rattle.task_put.proofs.Staging.{update_left, body_left, body_steps, body_fits, op_is, update_steps, update_brings}
use Rattle.task_put.proofs.staged.PutTaskStaged.take.Goals as goal

pub returns-in_default-clause-next : goal.returns-in_default-clause-next
returns-in_default-clause-next c = λ t was suits back room settings d e moment f x.
    let left = body_left c.args.rest t.stage c.args.self.now.stage c.in_default.not-Changing was.1 in
    body_fits t c.args.self.now c.body_on.new.self was.0 left c.args.answered c.body_on.ensures.task suits c.body_on.ensures.sound settings d e moment f x

pub returns-in_default-clause-steps : goal.returns-in_default-clause-steps
returns-in_default-clause-steps c = λ t was suits back.
    let a = c.args.answered in
    let left = body_left c.args.rest t.stage c.args.self.now.stage c.in_default.not-Changing was.1 in
    (a.number, a.reply, body_steps t c.args.self.now c.body_on.new.self was.0 left a.number a.reply c.body_on.ensures.task)

pub returns-in-Changing-clause-next : goal.returns-in-Changing-clause-next
returns-in-Changing-clause-next c = λ t was suits back room settings d e moment f x.
    let a = c.args.answered in
    let l = update_left c.args.rest t.stage c.args.self.now.stage c.in-Changing.etag c.in-Changing.update c.in-Changing.is was.1 in
    let is = op_is t c.args.self.now c.update_on.new.self c.args.rest was.0 l in
    let suits_now = subst (λ o. Suits o a.reply) is suits in
    let back_now = back ∙ ap (λ o. back_of o a.reply) is in
    let now = c.update_on.ensures.task l.0 l.1 l.2 l.4 l.5 suits_now back_now in
    update_brings t c.args.self.now c.update_on.new.self c.args.rest was.0 l a now settings d e moment
    (λ s g y. c.update_on.ensures.fits l.0 l.1 l.2 l.4 l.5 suits_now back_now s settings d e moment g y) f x

pub returns-in-Changing-clause-steps : goal.returns-in-Changing-clause-steps
returns-in-Changing-clause-steps c = λ t was suits back.
    let a = c.args.answered in
    let l = update_left c.args.rest t.stage c.args.self.now.stage c.in-Changing.etag c.in-Changing.update c.in-Changing.is was.1 in
    let is = op_is t c.args.self.now c.update_on.new.self c.args.rest was.0 l in
    let now = c.update_on.ensures.task l.0 l.1 l.2 l.4 l.5 (subst (λ o. Suits o a.reply) is suits) (back ∙ ap (λ o. back_of o a.reply) is) in
    (a.number, a.reply, update_steps t c.args.self.now c.update_on.new.self c.args.rest was.0 l a.number a.reply now)
