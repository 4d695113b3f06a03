use Rattle.std.proofs.Common.{◌+◌, List, ℕ, length, sym, ◌∙◌, ap, subst}
use Rattle.realm_model.specs.Suits.{Suits}
use Rattle.task_get.specs.declared.task.GetTask.{GetTask}
use Rattle.task_get.specs.Stages.{op_of, given_by, step_of}
use Rattle.task_get.specs.Tasks.{given_of}
use Rattle.task_get.proofs.Turning.{fits_next, step_gives}
use Rattle.task_get.proofs.Sound.{steps_on}
use Rattle.task_get.proofs.task.GetTaskStaged.take.Goals as goal

pub go_on-requires : goal.go_on-requires
go_on-requires c =
    let was = c.requires.suits in
    record { suits = subst (λ (u : GetTask). Suits (op_of u.request u.stage) c.args.answered.reply) (sym was.1.0) was.2 }

pub returns-clause-next : goal.returns-clause-next
returns-clause-next c = λ t taken suits back room settings d e moment f x.
    let a = c.args.answered in
    fits_next settings d e t c.go_on.new.self (op_of t.request t.stage) moment a taken.1 (λ i. op_of t.request t.stage) suits
    (c.go_on.ensures.request ∙ ap (λ (u : GetTask). u.request) taken.0)
    (c.go_on.ensures.stage ∙ ap (λ (u : GetTask). (step_of u.request u.stage a.reply a.clock).0) taken.0)
    (c.go_on.ensures.piece ∙ ap (λ (u : GetTask). (step_of u.request u.stage a.reply a.clock).1) taken.0)
    f x

pub returns-clause-steps : goal.returns-clause-steps
returns-clause-steps c = λ t taken suits back.
    let a = c.args.answered in
    steps_on t c.go_on.new.self a.reply a.clock
    (c.go_on.ensures.stage ∙ ap (λ (u : GetTask). (step_of u.request u.stage a.reply a.clock).0) taken.0)
    (c.go_on.ensures.piece ∙ ap (λ (u : GetTask). (step_of u.request u.stage a.reply a.clock).1) taken.0)

pub returns-clause-given : goal.returns-clause-given
returns-clause-given c = λ t taken suits.
    let a = c.args.answered in
    let stage = c.go_on.ensures.stage ∙ ap (λ (u : GetTask). (step_of u.request u.stage a.reply a.clock).0) taken.0 in
    let piece = c.go_on.ensures.piece ∙ ap (λ (u : GetTask). (step_of u.request u.stage a.reply a.clock).1) taken.0 in
    ap given_by stage ∙ step_gives t.request t.stage a.reply a.clock ∙ ap (λ (bytes : List ℕ). given_of t + length bytes) (sym piece)
