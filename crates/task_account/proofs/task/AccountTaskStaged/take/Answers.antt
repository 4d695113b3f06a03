use Rattle.std.proofs.Common.{◌≡◌, ◌⊎◌, ◌∙◌, ap, subst}
use Rattle.task_account.specs.declared.task.AccountTask.{AccountTask}
use Rattle.task_account.specs.declared.stage.Stage.TheVariants.{Broken}
use Rattle.task_account.specs.Stages.{op_of, step_of}
use Rattle.task_account.proofs.Turning.{fits_next}
use Rattle.task_account.proofs.task.AccountTaskStaged.take.Goals as goal

pub returns-clause-next : goal.returns-clause-next
returns-clause-next c = λ t taken suits back room settings d e moment f x.
    let reply = c.args.answered.reply in
    let next = c.go_on.new.self in
    fits_next settings d e t next (op_of t.zone t.account t.stage) moment c.args.answered taken.1 (λ i. op_of t.zone t.account t.stage) suits
    (c.go_on.ensures.zone ∙ ap (λ (u : AccountTask). u.zone) taken.0)
    (c.go_on.ensures.account ∙ ap (λ (u : AccountTask). u.account) taken.0)
    (c.go_on.ensures.asked ∙ ap (λ (u : AccountTask). u.asked) taken.0)
    (subst (λ (u : AccountTask). (next.stage ≡ Broken) ⊎ ((next.stage, next.moved) ≡ step_of u.account u.asked u.stage u.moved reply)) taken.0 c.go_on.ensures.stage)
    f x

pub returns-clause-steps : goal.returns-clause-steps
returns-clause-steps c = λ t taken suits back.
    let reply = c.args.answered.reply in
    let next = c.go_on.new.self in
    record {
      reply = reply;
      took = subst (λ (u : AccountTask). (next.stage ≡ Broken) ⊎ ((next.stage, next.moved) ≡ step_of u.account u.asked u.stage u.moved reply)) taken.0 c.go_on.ensures.stage;
      same = c.go_on.ensures.asked ∙ ap (λ (u : AccountTask). u.asked) taken.0;
    }
