use Rattle.std.proofs.Common.{◌∙◌, ap}
use Rattle.task_container.specs.declared.task.ContainerTask.{ContainerTask}
use Rattle.task_container.specs.Stages.{step_of}
use Rattle.task_container.proofs.Turning.{fits_next}
use Rattle.task_container.proofs.task.ContainerTaskStaged.take.Goals as goal

pub returns-clause-next : goal.returns-clause-next
returns-clause-next c = λ t taken suits back room settings d e moment f x.
    let a = c.args.answered in
    fits_next settings d e t c.go_on.new.self moment a taken.1 suits
    (c.go_on.ensures.request ∙ ap (λ (u : ContainerTask). u.request) taken.0)
    (c.go_on.ensures.shards ∙ ap (λ (u : ContainerTask). u.shards) taken.0)
    (c.go_on.ensures.progress ∙ ap (λ (u : ContainerTask). step_of u.request u.shards u.progress a.number a.reply) taken.0)
    f x
