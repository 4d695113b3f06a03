use Rattle.std.proofs.Common.{◌≡◌, ◌⊎◌, ◌∙◌, ap, subst}
use Rattle.task_list.specs.declared.task.ListTask.{ListTask}
use Rattle.task_list.specs.declared.stage.Stage.TheVariants.{Broken}
use Rattle.task_list.specs.Tasks.{op_of, Takes, TakesTold}
use Rattle.task_list.proofs.First.{behind_row}
use Rattle.task_list.proofs.Turning.{fits_next}
use Rattle.task_list.proofs.task.ListTaskStaged.take.Goals as goal

pub returns-clause-next : goal.returns-clause-next
returns-clause-next c = λ t taken suits back room settings d e moment f x.
    let reply = c.args.answered.reply in
    let next = c.go_on.new.self in
    fits_next settings d e t next (op_of t.request t.stage) moment c.args.answered taken.1 (λ i. op_of t.request t.stage) suits
    (c.go_on.ensures.request ∙ ap (λ (u : ListTask). u.request) taken.0)
    (subst (λ (u : ListTask). (next.stage ≡ Broken) ⊎ Takes u.request u.stage u.moved reply next.stage next.moved) taken.0 c.go_on.ensures.taken)
    (subst (λ (u : ListTask). (next.stage ≡ Broken) ⊎ TakesTold u.stage reply next.stage) taken.0 c.go_on.ensures.told)
    f x

pub returns-clause-steps : goal.returns-clause-steps
returns-clause-steps c = λ t taken suits back.
    let reply = c.args.answered.reply in
    let next = c.go_on.new.self in
    record {
      looked = behind_row t next reply (subst (λ (u : ListTask). (next.stage ≡ Broken) ⊎ Takes u.request u.stage u.moved reply next.stage next.moved) taken.0 c.go_on.ensures.taken);
      sound = c.go_on.ensures.sound;
    }
