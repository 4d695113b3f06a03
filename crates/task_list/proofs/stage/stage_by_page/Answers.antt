use Rattle.std.proofs.Common.{sym, subst}
use Rattle.task_list.specs.Sightings.{PageTold}
use Rattle.task_list.proofs.stage.stage_by_page.Goals as goal

pub returns-in-Some-clause-told : goal.returns-in-Some-clause-told
returns-in-Some-clause-told c =
    subst (λ o. PageTold c.args.merging c.args.next o c.in_ok-stage-in-Some.stage) (sym c.in-Some.is) c.in_ok-stage-in-Some.ensures.told
