use Rattle.std.proofs.Common.{sym, subst}
use Rattle.std.proofs.lemmas.Result.{IfOk-weaker}
use Rattle.task_list.specs.Sightings.{PageTold}
use Rattle.task_list.specs.Tasks.{TakesTold}
use Rattle.task_list.proofs.stage.next_stage.Goals as goal

pub returns-in-Page-clause-told : goal.returns-in-Page-clause-told
returns-in-Page-clause-told c =
    IfOk-weaker c.stage_by_page.result _ _
    (λ s told.
    subst (λ stage. TakesTold stage c.args.reply s.0) (sym c.in-Page.is)
    (subst (λ o. PageTold c.in-Page.merging c.in-Page.next o s.0) c.into_page.ensures told)) c.stage_by_page.ensures.told
