use Rattle.std.proofs.Common.{sym, ◌∙◌, subst}
use Rattle.std.proofs.lemmas.Result.{IfOk-weaker}
use Rattle.task_list.specs.Sightings.{MergingTold, with_page}
use Rattle.task_list.proofs.stage.stage_with.Goals as goal

pub returns-clause-told : goal.returns-clause-told
returns-clause-told c =
    let m = c.args.merging in
    IfOk-weaker c.went_on.result _ _
    (λ stage on t a none order.
    let now = with_page m.row c.args.next.now c.args.page t in
    on now (subst (λ used. MergingTold c.put.new.self used now) (sym (c.put.ensures.none ∙ none)) (c.in_ok-put.ensures.told t a order))) c.went_on.ensures.told
