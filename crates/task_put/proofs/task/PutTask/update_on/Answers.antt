use Rattle.std.proofs.Common.{◌≡◌, refl, sym, ◌∙◌, ap, subst}
use Rattle.index_update.specs.declared.update.IndexUpdate.{IndexUpdate}
use Rattle.index_update.specs.Updates.{IsTaken as IsUpdateTaken, fits as update_fits}
use Rattle.task_put.specs.declared.stage.Stage.{Stage}
use Rattle.task_put.specs.declared.stage.Stage.TheVariants.{Changing}
use Rattle.task_put.specs.Stages.{after_update}
use Rattle.task_put.specs.Tasks.{at_stage}
use Rattle.task_put.proofs.Staging.{same_etag, same_update}
use Rattle.task_put.proofs.task.PutTask.update_on.Goals as goal

pub returns-in-Changing-clause-task : goal.returns-in-Changing-clause-task
returns-in-Changing-clause-task c = λ etag u v is taken suits back.
    let here : Changing c.in-Changing.etag c.in-Changing.update ≡ Changing etag v = sym c.in-Changing.is ∙ is in
    let same_e = same_etag c.in-Changing.etag etag c.in-Changing.update v here in
    let same_v = same_update c.in-Changing.etag etag c.in-Changing.update v here in
    let next = c.take.ensures.next u (subst (λ x. IsUpdateTaken u x c.args.rest) (sym same_v) taken) suits back in
    let stage = c.conclude.ensures c.in-Changing.etag c.take.new.self refl in
    ap (λ (s : Stage). at_stage c.args.self.now s) (stage ∙ (λ i. after_update (same_e i) (next.0 i)))

pub returns-in-Changing-clause-fits : goal.returns-in-Changing-clause-fits
returns-in-Changing-clause-fits c = λ etag u v is taken suits back s settings d e moment f x.
    let here : Changing c.in-Changing.etag c.in-Changing.update ≡ Changing etag v = sym c.in-Changing.is ∙ is in
    let same_v = same_update c.in-Changing.etag etag c.in-Changing.update v here in
    let next = c.take.ensures.next u (subst (λ y. IsUpdateTaken u y c.args.rest) (sym same_v) taken) suits back in
    subst (λ (w : IndexUpdate). update_fits s w settings e) next.0 (next.1 s settings d e moment f x)
