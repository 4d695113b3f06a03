use Rattle.std.proofs.Common.{refl, sym, subst}
use Rattle.object_words.specs.declared.bucket.Bucket.{Bucket}
use Rattle.task_list.specs.declared.merging.Next.{Next}
use Rattle.task_list.specs.Progresses.{rows_in}
use Rattle.task_list.specs.Listed.{AreShown}
use Rattle.task_list.specs.Sightings.{NextTold}
use Rattle.task_list.specs.Stages.{NextFits}
use Rattle.task_list.proofs.stage.went_on.Goals as goal

pub returns-in-Page-clause-fits : goal.returns-in-Page-clause-fits
returns-in-Page-clause-fits c = λ zone events f.
    let n = subst (λ (x : Next). NextFits zone c.args.command.now c.go_on.new.self x events) c.in-Page.is (c.in_ok-next.ensures.passes.fits zone events f) in
    (c.in_ok-next.ensures.row, n.0, n.1)

pub returns-in-Head-clause-fits : goal.returns-in-Head-clause-fits
returns-in-Head-clause-fits c = λ zone events f.
    let n = subst (λ (x : Next). NextFits zone c.args.command.now c.go_on.new.self x events) c.in-Head.is (c.in_ok-next.ensures.passes.fits zone events f) in
    (c.in_ok-next.ensures.row, n)

pub returns-in-Done-clause-fits : goal.returns-in-Done-clause-fits
returns-in-Done-clause-fits c = λ zone events f.
    let m = c.go_on.new.self in
    let n = subst (λ (x : Next). NextFits zone c.args.command.now m x events) c.in-Done.is (c.in_ok-next.ensures.passes.fits zone events f) in
    subst (λ rows. AreShown zone c.args.command.now c.args.merging.row.id rows events) (sym c.into_rows.ensures)
    (subst (λ (b : Bucket). AreShown zone c.args.command.now b.id (rows_in m.progress) events) c.in_ok-next.ensures.row n)

pub returns-in-Page-clause-told : goal.returns-in-Page-clause-told
returns-in-Page-clause-told c = λ t a.
    (subst (λ (x : Next). NextTold c.go_on.new.self x t) c.in-Page.is (c.in_ok-next.ensures.passes.told t a), λ zone. refl)

pub returns-in-Head-clause-told : goal.returns-in-Head-clause-told
returns-in-Head-clause-told c = λ t a.
    (subst (λ (x : Next). NextTold c.go_on.new.self x t) c.in-Head.is (c.in_ok-next.ensures.passes.told t a), λ zone. refl)

pub returns-in-Done-clause-told : goal.returns-in-Done-clause-told
returns-in-Done-clause-told c = λ t a. (tt, λ zone. refl)
