use Rattle.std.proofs.Common.{Some, None, ap, sym, ◌∙◌}
use Rattle.std.proofs.lemmas.Result.{IfOk-weaker}
use Rattle.object_words.specs.declared.bucket.Bucket.{Bucket}
use Rattle.task_list.specs.Sightings.{asks_suggestion}
use Rattle.task_list.proofs.Telling.{suggests}
use Rattle.task_list.proofs.stage.stage_by_head.Goals as goal

pub returns-in-Some-clause-fits : goal.returns-in-Some-clause-fits
returns-in-Some-clause-fits c = λ zone events own f came. (c.settle.ensures.row, c.in_ok-settle.ensures.fits zone events own f came)

pub returns-in-Some-clause-told : goal.returns-in-Some-clause-told
returns-in-Some-clause-told c = λ t w.
    let m = c.args.merging in
    let wanted = c.args.wanted in
    let s = c.in-Some.suggestion in
    let is = sym c.in-Some.is ∙ c.in_ok-suggestion.ensures in (
      c.settle.ensures.told t w.pages,
      λ zone.
          ap (λ (b : Bucket). Some (asks_suggestion zone b s)) c.settle.ensures.row
          ∙ suggests zone m.row wanted.name wanted.due (t.seen wanted.name) c.args.head (Some s) w.due_is is,
    )

pub returns-in-None-clause-told : goal.returns-in-None-clause-told
returns-in-None-clause-told c =
    let m = c.args.merging in
    let wanted = c.args.wanted in
    let is = sym c.in-None.is ∙ c.in_ok-suggestion.ensures in
    IfOk-weaker c.went_on.result _ _
    (λ stage on t w.
    let went = on t (c.settle.ensures.told t w.pages) in
    (went.0, λ zone. went.1 zone ∙ suggests zone m.row wanted.name wanted.due (t.seen wanted.name) c.args.head None w.due_is is)) c.went_on.ensures.told
