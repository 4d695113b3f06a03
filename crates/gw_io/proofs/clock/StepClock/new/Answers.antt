use Rattle.std.proofs.Common.{◌++◌, length, ap, ◌∙◌}
use Rattle.gw_io.specs.Outside.{first_moments}
use Rattle.gw_io.specs.Memory.{moment_at}
use Rattle.gw_io.proofs.Moments.{told_by_plan, told_without_step}
use Rattle.gw_io.proofs.clock.StepClock.new.Goals as goal

pub returns-clause-steps : goal.returns-clause-steps
returns-clause-steps c = λ later told same grown.
    let plan = moment_at c.args.first c.args.step in
    told_by_plan _ _ _ told same (grown ∙ ap (λ before. first_moments plan (length before) ++ told) c.new.ensures)

pub returns-clause-still : goal.returns-clause-still
returns-clause-still c = λ none later told same grown.
    let plan = moment_at c.args.first c.args.step in
    told_without_step c.args.first c.args.step told c.ranges.first.fits none
    (told_by_plan _ _ _ told same (grown ∙ ap (λ before. first_moments plan (length before) ++ told) c.new.ensures))
