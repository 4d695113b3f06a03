use Rattle.std.proofs.Common.{◌≡◌, length}
use Rattle.task_account.specs.Stages.{walk}
use Rattle.task_account.proofs.stage.pass.Given as goal

abbrev pub invariant-names : goal.invariant-names
invariant-names l = walk l.asked l.reply l.last l.left.is_last l.left.rest ≡ walk l.asked l.reply l.initial.last l.initial.left.is_last l.initial.left.rest

abbrev pub decreases-names : goal.decreases-names
decreases-names l = length l.left.rest
