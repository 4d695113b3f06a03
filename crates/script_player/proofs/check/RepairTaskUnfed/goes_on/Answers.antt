use Rattle.task_repair.specs.Tasks.{stage_of}
use Rattle.script_player.proofs.Asking.{check_open}
use Rattle.script_player.proofs.check.RepairTaskUnfed.goes_on.Goals as goal

pub returns : goal.returns
returns c = λ t. check_open (stage_of t)
