-- What contracts see of a GET.
use Rattle.std.specs.Prelude.{ℕ, List}
use Rattle.realm_door.specs.declared.stepping.Stepping.{Stepping}
use Rattle.task_get.specs.declared.task.GetTask.{GetTask}

-- its task, and the bytes that are kept
pub record GetPlayView : Type 0 where
  pub task : Stepping GetTask
  pub shown : List ℕ
