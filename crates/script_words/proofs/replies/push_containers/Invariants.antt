use Rattle.std.proofs.Common.{◌≡◌, ◌++◌, take}
use Rattle.script_words.specs.Replies.{containers_text}
use Rattle.script_words.proofs.replies.push_containers.Given as goal

abbrev pub invariant-loop-row : goal.invariant-loop-row
invariant-loop-row l = l.out.items ≡ l.fn.out.items ++ containers_text (take l.row-index l.rows)
