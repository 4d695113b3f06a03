use Rattle.task_get.proofs.Giving.{next_piece_follows, no_piece}
use Rattle.task_get.proofs.laws.pieces_follow_one_another.Goals as goal

pub returns-clause-piece : goal.returns-clause-piece
returns-clause-piece c = next_piece_follows

pub returns-clause-none : goal.returns-clause-none
returns-clause-none c = no_piece
