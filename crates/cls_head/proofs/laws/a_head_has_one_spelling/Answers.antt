use Rattle.cls_head.proofs.Uniqueness.{one_head}
use Rattle.cls_head.proofs.laws.a_head_has_one_spelling.Goals as goal

pub returns-clause-one_head : goal.returns-clause-one_head
returns-clause-one_head c = one_head
