use Rattle.std.proofs.Common.{IsTrue}
use Rattle.door_moments.proofs.Asking.{none_asks, both_ask}
use Rattle.door_moments.proofs.laws.asking_adds_up.Goals as goal

pub returns-clause-none : goal.returns-clause-none
returns-clause-none c = λ tells alone settings. none_asks (IsTrue tells) (IsTrue alone) settings

pub returns-clause-both : goal.returns-clause-both
returns-clause-both c = λ tells alone settings. both_ask (IsTrue tells) (IsTrue alone) settings
