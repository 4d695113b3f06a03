use Rattle.std.proofs.Common.{refl}
use Rattle.repair_law.proofs.KnownRepair.{none_before, is_due, come, alone, ended}
use Rattle.repair_law.proofs.known.a_known_repair_meets_the_premises.Goals as goal

pub returns-clause-whole : goal.returns-clause-whole
returns-clause-whole c = refl

pub returns-clause-none : goal.returns-clause-none
returns-clause-none c = none_before

pub returns-clause-due : goal.returns-clause-due
returns-clause-due c = is_due

pub returns-clause-come : goal.returns-clause-come
returns-clause-come c = come

pub returns-clause-alone : goal.returns-clause-alone
returns-clause-alone c = alone

pub returns-clause-ended : goal.returns-clause-ended
returns-clause-ended c = ended
