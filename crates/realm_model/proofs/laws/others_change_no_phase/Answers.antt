use Rattle.std.proofs.Common.{ap}
use Rattle.realm_model.specs.Allowed.{allowed}
use Rattle.realm_model.proofs.Others.{phase-others, account-others, phase-own}
use Rattle.realm_model.proofs.laws.others_change_no_phase.Goals as goal

pub returns-clause-phase : goal.returns-clause-phase
returns-clause-phase c = phase-others

pub returns-clause-account : goal.returns-clause-account
returns-clause-account c = account-others

pub returns-clause-allowed : goal.returns-clause-allowed
returns-clause-allowed c settings history between actor op others =
    ap (λ p. allowed settings p op) (phase-others settings history between actor others)

pub returns-clause-own : goal.returns-clause-own
returns-clause-own c = phase-own
