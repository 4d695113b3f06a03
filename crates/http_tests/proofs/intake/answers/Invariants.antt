use Rattle.std.proofs.Common.{◌≡◌, None}
use Rattle.http_intake.specs.Intake.{IsBetween}
use Rattle.http_tests.proofs.intake.answers.Given as goal

abbrev pub invariant-loop : goal.invariant-loop
invariant-loop g l = (l.intake.failed ≡ None) × IsBetween l.intake
