use Rattle.std.proofs.Common.{◌≡◌, None}
use Rattle.http_tests.proofs.intake.add_body.Given as goal

abbrev pub invariant-loop : goal.invariant-loop
invariant-loop g l = l.intake.failed ≡ None
