use Rattle.std.proofs.Common.{refl}
use Rattle.http_intake.proofs.Lines.{passes_over, passes_all}
use Rattle.http_intake.proofs.scan.skip_line.Goals as goal

pub returns-in-Some-clause-same : goal.returns-in-Some-clause-same
returns-in-Some-clause-same c =
    rw c.in-Inside.is (passes_over c.args.bytes.now _ c.args.at c.in-Some.count refl c.requires c.in-Some.ensures.0)

pub returns-in-None-clause-same : goal.returns-in-None-clause-same
returns-in-None-clause-same c = rw c.in-Inside.is (passes_all c.args.bytes.now _ c.args.at refl c.requires c.in-None.ensures)
