use Rattle.std.proofs.Common.{sym, subst}
use Rattle.http_intake.specs.Scan.{FindsEnd}
use Rattle.http_intake.proofs.ScanSteps.{finds_end}
use Rattle.http_intake.proofs.scan.scan_head.Goals as goal

pub returns : goal.returns
returns c = subst (FindsEnd c.args.bytes.now) (sym c.scan_lines.ensures) (finds_end c.args.bytes.now c.args.seen c.args.place c.requires.within c.requires.scanned)
