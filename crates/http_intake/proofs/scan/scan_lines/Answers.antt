use Rattle.std.proofs.Common.{sym, ◌∙◌, arith}
use Rattle.http_chunks.proofs.Scanning.{scans_next, scans_last, scans_all}
use Rattle.http_intake.proofs.scan.scan_lines.Goals as goal

pub returns-in-None : goal.returns-in-None
returns-in-None c =
    sym (c.loop-at.invariant.same ∙ scans_last c.args.bytes.now c.loop-at.at c.loop-at.place c.loop-at-test.true (sym c.step.ensures ∙ c.in-None.is))

pub loop-at-preserved : goal.loop-at-preserved
loop-at-preserved c =
    let on = scans_next c.args.bytes.now c.loop-at.at c.loop-at.place c.in-Some.next c.loop-at-test.true (sym c.step.ensures ∙ c.in-Some.is) in
    let skipped = c.skip_line-at-in-loop-at.ensures in
    record { within = skipped.within; same = c.loop-at.invariant.same ∙ on ∙ skipped.same }

pub returns : goal.returns
returns c =
    sym (c.loop-at.invariant.same ∙ scans_all c.args.bytes.now c.loop-at.at c.loop-at.place (omega (arith, c.loop-at-test.false)))
