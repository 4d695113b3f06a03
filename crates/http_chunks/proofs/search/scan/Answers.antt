use Rattle.std.proofs.Common.{◌+◌, sym, ap, ◌∙◌}
use Rattle.http_chunks.specs.Scans.{after_byte}
use Rattle.http_chunks.proofs.Scanning.{byte_at, scans_next, scans_last, scans_all, all_passed, next_at}
use Rattle.http_chunks.proofs.search.scan.Goals as goal

pub returns-in-None : goal.returns-in-None
returns-in-None c =
    let at = byte_at c.args.bytes.now c.args.seen c.loop-i.i c.loop-i-test.true in
    sym (c.loop-i.invariant ∙ scans_last _ _ _ at.0 (ap (after_byte c.loop-i.at) (sym at.1) ∙ sym c.step.ensures ∙ c.in-None.is))

pub returns : goal.returns
returns c =
    sym (c.loop-i.invariant ∙ scans_all c.args.bytes.now (c.args.seen + c.loop-i.i) c.loop-i.at (all_passed c.args.bytes.now c.args.seen c.loop-i.i c.loop-i-test.false))

pub loop-i-preserved : goal.loop-i-preserved
loop-i-preserved c =
    let at = byte_at c.args.bytes.now c.args.seen c.loop-i.i c.loop-i-test.true in
    c.loop-i.invariant ∙ scans_next _ _ _ c.in-Some.next at.0 (ap (after_byte c.loop-i.at) (sym at.1) ∙ sym c.step.ensures ∙ c.in-Some.is) ∙ next_at c.in-Some.next c.args.seen c.loop-i.i c.args.bytes.now
