use Rattle.std.proofs.Common.{◌≢◌, ℕ, List, [], ◌∙◌, sym, ap, subst, Ok, rules, arith}
use Rattle.std.proofs.lemmas.Result.{err_from_is_err_and}
use Rattle.http_model.specs.Heads.{skip_breaks}
use Rattle.http_model.specs.Streams.{IsBlank, IsCutHead, IsOversized}
use Rattle.http_intake.proofs.Searching.{searches_start, reads_on, nothing_more, too_many, all_scanned, blank_so_far, begun_so_far, not_before}
use Rattle.http_intake.proofs.next_head.find_text.Goals as goal

pub pieces-init : goal.pieces-init
pieces-init g c = searches_start _ _ _

pub returns-then-seen-bytes-clause-found : goal.returns-then-seen-bytes-clause-found
returns-then-seen-bytes-clause-found g c =
    let bytes = c.as_slice-bytes in
    subst IsOversized bytes.ensures (too_many bytes.result.now c.min.result c.in-Later.next c.min.ensures c.if-seen-bytes.true c.in-Later.ensures)

pub returns-in_err-fill-clause-found : goal.returns-in_err-fill-clause-found
returns-in_err-fill-clause-found g c =
    let bytes = c.as_slice-bytes in
    let is = bytes.ensures ∙ sym c.in_err-fill.ensures.err.0 in
    let cut = all_scanned bytes.result.now c.min.result c.in-Later.next c.min.ensures c.if-seen-bytes.false c.in-Later.ensures in
    let p = err_from_is_err_and c.from_residual.result c.from_residual.ensures.1 in
    rw (p.1, p.2) (subst IsCutHead is cut)

pub returns-in-Before-clause-read : goal.returns-in-Before-clause-read
returns-in-Before-clause-read g c = reads_on _ _ _ _ _ _ c.pieces.invariant.read c.in_ok-fill.ensures.read

pub returns-in-Before-clause-found : goal.returns-in-Before-clause-found
returns-in-Before-clause-found g c =
    let bytes = c.as_slice-bytes in
    let same = nothing_more _ _ _ _ c.in_ok-fill.ensures.read (omega (arith, c.in_ok-fill.ensures.count)) in
    let scanned = rw c.in-Before.is at c.in-Later.ensures in (
      subst IsBlank (bytes.ensures ∙ sym same) (blank_so_far bytes.result.now c.min.result c.min.ensures c.if-seen-bytes.false scanned),
      c.in_ok-fill.ensures.end (ap Ok c.if-branch-eq0.true),
    )

pub returns-in-Inside : goal.returns-in-Inside
returns-in-Inside g c =
    let bytes = c.as_slice-bytes in
    let same = nothing_more _ _ _ _ c.in_ok-fill.ensures.read (omega (arith, c.in_ok-fill.ensures.count)) in
    let is = bytes.ensures ∙ sym same in
    let begun = begun_so_far bytes.result.now c.min.result c.in-Later.next c.min.ensures c.if-seen-bytes.false c.in-Later.ensures (not_before _ c.in-Inside.is) in
    record {
      read = reads_on _ _ _ _ _ _ c.pieces.invariant.read c.in_ok-fill.ensures.read;
      found = (
        subst (λ (l : List ℕ). skip_breaks l ≢ []) is begun.0,
        subst IsCutHead is begun.1,
        c.in_ok-fill.ensures.end (ap Ok c.if-branch-eq0.true),
      );
      cause = search rules;
    }
