use Rattle.std.proofs.Common.{◌∙◌, refl, sym, ap, Ok, arith}
use Rattle.std.proofs.lemmas.Result.{err_from_is_err_and}
use Rattle.http_chunks.specs.declared.place.TextEnd.TheVariants.{Here, Later}
use Rattle.http_intake.proofs.Searching.{nothing_more}
use Rattle.http_intake.proofs.Texts.{passes_start, front_scanned, text_there, text_long, text_open, passes_on}
use Rattle.http_intake.proofs.next_chunk.find_end.Goals as goal

pub pieces-init : goal.pieces-init
pieces-init g c = passes_start _ _ _ _ _

pub returns-in-Here-clause-found : goal.returns-in-Here-clause-found
returns-in-Here-clause-found g c =
    let bytes = c.as_slice-bytes in
    let so_far = c.pieces.invariant in
    let ends = front_scanned c.args.start c.pieces.place c.args.limit c.pieces.buffer bytes.result.now c.pieces.seen c.min.result (Here c.in-Here.len)
    bytes.ensures so_far.within so_far.few c.min.ensures so_far.scanned c.in-Here.ensures in
    text_there c.args.start c.args.limit c.min.result c.in-Here.len bytes.result.now c.pieces.buffer bytes.ensures c.min.ensures ends

pub returns-then-seen-bytes-clause-found : goal.returns-then-seen-bytes-clause-found
returns-then-seen-bytes-clause-found g c =
    let bytes = c.as_slice-bytes in
    let so_far = c.pieces.invariant in
    let open_so_far = front_scanned c.args.start c.pieces.place c.args.limit c.pieces.buffer bytes.result.now c.pieces.seen c.min.result (Later c.in-Later.next)
    bytes.ensures so_far.within so_far.few c.min.ensures so_far.scanned c.in-Later.ensures in
    text_long c.args.start c.in-Later.next c.args.limit c.min.result bytes.result.now c.pieces.buffer bytes.ensures c.min.ensures c.if-seen-bytes.true open_so_far

pub returns-in_err-fill-clause-found : goal.returns-in_err-fill-clause-found
returns-in_err-fill-clause-found g c =
    let bytes = c.as_slice-bytes in
    let so_far = c.pieces.invariant in
    let open_so_far = front_scanned c.args.start c.pieces.place c.args.limit c.pieces.buffer bytes.result.now c.pieces.seen c.min.result (Later c.in-Later.next)
    bytes.ensures so_far.within so_far.few c.min.ensures so_far.scanned c.in-Later.ensures in
    let is = bytes.ensures ∙ sym c.in_err-fill.ensures.err.0 in
    let p = err_from_is_err_and c.from_residual.result c.from_residual.ensures.1 in
    rw (p.1, p.2) (text_open c.args.start c.in-Later.next c.args.limit c.min.result bytes.result.now _ is c.min.ensures c.if-seen-bytes.false open_so_far)

pub returns-then-branch-eq0-clause-found : goal.returns-then-branch-eq0-clause-found
returns-then-branch-eq0-clause-found g c =
    let bytes = c.as_slice-bytes in
    let so_far = c.pieces.invariant in
    let open_so_far = front_scanned c.args.start c.pieces.place c.args.limit c.pieces.buffer bytes.result.now c.pieces.seen c.min.result (Later c.in-Later.next)
    bytes.ensures so_far.within so_far.few c.min.ensures so_far.scanned c.in-Later.ensures in
    let same = nothing_more _ _ _ _ c.in_ok-fill.ensures.read (omega (arith, c.in_ok-fill.ensures.count)) in
    let found = text_open c.args.start c.in-Later.next c.args.limit c.min.result bytes.result.now c.fill.new.self (bytes.ensures ∙ sym same) c.min.ensures c.if-seen-bytes.false open_so_far in
    (found.0, found.1, c.in_ok-fill.ensures.end (ap Ok c.if-branch-eq0.true))

pub pieces-preserved : goal.pieces-preserved
pieces-preserved g c =
    let bytes = c.as_slice-bytes in
    let so_far = c.pieces.invariant in
    let open_so_far = front_scanned c.args.start c.pieces.place c.args.limit c.pieces.buffer bytes.result.now c.pieces.seen c.min.result (Later c.in-Later.next)
    bytes.ensures so_far.within so_far.few c.min.ensures so_far.scanned c.in-Later.ensures in
    passes_on _ _ _ _ _ _ _ c.pieces.buffer bytes.result.now _ c.min.result _ _ _ so_far.read c.in_ok-fill.ensures.read bytes.ensures c.min.ensures refl c.if-seen-bytes.false open_so_far
    (c.in_ok-fill.ensures.cause.good ∙ so_far.kept)
