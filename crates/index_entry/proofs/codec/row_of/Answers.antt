use Rattle.std.proofs.Common.{sym, ap, subst, arith}
use Rattle.rgw_types.specs.declared.stamp.Stamp.{Stamp}
use Rattle.object_words.specs.Rows.{IsRow}
use Rattle.index_entry.proofs.EntryLemmas.{live_parts, same_row}
use Rattle.index_entry.proofs.codec.row_of.Goals as goal

pub kind_of-requires : goal.kind_of-requires
kind_of-requires c =
    let p = live_parts c.args.bytes.now c.requires.0 c.requires.1 c.requires.2 c.if-bytes-ne1.false in
    (c.requires.0.row, p.rest, c.requires.1.row_fits, p.exists, p.at_19)

pub size_of_row-requires : goal.size_of_row-requires
size_of_row-requires c = let p = live_parts c.args.bytes.now c.requires.0 c.requires.1 c.requires.2 c.if-bytes-ne1.false in omega (arith, p.read.long)

pub stamp_of-requires : goal.stamp_of-requires
stamp_of-requires c = let p = live_parts c.args.bytes.now c.requires.0 c.requires.1 c.requires.2 c.if-bytes-ne1.false in omega (arith, p.read.long)

pub etag_of-requires : goal.etag_of-requires
etag_of-requires c = let p = live_parts c.args.bytes.now c.requires.0 c.requires.1 c.requires.2 c.if-bytes-ne1.false in omega (arith, p.read.long)

pub returns : goal.returns
returns c e is here =
    let p = live_parts c.args.bytes.now e is here c.if-bytes-ne1.false in
    let stamp = c.stamp_of.ensures e.row p.rest is.row_fits p.exists p.at_19 in
    same_row _ e.row (sym p.exists) (c.size_of_row.ensures e.row p.rest is.row_fits p.exists p.at_19) (ap (λ (s : Stamp). s.micros) stamp) (ap (λ (s : Stamp). s.zone) stamp)
    (c.etag_of.ensures e.row.etag _ is.row_fits.etag_long p.read.etag_next) (c.in_ok-kind.ensures e.row p.rest is.row_fits p.exists p.at_19)

pub invariant_of-result : goal.invariant_of-result
invariant_of-result c = subst IsRow (sym (returns c c.requires.0 c.requires.1 c.requires.2)) c.requires.1.row_fits.bounds
