use Rattle.std.proofs.Common.{length, sym, ◌∙◌, arith}
use Rattle.index_entry.proofs.EntryLemmas.{are_read, entry_split, flag_one, length-entry, row_read}
use Rattle.index_entry.proofs.entry.tags_start.Goals as goal

pub u16_at-requires : goal.u16_at-requires
u16_at-requires c =
    let e = c.requires.0 in
    let r = row_read c.args.bytes.now e.version e.revision e.row _ (c.requires.2 ∙ entry_split e) in
    let a = are_read c.args.bytes.now e.row _ c.requires.1.row_fits.etag_long (flag_one e.row.exists (sym r.0 ∙ c.if-bytes-eq1.true)) r.1 in
    omega (arith, a.end, length-entry c.args.bytes.now e c.requires.2)

pub returns-then-bytes-eq1 : goal.returns-then-bytes-eq1
returns-then-bytes-eq1 c e is here =
    let r = row_read c.args.bytes.now e.version e.revision e.row _ (here ∙ entry_split e) in
    let a = are_read c.args.bytes.now e.row _ is.row_fits.etag_long (flag_one e.row.exists (sym r.0 ∙ c.if-bytes-eq1.true)) r.1 in
    let k = c.u16_at.ensures.once (length e.row.kind) _ (omega (arith, is.row_fits.bounds.kind_high)) a.len_here in
    omega (arith, a.end, k, c.from.ensures)
