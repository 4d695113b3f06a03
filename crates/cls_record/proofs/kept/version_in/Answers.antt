use Rattle.std.proofs.Common.{arith}
use Rattle.index_entry.specs.Numbers.{number_bytes}
use Rattle.index_entry.proofs.PieceLemmas.{length-number_bytes, taken}
use Rattle.cls_record.proofs.BucketLemmas.{row_read}
use Rattle.cls_record.proofs.kept.version_in.Goals as goal

pub slice_bounds-number_in-end : goal.slice_bounds-number_in-end
slice_bounds-number_in-end c = let r = row_read c.args.row.now c.requires.0 c.requires.2 in omega (arith, r.long)

pub returns : goal.returns
returns c b is here =
    let r = row_read c.args.row.now b here in
    c.number_in.ensures.once b.version is.version_fits (taken c.args.row.now 2 8 (number_bytes b.version) r.rest r.at_2 (length-number_bytes b.version))
