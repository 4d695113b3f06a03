use Rattle.std.proofs.Common.{◌≡◌, arith, subst}
use Rattle.std.specs.Option.{IsSomeAnd}
use Rattle.cls_record.proofs.BucketLemmas.{owner_read}
use Rattle.cls_record.proofs.PieceLemmas.{some_of}
use Rattle.cls_record.proofs.kept.owner_in.Goals as goal

pub slice_bounds-reader-count : goal.slice_bounds-reader-count
slice_bounds-reader-count c = let r = owner_read c.args.row.now c.requires.0 c.requires.2 in omega (arith, r.long)

pub slice_bounds-reader-start : goal.slice_bounds-reader-start
slice_bounds-reader-start c = let r = owner_read c.args.row.now c.requires.0 c.requires.2 in omega (arith, r.long)

pub unwrap-requires : goal.unwrap-requires
unwrap-requires c =
    let b = c.requires.0 in
    let r = owner_read c.args.row.now b c.requires.2 in
    some_of c.text.result _ (c.text.ensures.exact b.owner r.rest (c.requires.1).shared_part.owner r.sliced).0

pub returns : goal.returns
returns c b is here =
    let r = owner_read c.args.row.now b here in
    subst (λ o. IsSomeAnd o (λ text. text.now ≡ b.owner)) c.unwrap.ensures (c.text.ensures.exact b.owner r.rest is.shared_part.owner r.sliced).0
