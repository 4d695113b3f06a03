use Rattle.std.proofs.Common.{sym, ap, ◌∙◌}
use Rattle.object_pool.specs.Places.{rows_of}
use Rattle.object_words.specs.HoldCalls.{entry_refusal}
use Rattle.cls_hold.proofs.FirstLemmas.{first_of}
use Rattle.cls_hold.proofs.closing.check_first.Goals as goal

pub check_entry-requires : goal.check_entry-requires
check_entry-requires c =
    let s = c.requires.0 in
    let is = c.requires.1 in
    let f = first_of (rows_of c.args.shard.now) s (c.in-Some.name, c.in-Some.bytes) is.rows (sym c.in-Some.is ∙ c.in-Ok.ensures s is) in
    (f.first.entry, f.named, f.fits, c.as_slice.ensures ∙ f.first.bytes)

pub returns-in-Err : goal.returns-in-Err
returns-in-Err c s is =
    let f = first_of (rows_of c.args.shard.now) s (c.in-Some.name, c.in-Some.bytes) is.rows (sym c.in-Some.is ∙ c.in-Ok.ensures s is) in
    (ap (λ es. entry_refusal es c.args.force) f.first.split ∙ c.in-Err.ensures.err f.first.entry f.first.behind f.fits (c.as_slice.ensures ∙ f.first.bytes), is)

pub returns : goal.returns
returns c s is =
    let f = first_of (rows_of c.args.shard.now) s (c.in-Some.name, c.in-Some.bytes) is.rows (sym c.in-Some.is ∙ c.in-Ok.ensures s is) in
    (ap (λ es. entry_refusal es c.args.force) f.first.split ∙ c.in_default-check_entry.ensures.ok f.first.entry f.first.behind f.fits (c.as_slice.ensures ∙ f.first.bytes), tt, is)
