use Rattle.std.proofs.Common.{arith}
use Rattle.index_entry.proofs.EntryLemmas.{length-entry}
use Rattle.cls_index.proofs.RowLemmas.{if_some, tags_at, tags_in}
use Rattle.cls_index.proofs.rows.front_in.Goals as goal

pub returns-clause-few : goal.returns-clause-few
returns-clause-few c =
    if_some c.front.result _ _ (λ f found.
    let at = tags_at f found.0 found.3 in
    let tags = tags_in f found.0 found.3 in
    omega (arith, at, tags, length-entry c.args.bytes.now found.0 found.2)) c.front.ensures.found
