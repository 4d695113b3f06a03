use Rattle.std.proofs.Common.{arith}
use Rattle.cls_head.proofs.TextLemmas.{number_long}
use Rattle.cls_head.proofs.content.read_texts.Goals as goal

pub number-count-requires : goal.number-count-requires
number-count-requires c =
    let r = c.requires in
    let behind = c.in_ok-kind.ensures r.0.kind _ (r.1.kind_text, omega (arith, r.1.kind_high)) r.2 in
    number_long _ _ _ behind.1
