use Rattle.std.proofs.Common.{◌++◌, ap, ◌∙◌, subst}
use Rattle.cls_head.specs.Layouts.{IsPair, text_bytes}
use Rattle.cls_head.proofs.TextLemmas.{Pair, one_pair_fits, one_pair_more}
use Rattle.cls_head.proofs.pieces.push_pairs.Goals as goal

pub loop-name-preserved : goal.loop-name-preserved
loop-name-preserved c =
    let pair = c.loop-name-item.result in
    let place = c.loop-name.name-index in (
      c.in_ok-push_text-2.ensures.ok ∙ ap (λ z. z ++ text_bytes pair.1) c.in_ok-push_text.ensures.ok
          ∙ ap (λ (p : Pair). (c.loop-name.bytes ++ text_bytes p.0) ++ text_bytes p.1) c.loop-name-item.is
          ∙ one_pair_more c.args.bytes.now c.loop-name.bytes c.args.pairs.now place pair c.loop-name-test.true c.loop-name.invariant.0,
      one_pair_fits c.args.pairs.now place pair c.loop-name-test.true c.loop-name.invariant.1
          (subst IsPair c.loop-name-item.is (c.push_text.ensures.bounds, c.push_text-in-loop-name.ensures.bounds)),
    )
