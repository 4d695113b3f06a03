use Rattle.std.proofs.Common.{◌≡◌, ◌+◌, ◌++◌, ◌∷◌, [], take, sym, ap, ◌∙◌, subst}
use Rattle.std.specs.List.{AllByRecursion}
use Rattle.std.proofs.lemmas.List.{take_more}
use Rattle.cls_record.specs.BucketRows.{IsPair, IsText, pairs_bytes, text_bytes}
use Rattle.cls_record.proofs.PieceLemmas.{all_more, one_pair_written}
use Rattle.cls_record.proofs.codec.put_pairs.Goals as goal

pub loop-pair-preserved : goal.loop-pair-preserved
loop-pair-preserved c =
    let p = c.pair-item.result in
    let xs = take c.loop-pair.pair-index c.args.pairs.now in
    let more : take (c.loop-pair.pair-index + 1) c.args.pairs.now ≡ xs ++ p ∷ [] =
    take_more c.args.pairs.now c.loop-pair.pair-index p c.loop-pair-test.true ∙ ap (λ x. xs ++ x ∷ []) (sym c.pair-item.is) in (
      c.in_ok-put_text-2.ensures.ok
          ∙ (λ i. (c.in_ok-put_text.ensures.ok i) ++ text_bytes (c.as_str-in-loop-pair.ensures i))
          ∙ (λ i. ((c.loop-pair.invariant.0 i) ++ text_bytes (c.as_str.ensures i)) ++ text_bytes p.1)
          ∙ one_pair_written c.args.out.now xs p ∙ ap (λ z. c.args.out.now ++ pairs_bytes z) (sym more),
      subst (AllByRecursion IsPair) (sym more)
          (all_more xs p c.loop-pair.invariant.1 (subst IsText c.as_str.ensures c.put_text.ensures.fits, subst IsText c.as_str-in-loop-pair.ensures c.put_text-in-loop-pair.ensures.fits)),
    )
