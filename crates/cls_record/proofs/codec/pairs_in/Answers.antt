use Rattle.std.proofs.Common.{◌≡◌, ◌++◌, ◌∷◌, ◌==◌, true, [], length, sym, ap, ◌∙◌, subst, arith, length-append}
use Rattle.std.specs.List.{AllByRecursion}
use Rattle.cls_record.specs.BucketRows.{IsPair, pairs_bytes, text_bytes}
use Rattle.cls_record.proofs.PieceLemmas.{all_more, all_pairs, not_some_and, one_more, pairs_more}
use Rattle.cls_record.proofs.codec.pairs_in.Goals as goal

pub returns-in_default-clause-exact : goal.returns-in_default-clause-exact
returns-in_default-clause-exact c all fits len here =
    let inv = c.loop-place.invariant in
    let w = one_more c.loop-place.pairs.items all c.loop-place.reader.rest.now inv.1 fits (omega (arith, inv.2, len, c.loop-place-test.true)) (sym inv.0 ∙ here) in
    not_some_and _ _ c.in_default.not-Some (c.text.ensures.exact w.pair.0 (text_bytes w.pair.1 ++ w.rest) w.is.0 w.here).0

pub returns-in_default-text-clause-exact : goal.returns-in_default-text-clause-exact
returns-in_default-text-clause-exact c all fits len here =
    let inv = c.loop-place.invariant in
    let w = one_more c.loop-place.pairs.items all c.loop-place.reader.rest.now inv.1 fits (omega (arith, inv.2, len, c.loop-place-test.true)) (sym inv.0 ∙ here) in
    let name = c.text.ensures.exact w.pair.0 (text_bytes w.pair.1 ++ w.rest) w.is.0 w.here in
    not_some_and _ _ c.in_default-text.not-Some (c.text-in-loop-place.ensures.exact w.pair.1 w.rest w.is.1 name.1).0

pub loop-place-preserved : goal.loop-place-preserved
loop-place-preserved c =
    let inv = c.loop-place.invariant in
    let xs = c.loop-place.pairs.items in
    let n = c.in-Some.name.now in
    let v = c.in-Some-text.value.now in
    let r = c.text-in-loop-place.new.self.rest.now in
    let name = c.in-Some.ensures.found in
    let value = c.in-Some-text.ensures.found in
    let items : c.push.new.self.items ≡ xs ++ (n, v) ∷ [] = c.in_ok-push.ensures.items ∙ (λ i. xs ++ (c.in_ok-from_str.ensures i, c.in_ok-from_str-2.ensures i) ∷ []) in (
      inv.0 ∙ ap (λ z. pairs_bytes xs ++ z) (name.1 ∙ ap (λ z. text_bytes n ++ z) value.1) ∙ sym (pairs_more xs (n, v) r) ∙ ap (λ l. pairs_bytes l ++ r) (sym items),
      subst (AllByRecursion IsPair) (sym items) (all_more xs (n, v) inv.1 (name.0, value.0)),
      omega (arith, inv.2, ap length items, length-append xs ((n, v) ∷ [])),
    )

pub returns-then-not-is_empty-clause-exact : goal.returns-then-not-is_empty-clause-exact
returns-then-not-is_empty-clause-exact c all fits len here =
    let inv = c.loop-place.invariant in
    let e = all_pairs c.loop-place.pairs.items all c.loop-place.reader.rest.now inv.1 fits (omega (arith, inv.2, len, c.loop-place-test.false)) (sym inv.0 ∙ here) in
    let none : c.is_empty.result ≡ true = c.is_empty.ensures ∙ ap (λ l. length l == 0) e.1 in cc

pub returns-clause-exact : goal.returns-clause-exact
returns-clause-exact c all fits len here =
    let inv = c.loop-place.invariant in
    (all_pairs c.loop-place.pairs.items all c.loop-place.reader.rest.now inv.1 fits (omega (arith, inv.2, len, c.loop-place-test.false)) (sym inv.0 ∙ here)).0
