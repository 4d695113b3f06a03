use Rattle.std.proofs.Common.{◌≡◌, ◌+◌, ◌++◌, ◌∷◌, [], List, true, IfOk, drop, sym, ap₂, ◌∙◌, subst, arith}
use Rattle.std.proofs.lemmas.List.{take_all}
use Rattle.rgw_types.specs.Pairs.{is_risen}
use Rattle.cls_head.specs.Layouts.{pairs_bytes, text_bytes}
use Rattle.cls_head.proofs.TextLemmas.{Pair, pair_at}
use Rattle.cls_head.proofs.pieces.pairs.Goals as goal

pub loop-place-init : goal.loop-place-init
loop-place-init c all fit count here = (c.new-items.ensures.items, here)

pub text-requires : goal.text-requires
text-requires c =
    let r = c.requires in
    let at = pair_at r.0 c.loop-place._place (omega (arith, r.3, c.loop-place-test.true)) r.1 in
    (at.pair.0, text_bytes at.pair.1 ++ pairs_bytes (drop (c.loop-place._place + 1) r.0), at.fits.0, (c.loop-place.invariant r.0 r.1 r.3 r.4).1 ∙ at.here)

pub text-requires-in-loop-place : goal.text-requires-in-loop-place
text-requires-in-loop-place c =
    let r = c.requires in
    let at = pair_at r.0 c.loop-place._place (omega (arith, r.3, c.loop-place-test.true)) r.1 in
    let name = c.in_ok-name.ensures at.pair.0 (text_bytes at.pair.1 ++ pairs_bytes (drop (c.loop-place._place + 1) r.0)) at.fits.0 ((c.loop-place.invariant r.0 r.1 r.3 r.4).1 ∙ at.here) in
    (at.pair.1, pairs_bytes (drop (c.loop-place._place + 1) r.0), at.fits.1, name.1)

pub loop-place-preserved : goal.loop-place-preserved
loop-place-preserved c all fit count here =
    let before = c.loop-place.invariant all fit count here in
    let at = pair_at all c.loop-place._place (omega (arith, count, c.loop-place-test.true)) fit in
    let name = c.in_ok-name.ensures at.pair.0 (text_bytes at.pair.1 ++ pairs_bytes (drop (c.loop-place._place + 1) all)) at.fits.0 (before.1 ∙ at.here) in
    let value = c.in_ok-value.ensures at.pair.1 (pairs_bytes (drop (c.loop-place._place + 1) all)) at.fits.1 name.1 in
    let pair : (c.in_ok-name.name, c.in_ok-value.value) ≡ at.pair = λ i. (name.0 i, value.0 i) in (
      c.in_ok-push.ensures.items ∙ ap₂ (λ (ps : List Pair) (p : Pair). ps ++ p ∷ []) before.0 pair ∙ sym at.more,
      value.1,
    )

pub unwrap-requires : goal.unwrap-requires
unwrap-requires c =
    let r = c.requires in
    let items = (c.loop-place.invariant r.0 r.1 r.3 r.4).0 ∙ take_all c.loop-place._place r.0 (omega (arith, r.3, c.loop-place-test.false)) in
    c.from_vec.ensures.risen.1 (subst (λ ps. is_risen ps ≡ true) (sym items) r.2)

pub returns : goal.returns
returns c all fit count here =
    let items = (c.loop-place.invariant all fit count here).0 ∙ take_all c.loop-place._place all (omega (arith, count, c.loop-place-test.false)) in
    subst (λ m. IfOk m (λ k. k ≡ c.loop-place.items.items)) c.unwrap.ensures c.from_vec.ensures.ok ∙ items
