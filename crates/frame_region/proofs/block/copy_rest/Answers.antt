use Rattle.std.proofs.Common.{◌≡◌, ℕ, ◌+◌, ◌-◌, take, drop, set, get_or, ap, ap₂, sym, ◌∙◌, arith, length-drop}
use Rattle.std.proofs.lemmas.List.{get_or-drop}
use Rattle.frame_region.specs.Region.{overwritten}
use Rattle.frame_region.proofs.Copies.{byte_more}
use Rattle.frame_region.proofs.block.copy_rest.Goals as goal

pub loop-i-preserved : goal.loop-i-preserved
loop-i-preserved c =
    let old = c.args.to.now in
    let from = drop (c.args.start + c.args.done) c.args.from.now in
    let i = c.loop-i.i in
    let done = c.args.done in
    let at = c.args.at + done in
    let place : c.args.at + i ≡ at + (i - done) = omega (arith, c.loop-i.auto.i) in
    let source : c.args.start + i ≡ c.args.start + done + (i - done) = omega (arith, c.loop-i.auto.i) in
    let next : i - done + 1 ≡ i + 1 - done = omega (arith, c.loop-i.auto.i) in
    let long = length-drop (c.args.start + done) c.args.from.now in
    ap (λ to. set to (c.args.at + i) (get_or c.args.from.now (c.args.start + i) 0)) c.loop-i.invariant
    ∙ ap₂ (λ (k m : ℕ). set (overwritten old at (take (i - done) from)) k (get_or c.args.from.now m 0)) place source
    ∙ ap (set (overwritten old at (take (i - done) from)) (at + (i - done))) (sym (get_or-drop (c.args.start + done) c.args.from.now (i - done) 0))
    ∙ byte_more old from at (i - done) (omega (arith, c.loop-i.auto.i)) (omega (arith, c.loop-i.auto.i, long))
    ∙ ap (λ n. overwritten old at (take n from)) next
