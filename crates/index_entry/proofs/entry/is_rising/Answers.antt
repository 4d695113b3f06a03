use Rattle.std.proofs.Common.{◌≡◌, ◌+◌, ◌-◌, drop, refl, sym, ap, ◌∙◌, arith}
use Rattle.object_words.specs.Tags.{tags_rise}
use Rattle.index_entry.proofs.TagLemmas.{rise_kept, rise_last, rise_lost, tag_read}
use Rattle.index_entry.proofs.entry.is_rising.Goals as goal

pub returns-then-before-tag : goal.returns-then-before-tag
returns-then-before-tag c tags fit count here =
    let d = c.tag_in-tag.result in
    let x = tag_read c.args.bytes.now c.args.start _ (c.loop-place.place - 1) tags c.tag_in-before.result d fit (omega arith) here refl c.tag_in-before.ensures.once in
    let y = tag_read c.args.bytes.now c.args.start _ c.loop-place.place tags c.tag_in-tag.result d fit (omega arith) here refl c.tag_in-tag.ensures.once in
    sym (rise_lost tags c.loop-place.place c.tag_in-before.result c.tag_in-tag.result d (omega arith) (omega arith) x y c.if-before-tag.true) ∙ c.loop-place.invariant tags fit count here

pub loop-place-preserved : goal.loop-place-preserved
loop-place-preserved c tags fit count here =
    let d = c.tag_in-tag.result in
    let x = tag_read c.args.bytes.now c.args.start _ (c.loop-place.place - 1) tags c.tag_in-before.result d fit (omega arith) here refl c.tag_in-before.ensures.once in
    let y = tag_read c.args.bytes.now c.args.start _ c.loop-place.place tags c.tag_in-tag.result d fit (omega arith) here refl c.tag_in-tag.ensures.once in
    let e : c.loop-place.place + 1 - 1 ≡ c.loop-place.place = omega arith in
    ap (λ k. tags_rise (drop k tags)) e
    ∙ sym (rise_kept tags c.loop-place.place c.tag_in-before.result c.tag_in-tag.result d (omega arith) (omega arith) x y c.if-before-tag.false) ∙ c.loop-place.invariant tags fit count here

pub returns : goal.returns
returns c tags fit count here = sym (rise_last tags (c.loop-place.place - 1) (omega arith)) ∙ c.loop-place.invariant tags fit count here
