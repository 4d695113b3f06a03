use Rattle.std.proofs.Common.{◌<◌, length, nat_le, sym, ap, ◌∙◌, arith}
use Rattle.object_words.specs.declared.entry.Tag.{Tag}
use Rattle.cls_index.proofs.TagLemmas.{above, at_most, due_at, none_due}
use Rattle.cls_index.proofs.tags.has_due.Goals as goal

pub returns-then-moment-tag_of : goal.returns-then-moment-tag_of
returns-then-moment-tag_of c e has count =
    let d = c.tag_of.result in
    let m = c.args.moment in
    let some : c.loop-place.place < length e.tags = omega (arith, count) in
    sym (due_at m c.loop-place.place e.tags d some (ap (λ (t : Tag). nat_le t.deadline m) (sym (c.tag_of.ensures e has some d)) ∙ at_most d.deadline m c.if-moment-tag_of.true))

pub loop-place-preserved : goal.loop-place-preserved
loop-place-preserved c e has count =
    let d = c.tag_of.result in
    let m = c.args.moment in
    let some : c.loop-place.place < length e.tags = omega (arith, count) in
    none_due m c.loop-place.place e.tags d some (c.loop-place.invariant e has count)
    (ap (λ (t : Tag). nat_le t.deadline m) (sym (c.tag_of.ensures e has some d)) ∙ above d.deadline m c.if-moment-tag_of.false)
