use Rattle.std.proofs.Common.{◌==◌, ◌<◌, length, sym, ap, ◌∙◌, arith}
use Rattle.object_words.specs.declared.entry.Tag.{Tag}
use Rattle.cls_index.proofs.TagLemmas.{found_at, is_equal, not_equal, passed}
use Rattle.cls_index.proofs.tags.place_of.Goals as goal

pub returns-then-tag_at-tag-clause-found : goal.returns-then-tag_at-tag-clause-found
returns-then-tag_at-tag-clause-found c e is bytes count =
    let d = c.tag_at.result in
    let some : c.loop-place.place < length e.tags = omega (arith, count) in
    sym (found_at c.args.tag c.loop-place.place e.tags d some (c.loop-place.invariant e is bytes count) (ap (λ (t : Tag). t.tag == c.args.tag) (sym (c.tag_at.ensures e is bytes some d)) ∙ is_equal _ _ c.if-tag_at-tag.true)).0

pub returns-then-tag_at-tag-clause-place : goal.returns-then-tag_at-tag-clause-place
returns-then-tag_at-tag-clause-place c e is bytes count =
    let d = c.tag_at.result in
    let some : c.loop-place.place < length e.tags = omega (arith, count) in
    (some, (found_at c.args.tag c.loop-place.place e.tags d some (c.loop-place.invariant e is bytes count) (ap (λ (t : Tag). t.tag == c.args.tag) (sym (c.tag_at.ensures e is bytes some d)) ∙ is_equal _ _ c.if-tag_at-tag.true)).1)

pub loop-place-preserved : goal.loop-place-preserved
loop-place-preserved c e is bytes count =
    let d = c.tag_at.result in
    let some : c.loop-place.place < length e.tags = omega (arith, count) in
    passed c.args.tag c.loop-place.place e.tags d some (c.loop-place.invariant e is bytes count) (ap (λ (t : Tag). t.tag == c.args.tag) (sym (c.tag_at.ensures e is bytes some d)) ∙ not_equal _ _ c.if-tag_at-tag.false)
