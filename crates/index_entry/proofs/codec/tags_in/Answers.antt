use Rattle.std.proofs.Common.{◌++◌, ◌∷◌, [], List, refl, sym, ap₂, ◌∙◌, arith}
use Rattle.std.proofs.lemmas.List.{take_more}
use Rattle.object_words.specs.declared.entry.Tag.{Tag}
use Rattle.index_entry.proofs.TagLemmas.{tag_read}
use Rattle.index_entry.proofs.codec.tags_in.Goals as goal

pub loop-place-preserved : goal.loop-place-preserved
loop-place-preserved c all fit count here =
    let d = c.tag_in.result in
    let read = tag_read c.args.bytes.now c.args.start _ c.loop-place.place all c.tag_in.result d fit (omega arith) here refl c.tag_in.ensures.once in
    c.in_ok-push.ensures.ok ∙ ap₂ (λ (ts : List Tag) (t : Tag). ts ++ t ∷ []) (c.loop-place.invariant all fit count here) read
    ∙ sym (take_more all c.loop-place.place d (omega arith))
