use Rattle.std.proofs.Common.{◌++◌, List, ℕ, length, take, ap, ◌∙◌, arith, length-append}
use Rattle.std.proofs.lemmas.List.{length-take}
use Rattle.object_words.specs.Entries.{EntryView}
use Rattle.index_entry.specs.Layouts.{tags_bytes}
use Rattle.index_entry.proofs.TagLemmas.{length-tags_bytes, one_tag_fits, one_tag_more}
use Rattle.index_entry.proofs.EntryLemmas.{length-front_bytes, row_most}
use Rattle.index_entry.proofs.codec.encode_entry.Goals as goal

pub loop-tag-preserved : goal.loop-tag-preserved
loop-tag-preserved c =
    let tags = c.as_slice-tags.result.now in (
      c.in_ok-extend.ensures.ok ∙ ap (λ z. c.loop-tag.bytes ++ z) c.write_tag.ensures.form ∙ one_tag_more _ c.loop-tag.bytes tags c.loop-tag.tag-index _ c.loop-tag-test.true c.loop-tag.invariant.0,
      one_tag_fits tags c.loop-tag.tag-index _ c.loop-tag-test.true c.loop-tag.invariant.1 c.write_tag.ensures.fits,
    )

pub returns-clause-most : goal.returns-clause-most
returns-clause-most c =
    let tags = c.as_slice-tags.result.now in
    let read = take c.loop-tag.tag-index tags in
    let front = ap length c.in_ok-bytes.ensures in
    let behind = ap length c.loop-tag.invariant.0 in
    let viewed = ap (λ (v : List ℕ × EntryView). length v.1.tags) c.entry.view_is in
    let slice = ap length c.as_slice-tags.ensures in
    omega (
      arith,
      front,
      behind,
      viewed,
      slice,
      length-append c.in_ok-bytes.bytes (tags_bytes read),
      length-tags_bytes read,
      length-take c.loop-tag.tag-index tags,
      length-take c.write_front-len.result c.write_front-len.new.out,
      c.write_front-len.ensures.len,
      length-front_bytes c.entry.inside.version c.entry.inside.revision c.entry.inside.row (length tags),
      row_most c.entry.inside.row c.write_front-len.ensures.bounds,
    )
