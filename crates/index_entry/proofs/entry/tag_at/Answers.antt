use Rattle.std.proofs.Common.{◌+◌, length, refl, arith}
use Rattle.index_entry.specs.Layouts.{row_bytes}
use Rattle.index_entry.proofs.EntryLemmas.{entry_read, length-entry}
use Rattle.index_entry.proofs.TagLemmas.{tag_read}
use Rattle.index_entry.proofs.entry.tag_at.Goals as goal

pub overflow_mul-place : goal.overflow_mul-place
overflow_mul-place c = omega (arith, length-entry c.args.bytes.now c.requires.0 c.requires.2, c.requires.3)

pub overflow_add-tags_start : goal.overflow_add-tags_start
overflow_add-tags_start c = omega (arith, length-entry c.args.bytes.now c.requires.0 c.requires.2, c.requires.3, c.tags_start.ensures c.requires.0 c.requires.1 c.requires.2)

pub tag_in-requires : goal.tag_in-requires
tag_in-requires c = omega (arith, length-entry c.args.bytes.now c.requires.0 c.requires.2, c.requires.3, c.tags_start.ensures c.requires.0 c.requires.1 c.requires.2)

pub returns : goal.returns
returns c e is here some d =
    let r = entry_read c.args.bytes.now e (19 + length (row_bytes e.row)) refl here in
    let start = c.tags_start.ensures e is here in
    tag_read c.args.bytes.now (19 + length (row_bytes e.row) + 8) _ c.args.place e.tags c.tag_in.result d is.tags_fit some r.at_tags (omega (arith, start)) c.tag_in.ensures.once
