use Rattle.std.proofs.Common.{◌≡◌, ◌+◌, ◌-◌, ◌/◌, true, length, refl, sym, subst, arith}
use Rattle.object_words.specs.Tags.{tags_rise}
use Rattle.object_words.specs.Entries.{EntryView}
use Rattle.index_entry.specs.Layouts.{IsEntry, entry_bytes, row_bytes}
use Rattle.index_entry.proofs.EntryLemmas.{entry_read, length-entry, same_entry, tags_here}
use Rattle.index_entry.proofs.codec.read_entry.Goals as goal

pub overflow_sub-bytes : goal.overflow_sub-bytes
overflow_sub-bytes c = omega (arith, length-entry c.args.bytes.now c.requires.0 c.requires.2, c.tags_start-start.ensures c.requires.0 c.requires.1 c.requires.2)

pub tags_in-requires : goal.tags_in-requires
tags_in-requires c = omega (arith, length-entry c.args.bytes.now c.requires.0 c.requires.2, c.tags_start-start.ensures c.requires.0 c.requires.1 c.requires.2)

pub u64_at-requires : goal.u64_at-requires
u64_at-requires c = omega (arith, length-entry c.args.bytes.now c.requires.0 c.requires.2)

pub u64_at-requires-2 : goal.u64_at-requires-2
u64_at-requires-2 c = omega (arith, length-entry c.args.bytes.now c.requires.0 c.requires.2)

same : (c : goal.After-u64_at-2) (e : EntryView) → IsEntry e → c.args.bytes.now ≡ entry_bytes e
    → record { version = c.u64_at.result; revision = c.u64_at-2.result; row = c.in_ok-row.row; tags = c.in_ok-tags.tags } ≡ e
same c e is here =
    let r = entry_read c.args.bytes.now e (19 + length (row_bytes e.row)) refl here in
    let start = c.tags_start-start.ensures e is here in
    let count : length e.tags ≡ (length c.args.bytes.now - c.tags_start-start.result) / 16 = omega (arith, length-entry c.args.bytes.now e here, start) in
    same_entry _ e (c.u64_at.ensures.once e.version _ is.version_fits r.at_3) (c.u64_at-2.ensures.once e.revision _ is.revision_fits r.at_11)
    (c.in_ok-row.ensures e is here)
    (c.in_ok-tags.ensures e.tags is.tags_fit count (tags_here c.args.bytes.now e here _ start))

pub returns : goal.returns
returns c e is here = let s = same c e is here in λ i. (c.args.name, s i)

pub invariant_of-result : goal.invariant_of-result
invariant_of-result c =
    subst (λ (e : EntryView). tags_rise e.tags ≡ true) (sym (same c c.requires.0 c.requires.1 c.requires.2)) c.requires.1.rise
