use Rattle.std.proofs.Common.{◌≡◌, ◌-◌, ◌++◌, ◌∷◌, [], length, take, drop, refl, sym, ap, ◌∙◌, arith}
use Rattle.std.proofs.lemmas.List.{length-drop, length-take}
use Rattle.object_words.specs.Entries.{EntryView}
use Rattle.index_entry.specs.Numbers.{number_bytes}
use Rattle.index_entry.specs.Layouts.{IsEntry, entry_bytes, flag, row_bytes, tag_bytes}
use Rattle.index_entry.proofs.PieceLemmas.{IsPut, next_long, put_as, put_long, put_more}
use Rattle.index_entry.proofs.TagLemmas.{length-tag_bytes}
use Rattle.index_entry.proofs.EntryLemmas.{length-entry_bytes, one_tag_entry, row_most, tagged_flat, untagged}
use Rattle.index_entry.proofs.entry.write_tagged.Goals as goal

pub overflow_sub-count_start : goal.overflow_sub-count_start
overflow_sub-count_start c = omega (arith, (untagged c.args.bytes.now c.requires.0 c.requires.2 c.requires.3).long)

pub slice_bounds-put-end-2 : goal.slice_bounds-put-end-2
slice_bounds-put-end-2 c = omega (arith, (untagged c.args.bytes.now c.requires.0 c.requires.2 c.requires.3).long, length-take 11 c.args.bytes.now)

pub slice_bounds-put-count : goal.slice_bounds-put-count
slice_bounds-put-count c = omega (arith, (untagged c.args.bytes.now c.requires.0 c.requires.2 c.requires.3).long)

pub slice_bounds-put-start : goal.slice_bounds-put-start
slice_bounds-put-start c = omega (arith, (untagged c.args.bytes.now c.requires.0 c.requires.2 c.requires.3).long)

pub put-at-requires-3 : goal.put-at-requires-3
unfolding number_bytes
put-at-requires-3 c =
    let bs = c.args.bytes.now in
    let u = untagged bs c.requires.0 c.requires.2 c.requires.3 in
    omega (
      arith,
      u.long,
      row_most c.requires.0.row c.requires.1.row_fits,
      c.put-at.ensures.end,
      c.put-at-2.ensures.end,
      length-take 11 bs,
      ap length c.to_be_bytes.ensures,
      length-take (length bs - 8 - 19) (drop 19 bs),
    )

pub put-at-requires-4 : goal.put-at-requires-4
unfolding number_bytes
put-at-requires-4 c =
    let bs = c.args.bytes.now in
    let u = untagged bs c.requires.0 c.requires.2 c.requires.3 in
    omega (
      arith,
      u.long,
      row_most c.requires.0.row c.requires.1.row_fits,
      c.put-at.ensures.end,
      c.put-at-2.ensures.end,
      c.put-at-3.ensures.end,
      length-take 11 bs,
      ap length c.to_be_bytes.ensures,
      length-take (length bs - 8 - 19) (drop 19 bs),
      ap length c.to_be_bytes-2.ensures,
    )

pub put-requires : goal.put-requires
unfolding number_bytes
put-requires c =
    let bs = c.args.bytes.now in
    let u = untagged bs c.requires.0 c.requires.2 c.requires.3 in
    omega (
      arith,
      u.long,
      row_most c.requires.0.row c.requires.1.row_fits,
      c.put-at.ensures.end,
      c.put-at-2.ensures.end,
      c.put-at-3.ensures.end,
      c.put-at-4.ensures.end,
      length-take 11 bs,
      ap length c.to_be_bytes.ensures,
      length-take (length bs - 8 - 19) (drop 19 bs),
      ap length c.to_be_bytes-2.ensures,
      ap length c.write_tag.ensures.form,
      length-tag_bytes c.args.tag.now,
    )

-- what is written, piece by piece
whole : (c : goal.After-put) (e : EntryView) → IsEntry e → c.args.bytes.now ≡ entry_bytes e → e.tags ≡ []
    → IsPut [] c.args.out.now (entry_bytes (record e { revision = c.args.revision; tags = c.args.tag.now ∷ [] })) c.put.new.out
unfolding number_bytes
whole c e is here none =
    let q = c.args.out.now in
    let bs = c.args.bytes.now in
    let u = untagged bs e here none in
    let n : length bs - 8 - 19 ≡ length (row_bytes e.row) = omega (arith, u.long) in
    let r1 = take 11 bs in
    let r2 = c.to_be_bytes.result in
    let r3 = take (length bs - 8 - 19) (drop 19 bs) in
    let r4 = c.to_be_bytes-2.result in
    let r5 = c.write_tag.result in
    let d2 = r1 ++ r2 in
    let d3 = d2 ++ r3 in
    let d4 = d3 ++ r4 in
    let g1 = c.put-at.ensures.written [] q refl refl in
    let l1 = put_long [] r1 0 _ refl c.put-at.ensures.end in
    let l2 = next_long [] r1 r2 _ _ l1 c.put-at-2.ensures.end in
    let l3 = next_long [] d2 r3 _ _ l2 c.put-at-3.ensures.end in
    let l4 = next_long [] d3 r4 _ _ l3 c.put-at-4.ensures.end in
    let g2 = put_more [] q r1 r2 _ (c.put-at-2.ensures.written r1 (drop (length r1) q) l1 g1) in
    let g3 = put_more [] q d2 r3 _ (c.put-at-3.ensures.written d2 (drop (length d2) q) l2 g2) in
    let g4 = put_more [] q d3 r4 _ (c.put-at-4.ensures.written d3 (drop (length d3) q) l3 g3) in
    let g5 = put_more [] q d4 r5 _ (c.put.ensures.written d4 (drop (length d4) q) l4 g4) in
    let first : r1 ≡ 238 ∷ 1 ∷ flag e.row.exists ∷ number_bytes e.version = u.first in
    let revision : r2 ≡ number_bytes c.args.revision = c.to_be_bytes.ensures in
    let row : r3 ≡ row_bytes e.row = ap (λ k. take k (drop 19 bs)) n ∙ u.row in
    let one : r4 ≡ number_bytes 1 = c.to_be_bytes-2.ensures in
    let tag : r5 ≡ tag_bytes c.args.tag.now = c.write_tag.ensures.form in
    let done : d4 ++ r5 ≡ entry_bytes (record e { revision = c.args.revision; tags = c.args.tag.now ∷ [] }) =
    (λ i. (((first i ++ revision i) ++ row i) ++ one i) ++ tag i) ∙ tagged_flat (number_bytes e.version) (number_bytes c.args.revision) (row_bytes e.row) (number_bytes 1) (tag_bytes c.args.tag.now) 238 1 (flag e.row.exists) in
    put_as [] q (d4 ++ r5) _ _ done g5

pub returns-clause-len : goal.returns-clause-len
unfolding number_bytes
returns-clause-len c e is here none =
    let bs = c.args.bytes.now in
    let u = untagged bs e here none in
    omega (
      arith,
      u.long,
      c.put-at.ensures.end,
      c.put-at-2.ensures.end,
      c.put-at-3.ensures.end,
      c.put-at-4.ensures.end,
      c.put.ensures.end,
      length-take 11 bs,
      ap length c.to_be_bytes.ensures,
      length-take (length bs - 8 - 19) (drop 19 bs),
      length-drop 19 bs,
      ap length c.to_be_bytes-2.ensures,
      ap length c.write_tag.ensures.form,
      length-tag_bytes c.args.tag.now,
      length-entry_bytes (record e { revision = c.args.revision; tags = c.args.tag.now ∷ [] }),
    )

pub returns-clause-written : goal.returns-clause-written
returns-clause-written c e is here none =
    let new = entry_bytes (record e { revision = c.args.revision; tags = c.args.tag.now ∷ [] }) in
    whole c e is here none ∙ ap (λ n. new ++ drop n c.args.out.now) (sym (returns-clause-len c e is here none))

pub returns-clause-fits : goal.returns-clause-fits
returns-clause-fits c e is none = one_tag_entry e c.args.revision c.args.tag.now is (omega arith) c.write_tag.ensures.fits
