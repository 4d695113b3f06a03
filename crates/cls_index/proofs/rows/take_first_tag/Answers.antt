use Rattle.std.proofs.Common.{◌≡◌, ◌-◌, length, Some, ap, ◌∙◌, arith}
use Rattle.std.specs.List.{remove}
use Rattle.std.proofs.lemmas.List.Edits.{length-remove}
use Rattle.object_pool.specs.Places.{rows_of}
use Rattle.index_entry.specs.Layouts.{entry_bytes}
use Rattle.index_entry.proofs.PieceLemmas.{length-number_bytes}
use Rattle.index_entry.proofs.EntryLemmas.{length-entry_bytes, row_most}
use Rattle.cls_index.proofs.RawLemmas.{raw}
use Rattle.cls_index.proofs.RowLemmas.{fewer, first_row, tags_at, tags_in}
use Rattle.cls_index.proofs.rows.take_first_tag.Goals as goal

pub splice-requires : goal.splice-requires
splice-requires c =
    let r = c.requires.there in
    let e = r.0 in
    let at = tags_at c.args.front.now e r.2 in
    let most = row_most e.row r.1.entry.row_fits in
    let eight : length c.number-count.result ≡ 8 = ap length c.number-count.ensures ∙ length-number_bytes _ in
    (entry_bytes e, r.1.row, omega (arith, length-entry_bytes e, at, r.3), omega (arith, length-entry_bytes e, r.1.room, most, eight))

pub returns-clause-entry : goal.returns-clause-entry
returns-clause-entry c e has read some =
    let at = tags_at c.args.front.now e read in
    let tags = tags_in c.args.front.now e read in
    let fewer_by_one = length-remove e.tags 0 some in
    let row = first_row (rows_of c.args.shard.now) (rows_of c.splice.new.shard) c.args.name.now e (c.args.front.now.tags - 1) c.number-count.result _ _ has some c.number-count.ensures (omega (arith, at)) (omega (arith, at)) c.splice.ensures.row in
    let count : c.args.front.now.tags - 1 ≡ length (remove e.tags 0) = omega (arith, tags, fewer_by_one) in
    record {
      row = row ∙ ap (λ n. Some (raw e.version e.revision e.row n (remove e.tags 0))) count;
      entry = fewer e 0 has.entry some;
      room = omega (arith, fewer_by_one, has.room, c.splice.ensures.room);
    }
