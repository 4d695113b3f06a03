use Rattle.std.proofs.Common.{◌≡◌, ◌-◌, length, Some, ap, ◌∙◌, arith}
use Rattle.std.specs.List.{remove}
use Rattle.std.proofs.lemmas.List.Edits.{length-remove}
use Rattle.object_pool.specs.Places.{rows_of}
use Rattle.index_entry.specs.Layouts.{entry_bytes}
use Rattle.index_entry.proofs.PieceLemmas.{length-number_bytes}
use Rattle.index_entry.proofs.EntryLemmas.{length-entry_bytes, row_most}
use Rattle.cls_index.proofs.RawLemmas.{length-raw, raw}
use Rattle.cls_index.proofs.RowLemmas.{count_row, fewer, less_row, tags_at, tags_in}
use Rattle.cls_index.proofs.rows.take_tag.Goals as goal

pub splice-requires : goal.splice-requires
splice-requires c =
    let r = c.requires.there in
    let e = r.0 in
    let at = tags_at c.args.front.now e r.2 in
    let most = row_most e.row r.1.entry.row_fits in
    (entry_bytes e, r.1.row, omega (arith, length-entry_bytes e, at, r.3), omega (arith, length-entry_bytes e, r.1.room, most))

pub splice-requires-2 : goal.splice-requires-2
splice-requires-2 c =
    let r = c.requires.there in
    let e = r.0 in
    let p = c.args.place in
    let at = tags_at c.args.front.now e r.2 in
    let most = row_most e.row r.1.entry.row_fits in
    let row = less_row (rows_of c.args.shard.now) (rows_of c.splice.new.shard) c.args.name.now e p _ _ r.1 r.3 (omega (arith, at)) (omega arith) c.splice.ensures.row in
    let n = length-raw e.version e.revision e.row (length e.tags) (remove e.tags p) in
    let fewer = length-remove e.tags p r.3 in
    let eight : length c.number-count.result ≡ 8 = ap length c.number-count.ensures ∙ length-number_bytes _ in
    (raw e.version e.revision e.row (length e.tags) (remove e.tags p), row, omega (arith, n, at), omega (arith, n, fewer, eight, r.1.room, most, c.splice.ensures.room))

pub returns-clause-entry : goal.returns-clause-entry
returns-clause-entry c e has read some =
    let p = c.args.place in
    let at = tags_at c.args.front.now e read in
    let tags = tags_in c.args.front.now e read in
    let fewer_by_one = length-remove e.tags p some in
    let row = less_row (rows_of c.args.shard.now) (rows_of c.splice.new.shard) c.args.name.now e p _ _ has some (omega (arith, at)) (omega arith) c.splice.ensures.row in
    let counted = count_row (rows_of c.splice.new.shard) (rows_of c.splice-2.new.shard) c.args.name.now e (length e.tags) (c.args.front.now.tags - 1) (remove e.tags p) c.number-count.result _ _ row c.number-count.ensures (omega (arith, at)) (omega arith) c.splice-2.ensures.row in
    let count : c.args.front.now.tags - 1 ≡ length (remove e.tags p) = omega (arith, tags, fewer_by_one) in
    record {
      row = counted ∙ ap (λ n. Some (raw e.version e.revision e.row n (remove e.tags p))) count;
      entry = fewer e p has.entry some;
      room = omega (arith, fewer_by_one, has.room, c.splice.ensures.room, c.splice-2.ensures.room);
    }
