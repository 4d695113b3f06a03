use Rattle.std.proofs.Common.{◌≡◌, length, ap, ◌∙◌, arith}
use Rattle.object_pool.specs.Places.{rows_of}
use Rattle.index_entry.specs.Layouts.{entry_bytes}
use Rattle.index_entry.proofs.PieceLemmas.{length-number_bytes}
use Rattle.index_entry.proofs.EntryLemmas.{length-entry_bytes, row_most}
use Rattle.cls_index.proofs.RowLemmas.{revised, revision_row}
use Rattle.cls_index.proofs.rows.put_revision.Goals as goal

pub splice-requires : goal.splice-requires
splice-requires c =
    let e = c.requires.0 in
    let has = c.requires.1 in
    let most = row_most e.row has.entry.row_fits in
    let eight : length c.number.result ≡ 8 = ap length c.number.ensures ∙ length-number_bytes _ in
    (entry_bytes e, has.row, omega (arith, length-entry_bytes e), omega (arith, length-entry_bytes e, has.room, most, eight))

pub returns-clause-entry : goal.returns-clause-entry
returns-clause-entry c e has = record {
  row = revision_row (rows_of c.args.shard.now) (rows_of c.splice.new.shard) c.args.name.now e c.args.revision c.number.result has c.number.ensures c.splice.ensures.row;
  entry = revised e c.args.revision has.entry (omega arith);
  room = omega (arith, has.room, c.splice.ensures.room);
}
