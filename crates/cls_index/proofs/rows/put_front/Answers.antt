use Rattle.std.proofs.Common.{◌≡◌, sym, length, ap, ◌∙◌, arith, take}
use Rattle.std.proofs.lemmas.List.{take_at}
use Rattle.object_pool.specs.Places.{rows_of}
use Rattle.index_entry.specs.Layouts.{entry_bytes, front_bytes}
use Rattle.index_entry.proofs.EntryLemmas.{length-entry_bytes, length-front_bytes, row_most}
use Rattle.cls_index.proofs.RowLemmas.{front_row, rewritten, tags_at, tags_in}
use Rattle.cls_index.proofs.rows.put_front.Goals as goal

pub splice-requires : goal.splice-requires
splice-requires c =
    let e = c.requires.0 in
    let has = c.requires.1 in
    let f = c.args.front.now in
    let row = c.args.row.now in
    let w = c.write_front-len.ensures in
    let at = tags_at f e c.requires.2 in
    let bytes : take c.write_front-len.result c.write_front-len.new.out ≡ front_bytes c.args.version c.args.revision row f.tags = ap (take c.write_front-len.result) w.written ∙ take_at _ _ _ (sym w.len) in
    let long = ap length bytes ∙ length-front_bytes c.args.version c.args.revision row f.tags in
    (entry_bytes e, has.row, omega (arith, length-entry_bytes e, at), omega (arith, length-entry_bytes e, at, long, row_most row w.bounds, has.room))

pub returns-clause-entry : goal.returns-clause-entry
returns-clause-entry c e has read =
    let f = c.args.front.now in
    let row = c.args.row.now in
    let w = c.write_front-len.ensures in
    let bytes : take c.write_front-len.result c.write_front-len.new.out ≡ front_bytes c.args.version c.args.revision row f.tags = ap (take c.write_front-len.result) w.written ∙ take_at _ _ _ (sym w.len) in
    record {
      row = front_row (rows_of c.args.shard.now) (rows_of c.splice.new.shard) c.args.name.now e c.args.version c.args.revision f.tags row _ _ has bytes (tags_in f e read) (omega (arith, tags_at f e read)) c.splice.ensures.row;
      entry = rewritten e c.args.version c.args.revision row has.entry (omega arith) (omega arith) w.bounds;
      room = omega (arith, has.room, c.splice.ensures.room);
    }
