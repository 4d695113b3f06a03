use Rattle.std.proofs.Common.{◌≡◌, ◌+◌, length, Some, ap, ◌∙◌, arith}
use Rattle.object_pool.specs.Places.{rows_of}
use Rattle.object_words.specs.Tags.{with_tag}
use Rattle.index_entry.specs.Layouts.{entry_bytes}
use Rattle.index_entry.proofs.PieceLemmas.{length-number_bytes}
use Rattle.index_entry.proofs.TagLemmas.{length-tag_bytes}
use Rattle.index_entry.proofs.EntryLemmas.{length-entry_bytes, row_most}
use Rattle.cls_index.proofs.RawLemmas.{length-raw, raw}
use Rattle.cls_index.proofs.RowLemmas.{count_row, more, more_row, length-with_tag, roomier, tags_at, tags_in, keeps_then}
use Rattle.omap_pages.specs.Rows.{value_at}
use Rattle.class_words.proofs.WorksLemmas.{works_on_rows}
use Rattle.cls_index.specs.Rows.{KeepsToName}
use Rattle.cls_index.proofs.rows.push_tag.Goals as goal

pub splice-requires : goal.splice-requires
splice-requires c =
    let r = c.requires.there in
    let e = r.0 in
    let has = roomier (rows_of c.args.shard.now) (rows_of c.widen_row.new.self) c.args.name.now (Some e) c.widen_row.ensures.readied.kept.rows c.widen_row.ensures.readied.kept.rooms r.1 in
    let at = tags_at c.args.front.now e r.2 in
    let tags = tags_in c.args.front.now e r.2 in
    let most = row_most e.row r.1.entry.row_fits in
    let sixteen : length c.write_tag.result ≡ 16 = ap length c.write_tag.ensures.form ∙ length-tag_bytes c.args.tag.now in
    (entry_bytes e, has.row, omega (arith, length-entry_bytes e, at, tags), omega (arith, length-entry_bytes e, tags, sixteen, most, c.in_ok-widen_row.ensures.ok))

pub splice-requires-2 : goal.splice-requires-2
splice-requires-2 c =
    let r = c.requires.there in
    let e = r.0 in
    let t = c.args.tag.now in
    let has = roomier (rows_of c.args.shard.now) (rows_of c.widen_row.new.self) c.args.name.now (Some e) c.widen_row.ensures.readied.kept.rows c.widen_row.ensures.readied.kept.rooms r.1 in
    let at = tags_at c.args.front.now e r.2 in
    let tags = tags_in c.args.front.now e r.2 in
    let most = row_most e.row r.1.entry.row_fits in
    let row = more_row (rows_of c.widen_row.new.self) (rows_of c.splice.new.shard) c.args.name.now e t c.write_tag.result _ _ has c.write_tag.ensures.form (omega (arith, at, tags)) (omega arith) c.splice.ensures.row in
    let n = length-raw e.version e.revision e.row (length e.tags) (with_tag t e.tags) in
    let eight : length c.number-count.result ≡ 8 = ap length c.number-count.ensures ∙ length-number_bytes _ in
    (raw e.version e.revision e.row (length e.tags) (with_tag t e.tags), row, omega (arith, n, at, length-with_tag e.tags t), omega (arith, n, length-with_tag e.tags t, eight, tags, most, c.in_ok-widen_row.ensures.ok, c.splice.ensures.room))

pub returns-clause-ok : goal.returns-clause-ok
returns-clause-ok c e has read below =
    let t = c.args.tag.now in
    let at = tags_at c.args.front.now e read in
    let tags = tags_in c.args.front.now e read in
    let long = length-with_tag e.tags t in
    let wide = roomier (rows_of c.args.shard.now) (rows_of c.widen_row.new.self) c.args.name.now (Some e) c.widen_row.ensures.readied.kept.rows c.widen_row.ensures.readied.kept.rooms has in
    let row = more_row (rows_of c.widen_row.new.self) (rows_of c.splice.new.shard) c.args.name.now e t c.write_tag.result _ _ wide c.write_tag.ensures.form (omega (arith, at, tags)) (omega arith) c.splice.ensures.row in
    let counted = count_row (rows_of c.splice.new.shard) (rows_of c.splice-2.new.shard) c.args.name.now e (length e.tags) (c.args.front.now.tags + 1) (with_tag t e.tags) c.number-count.result _ _ row c.number-count.ensures (omega (arith, at)) (omega arith) c.splice-2.ensures.row in
    let count : c.args.front.now.tags + 1 ≡ length (with_tag t e.tags) = omega (arith, tags, long) in
    record {
      row = counted ∙ ap (λ n. Some (raw e.version e.revision e.row n (with_tag t e.tags))) count;
      entry = more e t has.entry c.write_tag.ensures.fits (omega (arith, tags, c.requires.few)) below;
      room = omega (arith, long, tags, c.in_ok-widen_row.ensures.ok, c.splice.ensures.room, c.splice-2.ensures.room);
    }

pub returns-clause-only : goal.returns-clause-only
returns-clause-only c =
    let name = c.args.name.now in
    let widened : KeepsToName c.args.shard.now c.widen_row.new.self name = record {
      works = works_on_rows c.args.shard.now c.widen_row.new.self c.widen_row.ensures.readied.change;
      others = λ q differs. ap (λ r. value_at r q) c.widen_row.ensures.readied.kept.rows;
      rooms = λ q differs. c.widen_row.ensures.readied.kept.rooms q;
      spare = c.widen_row.ensures.spare;
    } in
    keeps_then _ _ _ name widened (keeps_then _ _ _ name c.splice.ensures.only c.splice-2.ensures.only)
