use Rattle.std.proofs.Common.{length, Some, ap, ◌∙◌, arith, append-nil}
use Rattle.omap_pages.specs.Rows.{value_at}
use Rattle.index_entry.proofs.EntryLemmas.{length-entry_bytes, row_most}
use Rattle.class_words.proofs.WorksLemmas.{works_on_rows}
use Rattle.cls_index.specs.Rows.{KeepsToName}
use Rattle.cls_index.proofs.RawLemmas.{raw_first}
use Rattle.cls_index.proofs.RowLemmas.{keeps_then}
use Rattle.cls_index.proofs.rows.put_tagged.Goals as goal

pub splice-requires : goal.splice-requires
splice-requires c =
    let r = c.requires in
    let here = ap (λ rows. value_at rows c.args.name.now) c.widen_row.ensures.readied.kept.rows ∙ r.2 in
    (r.0, here, omega (arith, r.3), omega (arith, r.3, ap length r.5, length-entry_bytes r.1, row_most r.1.row r.4.row_fits, r.6, c.in_ok-widen_row.ensures.ok))

pub returns-clause-ok : goal.returns-clause-ok
returns-clause-ok c old e here count is bytes one =
    let wide = ap (λ rows. value_at rows c.args.name.now) c.widen_row.ensures.readied.kept.rows ∙ here in
    record {
      row = c.splice.ensures.row old wide ∙ ap Some (raw_first old c.args.bytes.now _ (omega (arith, count)) ∙ append-nil c.args.bytes.now ∙ bytes);
      entry = is;
      room = omega (arith, one, c.in_ok-widen_row.ensures.ok, c.splice.ensures.room);
    }

pub returns-clause-only : goal.returns-clause-only
returns-clause-only c =
    let name = c.args.name.now in
    let widened : KeepsToName c.args.shard.now c.widen_row.new.self name = record {
      works = works_on_rows c.args.shard.now c.widen_row.new.self c.widen_row.ensures.readied.change;
      others = λ q differs. ap (λ r. value_at r q) c.widen_row.ensures.readied.kept.rows;
      rooms = λ q differs. c.widen_row.ensures.readied.kept.rooms q;
      spare = c.widen_row.ensures.spare;
    } in
    keeps_then _ _ _ name widened c.splice.ensures.only
