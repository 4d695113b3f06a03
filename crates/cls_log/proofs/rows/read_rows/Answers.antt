use Rattle.std.proofs.Common.{◌≡◌, ◌+◌, ◌++◌, ◌∷◌, [], List, suc, take, sym, ap, ap₂, ◌∙◌, arith}
use Rattle.object_words.specs.declared.log.LogRow.{LogRow}
use Rattle.cls_log.proofs.RowLemmas.{row_at}
use Rattle.cls_log.proofs.rows.read_rows.Goals as goal

pub read_row-requires : goal.read_row-requires
read_row-requires c =
    let r = row_at c.requires.0 c.args.rows.now c.loop-row.row-index c.row-item.result c.requires.1 c.requires.2 c.loop-row-test.true c.row-item.is in (r.row, r.fit, r.same)

pub loop-row-preserved : goal.loop-row-preserved
loop-row-preserved c kept all here =
    let r = row_at kept c.args.rows.now c.loop-row.row-index c.row-item.result all here c.loop-row-test.true c.row-item.is in
    let read = c.in_ok-row.ensures r.row r.fit r.same in
    let one : c.loop-row.row-index + 1 ≡ suc c.loop-row.row-index = omega arith in
    c.in_ok-push.ensures.ok ∙ ap₂ (λ (rows : List LogRow) (row : LogRow). rows ++ row ∷ []) (c.loop-row.invariant kept all here) read ∙ sym (ap (λ n. take n kept) one ∙ r.more)
