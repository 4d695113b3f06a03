use Rattle.std.proofs.Common.{◌≡◌, ◌^◌, ◌<◌, ◌≤◌, ◌↔◌, ℕ, List, true, length, take, ap, ap₂, ◌∙◌, subst, arith}
use Rattle.omap_pages.specs.Rows.{Rows, rows_after}
use Rattle.object_words.specs.Logs.{Log, first_position, rows_above}
use Rattle.index_entry.specs.LogRows.{log_key}
use Rattle.class_words.specs.LogRows.{log_rows}
use Rattle.cls_log.proofs.RowLemmas.{not_trimmed, page_end, page_fits, page_rows}
use Rattle.cls_log.proofs.data_log.after.Goals as goal

-- the rows after the key of the position
same_rows : (rows : Rows) (key : List ℕ) (l : Log) (position : ℕ) → rows ≡ log_rows l.rows → key ≡ log_key position → rows_after rows key ≡ rows_after (log_rows l.rows) (log_key position)
same_rows rows key l position here at = ap₂ rows_after here at

pub read_rows-requires : goal.read_rows-requires
read_rows-requires c =
    let l = c.requires.0 in
    let is = c.requires.1 in (
      take c.args.limit (rows_above l.rows c.args.position),
      page_fits l c.args.position c.args.limit is.is_log,
      c.as_slice.ensures
          ∙ c.in-Ok-page.ensures.rows
          ∙ ap (take c.args.limit) (same_rows _ _ l c.args.position is.rows c.log_key.ensures)
          ∙ page_rows l c.args.position c.args.limit is.is_log c.ranges.position.fits,
    )

pub returns : goal.returns
returns c l is =
    let fits : c.args.position < 2 ^ 64 = c.ranges.position.fits in
    let first : c.in-Ok.first ≡ first_position l.rows l.last = c.in-Ok.ensures l is in
    let same = same_rows _ _ l c.args.position is.rows c.log_key.ensures in
    let rows = c.in-Ok-read_rows.ensures (take c.args.limit (rows_above l.rows c.args.position)) (page_fits l c.args.position c.args.limit is.is_log)
    (c.as_slice.ensures ∙ c.in-Ok-page.ensures.rows ∙ ap (take c.args.limit) same ∙ page_rows l c.args.position c.args.limit is.is_log fits) in
    let end = page_end l c.args.position c.args.limit c.in-Ok-page.page.end is.is_log fits (subst (λ z. c.in-Ok-page.page.end ≡ true ↔ (length z ≤ c.args.limit)) same c.in-Ok-page.ensures.end) in
    let last = c.last_of.ensures l is in (
      not_trimmed l c.args.position (omega (arith, c.if-saturating_add-first.false, c.saturating_add.ensures, first)),
      (λ i. record { rows = rows i; last = last i; first = first i; tags = 0; end = end i }),
      is,
    )
