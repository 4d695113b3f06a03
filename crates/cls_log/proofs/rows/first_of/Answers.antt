use Rattle.std.proofs.Common.{◌≡◌, [], IsSome, take, refl, sym, ap, ◌∙◌, subst}
use Rattle.omap_pages.specs.Rows.{rows_after}
use Rattle.class_words.specs.LogRows.{log_rows}
use Rattle.cls_log.proofs.RowLemmas.{first_row}
use Rattle.cls_log.proofs.rows.first_of.Goals as goal

pub unwrap-requires : goal.unwrap-requires
unwrap-requires c =
    let l = c.requires.0 in
    let is = c.requires.1 in
    let page : c.as_slice.result.now ≡ take 1 (rows_after (log_rows l.rows) []) = c.as_slice.ensures ∙ c.in_ok-page.ensures.rows ∙ ap (λ z. take 1 (rows_after z [])) is.rows in
    let r = first_row l.rows l.last c.as_slice.result.now c.in-Some.row.now is.is_log.last_fits is.is_log.rows page c.in-Some.ensures.item.3.0 c.in-Some.ensures.item.1 in
    let found = c.position_of.ensures.exact r.position r.fits (c.as_slice-in-Some.ensures ∙ r.key_is) in
    subst IsSome (sym found) refl
