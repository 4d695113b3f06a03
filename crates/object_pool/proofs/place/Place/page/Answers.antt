use Rattle.std.proofs.Common.{◌≤◌, ◌↔◌, IfOk, IsTrue, length, ◌∙◌, subst}
use Rattle.omap_pages.specs.Rows.{rows_after}
use Rattle.object_pool.proofs.place.Place.page.Goals as goal

pub returns-clause-end : goal.returns-clause-end
returns-clause-end c =
    subst (λ z. IfOk c.page.result (λ page. IsTrue page.end ↔ (length (rows_after z.rows c.args.after.now) ≤ c.args.limit))) (c.rows.ensures ∙ c.parts.ensures.rows) c.page.ensures.end
