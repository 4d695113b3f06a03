use Rattle.std.proofs.Common.{ap, ◌∙◌, arith}
use Rattle.omap_pages.specs.Rows.{key_cmp}
use Rattle.byte_order.proofs.WordLemmas.{cmp_by_unlike}
use Rattle.omap_pages.proofs.row.Row.cmp_key.Goals as goal

-- the heads differ
pub returns-else-self-head : goal.returns-else-self-head
returns-else-self-head c =
    cmp_by_unlike c.self.inside.key.items c.args.key.now c.self.inside.head c.args.head c.cmp.result c.self.invariant c.requires (λ same. omega (arith, c.if-self-head.false, same)) c.cmp.ensures
    ∙ ap (λ row. key_cmp row.0 c.args.key.now) c.self.view_is
