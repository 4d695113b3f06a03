use Rattle.std.proofs.Common.{◌≡◌, length, sym, ap, ◌∙◌}
use Rattle.std.proofs.lemmas.List.{nil_from_length, length-map}
use Rattle.omap_pages.specs.Cells.{values_of}
use Rattle.omap_pages.specs.Leaves.{flat}
use Rattle.omap_pages.proofs.CellLemmas.{same_rows}
use Rattle.omap_pages.proofs.WalkLemmas.{copy_of}
use Rattle.omap_pages.proofs.omap.Omap.is_empty.Goals as goal

pub returns : goal.returns
returns c =
    let cells = flat c.self.inside.leaves.leaves in
    let rows : values_of cells ≡ c.args.self.now.rows = same_rows cells c.self.inside.spares c.args.self.now c.self.view_is in
    (λ yes. sym rows ∙ ap values_of (c.is_empty.ensures.0 yes), λ nil. c.is_empty.ensures.1 (nil_from_length cells (sym (length-map cells copy_of) ∙ ap length (rows ∙ nil))))
