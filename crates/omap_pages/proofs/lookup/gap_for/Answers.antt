use Rattle.std.proofs.Common.{ap, sym, ◌∙◌, is_some}
use Rattle.omap_pages.specs.Leaves.{flat, position}
use Rattle.omap_pages.proofs.PlaceLemmas.{there_at_place}
use Rattle.omap_pages.proofs.lookup.gap_for.Goals as goal

pub unreachable-requires : goal.unreachable-requires
unreachable-requires c = let both = sym (ap is_some c.requires.absent) ∙ there_at_place (flat c.args.leaves.now) c.args.key.now (position c.args.leaves.now c.in-Ok.field-0) c.in-Ok.ensures.found in cc both
