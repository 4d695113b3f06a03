use Rattle.std.proofs.Common.{subst}
use Rattle.std.specs.Option.{IsSome}
use Rattle.omap_pages.specs.Leaves.{flat, position}
use Rattle.omap_pages.proofs.PlaceLemmas.{none_at_gap}
use Rattle.omap_pages.proofs.lookup.place_of.Goals as goal

pub unreachable-requires : goal.unreachable-requires
unreachable-requires c = let none = none_at_gap (flat c.args.leaves.now) c.args.key.now (position c.args.leaves.now c.in-Err.field-0) c.in-Err.ensures.absent in let both = subst IsSome none c.requires.there in cc both
