use Rattle.std.proofs.Common.{◌≡◌, vec_len}
use Rattle.omap_pages.proofs.spares.several_leaves.Given as goal

abbrev pub invariant-loop : goal.invariant-loop
invariant-loop l = vec_len l.spares ≡ l.counter
