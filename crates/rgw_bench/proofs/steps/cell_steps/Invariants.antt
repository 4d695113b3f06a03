use Rattle.std.proofs.Common.{◌≡◌}
use Rattle.rgw_bench.proofs.steps.cell_steps.Given as goal

abbrev pub invariant-loop-made : goal.invariant-loop-made
invariant-loop-made g l = (l.pass.cell ≡ l.cell) × (l.actor ≡ l.pass.number)
