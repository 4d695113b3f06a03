use Rattle.std.proofs.Common.{◌≡◌, All}
use Rattle.rgw_bench.proofs.steps.split_in.Given as goal

abbrev pub invariant-loop : goal.invariant-loop
invariant-loop l = (l.first.cell ≡ l.cell) × All (λ pass. pass.cell ≡ l.cell) l.passes.items
