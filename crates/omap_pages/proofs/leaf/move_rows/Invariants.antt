use Rattle.std.proofs.Common.{◌≡◌, ◌+◌, ◌≤◌, ◌++◌, reverse, vec_len, vec_capacity}
use Rattle.omap_pages.proofs.leaf.move_rows.Given as goal

abbrev pub invariant-loop-rows : goal.invariant-loop-rows
invariant-loop-rows l = record {
  parts : l.rows.items ++ reverse l.upper.items ≡ l.fn.rows.items;
  start : l.start ≤ vec_len l.rows;
  places : vec_len l.rows + vec_len l.upper ≤ vec_capacity l.upper;
  kept : vec_capacity l.rows ≡ vec_capacity l.fn.rows;
  upper_kept : vec_capacity l.fn.upper ≤ vec_capacity l.upper;
}

abbrev pub decreases-loop-rows : goal.decreases-loop-rows
decreases-loop-rows l = vec_len l.rows
