use Rattle.std.proofs.Common.{sym, ◌∙◌}
use Rattle.task_list.specs.Progresses.{rows_in}
use Rattle.task_list.proofs.Placing.{unlisted, is_own}
use Rattle.task_list.proofs.merging.Merging.place.Goals as goal

pub returns-else-is_listed : goal.returns-else-is_listed
returns-else-is_listed c =
    let m = c.args.self.now in
    let found = c.in-Some.ensures.some in (
      is_own c.args.command.now m c.args.shard c.args.name.now c.is_due.result found.0 c.is_due.ensures c.if-not-is_due.false,
      unlisted c.args.command.now c.args.name.now (rows_in m.progress) c.in-Some.key found.1 (sym c.is_listed.ensures ∙ c.if-is_listed.false),
    )
