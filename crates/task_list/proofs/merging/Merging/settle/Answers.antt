use Rattle.task_list.proofs.Merged.{on_ok_both, head_came}
use Rattle.task_list.proofs.merging.Merging.settle.Goals as goal

pub returns-clause-fits : goal.returns-clause-fits
returns-clause-fits c =
    on_ok_both c.take_head.result _ _ _ (λ at rows zone events own f came.
    head_came zone c.args.command.now c.args.self.now c.args.name c.args.slot events own f came c.take_head.new.self at (rows f.above.0))
    c.take_head.ensures.settled c.take_head.ensures.rows
