use Rattle.std.proofs.Common.{◌<◌, ◌+◌, length, ap, arith}
use Rattle.std.proofs.lemmas.Result.{IfOk-weaker}
use Rattle.task_list.specs.Cursors.{left_of}
use Rattle.task_list.specs.Merges.{left_count}
use Rattle.task_list.proofs.Merged.{if_ok}
use Rattle.task_list.proofs.merging.Merging.pass.Goals as goal

pub returns-clause-fits : goal.returns-clause-fits
returns-clause-fits c =
    IfOk-weaker c.take.result _ _ (λ passed fits zone events f. fits zone events (c.in_ok-entry.ensures.fits zone c.args.command.now events f)) c.take.ensures.fits

pub returns-clause-fewer : goal.returns-clause-fewer
returns-clause-fewer c =
    let same = ap left_count c.take.ensures.merge in
    let fewer = c.in_ok-entry.ensures.fewer in
    let so : left_count c.take.new.self.merge < left_count c.args.self.now.merge + length (left_of c.args.cursor) = omega (arith, same, fewer) in
    if_ok c.take.result _ so

pub returns-clause-told : goal.returns-clause-told
returns-clause-told c =
    IfOk-weaker c.take.result _ _ (λ passed told t a. told t (c.in_ok-entry.ensures.told t a)) c.take.ensures.told
