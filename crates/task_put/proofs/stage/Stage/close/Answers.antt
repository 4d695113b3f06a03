use Rattle.std.proofs.Common.{refl, sym, subst}
use Rattle.task_put.specs.Stages.{IsOver, IsReady, IsDecided}
use Rattle.task_put.proofs.Readying.{over_ends}
use Rattle.task_put.proofs.stage.Stage.close.Goals as goal

pub returns-in-Changing-clause-done : goal.returns-in-Changing-clause-done
returns-in-Changing-clause-done c = λ done.
    let over = over_ends c.in-Changing.etag c.in-Changing.update (subst IsDecided c.in-Changing.is c.requires.decided) in
    subst IsOver (sym (c.conclude.ensures c.in-Changing.etag c.in-Changing.update c.in-Changing.is)) over

pub returns-in-None-clause-ready : goal.returns-in-None-clause-ready
returns-in-None-clause-ready c = λ event. subst IsReady (sym (c.change.ensures c.in-Feeding.write c.in-Feeding.key c.in-Feeding.draft refl)) tt
