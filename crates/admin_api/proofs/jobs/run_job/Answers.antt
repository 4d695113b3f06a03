use Rattle.std.proofs.Common.{rules, true, false}
use Rattle.std.proofs.lemmas.Result.{err_from_is_err_and}
use Rattle.task_repair.specs.Tasks.{request_of}
use Rattle.door_moments.proofs.Asking.{none_asks}
use Rattle.admin_api.proofs.Going.{goes_on_first, goes_on_so_far}
use Rattle.admin_api.proofs.jobs.run_job.Goals as goal

pub returns-in_default-clause-stopped : goal.returns-in_default-clause-stopped
returns-in_default-clause-stopped g c = record {
  more = false;
  asks = none_asks g.D.Door.tells g.D.Door.alone (g.D.Door.settings c.args.door.now) (g.D.Door.told c.args.door.now) (g.C.Clock.told c.args.clock.now) (λ tells. (c.requires.new tells).legal);
  goes_on = λ tells. goes_on_first c.args.zone c.args.job.now (g.D.Door.settings c.args.door.now) (g.D.Door.told c.args.door.now) c.requires.low c.requires.high (c.requires.new tells);
  worn = λ tells is. cc;
}

pub returns-in_err-acted-clause-stopped : goal.returns-in_err-acted-clause-stopped
returns-in_err-acted-clause-stopped g c =
    let p = err_from_is_err_and c.from_residual.result c.from_residual.ensures.1 in
    let acted = c.in_err-acted.ensures in
    rw (p.1, p.2) (record {
      more = true;
      asks = acted.unasked;
      goes_on = λ tells.
          goes_on_so_far c.args.zone c.args.job.now (g.D.Door.settings c.args.door.now) (g.D.Door.told c.act_to_end-acted.new.door) (request_of c.new-task.result.stages)
          (λ container is. search (rules, is)) (acted.left tells);
      worn = acted.worn;
    })
