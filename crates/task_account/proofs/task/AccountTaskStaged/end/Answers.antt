use Rattle.std.proofs.Common.{subst}
use Rattle.realm_model.specs.Doors.{actor_at}
use Rattle.realm_model.specs.Histories.{account_of}
use Rattle.realm_model.specs.Owns.{own_events}
use Rattle.task_account.specs.Tasks.{request_of, Fits}
use Rattle.task_account.proofs.Turning.{fits_end}
use Rattle.task_account.proofs.task.AccountTaskStaged.end.Goals as goal

pub returns-in-Ended-clause-right : goal.returns-in-Ended-clause-right
returns-in-Ended-clause-right c = λ settings d f.
    let t = c.args.self.now in
    let y = account_of settings d.seen (actor_at d) in
    let events = own_events d.seen (actor_at d) in
    fits_end (request_of t) c.in-Ended.outcome t.moved y events (subst (λ s. Fits (request_of t) s t.moved y events) c.in-Ended.is f.3)
