use Rattle.realm_model.specs.Doors.{actor_at}
use Rattle.realm_model.specs.Histories.{account_of}
use Rattle.realm_model.specs.Owns.{own_events}
use Rattle.task_account.proofs.Turning.{fits_new}
use Rattle.task_account.proofs.task.AccountTask.new.Goals as goal

pub returns-clause-fits : goal.returns-clause-fits
returns-clause-fits c = λ settings d low high no_account no_events.
    let new =
    fits_new c.args.request.zone c.args.request.account c.args.request.command c.in_ok-asked.asked c.nothing.result c.in_ok-start.start
    (account_of settings d.seen (actor_at d)) (own_events d.seen (actor_at d)) c.in_ok-asked.ensures c.in_ok-start.ensures c.nothing.ensures no_account no_events in
    (low, high, new.0, new.1)
