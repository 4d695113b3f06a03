use Rattle.stripe_law.proofs.Keeping.{stripes_next, holds_start, holds_next}
use Rattle.stripe_law.proofs.laws.events_keep_what_holds.Goals as goal

pub returns-clause-start : goal.returns-clause-start
returns-clause-start c = holds_start

pub returns-clause-events : goal.returns-clause-events
returns-clause-events c = stripes_next

pub returns-clause-every : goal.returns-clause-every
returns-clause-every c = holds_next
