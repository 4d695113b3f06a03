use Rattle.stripe_law.proofs.Keeping.{holds_after, next_holds_after}
use Rattle.stripe_law.proofs.laws.stripes_and_frames_hold.Goals as goal

pub returns-clause-holds : goal.returns-clause-holds
returns-clause-holds c = holds_after

pub returns-clause-next : goal.returns-clause-next
returns-clause-next c = next_holds_after
