use Rattle.stripe_law.proofs.Staying.{still_made, bytes_stay}
use Rattle.stripe_law.proofs.laws.what_was_made_stays.Goals as goal

pub returns-clause-made : goal.returns-clause-made
returns-clause-made c = still_made

pub returns-clause-bytes : goal.returns-clause-bytes
returns-clause-bytes c = bytes_stay
