use Rattle.std.proofs.Common.{[], ◌∷◌, ◌++◌, refl}
use Rattle.stripe_law.proofs.Getting.{read_slot, answered, range_is}
use Rattle.stripe_law.proofs.laws.answered_reads_show_the_slot.Goals as goal

pub returns-clause-slot : goal.returns-clause-slot
returns-clause-slot c = read_slot

pub returns-clause-piece : goal.returns-clause-piece
returns-clause-piece c settings before between read tail legal zone container name seen clock new stamp op reply live =
    answered settings before (between ++ tail ∷ []) read legal zone container name seen clock new stamp op reply live between [] tail refl

pub returns-clause-range : goal.returns-clause-range
returns-clause-range c = range_is
