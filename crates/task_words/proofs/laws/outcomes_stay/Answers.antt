use Rattle.task_words.specs.Outcomes.{IsGetOutcome, IsPutOutcome}
use Rattle.task_words.proofs.Owning.{stays}
use Rattle.task_words.proofs.laws.outcomes_stay.Goals as goal

pub returns-clause-get : goal.returns-clause-get
returns-clause-get c settings history between actor others zone asker command outcome means =
    stays (λ y events. IsGetOutcome zone asker command outcome y) settings history between actor others means

pub returns-clause-put : goal.returns-clause-put
returns-clause-put c settings history between actor others zone asker command body outcome means =
    stays (IsPutOutcome zone asker command body outcome) settings history between actor others means
