use Rattle.rgw_model.specs.Stamps.{counted_moment}
use Rattle.once_law.proofs.Folding.{fold}
use Rattle.once_law.proofs.Moments.{clocks_at}
use Rattle.once_law.proofs.laws.calls_fold_over_the_maps.Goals as goal

pub returns-clause-maps : goal.returns-clause-maps
returns-clause-maps c settings zone pass before more next calls last clocks legal good few a of_objects are =
    fold settings good zone pass clocks before more next calls last a.later legal few a.unused a.right a.made a.by_last a.opened of_objects are

pub returns-clause-moment : goal.returns-clause-moment
returns-clause-moment c settings zone pass before more next calls last moment legal good few a of_objects low at =
    fold settings good zone pass (λ count. counted_moment moment) before more next calls last a.later legal few a.unused a.right a.made a.by_last a.opened of_objects
    (clocks_at settings pass before more next moment low at a.unused)
