use Rattle.once_law.proofs.Full.{full}
use Rattle.once_law.proofs.laws.only_room_is_wanting.Goals as goal

pub returns : goal.returns
returns c settings zone pass before more next calls last moment good legal a of_objects low at =
    full settings good zone pass moment before more next calls last a.later of_objects legal a.unused a.right a.made a.by_last a.opened low at
