use Rattle.once_law.proofs.Granting.{cut_granted}
use Rattle.once_law.proofs.Readings.{rows_say, read_alone}
use Rattle.once_law.proofs.laws.which_bodies_are_left_is_no_choice.Goals as goal

pub returns-clause-rows : goal.returns-clause-rows
returns-clause-rows c settings zone users rows k bytes calls end good r of_objects = rows_say settings zone users rows k bytes good calls end r of_objects

pub returns-clause-cut : goal.returns-clause-cut
returns-clause-cut c settings zone users rows k bytes calls end good r of_objects = cut_granted settings zone users rows k bytes good calls end r of_objects

pub returns-clause-reading : goal.returns-clause-reading
returns-clause-reading c settings zone users rows k bytes calls others end other good r of_objects q also =
    read_alone settings zone users rows k bytes good calls others end other r of_objects q also
