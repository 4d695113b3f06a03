use Rattle.storage_tests.proofs.regions.gives_back_in_another_order.Goals as goal

pub give-requires-2 : goal.give-requires-2
give-requires-2 g c =
    let first = c.in_ok-first.first in
    let beside_second = c.in_ok-second.ensures.others first c.in_ok-first.ensures.owned in
    let beside_third = c.in_ok-third.ensures.others first beside_second.2.owned in
    (c.give.ensures.others first beside_third.2.owned beside_second.0).owned

pub give-requires-3 : goal.give-requires-3
give-requires-3 g c =
    let first = c.in_ok-first.first in
    let third = c.in_ok-third.third in
    let first_and_second = c.in_ok-second.ensures.others first c.in_ok-first.ensures.owned in
    let first_and_third = c.in_ok-third.ensures.others first first_and_second.2.owned in
    let second_and_third = c.in_ok-third.ensures.others c.in_ok-second.second c.in_ok-second.ensures.owned in
    let kept = c.give.ensures.others third c.in_ok-third.ensures.owned second_and_third.1 in
    (c.give-2.ensures.others third kept.owned first_and_third.1).owned
