use Rattle.std.proofs.Common.{◌≡◌, false}
use Rattle.rgw_server.proofs.accepting.accept_all.Given as goal

abbrev pub invariant-loop : goal.invariant-loop
invariant-loop g l =
    (goal.iterator-loop g).can_next l.iterator' × (goal.iterator-loop g).is_finite l.iterator'
    × (g.P.Port.port l.port ≡ record { number = l.number; given = l.given; is_shut = false; faults = 0 })
