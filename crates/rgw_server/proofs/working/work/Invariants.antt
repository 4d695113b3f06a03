use Rattle.std.proofs.Common.{◌≡◌}
use Rattle.gateway.specs.Calls.{Advances, MayBegin}
use Rattle.rgw_server.proofs.working.work.Given as goal

-- the door is ready after every connection, and its pass went on
abbrev pub invariant-loop : goal.invariant-loop
invariant-loop g l =
    (goal.iterator-loop g).can_next l.iterator' × (goal.iterator-loop g).is_finite l.iterator'
    × (g.D.Door.settings l.door ≡ l.settings) × (g.D.Door.tells → MayBegin l.settings (g.D.Door.told l.door))
    × (g.D.Door.tells → Advances l.settings (g.D.Door.told l.fn.door) (g.D.Door.told l.door))
