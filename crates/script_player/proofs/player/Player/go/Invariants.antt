use Rattle.std.proofs.Common.{◌≡◌, ◌≤◌, ◌-◌}
use Rattle.script_player.specs.Going.{Goes}
use Rattle.script_player.specs.Plays.{asked, IsPlaying, fits}
use Rattle.script_player.proofs.player.Player.go.Given as goal

abbrev pub invariant-events : goal.invariant-events
invariant-events g l = record {
  few : l.made ≤ l.most;
  playing : IsPlaying l.self;
  fits : g.D.Door.tells → fits l.self (g.D.Door.settings l.fn.door) (g.D.Door.told l.door);
  goes : g.D.Door.tells → Goes g.D.Door.alone (g.D.Door.settings l.fn.door) l.fn.moment l.made (g.D.Door.told l.fn.door) (g.D.Door.told l.door);
  asked : asked l.self ≡ asked l.fn.self;
  settings : g.D.Door.settings l.door ≡ g.D.Door.settings l.fn.door;
  home : g.D.Door.home l.door ≡ g.D.Door.home l.fn.door;
}

abbrev pub decreases-events : goal.decreases-events
decreases-events g l = l.most - l.made
