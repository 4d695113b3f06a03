use Rattle.std.proofs.Common.{◌≡◌}
use Rattle.realm_model.specs.Settings.{SettingsView}
use Rattle.realm_model.specs.Doors.{DoorView}
use Rattle.task_put.specs.Runs.{fits}
use Rattle.script_player.specs.Plays.{asked_put, PutStands, left_of}
use Rattle.script_player.proofs.put.PutPlay.make_ready.Given as goal

abbrev pub invariant-pieces : goal.invariant-pieces
invariant-pieces l = record {
  stands : PutStands l.self;
  fits : (settings : SettingsView) (d : DoorView) → fits l.fn.self.task settings d → fits l.self.task settings d;
  asked : asked_put l.self ≡ asked_put l.fn.self;
}

abbrev pub decreases-pieces : goal.decreases-pieces
decreases-pieces l = left_of l.self
