-- What a fault leaves of a player.
use Rattle.std.proofs.Common.{◌≡◌, ◌++◌, refl, sym, subst}
use Rattle.realm_model.specs.Settings.{SettingsView}
use Rattle.realm_model.specs.Doors.{DoorView}
use Rattle.task_get.specs.Tasks.{bytes_of}
use Rattle.script_player.specs.Plays.{asked_by, asked, StandsBy, fits, BringsBy, ComesSoFar}
use Rattle.script_player.specs.declared.player.Acting.{Acting}
use Rattle.script_player.specs.declared.player.Acting.TheVariants.{Get}
use Rattle.script_player.specs.declared.player.Player.{Player}

-- no event was made
pub comes_as_before : (p : Player) (settings : SettingsView) (d e : DoorView) → StandsBy p.acting → fits p settings d → e ≡ d → ComesSoFar (asked p) settings e
comes_as_before p settings d e sound stands same = record { player = p; asks = refl; sound = sound; stands = subst (fits p settings) (sym same) stands }

-- an event was made, and what it brought is not kept
pub comes_unkept : (acting : Acting) (settings : SettingsView) (d : DoorView) → StandsBy acting → BringsBy acting settings d → ComesSoFar (asked_by acting) settings d
comes_unkept (Get x) settings d sound brings = record {
  player = record { acting = Get (record { task = x.task; shown = x.shown ++ bytes_of x.task.stages }) };
  asks = refl;
  sound = record { is_get = sound.is_get; sound = sound.sound };
  stands = record { is_get = brings.is_get; task = brings.task; shown = brings.shown };
}
comes_unkept acting settings d sound brings = record { player = record { acting = acting }; asks = refl; sound = sound; stands = brings }
