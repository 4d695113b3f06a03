use Rattle.std.proofs.Common.{subst, IfSome}
use Rattle.realm_model.specs.Settings.{SettingsView}
use Rattle.realm_model.specs.Doors.{DoorView}
use Rattle.script_player.specs.Meanings.{MeansRequest}
use Rattle.script_player.specs.Plays.{asked_get, FitsGet}
use Rattle.script_player.specs.Views.{GetPlayView}
use Rattle.script_player.proofs.Getting.{if_there, get_means}
use Rattle.script_player.proofs.get.GetPlayEndingPlay.end.Goals as goal

pub returns-clause-right : goal.returns-clause-right
returns-clause-right c =
    subst (λ (x : GetPlayView). IfSome c.outcome.result (λ outcome. (settings : SettingsView) (d : DoorView) → FitsGet x settings d → MeansRequest (asked_get x).zone (asked_get x).asker (asked_get x).verb outcome.now x.shown settings d)) c.self.view_is
    (if_there c.outcome.result (λ is. (c.outcome.ensures.there.0 is).1) c.outcome.ensures.right
    (λ outcome sound right settings d f. get_means _ settings d outcome.now sound f (right settings d f.task)))
