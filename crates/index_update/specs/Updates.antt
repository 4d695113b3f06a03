-- An update, and where its actor's own events bring it.
use Rattle.std.specs.Prelude.{◌≡◌, ◌≤◌, true, List, ◌++◌}
use Rattle.realm_model.specs.Settings.{SettingsView}
use Rattle.realm_model.specs.Doors.{DoorView}
use Rattle.realm_model.specs.declared.event.Reply.{Reply}
use Rattle.realm_model.specs.declared.op.Op.{Op}
use Rattle.index_update.specs.declared.stage.Rest.{Rest}
use Rattle.std.specs.List.{AllByRecursion}
use Rattle.index_update.specs.Changes.{has_needs, IsOfUpdate}
use Rattle.index_update.specs.Paths.{Path, path_from, IsFinished}
use Rattle.index_update.specs.Stages.{IsReady, op_of, rest_of, IsLeft, tried_after, step_of}
use Rattle.index_update.specs.Fits.{Known, known_at, Start, Asked, IsTagFree, EndsSo, Fits}
use Rattle.index_update.specs.declared.head_change.HeadChange.{HeadChange}
use Rattle.index_update.specs.declared.stage.Stage.{Stage}
use Rattle.index_update.specs.declared.stage.Target.{Target}
use Rattle.index_update.specs.declared.stage.Tried.{Tried}
use Rattle.index_update.specs.declared.stage.Updated.{Updated}
use Rattle.index_update.specs.declared.update.IndexUpdate.{IndexUpdate}
use Rattle.realm_model.specs.Owns.{OwnEvent}

-- where it stands
abbrev pub stage_of : IndexUpdate → Stage
stage_of u = u.stage

-- who changes what
abbrev pub target_of : IndexUpdate → Target
target_of u = u.target

-- what is asked, from that start on
abbrev pub asked_of : Start → IndexUpdate → Asked
asked_of s u = record { target = u.target; change = s.change; from = s.from; start = s.known }

-- an update that made no event
abbrev pub begun : Target → Stage → IndexUpdate
begun t stage = record { target = t; stage = stage; tried = record { moved = 0; expired = 0 } }

-- the update at another stage
abbrev pub at_stage : IndexUpdate → Stage → Tried → IndexUpdate
at_stage u stage x = record { target = u.target; stage = stage; tried = x }

-- its next operation
abbrev pub next_op : IndexUpdate → Op
next_op u = op_of u.target u.stage

-- its operation was taken out; this is left, and that is kept
abbrev pub IsTaken : IndexUpdate → IndexUpdate → Rest → Type 0
IsTaken u v rest =
    IsReady u.stage × (v.target ≡ u.target) × (v.tried ≡ u.tried) × IsLeft u.stage v.stage × (rest ≡ rest_of u.stage)

-- the update behind an event that was answered so
abbrev pub stepped : IndexUpdate → Reply → IndexUpdate
stepped u reply = at_stage u (step_of u.target (tried_after u.tried reply) u.stage reply) (tried_after u.tried reply)

-- an update that begins now
abbrev pub start_at : Path → HeadChange → SettingsView → DoorView → Start
start_at path change settings d = record { change = change; from = path; known = known_at settings d }

-- the update stands where its actor's own events since that start bring it
abbrev pub fits : Start → IndexUpdate → SettingsView → DoorView → Type 0
fits s u settings d = Fits settings (asked_of s u) u.tried u.stage (known_at settings d)

-- an update may begin: no tag is open, and the own tails that the change needs were made
pub record MayBegin (settings : SettingsView) (target : Target) (change : HeadChange) (k : Known) : Type 0 where
  pub low : 1 ≤ target.zone
  pub high : target.zone ≤ settings.zones
  pub free : IsTagFree k.phase.tag
  pub needs : has_needs k.phase target.zone change ≡ true
  pub moved : k.account.moved.last ≤ k.last

-- the update ended so
pub record IsEnd (s : Start) (u : IndexUpdate) (end : Updated) (k : Known) : Type 0 where
  pub ends : EndsSo (asked_of s u) end k
  pub mine : List OwnEvent
  pub follow : k.events ≡ s.known.events ++ mine
  pub finished : IsFinished (path_from s.from mine)
  pub own : AllByRecursion (λ (e : OwnEvent). IsOfUpdate u.target s.change e.op) mine
