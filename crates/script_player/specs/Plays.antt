-- Where an actor of a script stands.
use Rattle.std.specs.Prelude.{◌≡◌, ℕ, ◌+◌, ◌-◌, ◌≤◌, List, [], ◌++◌, take, length, Option, Some, None}
use Rattle.task_words.specs.declared.job.Job.TheVariants.{Check}
use Rattle.realm_model.specs.Settings.{SettingsView}
use Rattle.realm_model.specs.Doors.{DoorView}
use Rattle.task_words.specs.declared.command.BodyEnd.{BodyEnd}
use Rattle.task_words.specs.declared.command.BodyEnd.TheVariants.{Whole, Failed}
use Rattle.task_put.specs.Bodies.{most_bytes}
use Rattle.task_put.specs.Stages as put_stages
use Rattle.task_put.specs.Taking.{room_at}
use Rattle.task_put.specs.Runs as put
use Rattle.task_put.specs.Tasks.{fed as stages_fed, stage_of as stages_stand}
use Rattle.task_put.specs.declared.task.PutTask.{PutTask}
use Rattle.task_get.specs.Pieces.{brought}
use Rattle.task_get.specs.Stages as get_stages
use Rattle.task_get.specs.Tasks as get
use Rattle.realm_door.specs.Waiting.{UnlessFaulted}
use Rattle.realm_door.specs.declared.stepping.Stepping.{Stepping}
use Rattle.task_account.specs.Stages as account_stages
use Rattle.task_account.specs.Tasks as account
use Rattle.task_account.specs.declared.request.AccountRequest.{AccountRequest}
use Rattle.task_account.specs.declared.task.AccountTask.{AccountTask}
use Rattle.task_container.specs.Fits as container
use Rattle.task_container.specs.Requests.{name_of}
use Rattle.task_container.specs.Stages as container_stages
use Rattle.task_container.specs.declared.request.ContainerCommand.{ContainerCommand}
use Rattle.task_container.specs.declared.request.ContainerCommand.TheVariants as containers
use Rattle.task_container.specs.declared.request.ContainerRequest.{ContainerRequest}
use Rattle.task_container.specs.declared.task.ContainerTask.{ContainerTask}
use Rattle.task_list.specs.Tasks as list
use Rattle.task_list.specs.declared.request.ListRequest.{ListRequest}
use Rattle.task_list.specs.declared.task.ListTask.{ListTask}
use Rattle.task_repair.specs.Stages as repair_stages
use Rattle.task_repair.specs.Tasks as repair
use Rattle.task_repair.specs.declared.request.RepairRequest.{RepairRequest}
use Rattle.task_repair.specs.declared.task.RepairTask.{RepairTask}
use Rattle.call_service.specs.Serving.{IsNew}
use Rattle.put_service.specs.Standing.{IsSteady}
use Rattle.script_words.specs.Bodies.{body_bytes}
use Rattle.script_words.specs.declared.line.Verb.{Verb}
use Rattle.script_words.specs.declared.line.Verb.TheVariants as verbs
use Rattle.task_words.specs.declared.asker.Asker.{Asker}
use Rattle.script_player.specs.Requests.{nobody, asker_under, put_request, get_request, container_command, list_request, account_request}
use Rattle.script_player.specs.declared.player.Acting.{Acting}
use Rattle.script_player.specs.declared.player.Acting.TheVariants as actings
use Rattle.script_player.specs.declared.player.Gone.{Gone}
use Rattle.script_player.specs.declared.player.Gone.TheVariants as gones
use Rattle.script_player.specs.declared.player.Player.{Player}
use Rattle.script_player.specs.declared.put.PutPlay.{PutPlay}
use Rattle.script_player.specs.Views.{GetPlayView}

-- ---- what is asked

-- in which zone, by whom, and what
pub record Asked : Type 0 where
  pub zone : ℕ
  pub asker : Asker
  pub verb : Verb

abbrev pub asked_put : PutPlay → Asked
asked_put x = record {
  zone = (put.request_of x.task).zone;
  asker = (put.request_of x.task).asker;
  verb = verbs.Put (put.request_of x.task).command.container (put.request_of x.task).command.name x.body;
}

abbrev pub asked_get : GetPlayView → Asked
asked_get x = record {
  zone = (get.request_of x.task.stages).zone;
  asker = (get.request_of x.task.stages).asker;
  verb = verbs.Get (get.request_of x.task.stages).get.container (get.request_of x.task.stages).get.name;
}

-- a container is counted, made or removed; no verb changes one
abbrev pub verb_of : ContainerCommand → Verb
verb_of (containers.Put name changes) = verbs.Make name
verb_of (containers.Delete name) = verbs.Remove name
verb_of command = verbs.Stat (name_of command)

abbrev pub container_of : ContainerRequest → Asked
container_of r = record { zone = r.zone; asker = r.asker; verb = verb_of r.command }

abbrev pub asked_container : Stepping ContainerTask → Asked
asked_container t = container_of (container.request_of t.stages)

abbrev pub list_of : ListRequest → Asked
list_of r = record { zone = r.zone; asker = r.asker; verb = verbs.List (r.command).container }

abbrev pub asked_list : Stepping ListTask → Asked
asked_list t = list_of (list.request_of t.stages)

abbrev pub account_asked : AccountRequest → Asked
account_asked r = record { zone = r.zone; asker = asker_under r.account; verb = verbs.Account }

abbrev pub asked_account : Stepping AccountTask → Asked
asked_account t = account_asked (account.request_of t.stages)

abbrev pub check_of : RepairRequest → Asked
check_of r = record { zone = r.zone; asker = nobody; verb = verbs.Job (Check r.bucket) }

abbrev pub asked_check : Stepping RepairTask → Asked
asked_check t = check_of (repair.request_of t.stages)

abbrev pub asked_by : Acting → Asked
asked_by (actings.Put x) = asked_put x
asked_by (actings.Get x) = asked_get x
asked_by (actings.Container t) = asked_container t
asked_by (actings.List t) = asked_list t
asked_by (actings.Account t) = asked_account t
asked_by (actings.Check t) = asked_check t

abbrev pub asked : Player → Asked
asked p = asked_by p.acting

-- ---- at the beginning

-- this is asked, no step stopped, and no event was made
pub record IsBegun (is want : Asked) (Stands Ended : Type 0) (Fits : SettingsView → DoorView → Type 0) : Type 0 where
  pub asked : is ≡ want
  pub stands : Stands
  pub going : Ended → ⊥
  pub fits : (settings : SettingsView) (d : DoorView) → 1 ≤ want.zone → want.zone ≤ settings.zones → IsNew settings d → Fits settings d

-- ---- whatever the door tells

-- so much of the body was taken when it ended: it ends behind its last byte
abbrev pub EndsAt : Option BodyEnd → ℕ → ℕ → Type 0
EndsAt None fed size = Unit {0}
EndsAt (Some Whole) fed size = fed ≡ size
EndsAt (Some Failed) fed size = ⊥

-- the task puts the object, and took the first bytes of its body
pub record IsPut (x : PutPlay) : Type 0 where
  pub plain : put.request_of x.task
      ≡ put_request (asked_put x).zone (asked_put x).asker (put.request_of x.task).command.container (put.request_of x.task).command.name
      (take x.fed (body_bytes x.body)) (put.request_of x.task).end
  pub fed : x.fed ≤ length (body_bytes x.body)
  pub few : length (body_bytes x.body) ≤ most_bytes
  pub ends : EndsAt (put.request_of x.task).end x.fed (length (body_bytes x.body))

abbrev pub IsGet : GetPlayView → Type 0
IsGet x = get.request_of x.task.stages ≡ get_request (asked_get x).zone (asked_get x).asker (get.request_of x.task.stages).get.container (get.request_of x.task.stages).get.name

-- it is what its verb asks
abbrev pub IsContainer : ContainerRequest → Type 0
IsContainer r = container_command (verb_of r.command) ≡ Some r.command

abbrev pub IsList : ListRequest → Type 0
IsList r = r ≡ list_request r.zone r.asker (r.command).container

abbrev pub IsAccount : AccountRequest → Type 0
IsAccount r = r ≡ account_request r.zone r.account

-- there is one check of a container
abbrev pub IsCheck : RepairRequest → Type 0
IsCheck r = Unit {0}

-- no step stopped with a fault; a PUT is at the body that it was fed, as long as it goes on
pub record PutStands (x : PutPlay) : Type 0 where
  pub is_put : IsPut x
  pub steady : (put_stages.IsOver (put.stage_of x.task) → ⊥) → IsSteady x.task.stages
  pub sound : put.fault_of x.task ≡ None

pub record GetStands (x : GetPlayView) : Type 0 where
  pub is_get : IsGet x
  pub sound : x.task.fault ≡ None

abbrev pub ContainerStands : Stepping ContainerTask → Type 0
ContainerStands t = IsContainer (container.request_of t.stages) × (t.fault ≡ None)

abbrev pub ListStands : Stepping ListTask → Type 0
ListStands t = IsList (list.request_of t.stages) × (t.fault ≡ None)

abbrev pub AccountStands : Stepping AccountTask → Type 0
AccountStands t = IsAccount (account.request_of t.stages) × (t.fault ≡ None)

abbrev pub CheckStands : Stepping RepairTask → Type 0
CheckStands t = IsCheck (repair.request_of t.stages) × (t.fault ≡ None)

abbrev pub StandsBy : Acting → Type 0
StandsBy (actings.Put x) = PutStands x
StandsBy (actings.Get x) = GetStands x
StandsBy (actings.Container t) = ContainerStands t
StandsBy (actings.List t) = ListStands t
StandsBy (actings.Account t) = AccountStands t
StandsBy (actings.Check t) = CheckStands t

-- so many bytes behind the first were taken: some, if there was room
pub record TakesNext (bytes : List ℕ) (at : ℕ) (old new : PutTask) (count : ℕ) : Type 0 where
  pub more : List ℕ
  pub task : new ≡ stages_fed old more
  pub next : take at bytes ++ more ≡ take (at + count) bytes
  pub inside : at + count ≤ length bytes
  pub some : 1 ≤ room_at (stages_stand old) → 1 ≤ count

-- how many turns may still feed the task: one a piece, and one for the end
abbrev pub unended : Option BodyEnd → ℕ
unended None = 1
unended (Some end) = 0

abbrev pub left_of : PutPlay → ℕ
left_of x = (length (body_bytes x.body) - x.fed) + unended (put.request_of x.task).end

-- ---- the outcome

abbrev pub PutEnded : PutPlay → Type 0
PutEnded x = put_stages.IsOver (put.stage_of x.task) × (put.fault_of x.task ≡ None)

abbrev pub GetEnded : GetPlayView → Type 0
GetEnded x = get_stages.IsOver (get.stage_of x.task.stages) × (x.task.fault ≡ None)

abbrev pub ContainerEnded : Stepping ContainerTask → Type 0
ContainerEnded t = container_stages.IsOver (container.stage_of t.stages) × (t.fault ≡ None)

abbrev pub ListEnded : Stepping ListTask → Type 0
ListEnded t = list.IsOver (list.stage_of t.stages) × (t.fault ≡ None)

abbrev pub AccountEnded : Stepping AccountTask → Type 0
AccountEnded t = account_stages.IsOver (account.stage_of t.stages) × (t.fault ≡ None)

abbrev pub CheckEnded : Stepping RepairTask → Type 0
CheckEnded t = repair_stages.IsOver (repair.stage_of t.stages) × (t.fault ≡ None)

abbrev pub EndedBy : Acting → Type 0
EndedBy (actings.Put x) = PutEnded x
EndedBy (actings.Get x) = GetEnded x
EndedBy (actings.Container t) = ContainerEnded t
EndedBy (actings.List t) = ListEnded t
EndedBy (actings.Account t) = AccountEnded t
EndedBy (actings.Check t) = CheckEnded t

-- the outcome is there
abbrev pub IsEnded : Player → Type 0
IsEnded p = EndedBy p.acting

-- it is not, and no step stopped with a fault
pub record IsPlaying (p : Player) : Type 0 where
  pub stands : StandsBy p.acting
  pub going : IsEnded p → ⊥

-- where the player stands behind its events
abbrev pub StandsAs : Gone → Player → Type 0
StandsAs gones.Short p = IsPlaying p
StandsAs gones.Ended p = IsEnded p

-- the bytes shown so far
abbrev pub shown_by : Acting → List ℕ
shown_by (actings.Get x) = x.shown
shown_by acting = []

abbrev pub shown_of : Player → List ℕ
shown_of p = shown_by p.acting

-- ---- by what the door tells

-- the task stands where the actor's own events bring it
pub record FitsPut (x : PutPlay) (settings : SettingsView) (d : DoorView) : Type 0 where
  pub is_put : IsPut x
  pub task : put.fits x.task settings d

-- and the bytes kept are those that these brought
pub record FitsGet (x : GetPlayView) (settings : SettingsView) (d : DoorView) : Type 0 where
  pub is_get : IsGet x
  pub task : UnlessFaulted x.task.fault (get.Fits x.task.stages settings d)
  pub shown : x.shown ≡ brought (get.request_of x.task.stages).get (get.events_at d)

-- and the bytes kept are those that the events before the last one brought
pub record BringsGet (x : GetPlayView) (settings : SettingsView) (d : DoorView) : Type 0 where
  pub is_get : IsGet x
  pub task : UnlessFaulted x.task.fault (get.Fits x.task.stages settings d)
  pub shown : x.shown ++ get.bytes_of x.task.stages ≡ brought (get.request_of x.task.stages).get (get.events_at d)

abbrev pub FitsContainer : Stepping ContainerTask → SettingsView → DoorView → Type 0
FitsContainer t settings d = IsContainer (container.request_of t.stages) × UnlessFaulted t.fault (container.fits t.stages settings d)

-- the same of a task for a container, which knows how many shards a new one has in a realm of these settings
pub record BeginsContainer (t : Stepping ContainerTask) (settings : SettingsView) (want : Asked) : Type 0 where
  pub asked : asked_container t ≡ want
  pub stands : ContainerStands t
  pub going : ContainerEnded t → ⊥
  pub fits : (d : DoorView) → 1 ≤ want.zone → want.zone ≤ settings.zones → IsNew settings d → FitsContainer t settings d

abbrev pub FitsList : Stepping ListTask → SettingsView → DoorView → Type 0
FitsList t settings d = IsList (list.request_of t.stages) × UnlessFaulted t.fault (list.fits t.stages settings d)

abbrev pub FitsAccount : Stepping AccountTask → SettingsView → DoorView → Type 0
FitsAccount t settings d = IsAccount (account.request_of t.stages) × UnlessFaulted t.fault (account.fits t.stages settings d)

abbrev pub FitsCheck : Stepping RepairTask → SettingsView → DoorView → Type 0
FitsCheck t settings d = IsCheck (repair.request_of t.stages) × UnlessFaulted t.fault (repair.fits t.stages settings d)

abbrev pub FitsBy : Acting → SettingsView → DoorView → Type 0
FitsBy (actings.Put x) settings d = FitsPut x settings d
FitsBy (actings.Get x) settings d = FitsGet x settings d
FitsBy (actings.Container t) settings d = FitsContainer t settings d
FitsBy (actings.List t) settings d = FitsList t settings d
FitsBy (actings.Account t) settings d = FitsAccount t settings d
FitsBy (actings.Check t) settings d = FitsCheck t settings d

-- the player stands where the own events of the door's actor bring it
abbrev pub fits : Player → SettingsView → DoorView → Type 0
fits p settings d = FitsBy p.acting settings d

-- it does once it keeps what the last of them brought
abbrev pub BringsBy : Acting → SettingsView → DoorView → Type 0
BringsBy (actings.Get x) settings d = BringsGet x settings d
BringsBy acting settings d = FitsBy acting settings d

-- ---- as far as it came

-- the own events of the door's actor are those that a player makes of which this is asked, in its order, as far as it came: it
-- stands where they bring it, and no step of it stopped with a fault
pub record ComesSoFar (want : Asked) (settings : SettingsView) (d : DoorView) : Type 0 where
  pub player : Player
  pub asks : asked player ≡ want
  pub sound : StandsBy player.acting
  pub stands : fits player settings d
