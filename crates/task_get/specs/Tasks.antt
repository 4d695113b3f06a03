-- What a task of a GET shows to its callers.
use Rattle.std.specs.Prelude.{◌≡◌, ℕ, ◌≤◌, List, [], length, Option, Some, None, IsSome}
use Rattle.realm_model.specs.Settings.{SettingsView}
use Rattle.realm_model.specs.Phases.{Phase}
use Rattle.realm_model.specs.Accounts.{Account}
use Rattle.realm_model.specs.Histories.{account_of, phase_of}
use Rattle.realm_model.specs.Owns.{OwnEvent, own_events}
use Rattle.realm_model.specs.Doors.{DoorView, actor_at}
use Rattle.task_words.specs.declared.outcome.Outcome.{Outcome}
use Rattle.task_words.specs.declared.outcome.Outcome.TheVariants.{Done}
use Rattle.task_words.specs.declared.reply.MapReply.{MapReply}
use Rattle.task_words.specs.declared.reply.MapReply.TheVariants.{Shown}
use Rattle.task_get.specs.declared.request.GetRequest.{GetRequest}
use Rattle.task_get.specs.declared.stage.Stage.{Stage}
use Rattle.task_get.specs.declared.stage.Stage.TheVariants.{Look, Tails, Ended, Late}
use Rattle.task_get.specs.declared.task.GetTask.{GetTask}
use Rattle.task_get.specs.Pieces.{piece_bytes, brought}
use Rattle.task_get.specs.Stages.{IsSound, IsBehindRow, given_by}
use Rattle.task_get.specs.Gets.{Means, FitsStage, LastBrings}

-- what a door tells of its present actor
abbrev pub account_at : SettingsView → DoorView → Account
account_at settings d = account_of settings d.seen (actor_at d)

abbrev pub phase_at : SettingsView → DoorView → Phase
phase_at settings d = phase_of settings d.seen (actor_at d)

abbrev pub events_at : DoorView → List OwnEvent
events_at d = own_events d.seen (actor_at d)

-- what the task is asked
abbrev pub request_of : GetTask → GetRequest
request_of t = t.request

-- where it stands
abbrev pub stage_of : GetTask → Stage
stage_of t = t.stage

-- the bytes of its last piece
abbrev pub bytes_of : GetTask → List ℕ
bytes_of t = piece_bytes t.piece

-- how many bytes it gave
abbrev pub given_of : GetTask → ℕ
given_of t = given_by t.stage

-- the reply, where it shows bytes
abbrev pub where_shown : MapReply → Option MapReply
where_shown (Shown kind meta etag stamp size start count) = Some (Shown kind meta etag stamp size start count)
where_shown reply = None

abbrev pub shown_in : Outcome → Option MapReply
shown_in (Done reply) = where_shown reply
shown_in outcome = None

abbrev pub shown_by : Stage → Option MapReply
shown_by (Tails x) = Some x.reply
shown_by (Ended outcome given) = shown_in outcome
shown_by (Late x outcome) = Some x.reply
shown_by stage = None

-- the reply whose bytes the pieces are
abbrev pub shown_of : GetTask → Option MapReply
shown_of t = shown_by t.stage

-- how an answer brings the task on, also where nothing is told: behind the first the row alone was read; and a sound stage stays
-- sound, keeps the reply that it shows, and shows one where bytes come
pub record Steps (t u : GetTask) : Type 0 where
  pub looked : t.stage ≡ Look → IsBehindRow u.stage × (bytes_of u ≡ [])
  pub sound : IsSound t.stage → IsSound u.stage
  pub shown : IsSound t.stage → (reply : MapReply) → shown_of t ≡ Some reply → shown_of u ≡ Some reply
  pub brings : IsSound t.stage → 1 ≤ length (bytes_of u) → IsSome (shown_of u)

-- the zone is one of the realm's, and the task stands where the actor's own events bring it
pub record Fits (t : GetTask) (settings : SettingsView) (d : DoorView) : Type 0 where
  pub first_zone : 1 ≤ t.request.zone
  pub last_zone : t.request.zone ≤ settings.zones
  pub stage : FitsStage t.request t.stage (account_at settings d) (phase_at settings d) (events_at d)
  pub given : given_of t ≡ length (brought t.request.get (events_at d))
  pub piece : LastBrings t.request (bytes_of t) (events_at d)

-- what an outcome says of what a door tells
abbrev pub means : GetRequest → Outcome → SettingsView → DoorView → Type 0
means r outcome settings d = Means r outcome (account_at settings d) (events_at d)
