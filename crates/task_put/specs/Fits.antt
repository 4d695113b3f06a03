-- The stage of a PUT is what its actor's own events came to.
use Rattle.std.specs.Prelude.{◌≡◌, ℕ, ◌+◌, ◌*◌, ◌<◌, ◌≤◌, ◌⊎◌, ◌==◌, true, false, List, [], map, length, Some, None, unwrap_or, if◌then◌else◌}
use Rattle.std.specs.List.{range_with_len}
use Rattle.rgw_types.specs.Stripes.{tails_of}
use Rattle.rgw_model.specs.Kinds.{default_kind}
use Rattle.object_words.specs.declared.head.Conditions.{Conditions}
use Rattle.object_words.specs.declared.head.NewHead.{NewHead}
use Rattle.realm_model.specs.Settings.{SettingsView}
use Rattle.realm_model.specs.Accounts.{blank}
use Rattle.realm_model.specs.Allowed.{allowed}
use Rattle.realm_model.specs.Maps.{Maps}
use Rattle.realm_model.specs.Owns.{OwnEvent}
use Rattle.realm_model.specs.Phases.{FirstEvent, Bundle, unused, opened, fresh}
use Rattle.realm_model.specs.Suits.{Suits}
use Rattle.realm_model.specs.declared.event.Reply.{Reply}
use Rattle.task_words.specs.Outcomes.{Body, IsTaken, left_count, IsPutOutcome}
use Rattle.task_words.specs.Cuts.{tail_bytes}
use Rattle.index_update.specs.declared.head_change.HeadChange.TheVariants.{Write}
use Rattle.index_update.specs.declared.stage.Target.{Target}
use Rattle.index_update.specs.declared.update.IndexUpdate.{IndexUpdate}
use Rattle.index_update.specs.Paths.{ready}
use Rattle.index_update.specs.Fits.{Known, known_next, Start, HasName, AtRow, IsAnswer, Fits as UpdateFits}
use Rattle.index_update.specs.Updates.{asked_of}
use Rattle.task_put.specs.Bodies.{BodyView}
use Rattle.task_put.specs.Changes.{IsHeadOf, IsSent}
use Rattle.task_put.specs.Cuts.{CutBody, IsSliced}
use Rattle.task_words.specs.Cuts.{is_changed_from}
use Rattle.task_put.specs.Orders.{Path, begun, feeding, path_of, IsFinished}
use Rattle.task_put.specs.Stages.{op_of, step_of}
use Rattle.task_put.specs.declared.stage.PutRequest.{PutRequest}
use Rattle.task_put.specs.declared.stage.Draft.{Draft}
use Rattle.task_put.specs.declared.stage.Stage.{Stage}
use Rattle.task_put.specs.declared.stage.Stage.TheVariants.{Looking, Feeding, Changing, Ended}

-- ---- what is asked, and what is known

-- who puts, and where
abbrev pub target_of : PutRequest → Target
target_of r = record { zone = r.zone; asker = r.asker; container = r.command.container; name = r.command.name }

-- the bytes of the body that were taken, and its end
abbrev pub body_of : PutRequest → Body
body_of r = record { bytes = r.bytes; end = r.end }

-- nothing was refused, and no head was touched
pub record Untried (k : Known) : Type 0 where
  pub moved : k.account.moved.count ≡ 0
  pub left : left_count k.events ≡ 0
  pub moved_before : k.account.moved.last ≤ k.last
  pub expired : k.account.expired.count ≡ 0
  pub undecided : k.account.decided ≡ None
  pub unchanged : k.account.changes ≡ 0

-- so many tails with these sizes are all that the actor made
abbrev pub bundle_of : ℕ → List ℕ → ℕ → Bundle
bundle_of stripe bytes tails =
    if tails == 0 then unused else opened (map length (map (tail_bytes stripe bytes) (range_with_len 1 tails)))

-- the actor made so many tails, each of its part of the body, under the number of its first event
pub record InTails (zone write stripe tails : ℕ) (bytes : List ℕ) (k : Known) : Type 0 where
  pub first : FirstEvent
  pub is_first : k.phase.first ≡ Some first
  pub numbered : first.number ≡ write
  pub own : k.phase.stripes.own zone write write ≡ bundle_of stripe bytes tails
  pub made : (part : ℕ) → 1 ≤ part → part ≤ tails → k.made zone write part ≡ Some (tail_bytes stripe bytes part)

-- each tail has bytes, and those of a body to which more may come are whole
pub record IsCut (b : BodyView) : Type 0 where
  pub needed : (b.tails ≡ 0) ⊎ (b.stripe * b.tails < length b.bytes)
  pub paced : b.end ≡ None → (b.tails ≡ 0) ⊎ (b.stripe * (b.tails + 1) ≤ length b.bytes)

-- the draft is of the body as it came, and of what was sent
pub record IsDraft (settings : SettingsView) (r : PutRequest) (draft : Draft) : Type 0 where
  pub cut : IsCut draft.body
  pub target : draft.target ≡ target_of r
  pub bytes : draft.body.bytes ≡ r.bytes
  pub end : draft.body.end ≡ r.end
  pub low : 16 ≤ draft.body.stripe
  pub stripe : draft.body.stripe ≡ settings.stripe
  pub kind : draft.kind ≡ unwrap_or r.command.kind default_kind
  pub meta : draft.meta ≡ r.command.meta
  pub etag : draft.etag ≡ r.command.etag
  pub when : draft.when ≡ r.command.when

-- the content is the whole body, whose tails were made, and what was sent
pub record IsContent (r : PutRequest) (new : NewHead) (conditions : Conditions) (k : Known) : Type 0 where
  pub head : IsHeadOf new r.bytes
  pub sent : IsSent new r.command r.bytes
  pub when : conditions ≡ r.command.when
  pub is_taken : IsTaken r.command (body_of r)
  pub tails : InTails r.zone new.manifest.write new.manifest.stripe (tails_of new.manifest) r.bytes k

-- the update that gives the head this content began here
pub record Begins (settings : SettingsView) (r : PutRequest) (s : Start) (etag : List ℕ) (u : IndexUpdate) : Type 0 where
  pub new : NewHead
  pub when : Conditions
  pub change : s.change ≡ Write new when
  pub target : u.target ≡ target_of r
  pub etag_is : etag ≡ new.etag
  pub from : s.from ≡ ready
  pub content : IsContent r new when s.known
  pub untried : Untried s.known
  pub order : path_of s.known.events ≡ feeding
  pub stripe : new.manifest.stripe ≡ settings.stripe
  pub cut : CutBody r.zone settings.stripe r.bytes r.end s.known.events
  pub unchanged : is_changed_from false s.known.events ≡ false

-- ---- by stage

-- how far the own events have come
abbrev pub IsAt : Stage → Path → Type 0
IsAt (Looking draft) begun = Unit {0}
IsAt (Feeding write key draft) feeding = Unit {0}
IsAt (Ended outcome) path = IsFinished path
IsAt stage path = ⊥

-- what each stage needs of what is known
abbrev pub FitsAt : SettingsView → PutRequest → Stage → Known → Type 0
FitsAt settings r (Looking draft) k =
    IsDraft settings r draft × (draft.body.tails ≡ 0) × (k.phase ≡ fresh) × (k.account ≡ blank) × (k.events ≡ [])
FitsAt settings r (Feeding write key draft) k =
    IsDraft settings r draft × Untried k × AtRow (target_of r) key k × (k.phase.tag ≡ None)
    × InTails r.zone write draft.body.stripe draft.body.tails r.bytes k
FitsAt settings r (Changing etag u) k = (s : Start) × Begins settings r s etag u × UpdateFits settings (asked_of s u) u.tried u.stage k
FitsAt settings r (Ended outcome) k = IsPutOutcome r.zone r.asker r.command (body_of r) outcome k.account k.events

-- the events came in their order, and they cut the body; while an update is on its way, its start says so
abbrev pub IsInOrder : SettingsView → PutRequest → Stage → List OwnEvent → Type 0
IsInOrder settings r (Changing etag u) events = Unit {0}
IsInOrder settings r stage events = IsAt stage (path_of events) × IsSliced settings.stripe r stage events

-- the stage is what the own events came to
pub record Fits (settings : SettingsView) (r : PutRequest) (stage : Stage) (k : Known) : Type 0 where
  pub low : 1 ≤ r.zone
  pub high : r.zone ≤ settings.zones
  -- by the type of names
  pub named : HasName (target_of r)
  pub stands : FitsAt settings r stage k
  pub order : IsInOrder settings r stage k.events

-- ---- one event more

-- the operation of the stage may come next
abbrev pub MayCome : SettingsView → Stage → Known → Type 0
MayCome settings stage k = allowed settings k.phase (op_of stage) ≡ true

-- the answer to the operation of the stage brings it to one that is what the own events then came to
abbrev pub IsKept : SettingsView → PutRequest → Stage → Known → Reply → Type 0
IsKept settings r stage k reply =
    (maps : Maps) (number clock : ℕ) → k.last < number
    → Suits (op_of stage) reply
    → IsAnswer maps clock (op_of stage) reply
    → FitsAt settings r (step_of stage number reply) (known_next k maps (op_of stage) reply number clock)
