-- A request that wants no body, and whose body broke off behind the first event of its task.
use Rattle.std.specs.Prelude.{◌≡◌, ℕ, Bool, true, false, List, [], ◌∷◌, Option, Some, None, option_map, if◌then◌else◌}
use Rattle.std.specs.Io.KnownBytes.{Appends}
use Rattle.http_chunks.specs.declared.body.BodyEnd.{BodyEnd}
use Rattle.http_model.specs.declared.reply.ReplyForm.{ReplyForm}
use Rattle.swift_requests.specs.declared.asked.Asked.{Asked}
use Rattle.task_words.specs.declared.outcome.Outcome.TheVariants.{BodyFailed}
use Rattle.call_words.specs.Bodies.{broken_off}
use Rattle.call_words.specs.Calls.{task, text_by}
use Rattle.call_words.specs.Ends.{TaskEnd, on_object, body_failed, is_by_row}
use Rattle.call_service.specs.declared.fault.ServeFault.{ServeFault}
use Rattle.call_service.specs.declared.fault.ServeFault.TheVariants as faults
use Rattle.call_service.specs.declared.served.Served.{Served}
use Rattle.call_service.specs.declared.served.Served.TheVariants.{Closed, Refused}
use Rattle.call_service.specs.Serving.{form_at, LeavesText}
use Rattle.request_service.specs.Requests.{IsThere}

-- how its task ends then, whose end is this one, or not there: by the row, or by the body
abbrev pub early_end : Option TaskEnd → TaskEnd
early_end None = body_failed
early_end (Some end) = if is_by_row end then end else body_failed

-- the text of that
abbrev pub early_text : ReplyForm → Asked → BodyEnd → TaskEnd → List ℕ
early_text form asked why end = text_by (form_at form (broken_off why)) asked (broken_off why) (task 0 end) []

-- the clock was asked where the end of the body decides
abbrev pub AsksEarly : TaskEnd → Option (List ℕ) → Option (List ℕ) → Type 0
AsksEarly (on_object BodyFailed) told told' = (moment : ℕ) × Appends told told' (moment ∷ [])
AsksEarly end told told' = told' ≡ told

-- which reply that is
abbrev pub early_served : TaskEnd → Served
early_served (on_object BodyFailed) = Refused
early_served end = Closed

-- what holds of that end, by the outcome that is there, or none
abbrev pub EndsEarlyBy : {Outcome : Type 0} → Type 0 → (Outcome → Type 0) → (Outcome → TaskEnd) → (TaskEnd → Type 0) → Type 0
EndsEarlyBy {Outcome} over ends end_by Holds =
    (outcome : Option Outcome) × IsThere over ends outcome × Holds (early_end (option_map end_by outcome))

-- it was written
pub record EndsEarly (form : ReplyForm) (asked : Asked) (why : BodyEnd) (broken : Bool) (taken taken' told told' : Option (List ℕ)) (served : Served) (end : TaskEnd) : Type 0 where
  pub going : broken ≡ false
  pub served_so : served ≡ early_served end
  pub written : Appends taken taken' (early_text form asked why end)
  pub asks : AsksEarly end told told'

-- there was no memory to go on
pub record WantsMemory (broken : Bool) (taken taken' told told' : Option (List ℕ)) (fault : ServeFault) : Type 0 where
  pub is_broken : broken ≡ true
  pub memory : fault ≡ faults.OutOfMemory
  pub unwritten : Appends taken taken' []
  pub untold : told' ≡ told

-- the text was not made, or not written whole
pub record LeavesPart (form : ReplyForm) (asked : Asked) (why : BodyEnd) (broken : Bool) (taken taken' told told' : Option (List ℕ)) (fault : ServeFault) (end : TaskEnd) : Type 0 where
  pub going : broken ≡ false
  pub leaves : LeavesText taken taken' (early_text form asked why end) fault
  pub asks : AsksEarly end told told'
