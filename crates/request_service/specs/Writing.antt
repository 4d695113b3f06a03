-- What is written of a reply, piece by piece and at its end, and what a fault leaves.
use Rattle.std.specs.Prelude.{◌≡◌, ℕ, Bool, true, false, List, [], ◌++◌, Option, Some}
use Rattle.std.specs.Io.KnownBytes.{Appends}
use Rattle.http_model.specs.declared.reply.ReplyForm.{ReplyForm}
use Rattle.http_model.specs.Replies.{written_body}
use Rattle.swift_requests.specs.declared.asked.Asked.{Asked}
use Rattle.task_words.specs.declared.outcome.Outcome.TheVariants.{Done, LateRead}
use Rattle.task_words.specs.declared.reply.MapReply.{MapReply}
use Rattle.call_words.specs.Bodies.{read_whole}
use Rattle.call_words.specs.Calls.{task, text_by}
use Rattle.call_words.specs.Ends.{TaskEnd, on_object}
use Rattle.call_service.specs.declared.fault.ServeFault.{ServeFault}
use Rattle.call_service.specs.declared.fault.ServeFault.TheVariants as faults
use Rattle.call_service.specs.Serving.{AppendsFront}
use Rattle.request_service.specs.Requests.{text_at, shown_text, HasBytes, is_late}

-- ---- so far

-- the head of the reply whose bytes come, and the bytes that were brought, or a front of this
pub record IsBegun (tells : Type 0) (form : ReplyForm) (asked : Asked) (shown : Option MapReply) (brought : List ℕ) (grown : List ℕ → Type 0) : Type 0 where
  pub reply : MapReply
  pub has_bytes : HasBytes asked reply
  pub bytes : List ℕ
  pub written : grown (text_by form asked read_whole (task 0 (on_object (Done reply))) bytes)
  pub is_shown : shown ≡ Some reply
  pub is_brought : tells → bytes ≡ brought

-- all of that; or nothing, while nothing was brought
abbrev pub HasWritten : Type 0 → ReplyForm → Asked → Option MapReply → List ℕ → Bool → Option (List ℕ) → Option (List ℕ) → Type 0
HasWritten tells form asked shown brought false before now = Appends before now [] × (tells → brought ≡ [])
HasWritten tells form asked shown brought true before now = IsBegun tells form asked shown brought (Appends before now)

-- ---- a piece

-- before the first piece comes the head of the reply
abbrev pub front_text : ReplyForm → Asked → Bool → Option MapReply → List ℕ
front_text form asked true shown = []
front_text form asked false shown = shown_text form asked shown

abbrev pub piece_text : ReplyForm → Asked → Bool → Option MapReply → List ℕ → List ℕ
piece_text form asked begun shown piece = front_text form asked begun shown ++ written_body form piece

-- what a fault leaves of it: nothing where there is no memory for the head, and else a front
abbrev pub StopsPiece : ReplyForm → Asked → Bool → Option MapReply → List ℕ → Option (List ℕ) → Option (List ℕ) → ServeFault → Type 0
StopsPiece form asked begun shown piece before now faults.OutOfMemory = (begun ≡ false) × Appends before now []
StopsPiece form asked begun shown piece before now faults.WriteFault =
    AppendsFront before now (piece_text form asked begun shown piece)
StopsPiece form asked begun shown piece before now fault = ⊥

-- ---- the end

-- the reply, unless its head was written before
abbrev pub end_text : ReplyForm → Asked → Bool → TaskEnd → List ℕ
end_text form asked true end = []
end_text form asked false end = text_at form asked end

-- what a fault leaves of it
abbrev pub StopsEnd : ReplyForm → Asked → Bool → TaskEnd → Option (List ℕ) → Option (List ℕ) → ServeFault → Type 0
StopsEnd form asked begun end before now faults.OutOfMemory = (begun ≡ false) × Appends before now []
StopsEnd form asked begun end before now faults.WriteFault =
    (begun ≡ false) × (is_late end ≡ false) × AppendsFront before now (end_text form asked begun end)
StopsEnd form asked begun end before now (faults.Late read_at clock) =
    (end ≡ on_object (LateRead read_at clock)) × Appends before now []
StopsEnd form asked begun end before now fault = ⊥
