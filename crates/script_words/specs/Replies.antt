-- The texts of the replies to a script (own), with the codes and lines of the Swift API's refusals.
use Rattle.std.specs.Prelude.{ℕ, List, [], ◌∷◌, ◌++◌, flat_map, Option, Some, None, codes, decimal}
use Rattle.hex.specs.Hex.{encode_lower}
use Rattle.call_words.specs.Texts.{refusal_in, refusal_by}
use Rattle.task_words.specs.declared.job.JobOutcome.{JobOutcome}
use Rattle.task_words.specs.declared.job.JobOutcome.TheVariants.{Repaired, NoBucket}
use Rattle.list_words.specs.declared.row.AccountRow.{AccountRow}
use Rattle.list_words.specs.declared.row.ListedRow.{ListedRow}
use Rattle.list_words.specs.Listings.{row_key}
use Rattle.swift_reply.specs.declared.reply.SwiftRefusal.{SwiftRefusal}
use Rattle.swift_reply.specs.declared.reply.SwiftRefusal.TheVariants as Why
use Rattle.task_account.specs.declared.reply.AccountOutcome.{AccountOutcome}
use Rattle.task_account.specs.declared.reply.AccountOutcome.TheVariants as accounts
use Rattle.task_account.specs.declared.reply.AccountReply.TheVariants.{Listed as AccountListed, Counted as AccountCounted}
use Rattle.task_container.specs.declared.outcome.ContainerOutcome.{ContainerOutcome}
use Rattle.task_container.specs.declared.outcome.ContainerOutcome.TheVariants as ends
use Rattle.task_container.specs.declared.outcome.ContainerRefusal.{ContainerRefusal}
use Rattle.task_container.specs.declared.outcome.ContainerRefusal.TheVariants.{ByRow, NotYours, NotEmpty, Unsettled}
use Rattle.task_container.specs.declared.outcome.ContainerReply.{ContainerReply}
use Rattle.task_container.specs.declared.outcome.ContainerReply.TheVariants.{Made, Accepted, Changed, Removed}
use Rattle.task_container.specs.declared.outcome.ContainerReply.TheVariants as containers
use Rattle.swift_reply.specs.Replies.{refusal_code, refusal_line}
use Rattle.task_words.specs.declared.outcome.Outcome.{Outcome}
use Rattle.task_words.specs.declared.outcome.Outcome.TheVariants.{Done, LateRead}
use Rattle.script_words.specs.declared.outcome.ActorOutcome.{ActorOutcome}
use Rattle.script_words.specs.declared.outcome.ActorOutcome.TheVariants as actors
use Rattle.task_words.specs.declared.reply.MapReply.{MapReply}
use Rattle.task_words.specs.declared.reply.MapReply.TheVariants.{Stored, Shown, Same, Counted, Listed, Refused}
use Rattle.task_words.specs.declared.reply.Refusal.TheVariants.{NoContainer}

-- the code and the line of a refusal
abbrev pub refusal_text : SwiftRefusal → List ℕ
refusal_text refusal = decimal (refusal_code refusal) ++ 32 ∷ refusal_line refusal

-- bytes behind a blank, where there are any
abbrev pub behind_blank : List ℕ → List ℕ
behind_blank [] = []
behind_blank (b ∷ bytes) = 32 ∷ b ∷ bytes

-- the keys of rows, each behind a blank
abbrev pub keys_text : List ListedRow → List ℕ
keys_text rows = flat_map (λ row. 32 ∷ row_key row) rows

-- the keys of a listing, if it has a row
abbrev pub listed_text : List ListedRow → List ℕ
listed_text [] = codes "204"
listed_text (row ∷ rows) = codes "200" ++ keys_text (row ∷ rows)

-- how many objects there are, and how many bytes they have
abbrev pub counts_text : ℕ → ℕ → List ℕ
counts_text objects bytes = codes "200 objects=" ++ decimal objects ++ codes " bytes=" ++ decimal bytes

-- what is replied of an object or a container, with the bytes that are shown
abbrev pub map_text : MapReply → List ℕ → List ℕ
map_text (Stored etag stamp) shown = codes "201 " ++ encode_lower etag
map_text (Shown kind meta etag stamp size start count) shown = codes "200 " ++ decimal size ++ behind_blank shown
map_text (Same etag stamp) shown = codes "304 " ++ encode_lower etag
map_text (Counted row objects bytes) shown = counts_text objects bytes
map_text (Listed rows) shown = listed_text rows
map_text (Refused refusal) shown = refusal_text (refusal_in refusal)

-- a refusal, if it is one
abbrev pub refusal_text_if : Option SwiftRefusal → List ℕ
refusal_text_if None = codes "400 Body failed"
refusal_text_if (Some refusal) = refusal_text refusal

-- What is replied where a request ended so, with the bytes that are shown. No script has a condition or a body that fails, so
-- that the text of such an end is never printed.
abbrev pub request_text : Outcome → List ℕ → List ℕ
request_text (Done reply) shown = map_text reply shown
request_text (LateRead read_at clock) shown = codes "late " ++ decimal read_at ++ 32 ∷ decimal clock
request_text outcome shown = refusal_text_if (refusal_by outcome)

-- the refusal of the Swift API that one of a container is
abbrev pub container_refusal_in : ContainerRefusal → SwiftRefusal
container_refusal_in (ByRow refusal) = refusal_in refusal
container_refusal_in NotYours = Why.NotYours
container_refusal_in (NotEmpty name) = Why.NotEmpty name
container_refusal_in (Unsettled name) = Why.Unsettled name

-- what is replied of a container
abbrev pub container_reply_text : ContainerReply → List ℕ
container_reply_text (containers.Counted row objects bytes) = counts_text objects bytes
container_reply_text Made = codes "201"
container_reply_text Accepted = codes "202"
container_reply_text Changed = codes "204"
container_reply_text Removed = codes "204"
container_reply_text (containers.Refused refusal) = refusal_text (container_refusal_in refusal)

-- what is replied where a request for a container ended so
abbrev pub container_text : ContainerOutcome → List ℕ
container_text (ends.Done reply) = container_reply_text reply
container_text (ends.Busy id) = refusal_text (Why.Busy id)
container_text ends.MovedOften = refusal_text Why.MovedOften
container_text ends.RacedOften = refusal_text Why.RacedOften

-- a container of the account behind a blank: its name, its objects and their bytes
abbrev pub account_row_text : AccountRow → List ℕ
account_row_text row = 32 ∷ row.name ++ 61 ∷ decimal row.count ++ 47 ∷ decimal row.bytes

-- containers, each behind a blank
abbrev pub containers_text : List AccountRow → List ℕ
containers_text rows = flat_map account_row_text rows

-- the containers of the account, if it has one
abbrev pub account_rows_text : List AccountRow → List ℕ
account_rows_text [] = codes "204"
account_rows_text (row ∷ rows) = codes "200" ++ containers_text (row ∷ rows)

-- what is replied where a request for an account ended so. No script counts an account alone
abbrev pub account_text : AccountOutcome → List ℕ
account_text (accounts.Done (AccountListed rows)) = account_rows_text rows
account_text (accounts.Done (AccountCounted containers objects bytes)) = counts_text objects bytes
account_text accounts.MovedOften = refusal_text Why.MovedOften

-- what is replied where a job ended so
abbrev pub job_text : JobOutcome → List ℕ
job_text (Repaired applied left) = codes "200 repaired=" ++ decimal applied ++ codes " left=" ++ decimal left
job_text NoBucket = refusal_text (refusal_in NoContainer)

-- what is replied where an actor ended so, with the bytes that are shown
abbrev pub outcome_text : ActorOutcome → List ℕ → List ℕ
outcome_text (actors.Request outcome) shown = request_text outcome.now shown
outcome_text (actors.Container outcome) shown = container_text outcome.now
outcome_text (actors.Account outcome) shown = account_text outcome.now
outcome_text (actors.Job outcome) shown = job_text outcome.now

-- ---- the lines that are printed

-- a reply to a line that names no actor
abbrev pub reply_line : List ℕ → List ℕ
reply_line reply = reply ++ 10 ∷ []

-- a reply behind the name of its actor
abbrev pub named_line : List ℕ → List ℕ → List ℕ
named_line actor reply = actor ++ 32 ∷ reply ++ 10 ∷ []

-- how many events an actor made that has not ended
abbrev pub count_line : List ℕ → ℕ → List ℕ
count_line actor events = actor ++ 32 ∷ decimal events ++ 10 ∷ []

-- the line of this number, from 1, is bad
abbrev pub bad_line : ℕ → List ℕ
bad_line number = codes "bad line " ++ decimal number ++ 10 ∷ []
