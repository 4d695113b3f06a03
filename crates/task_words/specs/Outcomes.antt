-- What the end of a task means: it says which of the actor's own events, and which answers to them, it rests on. A reply on
-- an object is the answer of the bucket map at the event that decides; every other end has its cause. Each end reads the
-- account of the task's actor, and the list of its own events, alone.
use Rattle.std.specs.Prelude.{◌≡◌, ◌≤◌, ◌⊎◌, ℕ, true, false, List, length, filter, Option, Some, None}
use Rattle.object_words.specs.declared.bucket.Bucket.{Bucket}
use Rattle.realm_model.specs.Accounts.{Looked, Decided, HoldMet, SpaceWanted, Account, is_left}
use Rattle.realm_model.specs.Owns.{OwnEvent}
use Rattle.swift_auth.specs.declared.policy.Deed.{Deed}
use Rattle.swift_auth.specs.declared.policy.Deed.TheVariants.{ChangeThing}
use Rattle.task_words.specs.declared.asker.Asker.{Asker}
use Rattle.task_words.specs.declared.command.BodyEnd.{BodyEnd}
use Rattle.task_words.specs.declared.command.BodyEnd.TheVariants.{Whole, Failed}
use Rattle.task_words.specs.declared.command.GetCommand.{GetCommand}
use Rattle.task_words.specs.declared.command.PutCommand.{PutCommand}
use Rattle.task_words.specs.declared.reply.MapReply.{MapReply}
use Rattle.task_words.specs.declared.reply.MapReply.TheVariants.{Stored, Shown, Refused}
use Rattle.task_words.specs.declared.reply.Refusal.{Refusal}
use Rattle.task_words.specs.declared.reply.Refusal.TheVariants.{Unauthorized, Denied, NoContainer, NotMet, OtherEtag}
use Rattle.task_words.specs.declared.limits.TheConstants.{MOST_MOVED, MOST_EXPIRED}
use Rattle.task_words.specs.declared.outcome.Outcome.{Outcome}
use Rattle.task_words.specs.declared.outcome.Outcome.TheVariants.{Done, BodyFailed, Busy, MovedOften, LateTag, LateRead, NoSpace}
use Rattle.task_words.specs.Answers.{Command, put, get, container_of, name_of, deed_of, answer, is_other_etag}
use Rattle.task_words.specs.Rows.{row_refusal}

-- a task ends with its answer Moved or Closed of this number
abbrev pub most_moved : ℕ
most_moved = MOST_MOVED

-- a task ends with its answer Expired of this number
abbrev pub most_expired : ℕ
most_expired = MOST_EXPIRED

-- ---- the row of the container

-- the container's name was looked up in the zone, and the row that was shown refuses so much
pub record LookedUp (zone : ℕ) (asker : Asker) (container : List ℕ) (deed : Deed) (refusal : Option Refusal) (last : Option Looked) : Type 0 where
  pub look : Looked
  pub is_last : last ≡ Some look
  pub in_zone : look.zone ≡ zone
  pub under_name : look.name ≡ container
  pub refuses : row_refusal asker look.row deed ≡ refusal

-- the last own bucket read refuses it, and no head was looked at
pub record ByRow (zone : ℕ) (asker : Asker) (container : List ℕ) (deed : Deed) (refusal : Refusal) (y : Account) : Type 0 where
  pub by_row : LookedUp zone asker container deed (Some refusal) y.looked
  pub undecided : y.decided ≡ None
  pub unchanged : y.changes ≡ 0

-- the last own bucket read grants it, and no head was changed
pub record Granted (zone : ℕ) (asker : Asker) (container : List ℕ) (deed : Deed) (y : Account) : Type 0 where
  pub by_row : LookedUp zone asker container deed None y.looked
  pub unchanged : y.changes ≡ 0

-- ---- the bucket map

-- the reply, and the slot after it, are the answer of the bucket map at the event that decides: on the slot just before it,
-- at its clock, in the container whose row the last own bucket read up to it showed, and which grants it
pub record ByMap (zone : ℕ) (asker : Asker) (command : Command) (reply : MapReply) (last : Option Decided) : Type 0 where
  pub event : Decided
  pub is_last : last ≡ Some event
  pub in_zone : event.zone ≡ zone
  pub of_name : event.name ≡ name_of command
  pub look : Looked
  pub looked : event.looked ≡ Some look
  pub look_in_zone : look.zone ≡ zone
  pub look_of_name : look.name ≡ container_of command
  pub row : Bucket
  pub showed : look.row ≡ Some row
  pub granted : row_refusal asker (Some row) (deed_of command) ≡ None
  pub in_container : event.container ≡ row.id
  pub answers : reply ≡ (answer event.before command zone event.clock).reply
  pub leaves : event.after ≡ (answer event.before command zone event.clock).after

-- bytes are shown
abbrev pub IsShown : MapReply → Type 0
IsShown (Shown kind meta etag stamp size start count) = Unit {0}
IsShown reply = ⊥

-- ---- causes

-- the last hold that an own preparation met has this number
pub record MetHold (id : ℕ) (last : Option HoldMet) : Type 0 where
  pub hold : HoldMet
  pub is_last : last ≡ Some hold
  pub is_named : id ≡ hold.id

-- the last own event that wanted frames found so many free, and needed so many
pub record WantedSpace (free needed : ℕ) (last : Option SpaceWanted) : Type 0 where
  pub want : SpaceWanted
  pub is_last : last ≡ Some want
  pub found : free ≡ want.free
  pub wanted : needed ≡ want.needed

-- the event that decides was a read of the head at this clock, on which the bucket map's reply shows bytes
pub record ShownAt (zone : ℕ) (asker : Asker) (command : Command) (read_at : ℕ) (y : Account) : Type 0 where
  pub reply : MapReply
  pub shows : IsShown reply
  pub by_map : ByMap zone asker command reply y.decided
  pub clock : read_at ≡ by_map.event.clock
  pub unchanged : y.changes ≡ 0

-- ---- GET and HEAD

-- what a reply to a GET or a HEAD rests on: the bucket map, or the container's row
abbrev pub IsGetReply : ℕ → Asker → GetCommand → MapReply → Account → Type 0
IsGetReply zone asker c (Refused Unauthorized) y = ByRow zone asker c.container (deed_of (get c)) Unauthorized y
IsGetReply zone asker c (Refused (Denied rule)) y = ByRow zone asker c.container (deed_of (get c)) (Denied rule) y
IsGetReply zone asker c (Refused NoContainer) y = ByRow zone asker c.container (deed_of (get c)) NoContainer y
IsGetReply zone asker c reply y = ByMap zone asker (get c) reply y.decided × (y.changes ≡ 0)

-- the end of the task of a GET or a HEAD. The account keeps no clock of a read of a tail
abbrev pub IsGetOutcome : ℕ → Asker → GetCommand → Outcome → Account → Type 0
IsGetOutcome zone asker c (Done reply) y = IsGetReply zone asker c reply y
IsGetOutcome zone asker c (LateRead read_at clock) y = ShownAt zone asker (get c) read_at y
IsGetOutcome zone asker c outcome y = ⊥

-- ---- PUT

-- the bytes of a body that came, and its end, once it is known
pub record Body : Type 0 where
  pub bytes : List ℕ
  pub end : Option BodyEnd

-- the body was read whole, and no other ETag was sent
pub record IsTaken (c : PutCommand) (body : Body) : Type 0 where
  pub whole : body.end ≡ Some Whole
  pub right : is_other_etag c.etag body.bytes ≡ false

-- the body was read whole, and another ETag was sent
pub record IsOther (c : PutCommand) (body : Body) : Type 0 where
  pub whole : body.end ≡ Some Whole
  pub wrong : is_other_etag c.etag body.bytes ≡ true

-- how many own events were answered Moved or Closed, on whichever shard; the account counts those alone whose shard an own
-- read had named since the one before
abbrev pub left_count : List OwnEvent → ℕ
left_count events = length (filter (λ e. is_left e.reply) events)

-- the one own change of a head was made, and then completed, or so many events were answered Moved or Closed
pub record IsChanged (y : Account) (events : List OwnEvent) : Type 0 where
  pub changed : y.changes ≡ 1
  pub completed : (1 ≤ y.completes) ⊎ (left_count events ≡ most_moved)

-- the last own bucket read grants the PUT, and no head was changed
abbrev pub IsUnchanged : ℕ → Asker → PutCommand → Account → Type 0
IsUnchanged zone asker c y = Granted zone asker c.container ChangeThing y

-- what a reply to a PUT rests on
abbrev pub IsPutReply : ℕ → Asker → PutCommand → Body → MapReply → Account → List OwnEvent → Type 0
IsPutReply zone asker c body (Stored etag stamp) y events =
    IsTaken c body × ByMap zone asker (put c body.bytes) (Stored etag stamp) y.decided × IsChanged y events
IsPutReply zone asker c body (Refused NotMet) y events =
    IsTaken c body × ByMap zone asker (put c body.bytes) (Refused NotMet) y.decided × (y.changes ≡ 0)
IsPutReply zone asker c body (Refused OtherEtag) y events =
    IsOther c body × IsUnchanged zone asker c y × (y.decided ≡ None)
IsPutReply zone asker c body (Refused Unauthorized) y events = ByRow zone asker c.container ChangeThing Unauthorized y
IsPutReply zone asker c body (Refused (Denied rule)) y events = ByRow zone asker c.container ChangeThing (Denied rule) y
IsPutReply zone asker c body (Refused NoContainer) y events = ByRow zone asker c.container ChangeThing NoContainer y
IsPutReply zone asker c body reply y events = ⊥

-- the end of the task of a PUT
abbrev pub IsPutOutcome : ℕ → Asker → PutCommand → Body → Outcome → Account → List OwnEvent → Type 0
IsPutOutcome zone asker c body (Done reply) y events = IsPutReply zone asker c body reply y events
IsPutOutcome zone asker c body BodyFailed y events =
    (body.end ≡ Some Failed) × IsUnchanged zone asker c y × (y.decided ≡ None)
IsPutOutcome zone asker c body (Busy id) y events = IsUnchanged zone asker c y × MetHold id y.held
IsPutOutcome zone asker c body MovedOften y events = IsUnchanged zone asker c y × (y.moved.count ≡ most_moved)
IsPutOutcome zone asker c body LateTag y events = IsUnchanged zone asker c y × (y.expired.count ≡ most_expired)
IsPutOutcome zone asker c body (NoSpace free needed) y events =
    IsUnchanged zone asker c y × WantedSpace free needed y.wanted
IsPutOutcome zone asker c body outcome y events = ⊥
