-- What the rows and the bucket maps of a zone reply to calls, one after another (OpenStack Object Storage API v1, objects and
-- the listings of containers).
use Rattle.std.specs.Prelude.{◌≡◌, ℕ, Bool, true, false, T, List, [], ◌∷◌, length, Option, Some, None, if◌then◌else◌}
use Rattle.std.specs.List.{AllByRecursion}
use Rattle.std.specs.FinMap.Entries.{find, is_sorted}
use Rattle.http_model.specs.declared.reply.ReplyForm.{ReplyForm}
use Rattle.rgw_model.specs.declared.slot.Slot.{Slot}
use Rattle.rgw_model.specs.declared.slot.Slot.TheVariants.{Live}
use Rattle.object_words.specs.declared.bucket.Bucket.{Bucket}
use Rattle.object_words.specs.Names.{name_cmp}
use Rattle.object_words.specs.Rows.{RowView}
use Rattle.list_words.specs.declared.command.ListCommand.{ListCommand}
use Rattle.list_words.specs.declared.row.ListedRow.{ListedRow}
use Rattle.list_words.specs.Listings.{rows_of}
use Rattle.swift_auth.specs.declared.policy.Deed.{Deed}
use Rattle.swift_auth.specs.declared.policy.Deed.TheVariants.{ListContainer}
use Rattle.swift_requests.specs.declared.asked.Asked.{Asked}
use Rattle.swift_requests.specs.declared.asked.Asked.TheVariants as Asks
use Rattle.swift_requests.specs.declared.asked.UnfedCommand.TheVariants.{Get, Listing, Container, Account}
use Rattle.task_words.specs.declared.asker.Asker.{Asker}
use Rattle.task_words.specs.declared.outcome.Outcome.{Outcome}
use Rattle.task_words.specs.declared.outcome.Outcome.TheVariants.{Done, BodyFailed, Busy, MovedOften, LateTag, NoSpace}
use Rattle.task_words.specs.declared.reply.MapReply.{MapReply}
use Rattle.task_words.specs.declared.reply.MapReply.TheVariants.{Listed, Refused}
use Rattle.task_words.specs.declared.reply.Refusal.{Refusal}
use Rattle.task_words.specs.declared.reply.Refusal.TheVariants.{NoContainer, OtherEtag}
use Rattle.task_words.specs.Answers.{Command, put, get, container_of, name_of, deed_of, answer, is_other_etag}
use Rattle.task_words.specs.Rows.{row_refusal}
use Rattle.task_words.specs.declared.command.GetCommand.{GetCommand}
use Rattle.task_words.specs.declared.command.PutCommand.{PutCommand}
use Rattle.call_words.specs.Bodies.{Fate, read_whole, broken_off, unread}
use Rattle.call_words.specs.Ends.{on_object}
use Rattle.call_words.specs.Calls.{Ground, alone, task, Call, call_text, IsByHead}
use Rattle.once_law.specs.Maps.{Rows, Slots, with_slot}

-- ---- one command

-- the reply, the bytes that it shows, and the slots after it
pub record Said : Type 0 where
  pub reply : MapReply
  pub shown : List ℕ
  pub slots : Slots

-- a refusal leaves the slots as they were
abbrev pub refused : Refusal → Slots → Said
refused refusal slots = record { reply = Refused refusal; shown = []; slots = slots }

-- the body was sent with the ETag of other bytes
abbrev pub has_other_etag : Command → Bool
has_other_etag (put c bytes) = is_other_etag c.etag bytes
has_other_etag (get c) = false

-- the object answer on the slot of the name, at a clock
abbrev pub said_of_name : Bucket → Slots → Command → ℕ → ℕ → Said
said_of_name row slots command zone clock =
    let a = answer (slots row.id (name_of command)) command zone clock in
    record { reply = a.reply; shown = a.shown; slots = with_slot slots row.id (name_of command) a.after }

-- in a container that grants it: a body with another ETag is refused
abbrev pub said_in : Bucket → Slots → Command → ℕ → ℕ → Said
said_in row slots command zone clock =
    if has_other_etag command then refused OtherEtag slots else said_of_name row slots command zone clock

-- the row refuses it, or grants it
abbrev pub said_by : Option Refusal → Option Bucket → Slots → Command → ℕ → ℕ → Said
said_by (Some refusal) row slots command zone clock = refused refusal slots
said_by None None slots command zone clock = refused NoContainer slots
said_by None (Some row) slots command zone clock = said_in row slots command zone clock

-- what stays the same from call to call: the zone, the rows; and the clock at the event that decides the reply to the actor of
-- each count
pub record Fixed : Type 0 where
  pub zone : ℕ
  pub rows : Rows
  pub clocks : ℕ → ℕ

-- what a command of this asker is replied, by this actor
abbrev pub said : Fixed → Slots → Asker → Command → ℕ → Said
said x slots asker command actor =
    let row = x.rows (container_of command) in
    said_by (row_refusal asker row (deed_of command)) row slots command x.zone (x.clocks actor)

-- ---- ends of a task

-- an end of a PUT that is no reply of the maps: a shard was held, or did not serve; a tag was too old; there was no room
abbrev pub IsOutside : Command → Outcome → Type 0
IsOutside (put c bytes) (Busy id) = Unit {0}
IsOutside (put c bytes) MovedOften = Unit {0}
IsOutside (put c bytes) LateTag = Unit {0}
IsOutside (put c bytes) (NoSpace free needed) = Unit {0}
IsOutside command outcome = ⊥

-- the task ended with the reply of the maps, or with an end that is none
abbrev pub IsSaid : Command → Said → Outcome → List ℕ → Type 0
IsSaid command s (Done reply) shown = (reply ≡ s.reply) × (shown ≡ s.shown)
IsSaid command s outcome shown = IsOutside command outcome × (shown ≡ [])

-- an end that is no reply of the maps leaves the slots as they were
abbrev pub left_by : Said → Outcome → Slots → Slots
left_by s (Done reply) slots = s.slots
left_by s outcome slots = slots

-- ---- listings

-- the row by which an object shows in a listing
abbrev pub row_in : Slot → Option RowView
row_in (Live content stamp) = Some (record {
  exists = true;
  size = length content.bytes;
  stamp = stamp;
  etag = content.etag;
  kind = content.kind;
})
row_in slot = None

-- the live names of a container, by rising name, each with its row
pub record AreLive (slots : List ℕ → Slot) (live : List (List ℕ × RowView)) : Type 0 where
  pub rise : T (is_sorted name_cmp live)
  pub rows : (name : List ℕ) → find name_cmp name live ≡ row_in (slots name)

-- the rows of a listing are those of the live names of the row's container
pub record AreListed (slots : Slots) (row : Bucket) (c : ListCommand) (rows : List ListedRow) : Type 0 where
  pub live : List (List ℕ × RowView)
  pub are_live : AreLive (slots row.id) live
  pub rows_are : rows ≡ rows_of c live

-- the row refuses it, or its container is listed
abbrev pub IsListReply : Option Refusal → Option Bucket → Slots → ListCommand → MapReply → Type 0
IsListReply (Some refusal) row slots c reply = reply ≡ Refused refusal
IsListReply None (Some row) slots c (Listed rows) = AreListed slots row c rows
IsListReply refusal row slots c reply = ⊥

-- the task of a listing ended with that reply; or shards did not serve too often
abbrev pub IsListSaid : Fixed → Slots → Asker → ListCommand → Outcome → Type 0
IsListSaid x slots asker c (Done reply) =
    IsListReply (row_refusal asker (x.rows c.container) ListContainer) (x.rows c.container) slots c reply
IsListSaid x slots asker c MovedOften = Unit {0}
IsListSaid x slots asker c outcome = ⊥

-- ---- bodies that break off

-- what the row of a container refuses an asker
abbrev pub refusal_of : Fixed → Asker → List ℕ → Deed → Option Refusal
refusal_of x asker container deed = row_refusal asker (x.rows container) deed

-- The row alone decides: its refusal; where it grants, that the body failed, or an end that is no reply of the maps.
abbrev pub IsByRow : (Outcome → Type 0) → Option Refusal → Outcome → Type 0
IsByRow outside (Some refusal) (Done reply) = reply ≡ Refused refusal
IsByRow outside (Some refusal) outcome = ⊥
IsByRow outside None BodyFailed = Unit {0}
IsByRow outside None outcome = outside outcome

-- no other end
abbrev pub no_other : Outcome → Type 0
no_other outcome = ⊥

-- so it ended, and no bytes are shown
abbrev pub IsCutShort : (Outcome → Type 0) → Option Refusal → Outcome → List ℕ → Type 0
IsCutShort outside refusal outcome shown = IsByRow outside refusal outcome × (shown ≡ [])

-- ---- one call

-- An object or a listing is asked for, or the head alone is answered: no container's counts are asked for, none is made, changed
-- or removed, and no account is asked for. So the rows stay as they are.
abbrev pub IsOfObjects : Asked → Type 0
IsOfObjects (Asks.Unfed asker (Container c)) = ⊥
IsOfObjects (Asks.Unfed asker (Account c listing)) = ⊥
IsOfObjects asked = Unit {0}

abbrev pub AreOfObjects : List Call → Type 0
AreOfObjects calls = AllByRecursion (λ call. IsOfObjects call.asked) calls

-- who asks, and the command on an object that it is; none where the request is answered by its head alone, is none on an object,
-- or has a body that broke off, or is a PUT whose body was left
abbrev pub command_in : Asked → Fate → List ℕ → Option (Asker × Command)
command_in (Asks.Put asker c) read_whole body = Some (asker, put c body)
command_in (Asks.Unfed asker (Get c)) read_whole body = Some (asker, get c)
command_in (Asks.Unfed asker (Get c)) unread body = Some (asker, get c)
command_in asked fate body = None

abbrev pub command_of : Call → Option (Asker × Command)
command_of call = command_in call.asked call.fate call.request.body

-- nothing is stored where the body was not read whole
abbrev pub IsPutSaid : Fixed → Slots → Asker → PutCommand → Fate → List ℕ → ℕ → Outcome → List ℕ → Type 0
IsPutSaid x slots asker c read_whole body actor outcome shown =
    IsSaid (put c body) (said x slots asker (put c body) actor) outcome shown
IsPutSaid x slots asker c (broken_off why) body actor outcome shown =
    IsCutShort (IsOutside (put c body)) (refusal_of x asker c.container (deed_of (put c body))) outcome shown
IsPutSaid x slots asker c unread body actor outcome shown =
    IsCutShort (IsOutside (put c body)) (refusal_of x asker c.container (deed_of (put c body))) outcome shown

-- a body that nobody wants may be left, and says nothing unless it broke off
abbrev pub IsGetSaid : Fixed → Slots → Asker → GetCommand → Fate → ℕ → Outcome → List ℕ → Type 0
IsGetSaid x slots asker c read_whole actor outcome shown = IsSaid (get c) (said x slots asker (get c) actor) outcome shown
IsGetSaid x slots asker c (broken_off why) actor outcome shown =
    IsCutShort no_other (refusal_of x asker c.container (deed_of (get c))) outcome shown
IsGetSaid x slots asker c unread actor outcome shown = IsSaid (get c) (said x slots asker (get c) actor) outcome shown

abbrev pub IsListingSaid : Fixed → Slots → Asker → ListCommand → Fate → Outcome → List ℕ → Type 0
IsListingSaid x slots asker c read_whole outcome shown = IsListSaid x slots asker c outcome × (shown ≡ [])
IsListingSaid x slots asker c (broken_off why) outcome shown =
    IsCutShort no_other (refusal_of x asker c.container ListContainer) outcome shown
IsListingSaid x slots asker c unread outcome shown = IsListSaid x slots asker c outcome × (shown ≡ [])

-- what is answered by the head alone shows no bytes
abbrev pub IsSaidTo : Fixed → Slots → Asked → Fate → List ℕ → Ground → List ℕ → Type 0
IsSaidTo x slots asked fate body alone shown = IsByHead asked × (shown ≡ [])
IsSaidTo x slots (Asks.Put asker c) fate body (task actor (on_object outcome)) shown =
    IsPutSaid x slots asker c fate body actor outcome shown
IsSaidTo x slots (Asks.Unfed asker (Get c)) fate body (task actor (on_object outcome)) shown =
    IsGetSaid x slots asker c fate actor outcome shown
IsSaidTo x slots (Asks.Unfed asker (Listing c listing)) fate body (task actor (on_object outcome)) shown =
    IsListingSaid x slots asker c fate outcome shown
IsSaidTo x slots asked fate body rests shown = ⊥

abbrev pub left_behind : Fixed → Slots → Option (Asker × Command) → Ground → Slots
left_behind x slots (Some (asker, command)) (task actor (on_object outcome)) =
    left_by (said x slots asker command actor) outcome slots
left_behind x slots command rests = slots

-- the call is replied as the rows and the slots say
abbrev pub IsFolded : Fixed → Slots → Call → Type 0
IsFolded x slots call = IsSaidTo x slots call.asked call.fate call.request.body call.ground call.shown

-- the slots after it
abbrev pub slots_after : Fixed → Slots → Call → Slots
slots_after x slots call = left_behind x slots (command_of call) call.ground

-- ---- calls

-- each call is replied as the rows and the slots say that the calls before it left
abbrev pub AreFolded : Fixed → Slots → List Call → Type 0
AreFolded x slots [] = Unit {0}
AreFolded x slots (call ∷ calls) = IsFolded x slots call × AreFolded x (slots_after x slots call) calls

-- the slots after all of them
abbrev pub slots_behind : Fixed → Slots → List Call → Slots
slots_behind x slots [] = slots
slots_behind x slots (call ∷ calls) = slots_behind x (slots_after x slots call) calls

-- the maps replied, or the body failed, or there was no room
abbrev pub IsRepliedOrFull : Ground → Type 0
IsRepliedOrFull alone = Unit {0}
IsRepliedOrFull (task actor (on_object (Done reply))) = Unit {0}
IsRepliedOrFull (task actor (on_object BodyFailed)) = Unit {0}
IsRepliedOrFull (task actor (on_object (NoSpace free needed))) = Unit {0}
IsRepliedOrFull rests = ⊥

abbrev pub AreRepliedOrFull : List Call → Type 0
AreRepliedOrFull calls = AllByRecursion (λ call. IsRepliedOrFull call.ground) calls

-- the maps replied, or the body failed
abbrev pub IsReplied : Ground → Type 0
IsReplied alone = Unit {0}
IsReplied (task actor (on_object (Done reply))) = Unit {0}
IsReplied (task actor (on_object BodyFailed)) = Unit {0}
IsReplied rests = ⊥

abbrev pub AreReplied : List Call → Type 0
AreReplied calls = AllByRecursion (λ call. IsReplied call.ground) calls

-- ---- two lists of calls

-- they ask the same, one after another, with the same bodies, of which the same became
abbrev pub AskTheSame : List Call → List Call → Type 0
AskTheSame [] [] = Unit {0}
AskTheSame (call ∷ calls) (other ∷ others) =
    (call.asked ≡ other.asked) × (call.fate ≡ other.fate) × (call.request.body ≡ other.request.body) × AskTheSame calls others
AskTheSame calls others = ⊥

-- the texts of their replies are the same, in each form
abbrev pub SayTheSame : List Call → List Call → Type 0
SayTheSame [] [] = Unit {0}
SayTheSame (call ∷ calls) (other ∷ others) =
    ((form : ReplyForm) → call_text form call ≡ call_text form other) × SayTheSame calls others
SayTheSame calls others = ⊥
