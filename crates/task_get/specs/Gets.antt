-- What the own events of a GET are, what its end means by them, and how they bring it to its stage.
use Rattle.std.specs.Prelude.{◌≡◌, ℕ, ◌+◌, ◌-◌, ◌*◌, ◌<◌, ◌≤◌, true, List, [], ◌∷◌, ◌++◌, map, take, drop, Some, None}
use Rattle.std.specs.List.{range_with_len}
use Rattle.rgw_types.specs.declared.stamp.Stamp.{Stamp}
use Rattle.rgw_types.specs.Stripes.{ManifestView, tails_of}
use Rattle.rgw_model.specs.declared.slot.Slot.{Slot}
use Rattle.rgw_model.specs.declared.slot.Slot.TheVariants as Slots
use Rattle.manifest.specs.Ranges.{part_size, piece_at}
use Rattle.object_words.specs.declared.bucket.Bucket.{Bucket}
use Rattle.object_words.specs.declared.head.HeadSeen.{HeadSeen}
use Rattle.object_words.specs.declared.head.NewHead.{NewHead}
use Rattle.object_words.specs.declared.head.SeenSlot.{SeenSlot}
use Rattle.object_words.specs.declared.head.SeenSlot.TheVariants.{Live}
use Rattle.object_words.specs.declared.why.Why.TheVariants.{Gone}
use Rattle.realm_model.specs.Phases.{Phase}
use Rattle.realm_model.specs.Needs.{is_seen_range}
use Rattle.realm_model.specs.Accounts.{Decided, Account}
use Rattle.realm_model.specs.Owns.{OwnEvent}
use Rattle.realm_model.specs.declared.op.Op.{Op}
use Rattle.realm_model.specs.declared.op.Op.TheVariants.{BucketRead, HeadRead}
use Rattle.realm_model.specs.declared.event.Reply.TheVariants.{No, Row, Head, Bytes}
use Rattle.swift_auth.specs.declared.policy.Deed.TheVariants.{ReadThing}
use Rattle.task_words.specs.declared.reply.MapReply.{MapReply}
use Rattle.task_words.specs.declared.reply.MapReply.TheVariants.{Refused}
use Rattle.task_words.specs.declared.reply.Refusal.TheVariants.{Unauthorized, Denied, NoContainer}
use Rattle.task_words.specs.declared.outcome.Outcome.{Outcome}
use Rattle.task_words.specs.declared.outcome.Outcome.TheVariants.{Done, LateRead}
use Rattle.task_words.specs.Answers.{get, answer}
use Rattle.task_words.specs.Rows.{row_refusal}
use Rattle.task_words.specs.Outcomes.{ByMap, IsShown, IsGetOutcome}
use Rattle.task_get.specs.declared.request.GetRequest.{GetRequest}
use Rattle.task_get.specs.declared.stage.Stage.{Stage}
use Rattle.task_get.specs.declared.stage.Stage.TheVariants.{Look, Open, Tails, Ended, Late}
use Rattle.task_get.specs.Shown.{HasParts, content_with}
use Rattle.task_get.specs.Replies.{reply_of, range_of}
use Rattle.task_get.specs.Pieces.{brought_by, brought, read_of, tail_reads}
use Rattle.task_get.specs.Readings.{ReadingView, IsReading}

-- ---- the own events

-- the row of the container was read
abbrev pub reads_row : GetRequest → OwnEvent → Type 0
reads_row r look = look.op ≡ BucketRead r.zone r.get.container

-- it was read and shown, and grants the read of the object
pub record GrantedBy (r : GetRequest) (row : Bucket) (look : OwnEvent) : Type 0 where
  pub op : reads_row r look
  pub reply : look.reply ≡ Row row
  pub granted : row_refusal r.asker (Some row) ReadThing ≡ None

-- the head of the name in the row's container was read, and shows this slot
pub record ShownBy (r : GetRequest) (row : Bucket) (slot : SeenSlot) (head : OwnEvent) : Type 0 where
  pub op : head.op ≡ HeadRead r.zone row.id r.get.name
  pub seen : HeadSeen
  pub shown_at : ℕ
  pub reply : head.reply ≡ Head seen shown_at
  pub slot_is : seen.slot ≡ slot

-- a read of the row, then this read of the head, then these events, and no other
pub record ReadsHead (r : GetRequest) (slot : SeenSlot) (head : OwnEvent) (later events : List OwnEvent) : Type 0 where
  pub row : Bucket
  pub look : OwnEvent
  pub stands : events ≡ look ∷ head ∷ later
  pub granted : GrantedBy r row look
  pub shown : ShownBy r row slot head

-- the row alone is read
pub record ReadsRow (r : GetRequest) (events : List OwnEvent) : Type 0 where
  pub look : OwnEvent
  pub stands : events ≡ look ∷ []
  pub op : reads_row r look

abbrev pub ops_in : List OwnEvent → List Op
ops_in events = map (λ e. e.op) events

-- each was answered with bytes
pub record AnsweredBytes (events : List OwnEvent) : Type 0 where
  pub answers : List (List ℕ)
  pub told : map (λ e. e.reply) events ≡ map (λ bytes. Bytes bytes) answers

-- the head is read, and then each tail that has bytes of the range that is wanted, once and by rising number
pub record ReadsAll (r : GetRequest) (events : List OwnEvent) : Type 0 where
  pub slot : SeenSlot
  pub head : OwnEvent
  pub tails : List OwnEvent
  pub begins : ReadsHead r slot head tails events
  pub asked : ops_in tails ≡ tail_reads r.zone r.get slot
  pub answered : AnsweredBytes tails

-- the same up to a tail that is gone: the clocks are those of the read of the head and of the answer
pub record MissesTail (r : GetRequest) (read_at clock : ℕ) (events : List OwnEvent) : Type 0 where
  pub slot : SeenSlot
  pub head : OwnEvent
  pub tails : List OwnEvent
  pub last : OwnEvent
  pub rest : List Op
  pub begins : ReadsHead r slot head (tails ++ last ∷ []) events
  pub at_head : read_at ≡ head.clock
  pub asked : tail_reads r.zone r.get slot ≡ ops_in tails ++ last.op ∷ rest
  pub answered : AnsweredBytes tails
  pub missed : last.reply ≡ No (Gone clock)
  pub at_miss : clock ≡ last.clock

-- ---- the end

-- the bytes that the bucket map's reply shows at the event that decides
abbrev pub shown_at : GetRequest → Decided → List ℕ
shown_at r event = (answer event.before (get r.get) r.zone event.clock).shown

-- the bytes that were brought are all those that are shown at the event that decides
abbrev pub BringsAll : GetRequest → Account → List OwnEvent → Type 0
BringsAll r y events = (event : Decided) → y.decided ≡ Some event → brought r.get events ≡ shown_at r event

-- they are a front of those
pub record IsFront (bytes whole : List ℕ) : Type 0 where
  pub rest : List ℕ
  pub joined : whole ≡ bytes ++ rest

abbrev pub BringsFront : GetRequest → Account → List OwnEvent → Type 0
BringsFront r y events = (event : Decided) → y.decided ≡ Some event → IsFront (brought r.get events) (shown_at r event)

-- by the row's refusal, or by the bucket map
abbrev pub EndsWith : GetRequest → MapReply → Account → List OwnEvent → Type 0
EndsWith r (Refused Unauthorized) y events = ReadsRow r events
EndsWith r (Refused (Denied rule)) y events = ReadsRow r events
EndsWith r (Refused NoContainer) y events = ReadsRow r events
EndsWith r reply y events = ReadsAll r events × BringsAll r y events

-- what an outcome rests on: the account of the actor, and the list of its own events
abbrev pub Means : GetRequest → Outcome → Account → List OwnEvent → Type 0
Means r (Done reply) y events = IsGetOutcome r.zone r.asker r.get (Done reply) y × EndsWith r reply y events
Means r (LateRead read_at clock) y events =
    IsGetOutcome r.zone r.asker r.get (LateRead read_at clock) y × MissesTail r read_at clock events × BringsFront r y events
Means r outcome y events = ⊥

-- ---- the stages

-- each range of a tail of the manifest may be read
abbrev pub HasSeen : ℕ → ManifestView → Phase → Type 0
HasSeen zone m p = (part start count : ℕ) → 1 ≤ count → 1 ≤ part → part ≤ tails_of m → start + count ≤ part_size m part → is_seen_range p.stripes.seen zone m.write part start count ≡ true

-- no own event yet
pub record HasBegun (y : Account) (events : List OwnEvent) : Type 0 where
  pub none : events ≡ []
  pub undecided : y.decided ≡ None
  pub unchanged : y.changes ≡ 0

-- the row was read, and grants the read of the object
pub record HasLooked (r : GetRequest) (container : ℕ) (y : Account) (events : List OwnEvent) : Type 0 where
  pub row : Bucket
  pub look : OwnEvent
  pub stands : events ≡ look ∷ []
  pub granted : GrantedBy r row look
  pub is_id : container ≡ row.id
  pub looked : y.looked ≡ Some (record { zone = r.zone; name = r.get.container; row = Some row; number = look.number })
  pub undecided : y.decided ≡ None
  pub unchanged : y.changes ≡ 0

-- a read of the head as the event that decides, with the slot that it found
abbrev pub decision : GetRequest → Bucket → OwnEvent → OwnEvent → Slot → Decided
decision r row look head whole = record {
  number = head.number;
  clock = head.clock;
  zone = r.zone;
  container = row.id;
  name = r.get.name;
  looked = Some (record { zone = r.zone; name = r.get.container; row = Some row; number = look.number });
  before = whole;
  after = whole;
}

-- the head was read, and decides
pub record HasRead (r : GetRequest) (slot : SeenSlot) (whole : Slot) (head : OwnEvent) (later : List OwnEvent) (y : Account) (events : List OwnEvent) : Type 0 where
  pub begins : ReadsHead r slot head later events
  pub decided : y.decided ≡ Some (decision r begins.row begins.look head whole)
  pub unchanged : y.changes ≡ 0

-- the reply shows bytes that are wanted; those before the tail that comes next were brought, and `left` tails have others
pub record HasOpened (r : GetRequest) (x : ReadingView) (y : Account) (p : Phase) (events : List OwnEvent) : Type 0 where
  pub new : NewHead
  pub stamp : Stamp
  pub bytes : List ℕ
  pub parts : HasParts new bytes
  pub head : OwnEvent
  pub tails : List OwnEvent
  pub has_read : HasRead r (Live new stamp) (Slots.Live (content_with new bytes) stamp) head tails y events
  pub reply : x.reply ≡ reply_of r.get new stamp
  pub range : range_of r.get (Live new stamp) ≡ Some x.range
  pub manifest : x.manifest ≡ new.manifest
  pub read_at : x.read_at ≡ head.clock
  pub left : ℕ
  pub asked : tail_reads r.zone r.get (Live new stamp)
      ≡ ops_in tails ++ map (read_of r.zone x.manifest) (map (piece_at x.manifest x.range.start x.range.count) (range_with_len x.part left))
  pub low : (x.part + left) * x.manifest.stripe < x.range.start + x.range.count + x.manifest.stripe
  pub high : x.range.start + x.range.count ≤ (x.part + left) * x.manifest.stripe
  pub answered : AnsweredBytes tails
  pub is_reading : IsReading x
  pub behind_head : 1 ≤ x.part
  pub some_stripe : 1 ≤ x.manifest.stripe
  pub given : x.given ≡ x.part * x.manifest.stripe - x.range.start
  pub brings : brought r.get events ≡ take x.given (drop x.range.start bytes)
  pub seen : HasSeen r.zone x.manifest p

-- the bucket map's reply is this one, which shows bytes
pub record Shows (r : GetRequest) (reply : MapReply) (y : Account) : Type 0 where
  pub by_map : ByMap r.zone r.asker (get r.get) reply y.decided
  pub is_shown : IsShown reply

-- a reply was found
abbrev pub IsDone : Outcome → Type 0
IsDone (Done reply) = Unit {0}
IsDone outcome = ⊥

-- by the stage
abbrev pub FitsStage : GetRequest → Stage → Account → Phase → List OwnEvent → Type 0
FitsStage r Look y p events = HasBegun y events
FitsStage r (Open container) y p events = HasLooked r container y events
FitsStage r (Tails x) y p events = HasOpened r x y p events
FitsStage r (Ended outcome given) y p events = Means r outcome y events × IsDone outcome
FitsStage r (Late x outcome) y p events = Means r outcome y events × Shows r x.reply y

-- the last own event brought this piece
abbrev pub LastBrings : GetRequest → List ℕ → List OwnEvent → Type 0
LastBrings r piece events = (earlier : List OwnEvent) (e : OwnEvent) → events ≡ earlier ++ e ∷ [] → piece ≡ brought_by r.get e.op e.reply
