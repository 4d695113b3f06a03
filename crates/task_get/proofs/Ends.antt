-- What the ends of a GET mean, from its own events and the account of its actor.
use Rattle.std.proofs.Common.{◌≡◌, ℕ, ◌+◌, ◌-◌, ◌≤◌, take, drop, arith, Bool, true, false, List, [], ◌∷◌, ◌++◌, Option, Some, None, refl, sym, ap, ◌∙◌, subst}
use Rattle.std.proofs.Math.Seq.{take-add}
use Rattle.rgw_types.specs.declared.stamp.Stamp.{Stamp}
use Rattle.rgw_model.specs.declared.slot.Slot.{Slot}
use Rattle.rgw_model.specs.declared.slot.Slot.TheVariants as Slots
use Rattle.object_words.specs.declared.bucket.Bucket.{Bucket}
use Rattle.object_words.specs.declared.head.NewHead.{NewHead}
use Rattle.object_words.specs.declared.head.SeenSlot.{SeenSlot}
use Rattle.object_words.specs.declared.head.SeenSlot.TheVariants.{Live}
use Rattle.realm_model.specs.Phases.{Phase}
use Rattle.realm_model.specs.Accounts.{Looked, Decided, Account}
use Rattle.realm_model.specs.Owns.{OwnEvent}
use Rattle.realm_model.specs.declared.op.Op.TheVariants.{BucketRead}
use Rattle.realm_model.specs.declared.event.Reply.TheVariants.{Row}
use Rattle.swift_auth.specs.declared.policy.Deed.TheVariants.{ReadThing}
use Rattle.swift_auth.specs.declared.policy.Verdict.{Verdict}
use Rattle.swift_auth.specs.declared.policy.Verdict.TheVariants.{Granted as granted_verdict, Unknown, Denied as denied_verdict}
use Rattle.swift_auth.specs.declared.policy.Rule.{Rule}
use Rattle.swift_auth.specs.Policies.{found_under, verdict_of}
use Rattle.task_words.specs.declared.span.ByteRange.{ByteRange}
use Rattle.task_words.specs.declared.reply.MapReply.{MapReply}
use Rattle.task_words.specs.declared.reply.MapReply.TheVariants.{Stored, Shown, Same, Counted, Listed, Refused}
use Rattle.task_words.specs.declared.reply.Refusal.{Refusal}
use Rattle.task_words.specs.declared.reply.Refusal.TheVariants.{Unauthorized, Denied, NoContainer}
use Rattle.task_words.specs.declared.outcome.Outcome.TheVariants.{Done}
use Rattle.task_words.specs.Spans.{bytes_taken}
use Rattle.task_words.specs.Answers.{is_unmet, is_had, span_of, get, get_answer}
use Rattle.task_words.specs.Rows.{refusal_by, row_refusal}
use Rattle.task_words.specs.Outcomes.{ByMap, IsShown}
use Rattle.task_get.specs.declared.request.GetRequest.{GetRequest}
use Rattle.task_get.specs.Replies.{reply_by, reply_of, range_in, range_wanted, range_of}
use Rattle.task_get.specs.Shown.{HasParts, content_with}
use Rattle.task_get.specs.Pieces.{brought_by, brought, bytes_of_slot, tail_reads}
use Rattle.task_get.specs.Stages.{after_refusal, after_row}
use Rattle.task_get.specs.Gets.{ReadsHead, ReadsRow, ops_in, AnsweredBytes, ReadsAll, BringsAll, shown_at, BringsFront, Means, HasRead, decision, FitsStage}
use Rattle.task_get.proofs.Replies.{bytes_in, live_is}

-- ---- the row

-- a row refuses by one of three
by_three : (P : Refusal → Type 0) (v : Verdict) (found : Option Bucket) (refusal : Refusal) → refusal_by v found ≡ Some refusal → P Unauthorized → ((rule : Rule) → P (Denied rule)) → P NoContainer → P refusal
by_three P Unknown found refusal is unknown denied none = let same : Unauthorized ≡ refusal = cc in subst P same unknown
by_three P granted_verdict None refusal is unknown denied none = let same : NoContainer ≡ refusal = cc in subst P same none
by_three P (denied_verdict rule) None refusal is unknown denied none = let same : NoContainer ≡ refusal = cc in subst P same none
by_three P granted_verdict (Some row) refusal is unknown denied none = cc
by_three P (denied_verdict rule) (Some row) refusal is unknown denied none = let same : Denied rule ≡ refusal = cc in subst P same (denied rule)

-- where no row is, something refuses
some_refusal : (v : Verdict) → refusal_by v None ≡ None → ⊥
some_refusal Unknown none = cc
some_refusal granted_verdict none = cc
some_refusal (denied_verdict rule) none = cc

-- what is told of a read of the row
pub record RowTold (r : GetRequest) (row : Option Bucket) (own : OwnEvent) (y : Account) (events : List OwnEvent) : Type 0 where
  pub stands : events ≡ own ∷ []
  pub op : own.op ≡ BucketRead r.zone r.get.container
  pub reply : (there : Bucket) → row ≡ Some there → own.reply ≡ Row there
  pub looked : y.looked ≡ Some (record { zone = r.zone; name = r.get.container; row = row; number = own.number })
  pub undecided : y.decided ≡ None
  pub unchanged : y.changes ≡ 0

granted : (r : GetRequest) (row : Option Bucket) (own : OwnEvent) (y : Account) (p : Phase) (events : List OwnEvent) → RowTold r row own y events → row_refusal r.asker row ReadThing ≡ None → FitsStage r (after_refusal None row) y p events
granted r None own y p events told is = absurd (some_refusal (verdict_of r.asker.user r.asker.account None ReadThing) is)
granted r (Some row) own y p events told is = record {
  row = row;
  look = own;
  stands = told.stands;
  granted = record { op = told.op; reply = told.reply row refl; granted = is };
  is_id = refl;
  looked = told.looked;
  undecided = told.undecided;
  unchanged = told.unchanged;
}

pub row_fits : (r : GetRequest) (row : Option Bucket) (own : OwnEvent) (y : Account) (p : Phase) (events : List OwnEvent) → RowTold r row own y events → FitsStage r (after_row r.asker row) y p events
row_fits r row own y p events told =
    let look : Looked = record { zone = r.zone; name = r.get.container; row = row; number = own.number } in
    let reads : ReadsRow r events = record { look = own; stands = told.stands; op = told.op } in
    elim (row_refusal r.asker row ReadThing) as (λ o. row_refusal r.asker row ReadThing ≡ o → FitsStage r (after_refusal o row) y p events) [
      | Some refusal ↦ λ is.
          let P : Refusal → Type 0 = λ refusal. row_refusal r.asker row ReadThing ≡ Some refusal → Means r (Done (Refused refusal)) y events in
          let means : Means r (Done (Refused refusal)) y events = by_three P (verdict_of r.asker.user r.asker.account row ReadThing) (found_under r.asker.account row) refusal is
          (λ is. (record { by_row = record { look = look; is_last = told.looked; in_zone = refl; under_name = refl; refuses = is }; undecided = told.undecided; unchanged = told.unchanged }, reads))
          (λ rule is. (record { by_row = record { look = look; is_last = told.looked; in_zone = refl; under_name = refl; refuses = is }; undecided = told.undecided; unchanged = told.unchanged }, reads))
          (λ is. (record { by_row = record { look = look; is_last = told.looked; in_zone = refl; under_name = refl; refuses = is }; undecided = told.undecided; unchanged = told.unchanged }, reads))
          is in
          (means, tt)
      | None ↦ λ is. granted r row own y p events told is
    ] refl

-- ---- the bucket map

-- an object answer of a GET leaves the slot as it was
pub by_map : (r : GetRequest) (slot : SeenSlot) (whole : Slot) (head : OwnEvent) (later : List OwnEvent) (y : Account) (events : List OwnEvent) (reply : MapReply) → HasRead r slot whole head later y events → reply ≡ (get_answer r.get whole).reply → (get_answer r.get whole).after ≡ whole → ByMap r.zone r.asker (get r.get) reply y.decided
by_map r slot whole head later y events reply read answers leaves =
    let begins = read.begins in record {
      event = decision r begins.row begins.look head whole;
      is_last = read.decided;
      in_zone = refl;
      of_name = refl;
      look = record { zone = r.zone; name = r.get.container; row = Some begins.row; number = begins.look.number };
      looked = refl;
      look_in_zone = refl;
      look_of_name = refl;
      row = begins.row;
      showed = refl;
      granted = begins.granted.granted;
      in_container = refl;
      answers = answers;
      leaves = sym leaves;
    }

-- a reply to an object that is there rests on the bucket map
pub ended : (r : GetRequest) (y : Account) (events : List OwnEvent) (unmet had : Bool) (range : Option ByteRange) (size : ℕ) (kind : List ℕ) (meta : List (List ℕ × List ℕ)) (etag : List ℕ) (stamp : Stamp)
    → ByMap r.zone r.asker (get r.get) (reply_by unmet had range size kind meta etag stamp) y.decided → y.changes ≡ 0 → ReadsAll r events → BringsAll r y events → Means r (Done (reply_by unmet had range size kind meta etag stamp)) y events
ended r y events true had range size kind meta etag stamp by unchanged reads brings = ((by, unchanged), (reads, brings))
ended r y events false true range size kind meta etag stamp by unchanged reads brings = ((by, unchanged), (reads, brings))
ended r y events false false None size kind meta etag stamp by unchanged reads brings = ((by, unchanged), (reads, brings))
ended r y events false false (Some range) size kind meta etag stamp by unchanged reads brings = ((by, unchanged), (reads, brings))

-- ---- bytes

-- the read of the row brings none, and that of the head the slot's
pub brought_head : (r : GetRequest) (slot : SeenSlot) (head : OwnEvent) (later events : List OwnEvent) → ReadsHead r slot head later events → brought r.get events ≡ bytes_of_slot r.get slot ++ brought r.get later
brought_head r slot head later events begins =
    let c = r.get in
    let of_row : brought_by c begins.look.op begins.look.reply ≡ [] = ap (λ o. brought_by c o begins.look.reply) begins.granted.op in
    let of_head : brought_by c head.op head.reply ≡ bytes_of_slot c slot =
    (λ i. brought_by c (begins.shown.op i) (begins.shown.reply i)) ∙ ap (bytes_of_slot c) begins.shown.slot_is in
    ap (brought c) begins.stands
    ∙ (λ i. of_row i ++ (of_head i ++ brought c later))

-- a reply of which a range is wanted shows bytes
pub shows_bytes : (wanted : Bool) (reply : MapReply) (range : ByteRange) → range_wanted wanted (range_in reply) ≡ Some range → IsShown reply
shows_bytes true (Shown kind meta etag stamp size start count) range is = tt
shows_bytes false (Shown kind meta etag stamp size start count) range is = tt
shows_bytes true (Stored etag stamp) range is = cc
shows_bytes false (Stored etag stamp) range is = cc
shows_bytes true (Same etag stamp) range is = cc
shows_bytes false (Same etag stamp) range is = cc
shows_bytes true (Counted row objects bytes) range is = cc
shows_bytes false (Counted row objects bytes) range is = cc
shows_bytes true (Listed rows) range is = cc
shows_bytes false (Listed rows) range is = cc
shows_bytes true (Refused refusal) range is = cc
shows_bytes false (Refused refusal) range is = cc

-- the slot of the event that decides
pub decided_slot : (r : GetRequest) (slot : SeenSlot) (whole : Slot) (head : OwnEvent) (later : List OwnEvent) (y : Account) (events : List OwnEvent) (event : Decided) → HasRead r slot whole head later y events → y.decided ≡ Some event → event.before ≡ whole
decided_slot r slot whole head later y events event read is =
    let both : Some (decision r read.begins.row read.begins.look head whole) ≡ Some event = sym read.decided ∙ is in
    let same : decision r read.begins.row read.begins.look head whole ≡ event = cc in
    sym (ap (λ (d : Decided). d.before) same)

-- and its clock
pub decided_clock : (r : GetRequest) (slot : SeenSlot) (whole : Slot) (head : OwnEvent) (later : List OwnEvent) (y : Account) (events : List OwnEvent) (event : Decided) → HasRead r slot whole head later y events → y.decided ≡ Some event → head.clock ≡ event.clock
decided_clock r slot whole head later y events event read is =
    let both : Some (decision r read.begins.row read.begins.look head whole) ≡ Some event = sym read.decided ∙ is in
    let same : decision r read.begins.row read.begins.look head whole ≡ event = cc in
    ap (λ (d : Decided). d.clock) same

-- the bytes that were brought are a front of those that an object's reply shows
pub front_shown : (r : GetRequest) (new : NewHead) (stamp : Stamp) (bytes : List ℕ) (head : OwnEvent) (tails : List OwnEvent) (y : Account) (events : List OwnEvent) (range : ByteRange) (given : ℕ) → HasParts new bytes
    → HasRead r (Live new stamp) (Slots.Live (content_with new bytes) stamp) head tails y events → range_of r.get (Live new stamp) ≡ Some range → given ≤ range.count → brought r.get events ≡ take given (drop range.start bytes) → BringsFront r y events
front_shown r new stamp bytes head tails y events range given parts read wanted few so_far event decided =
    let c = r.get in
    let left = range.count - given in
    let sum : range.count ≡ given + left = omega (arith, few) in
    let whole : Slot = Slots.Live (content_with new bytes) stamp in
    let all : shown_at r event ≡ take range.count (drop range.start bytes) =
    ap (λ slot. (get_answer c slot).shown) (decided_slot r (Live new stamp) whole head tails y events event read decided) ∙ (live_is c new stamp bytes parts.size).shown ∙ ap (λ o. bytes_in o bytes) wanted in
    record {
      rest = take left (drop given (drop range.start bytes));
      joined = all
          ∙ ap (λ n. take n (drop range.start bytes)) sum
          ∙ take-add given left (drop range.start bytes)
          ∙ ap (λ l. l ++ take left (drop given (drop range.start bytes))) (sym so_far);
    }

-- all bytes that an object's reply shows were brought
pub all_shown : (r : GetRequest) (new : NewHead) (stamp : Stamp) (bytes : List ℕ) (head : OwnEvent) (tails : List OwnEvent) (y : Account) (events : List OwnEvent) → HasParts new bytes
    → HasRead r (Live new stamp) (Slots.Live (content_with new bytes) stamp) head tails y events → ops_in tails ≡ tail_reads r.zone r.get (Live new stamp) → AnsweredBytes tails
    → brought r.get events ≡ bytes_in (range_of r.get (Live new stamp)) bytes → Means r (Done (reply_of r.get new stamp)) y events × Unit {0}
all_shown r new stamp bytes head tails y events parts read asked answered brings =
    let c = r.get in
    let whole : Slot = Slots.Live (content_with new bytes) stamp in
    let is = live_is c new stamp bytes parts.size in
    let means : Means r (Done (reply_of c new stamp)) y events = ended r y events (is_unmet c.when.matches c.when.unmodified new.etag stamp) (is_had c.when.none c.when.modified new.etag stamp) (bytes_taken (span_of c) new.manifest.size) new.manifest.size new.kind new.meta new.etag stamp
    (by_map r (Live new stamp) whole head tails y events (reply_of c new stamp) read is.reply is.after) read.unchanged
    (record { slot = Live new stamp; head = head; tails = tails; begins = read.begins; asked = asked; answered = answered })
    (λ event decided. brings ∙ sym is.shown ∙ ap (λ slot. (get_answer c slot).shown) (sym (decided_slot r (Live new stamp) whole head tails y events event read decided))) in
    (means, tt)
