-- A read of the head brings a GET on.
use Rattle.std.proofs.Common.{◌≡◌, ℕ, ◌+◌, ◌-◌, ◌*◌, ◌<◌, ◌≤◌, min, true, false, nat_lt, cond, List, [], ◌∷◌, ◌++◌, length, map, take, drop, Some, None, refl, sym, ap, ◌∙◌, subst, arith, length-take, length-drop}
use Rattle.std.specs.Prelude.{IfSome}
use Rattle.std.specs.List.{range_with_len}
use Rattle.std.proofs.lemmas.Bool.Decides.{nat_tests}
use Rattle.std.proofs.lemmas.List.{append-nil}
use Rattle.rgw_types.specs.declared.stamp.Stamp.{Stamp}
use Rattle.rgw_types.specs.Stripes.{ManifestView}
use Rattle.rgw_model.specs.declared.slot.Slot.{Slot}
use Rattle.rgw_model.specs.declared.slot.Slot.TheVariants as Slots
use Rattle.manifest.specs.Ranges.{piece_at}
use Rattle.object_words.specs.declared.head.HeadSeen.{HeadSeen}
use Rattle.object_words.specs.declared.head.NewHead.{NewHead}
use Rattle.object_words.specs.declared.head.SeenSlot.{SeenSlot}
use Rattle.object_words.specs.declared.head.SeenSlot.TheVariants.{Nothing, Live, Mark}
use Rattle.realm_model.specs.Phases.{Phase}
use Rattle.realm_model.specs.Accounts.{Account, decided_at}
use Rattle.realm_model.specs.Owns.{OwnEvent}
use Rattle.realm_model.specs.declared.op.Op.TheVariants.{HeadRead}
use Rattle.realm_model.specs.declared.event.Reply.TheVariants.{Head}
use Rattle.task_words.specs.declared.span.ByteRange.{ByteRange}
use Rattle.task_words.specs.declared.reply.MapReply.TheVariants.{Refused}
use Rattle.task_words.specs.declared.reply.Refusal.TheVariants.{NoObject}
use Rattle.task_words.specs.declared.outcome.Outcome.TheVariants.{Done}
use Rattle.task_words.specs.Answers.{get_answer}
use Rattle.task_get.specs.declared.request.GetRequest.{GetRequest}
use Rattle.task_get.specs.declared.stage.Stage.TheVariants.{Tails, Ended}
use Rattle.task_get.specs.Shown.{HasParts, content_with, IsShownAs}
use Rattle.task_get.specs.Replies.{reply_of, range_of}
use Rattle.task_get.specs.Pieces.{brought, first_bytes, read_of, reads_of, tail_reads}
use Rattle.task_get.specs.Stages.{from_part, after_live, after_head}
use Rattle.task_get.specs.Gets.{HasLooked, HasRead, HasSeen, Means, FitsStage}
use Rattle.task_get.proofs.Replies.{bytes_in, IsRange, range_lies}
use Rattle.task_get.proofs.Pieces.{first_tail, tails_left, tails_between, IsLast, first_last, none_left, front_bytes, HeadHas, head_has}
use Rattle.task_get.proofs.Heads.{HasSeenIn, HasStripe}
use Rattle.task_get.proofs.Ends.{by_map, brought_head, decided_slot, all_shown}

-- what is told of a read of the head
pub record HeadTold (r : GetRequest) (container : ℕ) (slot : SeenSlot) (own : OwnEvent) (y : Account) (events : List OwnEvent) (z : Account) (p : Phase) (later : List OwnEvent) : Type 0 where
  pub before : HasLooked r container y events
  pub stands : later ≡ events ++ own ∷ []
  pub op : own.op ≡ HeadRead r.zone container r.get.name
  pub seen : HeadSeen
  pub shown_at : ℕ
  pub reply : own.reply ≡ Head seen shown_at
  pub slot_is : seen.slot ≡ slot
  pub whole : Slot
  pub shown : IsShownAs whole slot
  pub decided : z.decided ≡ Some (decided_at y own.number own.clock r.zone container r.get.name whole whole)
  pub changes : z.changes ≡ y.changes
  pub may : HasSeenIn r.zone slot p
  pub stripe : HasStripe slot

was_read : (r : GetRequest) (container : ℕ) (slot : SeenSlot) (own : OwnEvent) (y : Account) (events : List OwnEvent) (z : Account) (p : Phase) (later : List OwnEvent) (told : HeadTold r container slot own y events z p later) → HasRead r slot told.whole own [] z later
was_read r container slot own y events z p later told =
    let before = told.before in record {
      begins = record {
        row = before.row;
        look = before.look;
        stands = told.stands ∙ ap (λ es. es ++ own ∷ []) before.stands;
        granted = before.granted;
        shown = record { op = told.op ∙ ap (λ id. HeadRead r.zone id r.get.name) before.is_id; seen = told.seen; shown_at = told.shown_at; reply = told.reply; slot_is = told.slot_is };
      };
      decided = told.decided
          ∙ (λ i. Some (record {
            number = own.number;
            clock = own.clock;
            zone = r.zone;
            container = before.is_id i;
            name = r.get.name;
            looked = before.looked i;
            before = told.whole;
            after = told.whole;
          }));
      unchanged = told.changes ∙ before.unchanged;
    }

-- no object is there
no_object : (r : GetRequest) (slot : SeenSlot) (whole : Slot) (own : OwnEvent) (z : Account) (later : List OwnEvent) (bare : Slot) → whole ≡ bare → HasRead r slot whole own [] z later
    → Refused NoObject ≡ (get_answer r.get bare).reply → (get_answer r.get bare).after ≡ bare → (get_answer r.get bare).shown ≡ [] → brought r.get later ≡ [] → tail_reads r.zone r.get slot ≡ [] → Means r (Done (Refused NoObject)) z later × Unit {0}
no_object r slot whole own z later bare is read reply after shown none reads =
    let answers = reply ∙ sym (ap (λ s. (get_answer r.get s).reply) is) in
    let leaves = ap (λ s. (get_answer r.get s).after) is ∙ after ∙ sym is in
    let means : Means r (Done (Refused NoObject)) z later = (
      (by_map r slot whole own [] z later (Refused NoObject) read answers leaves, read.unchanged),
      (
        record { slot = slot; head = own; tails = []; begins = read.begins; asked = sym reads; answered = record { answers = []; told = refl } },
        λ event decided. none ∙ sym (ap (λ s. (get_answer r.get s).shown) (decided_slot r slot whole own [] z later event read decided ∙ is) ∙ shown),
      ),
    ) in
    (means, tt)

-- an object is there, and bytes of it are wanted
module _ (r : GetRequest) (new : NewHead) (stamp : Stamp) (bytes : List ℕ) (own : OwnEvent) (z : Account) (p : Phase) (later : List OwnEvent) (range : ByteRange) (parts : HasParts new bytes)
    (read : HasRead r (Live new stamp) (Slots.Live (content_with new bytes) stamp) own [] z later) (wanted : range_of r.get (Live new stamp) ≡ Some range) (fits : IsRange new.manifest.size range) (stripe : 0 < new.manifest.stripe) (may : HasSeen r.zone new.manifest p) where
  abbrev m : ManifestView
  m = new.manifest

  abbrev n : ℕ
  n = min m.stripe (range.start + range.count) - range.start

  has : HeadHas m range.start range.count
  has = head_has m range.start range.count stripe fits.some

  -- the head's bytes of the range are the object's
  first_are : first_bytes m new.first (Some range) ≡ take n (drop range.start bytes)
  first_are =
      let size = parts.first in
      let lies = fits.lies in
      let few : n ≤ length new.first - range.start = omega (arith, size, lies) in
      sym (front_bytes new.first parts.rest range.start n few) ∙ sym (ap (λ b. take n (drop range.start b)) parts.begins)

  brings : brought r.get later ≡ take n (drop range.start bytes)
  brings =
      brought_head r (Live new stamp) own [] later read.begins
      ∙ append-nil (first_bytes m new.first (range_of r.get (Live new stamp)))
      ∙ ap (first_bytes m new.first) wanted
      ∙ first_are

  reads : tail_reads r.zone r.get (Live new stamp) ≡ map (read_of r.zone m) (map (piece_at m range.start range.count) (range_with_len (first_tail m range.start) (tails_left m range.start range.count)))
  reads = ap (reads_of r.zone m) wanted ∙ ap (map (read_of r.zone m)) (tails_between m range.start range.count stripe fits.some fits.lies)

  pub first_fits : FitsStage r (from_part (reply_of r.get new stamp) m range (first_tail m range.start) (length (first_bytes m new.first (Some range))) own.clock) z p later
  first_fits =
      let k = first_tail m range.start in
      let reply = reply_of r.get new stamp in
      let given = length (first_bytes m new.first (Some range)) in
      elim (nat_lt (k * m.stripe) (range.start + range.count)) as (λ b. nat_lt (k * m.stripe) (range.start + range.count) ≡ b → FitsStage r (cond b (Tails (record { reply = reply; manifest = m; range = range; part = k; given = given; read_at = own.clock })) (Ended (Done reply) given)) z p later) [
        | true ↦ λ test.
            let follows : k * m.stripe < range.start + range.count = grind (arith, nat_tests) in
            let front = has.front follows in
            let long = ap length first_are in
            let taken = length-take n (drop range.start bytes) in
            let dropped = length-drop range.start bytes in
            let size = parts.size in
            let lies = fits.lies in
            let so_many : given ≡ k * m.stripe - range.start = omega (arith, front, long, taken, dropped, size, lies) in
            let last : IsLast m range.start range.count k (tails_left m range.start range.count) = first_last m range.start range.count stripe fits.some follows in
            record {
              new = new;
              stamp = stamp;
              bytes = bytes;
              parts = parts;
              head = own;
              tails = [];
              has_read = read;
              reply = refl;
              range = wanted;
              manifest = refl;
              read_at = refl;
              left = tails_left m range.start range.count;
              asked = reads;
              low = last.low;
              high = last.high;
              answered = record { answers = []; told = refl };
              is_reading = record { inside = lies; begins = has.begins; ends = follows; few = omega (arith, so_many) };
              behind_head = omega arith;
              some_stripe = stripe;
              given = so_many;
              brings = brings ∙ ap (λ k. take k (drop range.start bytes)) (front ∙ sym so_many);
              seen = may;
            }
        | false ↦ λ test.
            let all : range.start + range.count ≤ k * m.stripe = grind (arith, nat_tests) in
            all_shown r new stamp bytes own [] z later parts read
            (sym (reads ∙ ap (λ k. map (read_of r.zone m) (map (piece_at m range.start range.count) (range_with_len (first_tail m range.start) k))) (none_left m range.start range.count stripe fits.some all)))
            (record { answers = []; told = refl })
            (brings ∙ ap (λ k. take k (drop range.start bytes)) (has.whole all) ∙ sym (ap (λ o. bytes_in o bytes) wanted))
      ] refl

-- an object is there
live_fits : (r : GetRequest) (new : NewHead) (stamp : Stamp) (bytes : List ℕ) (own : OwnEvent) (z : Account) (p : Phase) (later : List OwnEvent) → HasParts new bytes → HasRead r (Live new stamp) (Slots.Live (content_with new bytes) stamp) own [] z later
    → HasSeen r.zone new.manifest p → (1 ≤ new.manifest.size → 0 < new.manifest.stripe) → FitsStage r (after_head r.get (Live new stamp) own.clock).0 z p later
live_fits r new stamp bytes own z p later parts read may stripe =
    let m = new.manifest in
    elim (range_of r.get (Live new stamp)) as (λ o. range_of r.get (Live new stamp) ≡ o → IfSome o (IsRange m.size) → FitsStage r (after_live (reply_of r.get new stamp) m new.first o own.clock).0 z p later) [
      | None ↦ λ none lies.
          all_shown r new stamp bytes own [] z later parts read (sym (ap (reads_of r.zone m) none)) (record { answers = []; told = refl })
          (brought_head r (Live new stamp) own [] later read.begins
          ∙ append-nil (first_bytes m new.first (range_of r.get (Live new stamp)))
          ∙ ap (first_bytes m new.first) none
          ∙ sym (ap (λ o. bytes_in o bytes) none))
      | Some range ↦ λ wanted fits.
          let lies = fits.lies in
          let some = fits.some in
          first_fits r new stamp bytes own z p later range parts read wanted fits (stripe (omega (arith, lies, some))) may
    ] refl (range_lies r.get new stamp)

pub head_fits : (r : GetRequest) (container : ℕ) (slot : SeenSlot) (own : OwnEvent) (y : Account) (events : List OwnEvent) (z : Account) (p : Phase) (later : List OwnEvent) → HeadTold r container slot own y events z p later → FitsStage r (after_head r.get slot own.clock).0 z p later
head_fits r container Nothing own y events z p later told =
    let read = was_read r container Nothing own y events z p later told in
    no_object r Nothing told.whole own z later Slots.Nothing told.shown read refl refl refl (brought_head r Nothing own [] later read.begins) refl
head_fits r container (Mark stamp) own y events z p later told =
    let read = was_read r container (Mark stamp) own y events z p later told in
    no_object r (Mark stamp) told.whole own z later (Slots.Mark stamp) told.shown read refl refl refl (brought_head r (Mark stamp) own [] later read.begins) refl
head_fits r container (Live new stamp) own y events z p later told =
    let read = was_read r container (Live new stamp) own y events z p later told in
    let shown = told.shown in
    live_fits r new stamp shown.0 own z p later shown.1 (subst (λ whole. HasRead r (Live new stamp) whole own [] z later) shown.2 read) told.may told.stripe
