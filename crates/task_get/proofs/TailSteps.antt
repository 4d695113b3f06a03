-- A read of a tail brings a GET on.
use Rattle.std.proofs.Common.{◌≡◌, ℕ, zero, suc, ◌+◌, ◌-◌, ◌*◌, ◌<◌, ◌≤◌, true, false, nat_lt, cond, List, [], ◌∷◌, ◌++◌, length, map, take, drop, refl, sym, ap, ◌∙◌, subst, append_assoc, arith, drop-drop}
use Rattle.std.specs.Prelude.{IfSome}
use Rattle.std.specs.List.{range_with_len}
use Rattle.std.proofs.Math.Nat.{mul-le-mul_left}
use Rattle.std.proofs.Math.Seq.{take-add}
use Rattle.std.proofs.lemmas.Bool.Decides.{nat_tests}
use Rattle.std.proofs.lemmas.Grind.{flat_map-append}
use Rattle.std.proofs.lemmas.List.{append-nil, map-append}
use Rattle.rgw_types.specs.Stripes.{ManifestView}
use Rattle.rgw_model.specs.declared.slot.Slot.{Slot}
use Rattle.rgw_model.specs.declared.slot.Slot.TheVariants as Slots
use Rattle.manifest.specs.Ranges.{piece_at}
use Rattle.object_words.specs.declared.head.SeenSlot.TheVariants.{Live}
use Rattle.object_words.specs.declared.why.Why.TheVariants.{Gone}
use Rattle.realm_model.specs.Phases.{Phase}
use Rattle.realm_model.specs.Accounts.{Account}
use Rattle.realm_model.specs.Owns.{OwnEvent}
use Rattle.realm_model.specs.declared.op.Op.{Op}
use Rattle.realm_model.specs.declared.event.Reply.TheVariants.{No, Bytes}
use Rattle.task_words.specs.declared.outcome.Outcome.TheVariants.{Done, LateRead}
use Rattle.task_words.specs.Answers.{get}
use Rattle.task_words.specs.Outcomes.{ByMap, IsShown}
use Rattle.task_get.specs.declared.request.GetRequest.{GetRequest}
use Rattle.task_get.specs.declared.stage.Stage.TheVariants.{Tails, Ended, Late}
use Rattle.task_get.specs.Shown.{content_with}
use Rattle.task_get.specs.Replies.{reply_of}
use Rattle.task_get.specs.Pieces.{brought_by, brought, read_of, tail_reads}
use Rattle.task_get.specs.Readings.{ReadingView, next_piece}
use Rattle.task_get.specs.Stages.{gone_on}
use Rattle.task_get.specs.Gets.{ReadsHead, ops_in, AnsweredBytes, BringsFront, HasRead, HasOpened, FitsStage}
use Rattle.task_get.proofs.Replies.{bytes_in, IsRange, range_lies, LiveIs, live_is}
use Rattle.task_get.proofs.Pieces.{IsPiece, piece_is}
use Rattle.task_get.proofs.Ends.{by_map, decided_clock, front_shown, all_shown, shows_bytes}

-- what is told of a read of the tail that comes next
pub record TailTold (r : GetRequest) (x : ReadingView) (own : OwnEvent) (y : Account) (p : Phase) (events : List OwnEvent) (z : Account) (q : Phase) (later : List OwnEvent) : Type 0 where
  pub before : HasOpened r x y p events
  pub stands : later ≡ events ++ own ∷ []
  pub op : own.op ≡ read_of r.zone x.manifest (next_piece x)
  pub decided : z.decided ≡ y.decided
  pub changes : z.changes ≡ y.changes
  pub seen : q.stripes.seen ≡ p.stripes.seen

snoc_map : {A : Type 0} (f : OwnEvent → A) (xs : List OwnEvent) (x : OwnEvent) → map f (xs ++ x ∷ []) ≡ map f xs ++ f x ∷ []
snoc_map f xs x = map-append f xs (x ∷ [])

pub opened_range : (r : GetRequest) (x : ReadingView) (y : Account) (p : Phase) (events : List OwnEvent) → HasOpened r x y p events → IsRange x.manifest.size x.range
opened_range r x y p events was =
    let lies = subst (λ o. IfSome o (IsRange was.new.manifest.size)) was.range (range_lies r.get was.new was.stamp) in
    subst (λ (m : ManifestView). IsRange m.size x.range) (sym was.manifest) lies

pub opened_piece : (r : GetRequest) (x : ReadingView) (y : Account) (p : Phase) (events : List OwnEvent) → HasOpened r x y p events → IsPiece x.manifest x.range.start x.range.count x.part
opened_piece r x y p events was =
    let range = opened_range r x y p events was in
    piece_is x.manifest x.range.start x.range.count x.part was.some_stripe range.some range.lies was.is_reading.begins was.is_reading.ends

-- the last tail was read
none_behind : (stripe part n end : ℕ) → 1 ≤ stripe → (part + n) * stripe < end + stripe → end ≤ part * stripe → n ≡ 0
none_behind stripe part zero end some low all = refl
none_behind stripe part (suc n) end some low all =
    let above : part + 1 ≤ part + suc n = omega arith in
    let step : stripe * (part + 1) ≤ stripe * (part + suc n) = mul-le-mul_left stripe above in
    absurd (omega (arith, low, all, step))

module _ (r : GetRequest) (x : ReadingView) (own : OwnEvent) (y : Account) (p : Phase) (events : List OwnEvent) (z : Account) (q : Phase) (later : List OwnEvent) (told : TailTold r x own y p events z q later) where
  abbrev was : HasOpened r x y p events
  was = told.before

  range_is : IsRange x.manifest.size x.range
  range_is = opened_range r x y p events was

  -- the own events with the read
  abbrev begins : ReadsHead r (Live was.new was.stamp) was.head (was.tails ++ own ∷ []) later
  begins =
      let b = was.has_read.begins in record {
        row = b.row;
        look = b.look;
        stands = told.stands ∙ ap (λ es. es ++ own ∷ []) b.stands;
        granted = b.granted;
        shown = b.shown;
      }

  read : HasRead r (Live was.new was.stamp) (Slots.Live (content_with was.new was.bytes) was.stamp) was.head (was.tails ++ own ∷ []) z later
  read = record { begins = begins; decided = told.decided ∙ was.has_read.decided; unchanged = told.changes ∙ was.has_read.unchanged }

  brought_next : brought r.get later ≡ brought r.get events ++ brought_by r.get own.op own.reply
  brought_next =
      let next = brought_by r.get own.op own.reply in
      ap (brought r.get) told.stands
      ∙ flat_map-append (λ (e : OwnEvent). brought_by r.get e.op e.reply) events (own ∷ [])
      ∙ ap (λ l. brought r.get events ++ l) (append-nil next)

  abbrev rest : ℕ → List Op
  rest n = map (read_of r.zone x.manifest) (map (piece_at x.manifest x.range.start x.range.count) (range_with_len (x.part + 1) n))

  asked : (n : ℕ) → was.left ≡ suc n → tail_reads r.zone r.get (Live was.new was.stamp) ≡ ops_in was.tails ++ own.op ∷ rest n
  asked n left =
      was.asked
      ∙ ap (λ n. ops_in was.tails ++ map (read_of r.zone x.manifest) (map (piece_at x.manifest x.range.start x.range.count) (range_with_len x.part n))) left
      ∙ ap (λ o. ops_in was.tails ++ o ∷ rest n) (sym told.op)

  some_left : (n : ℕ) → was.left ≡ n → 1 ≤ n
  some_left zero left =
      let ends = was.is_reading.ends in
      let high = was.high in
      let same : x.part + was.left ≡ x.part = omega (arith, left) in
      let high' : x.range.start + x.range.count ≤ x.part * x.manifest.stripe = subst (λ k. x.range.start + x.range.count ≤ k * x.manifest.stripe) same high in
      absurd (omega (arith, ends, high'))
  some_left (suc n) left = omega arith

  -- the tail is gone
  pub gone_fits : (clock : ℕ) → own.reply ≡ No (Gone clock) → clock ≡ own.clock → FitsStage r (Late x (LateRead x.read_at clock)) z q later
  gone_fits clock reply at_miss =
      let n = was.left - 1 in
      let some = some_left was.left refl in
      let left : was.left ≡ suc n = omega (arith, some) in
      let c = r.get in
      let is : LiveIs c was.new was.stamp was.bytes was.new.manifest.size = live_is c was.new was.stamp was.bytes was.parts.size in
      let whole : Slot = Slots.Live (content_with was.new was.bytes) was.stamp in
      let by : ByMap r.zone r.asker (get r.get) x.reply z.decided = by_map r (Live was.new was.stamp) whole was.head (was.tails ++ own ∷ []) z later x.reply read (was.reply ∙ is.reply) is.after in
      let shown : IsShown x.reply = subst IsShown (sym was.reply) (shows_bytes c.body (reply_of c was.new was.stamp) x.range was.range) in
      let none : brought_by c own.op own.reply ≡ [] = (λ i. brought_by c (told.op i) (reply i)) in
      let so_far : brought c later ≡ take x.given (drop x.range.start was.bytes) = brought_next ∙ ap (λ l. brought c events ++ l) none ∙ append-nil (brought c events) ∙ was.brings in
      let given = was.given in
      let ends = was.is_reading.ends in
      let front : BringsFront r z later = front_shown r was.new was.stamp was.bytes was.head (was.tails ++ own ∷ []) z later x.range x.given was.parts read was.range (omega (arith, given, ends)) so_far in (
        (
          record { reply = x.reply; shows = shown; by_map = by; clock = was.read_at ∙ decided_clock r (Live was.new was.stamp) whole was.head (was.tails ++ own ∷ []) z later by.event read by.is_last; unchanged = read.unchanged },
          record {
            slot = Live was.new was.stamp;
            head = was.head;
            tails = was.tails;
            last = own;
            rest = rest n;
            begins = begins;
            at_head = was.read_at;
            asked = asked n left;
            answered = was.answered;
            missed = reply;
            at_miss = at_miss;
          },
          front,
        ),
        record { by_map = by; is_shown = shown },
      )

  module _ (answer : List ℕ) (reply : own.reply ≡ Bytes answer) (long : length answer ≡ (next_piece x).count)
      (are : answer ≡ take (next_piece x).count (drop (x.part * x.manifest.stripe + (next_piece x).start) was.bytes)) where
    answered : AnsweredBytes (was.tails ++ own ∷ [])
    answered = record {
      answers = was.answered.answers ++ answer ∷ [];
      told = snoc_map (λ (e : OwnEvent). e.reply) was.tails own
          ∙ (λ i. was.answered.told i ++ reply i ∷ [])
          ∙ sym (map-append (λ bytes. Bytes bytes) was.answered.answers (answer ∷ []));
    }

    brings : brought r.get later ≡ take (x.given + (next_piece x).count) (drop x.range.start was.bytes)
    brings =
        let c = (next_piece x).count in
        let given = was.given in
        let place : x.part * x.manifest.stripe + (next_piece x).start ≡ x.range.start + x.given = omega (arith, given) in
        let new : brought_by r.get own.op own.reply ≡ answer = (λ i. brought_by r.get (told.op i) (reply i)) in
        brought_next
        ∙ (λ i. was.brings i ++ (new ∙ are ∙ ap (λ n. take c (drop n was.bytes)) place ∙ ap (take c) (sym (drop-drop x.given x.range.start was.bytes))) i)
        ∙ sym (take-add x.given c (drop x.range.start was.bytes))

    -- another tail has bytes of the range, or none has
    pub bytes_fit : FitsStage r (gone_on x (length answer)) z q later
    bytes_fit =
        let n = was.left - 1 in
        let some = some_left was.left refl in
        let left : was.left ≡ suc n = omega (arith, some) in
        let stripe = x.manifest.stripe in
        let given = was.given in
        let begins_at = was.is_reading.begins in
        let ends_at = was.is_reading.ends in
        let lies = range_is.lies in
        let sum : x.part + was.left ≡ (x.part + 1) + n = omega (arith, left) in
        let low : ((x.part + 1) + n) * stripe < x.range.start + x.range.count + stripe = subst (λ k. k * stripe < x.range.start + x.range.count + stripe) sum was.low in
        let high : x.range.start + x.range.count ≤ ((x.part + 1) + n) * stripe = subst (λ k. x.range.start + x.range.count ≤ k * stripe) sum was.high in
        let ops : ops_in (was.tails ++ own ∷ []) ≡ ops_in was.tails ++ own.op ∷ [] = snoc_map (λ (e : OwnEvent). e.op) was.tails own in
        let split : tail_reads r.zone r.get (Live was.new was.stamp) ≡ ops_in (was.tails ++ own ∷ []) ++ rest n =
        asked n left ∙ sym (append_assoc (ops_in was.tails) (own.op ∷ []) (rest n)) ∙ ap (λ l. l ++ rest n) (sym ops) in
        elim (nat_lt ((x.part + 1) * stripe) (x.range.start + x.range.count)) as (λ b. nat_lt ((x.part + 1) * stripe) (x.range.start + x.range.count) ≡ b → FitsStage r (cond b (Tails (record x { part = x.part + 1; given = x.given + length answer })) (Ended (Done x.reply) (x.given + length answer))) z q later) [
          | true ↦ λ test.
              let follows : (x.part + 1) * stripe < x.range.start + x.range.count = grind (arith, nat_tests) in
              let so_many : x.given + length answer ≡ (x.part + 1) * stripe - x.range.start = omega (arith, long, given, follows, begins_at, lies) in
              record {
                new = was.new;
                stamp = was.stamp;
                bytes = was.bytes;
                parts = was.parts;
                head = was.head;
                tails = was.tails ++ own ∷ [];
                has_read = read;
                reply = was.reply;
                range = was.range;
                manifest = was.manifest;
                read_at = was.read_at;
                left = n;
                asked = split;
                low = low;
                high = high;
                answered = answered;
                is_reading = record { inside = lies; begins = omega (arith, begins_at); ends = follows; few = omega (arith, so_many) };
                behind_head = omega arith;
                some_stripe = was.some_stripe;
                given = so_many;
                brings = brings ∙ ap (λ k. take (x.given + k) (drop x.range.start was.bytes)) (sym long);
                seen = λ part start count filled first last inside. rw told.seen (was.seen part start count filled first last inside);
              }
          | false ↦ λ test.
              let all : x.range.start + x.range.count ≤ (x.part + 1) * stripe = grind (arith, nat_tests) in
              let none : n ≡ 0 = none_behind stripe (x.part + 1) n (x.range.start + x.range.count) was.some_stripe low all in
              let so_many : x.given + (next_piece x).count ≡ x.range.count = omega (arith, given, all, begins_at, ends_at, lies) in
              subst (λ reply. FitsStage r (Ended (Done reply) (x.given + length answer)) z q later) (sym was.reply)
              (all_shown r was.new was.stamp was.bytes was.head (was.tails ++ own ∷ []) z later was.parts read
              (sym (split ∙ ap (λ n. ops_in (was.tails ++ own ∷ []) ++ rest n) none ∙ append-nil (ops_in (was.tails ++ own ∷ []))))
              answered
              (brings ∙ ap (λ k. take k (drop x.range.start was.bytes)) so_many ∙ sym (ap (λ o. bytes_in o was.bytes) was.range)))
        ] refl
