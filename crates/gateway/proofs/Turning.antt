-- One request of a connection, from its head on.
use Rattle.std.proofs.Common.{◌≡◌, inl, inr, ℕ, suc, Bool, true, false, List, [], ◌∷◌, ◌++◌, Option, refl, sym, ap, ◌∙◌, subst, append_assoc, append-nil, arith}
use Rattle.std.specs.Prelude.{MatchBool}
use Rattle.std.proofs.KnownBytes.{Consumes-nil, Consumes-trans, Appends-nil}
use Rattle.std.specs.Io.KnownBytes.{Consumes, Appends, IsAtEnd}
use Rattle.http_chunks.specs.declared.body.BodyEnd.TheVariants as Body
use Rattle.http_intake.specs.Grammar.{IsBroken}
use Rattle.http_model.specs.declared.head.Head.{Head}
use Rattle.http_model.specs.Forms.{is_bodiless}
use Rattle.http_model.specs.declared.reply.ReplyForm.{ReplyForm}
use Rattle.http_model.specs.Heads.{BeginsWith}
use Rattle.http_model.proofs.PlainLemmas.{begun_not_blank}
use Rattle.http_model.proofs.StreamLaws.{more_head}
use Rattle.realm_model.specs.Doors.{DoorView}
use Rattle.realm_model.specs.declared.event.Event.{Event}
use Rattle.realm_door.specs.Steps.{next_count, begun}
use Rattle.swift_auth.specs.Users.{UserView}
use Rattle.swift_requests.specs.Asks.{asked_of}
use Rattle.swift_requests.specs.Bodies.{is_unread, is_awaited}
use Rattle.swift_requests.specs.declared.asked.Asked.{Asked}
use Rattle.swift_requests.specs.declared.asked.Asked.TheVariants.{Put, Unfed}
use Rattle.swift_requests.specs.declared.body.BodyUse.{BodyUse}
use Rattle.call_words.specs.Bodies.{Fate, read_whole, broken_off, unread}
use Rattle.call_words.specs.Calls.{Ground, Call, whole_text, actor_after}
use Rattle.call_words.specs.Streams.{use_of, form_of, at_close, at_cut, Taken, TakesCall, IsCutBody, IsCutRequest, IsEnd, IsStreamFrom}
use Rattle.call_service.specs.Bodies.{FallsShort as FallsOf}
use Rattle.task_words.specs.Outcomes.{Body}
use Rattle.call_service.specs.Serving.{Site, Side, side, form_at, body_of, IsLeft, IsStopped}
use Rattle.door_moments.specs.Acts.{Acts, Asks}
use Rattle.call_service.specs.Waiting.{IsBehindContinue, IsStoppedWaiting, IsPutStopped}
use Rattle.door_moments.proofs.Asking.{both_ask}
use Rattle.task_words.specs.declared.asker.Asker.{Asker}
use Rattle.task_words.specs.declared.command.PutCommand.{PutCommand}
use Rattle.swift_requests.specs.declared.body.BodyUse.TheVariants as uses
use Rattle.call_service.specs.declared.fault.ServeFault.{ServeFault}
use Rattle.call_service.specs.declared.fault.ServeFault.TheVariants as faults
use Rattle.gateway.specs.declared.serve.ConnEnd.TheVariants as conn
use Rattle.gateway.specs.Texts.{form_before, closing_end}
use Rattle.gateway.specs.Calls.{Place, site_in, MayBegin, IsSettled, AreSettled}
use Rattle.gateway.specs.Requests.{IsReady, TakesBody, IsAnswered, IsLeftBy, IsUnanswered, Replies, text_before, IsLetIn, FallsShort, LeavesAsked, LeavesRequest, Stops}
use Rattle.gateway.specs.Serving.{RepliesTo, ServesFrom, FailsReading, ReadsHead, StopsFrom, LeavesAt}
use Rattle.gateway.specs.Turns.{TakesReply, GoesOn}
use Rattle.gateway.proofs.Growing.{advances_none}
use Rattle.gateway.proofs.Fates.{form_suits, open_whole, taken_body, no_body}
use Rattle.gateway.proofs.Tasks.{left_by}

-- ---- what the history says of one call, or of none

pub one_settled : (alone : Type 0) (site : Site) (d e : DoorView) (call : Call) → IsSettled alone site d e call → AreSettled alone site d e (call ∷ []) (actor_after (next_count d) call.ground)
one_settled alone site d e call x = record {
  right = (x.of_next, x.right, refl);
  begun = omega (arith, x.last);
  advances = x.advances;
  only = λ is.
      let o = x.only is in
      record { more = o.more; grows = o.grows; later = []; made = (o.more, [], sym (append-nil o.more), o.made, refl); by_last = tt };
}

pub none_settled : (alone : Type 0) (site : Site) (d e : DoorView) → IsLeftBy alone site d e → AreSettled alone site d e [] (next_count d)
none_settled alone site d e x = record {
  right = refl;
  begun = x.begun;
  advances = x.advances;
  only = λ is. let o = x.only is in record { more = o.0; grows = o.1; later = o.0; made = refl; by_last = o.2 };
}

idle_left : (alone : Type 0) (site : Site) (d : DoorView) → MayBegin site.settings d → IsLeftBy alone site d d
idle_left alone site d may = record {
  begun = omega arith;
  advances = advances_none site.settings d may;
  only = λ is. ([], sym (append-nil d.seen), tt);
}

pub same_left : (alone : Type 0) (site : Site) (d e : DoorView) → MayBegin site.settings d → e ≡ d → IsLeftBy alone site d e
same_left alone site d e may same = subst (IsLeftBy alone site d) (sym same) (idle_left alone site d may)

-- ---- what a task that was left made

-- the clock was asked once for each event, and once more or not
abbrev pub AsksSome : Type 0 → Type 0 → Site → Side → Side → Type 0
AsksSome tells alone site x y = (more : Bool) × Asks tells alone site.settings more x.door y.door x.ends.told y.ends.told

module _ (tells alone : Type 0) (site : Site) (form : ReplyForm) (found : List Event) where
  left_asks : (asked : Asked) (plan : BodyUse) (x y : Side) → IsLeft tells alone site form asked plan x y → AsksSome tells alone site x y
  left_asks asked plan x y (inl (body, came, more, u)) = (more, u.asks)
  left_asks asked plan x y (inr part) = (part.more, part.asks)

  pub stopped_asks : (asked : Asked) (plan : BodyUse) (x y : Side) (fault : ServeFault) → IsStopped tells alone site form asked plan found x y fault → AsksSome tells alone site x y
  stopped_asks asked plan x y faults.ReadFault short = (false, short.leaves.asks)
  stopped_asks asked plan x y faults.OutOfMemory left = left_asks asked plan x y left
  stopped_asks asked plan x y faults.Worn (full, left) = left_asks asked plan x y left
  stopped_asks asked plan x y faults.WriteFault (part, all) = (part.more, part.asks)
  stopped_asks asked plan x y (faults.Late read_at clock) (late, inl before) = (false, before.leaves.asks)
  stopped_asks asked plan x y (faults.Late read_at clock) (late, inr (part, all)) = (part.more, part.asks)

  behind_asks : (asker : Asker) (c : PutCommand) (x y : Side) (fault : ServeFault) → IsBehindContinue tells alone site asker c x (λ m. IsStopped tells alone site form (Put asker c) uses.Fed found m y fault) → AsksSome tells alone site x y
  behind_asks asker c x y fault b =
      let goes = stopped_asks (Put asker c) uses.Fed b.between y fault b.goes in
      (goes.0, both_ask tells alone site.settings site.settings goes.0 x.door b.between.door y.door x.ends.told b.between.ends.told y.ends.told refl b.continues.asks goes.1)

  waiting_asks : (asker : Asker) (c : PutCommand) (x y : Side) (fault : ServeFault) → IsStoppedWaiting tells alone site form asker c found x y fault → AsksSome tells alone site x y
  waiting_asks asker c x y fault (inl stopped) = stopped_asks (Put asker c) uses.Unread x y fault stopped
  waiting_asks asker c x y fault (inr (inl (is, front))) = (false, front.asks)
  waiting_asks asker c x y fault (inr (inr b)) = behind_asks asker c x y fault b

  pub put_asks : (waits : Bool) (asker : Asker) (c : PutCommand) (x y : Side) (fault : ServeFault) → IsPutStopped waits tells alone site form asker c found x y fault → AsksSome tells alone site x y
  put_asks false asker c x y fault stopped = stopped_asks (Put asker c) uses.Fed x y fault stopped
  put_asks true asker c x y fault stopped = waiting_asks asker c x y fault stopped

  task_left : (z y : Side) (b : DoorView) → MayBegin site.settings z.door → (tells → b ≡ begun z.door) → AsksSome tells alone site (side b z.intake z.ends) y → tells → IsLeftBy alone site z.door y.door
  task_left z y b may begins (more, asks) is =
      left_by alone site z.door y.door asks.moments may (subst (λ (d : DoorView). Acts alone site.settings d y.door asks.moments) (begins is) (asks.acts is))

  asked_left : (asked : Asked) (plan : BodyUse) (z y : Side) (fault : ServeFault) → MayBegin site.settings z.door → LeavesAsked tells alone site form asked plan found z y fault → tells
      → IsLeftBy alone site z.door y.door
  asked_left (Put asker c) plan z y fault may (b, begins, x) is = task_left z y b may begins (put_asks (is_awaited plan) asker c (side b z.intake z.ends) y fault x) is
  asked_left (Unfed asker u) plan z y fault may (b, begins, x) is = task_left z y b may begins (stopped_asks (Unfed asker u) plan (side b z.intake z.ends) y fault x) is
  asked_left other plan z y fault may left is = same_left alone site z.door y.door may left.1.door

  request_left : (asked : Asked) (plan : BodyUse) (z y : Side) (fault : ServeFault) → MayBegin site.settings z.door → LeavesRequest tells alone site form asked plan found z y fault → tells
      → IsLeftBy alone site z.door y.door
  request_left asked plan z y fault may (inl (is_fault, same)) is = same_left alone site z.door y.door may (ap (λ (s : Side). s.door) same)
  request_left asked plan z y fault may (inr left) is = asked_left asked plan z y fault may left is

-- ---- the request, joined

cut_request : (largest : ℕ) (users : List UserView) (bytes : List ℕ) (continued : Bool) → IsCutBody largest users bytes continued → IsCutRequest largest users bytes continued
cut_request largest users bytes false x = inr x
cut_request largest users bytes true x = x

abbrev call_of : Head → List ℕ → List ℕ → Asked → Fate → Ground → Call
call_of head body shown asked fate ground = record { request = record { head = head; body = body }; asked = asked; fate = fate; ground = ground; shown = shown }

module _ (tells alone : Type 0) (place : Place) (k : ℕ) (x z y : Side) (head : Head) (reads : ReadsHead place.settings.largest x z head) where
  abbrev asks : Asked
  asks = asked_of place.settings.largest place.users head

  abbrev Replied : Fate → Type 0
  Replied fate = Replies tells alone (site_in place) head asks (use_of place.settings.largest place.users head) (form_before place.settings.largest place.users k head) fate z y

  abbrev Takes : List ℕ → List ℕ → Fate → List ℕ → Type 0
  Takes read body fate rest = TakesCall place.settings.largest place.users (x.intake.buffer ++ read) (record { request = record { head = head; body = body }; fate = fate }) rest

  joined_taken : (fate : Fate) (body : List ℕ) → TakesBody (use_of place.settings.largest place.users head) fate z.intake y.intake z.ends.left y.ends.left body
      → (read : List ℕ) × (rest : List ℕ) × Consumes x.ends.left y.ends.left read × Takes read body fate rest × (fate ≡ read_whole → rest ≡ y.intake.buffer)
  joined_taken fate body taken =
      let t = taken_body place.settings.largest z.intake head reads.behind (use_of place.settings.largest place.users head) fate y.intake z.ends.left y.ends.left body taken in (
        reads.more ++ t.0,
        t.1,
        Consumes-trans x.ends.left z.ends.left y.ends.left reads.more t.0 reads.read t.2,
        record {
          after = z.intake.buffer ++ t.0;
          head = subst (λ l. BeginsWith l head (z.intake.buffer ++ t.0)) (append_assoc x.intake.buffer reads.more t.0)
              (more_head (x.intake.buffer ++ reads.more) head z.intake.buffer t.0 reads.begins);
          suits = taken.0;
          body = t.3;
        },
        t.4,
      )

  abbrev Answered : (fate : Fate) → Replied fate → ReplyForm → Type 0
  Answered fate r form = IsAnswered tells alone (site_in place) form x.door y.door x.ends.taken y.ends.taken x.ends.told y.ends.told (call_of head r.body r.shown asks fate r.ground)

  joined_answer : (fate : Fate) (r : Replied fate) → Answered fate r (form_of k head fate)
  joined_answer fate r =
      let call = call_of head r.body r.shown asks fate r.ground in
      let form = form_at (form_before place.settings.largest place.users k head) fate in
      let one = subst (λ (d : DoorView). IsAnswered tells alone (site_in place) form d y.door z.ends.taken y.ends.taken z.ends.told y.ends.told call) reads.door r.answered in
      let two = subst (λ (l : Option (List ℕ)). IsAnswered tells alone (site_in place) form x.door y.door l y.ends.taken z.ends.told y.ends.told call) reads.taken one in
      let three = subst (λ (l : Option (List ℕ)). IsAnswered tells alone (site_in place) form x.door y.door x.ends.taken y.ends.taken l y.ends.told call) reads.told two in
      subst (Answered fate r) (form_suits (is_bodiless head.method) k head (use_of place.settings.largest place.users head) fate r.taken.0) three

  joined_reply : (fate : Fate) (r : Replied fate)
      → (rest : List ℕ) × TakesReply tells alone place k x.intake.buffer rest x.door y.door x.ends y.ends (call_of head r.body r.shown asks fate r.ground) × (fate ≡ read_whole → rest ≡ y.intake.buffer)
  joined_reply fate r =
      let t = joined_taken fate r.body r.taken in
      (t.1, record { read = t.0; consumed = t.2; asked = refl; takes = t.3; answered = joined_answer fate r }, t.4)

  -- another request may follow
  whole_on : (r : Replied read_whole) → (form_of k head read_whole).close ≡ false
      → GoesOn tells alone place k x.intake.buffer y.intake.buffer x.door y.door x.ends y.ends × IsReady place.settings.largest y.intake
  whole_on r stays =
      let call = call_of head r.body r.shown asks read_whole r.ground in
      let joined = joined_reply read_whole r in
      let has = r.taken.1.has_given in (
        record {
          call = call;
          replied = subst (λ l. TakesReply tells alone place k x.intake.buffer l x.door y.door x.ends y.ends call) (joined.2 refl) joined.1;
          stays_open = stays;
        },
        (has.failed, r.taken.1.whole, has.largest ∙ reads.behind.largest_is),
      )

  pub goes_on : (fate : Fate) (r : Replied fate) → (form_of k head fate).close ≡ false
      → GoesOn tells alone place k x.intake.buffer y.intake.buffer x.door y.door x.ends y.ends × IsReady place.settings.largest y.intake
  goes_on read_whole r stays = whole_on r stays
  goes_on (broken_off why) r stays = let clash : broken_off why ≡ read_whole = open_whole k head (broken_off why) stays in absurd (cc)
  goes_on unread r stays = let clash : unread ≡ read_whole = open_whole k head unread stays in absurd (cc)

  closed_replies : (call : Call) (rest : List ℕ) → TakesReply tells alone place k x.intake.buffer rest x.door y.door x.ends y.ends call
      → (form_of k call.request.head call.fate).close ≡ true
      → RepliesTo tells alone place k x.intake.buffer x.door y.door x.ends y.ends (call ∷ []) at_close
  closed_replies call rest t closed = record {
    read = t.read;
    consumed = t.consumed;
    asked = (t.asked, tt);
    stream = (
      rest,
      t.takes,
      subst (λ b. MatchBool b ((◌≡◌ {A = List Taken} [] []) × (at_close ≡ at_close)) (IsStreamFrom place.settings.largest place.users (suc k) rest [] at_close)) (sym closed) (refl, refl),
    );
    written =
        let text = whole_text (form_of k call.request.head call.fate) call in
        subst (Appends x.ends.taken y.ends.taken) (sym (append-nil (text ++ []) ∙ append-nil text)) t.answered.written;
    last = actor_after (next_count x.door) call.ground;
    moments = t.answered.moments;
    later = [];
    asked_clock = t.answered.asked_clock;
    told = (t.answered.moments, [], sym (append-nil t.answered.moments), t.answered.each, refl);
    tidy = (refl, λ is. (t.answered.settled is).last);
    amid = tt;
    settled = λ is. one_settled alone (site_in place) x.door y.door call (t.answered.settled is);
  }

  -- the connection is closed
  pub closes_behind : (fate : Fate) (r : Replied fate) → (form_of k head fate).close ≡ true
      → ServesFrom tells alone place k x.intake.buffer x.door y.door x.ends y.ends 1 (closing_end asks r.ground)
  closes_behind fate r closed =
      let call = call_of head r.body r.shown asks fate r.ground in
      let joined = joined_reply fate r in
      record {
        calls = call ∷ [];
        stream_end = at_close;
        replied = closed_replies call joined.0 joined.1 closed;
        read_out = tt;
        counted = refl;
        ended = refl;
      }

  -- a 100 is written before the body
  abbrev waits_for : Bool
  waits_for = is_awaited (use_of place.settings.largest place.users head)

  -- the body is not there whole
  joined_cut : (more : List ℕ) → is_unread (use_of place.settings.largest place.users head) ≡ false → IsBroken z.intake (z.intake.buffer ++ more) Body.Cut
      → IsEnd place.settings.largest place.users (x.intake.buffer ++ (reads.more ++ more)) (at_cut waits_for)
  joined_cut more is_read broken =
      let begins = more_head (x.intake.buffer ++ reads.more) head z.intake.buffer more reads.begins in
      let all = (x.intake.buffer ++ reads.more) ++ more in
      subst (λ l. IsEnd place.settings.largest place.users l (at_cut waits_for)) (append_assoc x.intake.buffer reads.more more) (
        begun_not_blank all begins.0 (z.intake.buffer ++ more) begins.1,
        cut_request place.settings.largest place.users all waits_for
            (head, z.intake.buffer ++ more, begins, is_read, refl, no_body place.settings.largest z.intake head reads.behind (z.intake.buffer ++ more) Body.Cut broken),
      )

  module _ (short : FallsShort tells alone (site_in place) asks (use_of place.settings.largest place.users head) z y) where
    abbrev all_of : FallsOf z.intake z.ends.left y.ends.left
    all_of = record {
      more = short.falls.has_given.more ++ short.falls.falls.more;
      read = Consumes-trans z.ends.left short.falls.left y.ends.left short.falls.has_given.more short.falls.falls.more short.falls.has_given.read short.falls.falls.read;
      broken = subst (λ l. IsBroken z.intake l Body.Cut) (append_assoc z.intake.buffer short.falls.has_given.more short.falls.falls.more)
          (short.falls.has_given.gives.broken short.falls.falls.more Body.Cut short.falls.falls.broken);
    }

    moved_unanswered : (text : List ℕ) (body : Body) → IsUnanswered tells alone (site_in place) asks body text z.door y.door z.ends.taken y.ends.taken z.ends.told y.ends.told
        → IsUnanswered tells alone (site_in place) asks body text x.door y.door x.ends.taken y.ends.taken x.ends.told y.ends.told
    moved_unanswered text body u =
        let one = subst (λ (d : DoorView). IsUnanswered tells alone (site_in place) asks body text d y.door z.ends.taken y.ends.taken z.ends.told y.ends.told) reads.door u in
        let two = subst (λ (l : Option (List ℕ)). IsUnanswered tells alone (site_in place) asks body text x.door y.door l y.ends.taken z.ends.told y.ends.told) reads.taken one in
        subst (λ (l : Option (List ℕ)). IsUnanswered tells alone (site_in place) asks body text x.door y.door x.ends.taken y.ends.taken l y.ends.told) reads.told two

    cut_replies : RepliesTo tells alone place k x.intake.buffer x.door y.door x.ends y.ends [] (at_cut waits_for)
    cut_replies =
        let more = all_of.more in
        let u = moved_unanswered (text_before (use_of place.settings.largest place.users head)) (body_of short.given) short.unanswered in
        record {
          read = reads.more ++ more;
          consumed = Consumes-trans x.ends.left z.ends.left y.ends.left reads.more more reads.read all_of.read;
          asked = tt;
          stream = joined_cut more short.is_read all_of.broken;
          written = u.written;
          last = next_count x.door;
          moments = u.moments;
          later = u.moments;
          asked_clock = u.asked_clock;
          told = refl;
          tidy = u.each;
          amid = (
            x.intake.buffer ++ (reads.more ++ more),
            refl,
            inr (record {
              head = head;
              after = z.intake.buffer ++ more;
              begins = subst (λ l. BeginsWith l head (z.intake.buffer ++ more)) (append_assoc x.intake.buffer reads.more more)
                  (more_head (x.intake.buffer ++ reads.more) head z.intake.buffer more reads.begins);
              is_read = short.is_read;
              intake = z.intake;
              before = z.ends.left;
              behind = reads.behind;
              given = short.given;
              falls = short.falls;
              is_after = refl;
              so_far = u.so_far;
              let_in = λ is. subst (λ (d : DoorView). IsLetIn (site_in place) asks (use_of place.settings.largest place.users head) d.pass (next_count d) y.door.seen) reads.door (short.let_in is);
            }),
          );
          settled = λ is. none_settled alone (site_in place) x.door y.door (u.left_by is);
        }

    -- the input ended inside the body
    pub cut_behind : IsAtEnd y.ends.left → ServesFrom tells alone place k x.intake.buffer x.door y.door x.ends y.ends 0 conn.Cut
    cut_behind at_end = record {
      calls = [];
      stream_end = at_cut waits_for;
      replied = cut_replies;
      read_out = at_end;
      counted = refl;
      ended = refl;
    }

    fails_behind : FailsReading tells alone place k x.intake.buffer x.door y.door x.ends y.ends
    fails_behind = record {
      calls = [];
      stream_end = at_cut waits_for;
      replied = cut_replies;
      waits = tt;
    }

  module _ (found : List Event) (may : tells → MayBegin place.settings z.door) where
    stops_behind : (fault : ServeFault) → LeavesRequest tells alone (site_in place) (form_before place.settings.largest place.users k head) asks (use_of place.settings.largest place.users head) found z y fault
        → StopsFrom tells alone place k found x y fault
    stops_behind fault left = record {
      calls = [];
      between = x;
      read = [];
      consumed = Consumes-nil x.ends.left;
      asked = tt;
      front = append-nil x.intake.buffer;
      written = Appends-nil x.ends.taken;
      moments = [];
      asked_clock = Appends-nil x.ends.told;
      told = refl;
      reached = λ is. advances_none place.settings x.door (subst (MayBegin place.settings) reads.door (may is));
      settled = λ is.
          none_settled alone (site_in place) x.door y.door
          (subst (λ (d : DoorView). IsLeftBy alone (site_in place) d y.door) reads.door
          (request_left tells alone (site_in place) (form_before place.settings.largest place.users k head) found asks (use_of place.settings.largest place.users head) z y fault (may is) left is));
      left = inr (head, z, reads, left);
    }

    -- a fault behind the head
    pub leaves_behind : (fault : ServeFault) → Stops tells alone (site_in place) (form_before place.settings.largest place.users k head) asks (use_of place.settings.largest place.users head) found z y fault
        → LeavesAt tells alone place k found x y fault
    leaves_behind faults.ReadFault x = fails_behind x
    leaves_behind faults.OutOfMemory x = stops_behind faults.OutOfMemory x
    leaves_behind faults.WriteFault x = stops_behind faults.WriteFault x
    leaves_behind faults.Worn x = stops_behind faults.Worn x
    leaves_behind (faults.Late read_at clock) x = stops_behind (faults.Late read_at clock) x
