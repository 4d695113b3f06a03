-- One request, and what comes behind it.
use Rattle.std.proofs.Common.{◌≡◌, inl, inr, ℕ, suc, ◌<◌, List, [], ◌∷◌, ◌++◌, Option, refl, sym, ap, ◌∙◌, subst, append_assoc, arith}
use Rattle.std.specs.Prelude.{MatchBool}
use Rattle.std.proofs.KnownBytes.{Consumes-trans, Appends-trans}
use Rattle.std.specs.Io.KnownBytes.{Appends}
use Rattle.gw_io.specs.Ends.{EndsState}
use Rattle.http_model.proofs.StreamLaws.{more_head}
use Rattle.realm_model.specs.Doors.{DoorView}
use Rattle.realm_model.specs.Owns.{own_events}
use Rattle.swift_auth.specs.Users.{UserView}
use Rattle.swift_requests.specs.Asks.{asked_of}
use Rattle.realm_model.specs.declared.event.Event.{Event}
use Rattle.realm_door.specs.Steps.{next_count, actor_of_pass, IsSame}
use Rattle.http_intake.proofs.RequestLaws.{body_more}
use Rattle.call_words.specs.Bodies.{read_whole, IsBehind}
use Rattle.call_words.specs.Ends.{TaskEnd}
use Rattle.call_words.specs.Calls.{Ground, alone as by_itself, task, Call, whole_text, IsOfNext, IsRight, AreRight, AreSame, actor_after}
use Rattle.call_words.specs.Requests.{taken_of, requests_of}
use Rattle.call_words.specs.Streams.{use_of, form_of, CallsEnd, at_clean, at_close, at_cut, at_bad, Taken, TakesCall, IsStreamFrom}
use Rattle.call_words.proofs.Staying.{stay}
use Rattle.call_service.specs.Serving.{Site, Side, is_by_end, body_of}
use Rattle.door_moments.specs.Acts.{own_moments, Tells}
use Rattle.call_service.specs.declared.fault.ServeFault.{ServeFault}
use Rattle.call_service.specs.declared.fault.ServeFault.TheVariants as faults
use Rattle.gateway.specs.declared.serve.ConnEnd.{ConnEnd}
use Rattle.gateway.specs.Moments.{AreToldFor, AreTold}
use Rattle.call_words.specs.Made.{AreBy, AreMade}
use Rattle.gateway.specs.Texts.{texts_from, end_text, connection_end}
use Rattle.gateway.specs.Calls.{Place, site_in, DoesSoFar, Advances, IsSettled, AreSettled}
use Rattle.gateway.specs.Requests.{IsLetIn}
use Rattle.gateway.specs.Serving.{IsTidy, EndsAmid, BreaksOff, RepliesTo, ServesFrom, FailsReading, StopsFrom, LeavesAt}
use Rattle.gateway.specs.Turns.{GoesOn}
use Rattle.gateway.proofs.Fates.{open_whole}
use Rattle.gateway.proofs.Growing.{advances_both, older_moments}

-- ---- bytes behind a request

more_call : (largest : ℕ) (users : List UserView) (bytes : List ℕ) (taken : Taken) (rest more : List ℕ) → taken.fate ≡ read_whole → TakesCall largest users bytes taken rest → TakesCall largest users (bytes ++ more) taken (rest ++ more)
more_call largest users bytes taken rest more whole x =
    let body = subst (λ f. IsBehind largest taken.request.head.framing x.after taken.request.body f rest) whole x.body in
    record {
      after = x.after ++ more;
      head = more_head bytes taken.request.head x.after more x.head;
      suits = x.suits;
      body = subst (λ f. IsBehind largest taken.request.head.framing (x.after ++ more) taken.request.body f (rest ++ more)) (sym whole)
          (body_more largest taken.request.head.framing x.after taken.request.body rest more body);
    }

-- ---- what was told, whatever the pass is called

told_for_moved : (tells : Type 0) (seen later : List Event) (p q : ℕ) (ground : Ground) (moments : List ℕ)
    → ((actor : ℕ) (end : TaskEnd) → ground ≡ task actor end → tells → own_moments later (actor_of_pass q actor) ≡ own_moments seen (actor_of_pass p actor))
    → AreToldFor tells seen p ground moments → AreToldFor tells later q ground moments
told_for_moved tells seen later p q by_itself moments same x = x
told_for_moved tells seen later p q (task actor end) moments same x =
    λ is. subst (Tells (is_by_end end) moments) (sym (same actor end refl is)) (x is)

told_moved : (tells : Type 0) (seen : List Event) (p q : ℕ) → (tells → p ≡ q) → (calls : List Call) (moments later : List ℕ) → AreTold tells seen p calls moments later → AreTold tells seen q calls moments later
told_moved tells seen p q same [] moments later x = x
told_moved tells seen p q same (call ∷ calls) moments later (first, others, whole, one, rest) = (
  first,
  others,
  whole,
  told_for_moved tells seen seen p q call.ground first (λ actor end e is. ap (λ r. own_moments seen (actor_of_pass r actor)) (sym (same is))) one,
  told_moved tells seen p q same calls others later rest,
)

amid_moved : (tells : Type 0) (place : Place) (e : DoorView) (p q last : ℕ) (rest : List ℕ) (left : Option (List ℕ)) → (tells → p ≡ q) → EndsAmid tells place e p last rest left → EndsAmid tells place e q last rest left
amid_moved tells place e p q last rest left same (inl (cut, none)) = inl (cut, λ is. subst (λ r. own_events e.seen (actor_of_pass r last) ≡ []) (same is) (none is))
amid_moved tells place e p q last rest left same (inr x) = inr (record {
  head = x.head;
  after = x.after;
  begins = x.begins;
  is_read = x.is_read;
  intake = x.intake;
  before = x.before;
  behind = x.behind;
  given = x.given;
  falls = x.falls;
  is_after = x.is_after;
  so_far = λ is. subst (λ r. DoesSoFar (site_in place) (asked_of place.settings.largest place.users x.head) (body_of x.given) r last e.seen) (same is) (x.so_far is);
  let_in = λ is. subst (λ r. IsLetIn (site_in place) (asked_of place.settings.largest place.users x.head) (use_of place.settings.largest place.users x.head) r last e.seen) (same is) (x.let_in is);
})

tidy_moved : (tells : Type 0) (e : DoorView) (p q last : ℕ) (later : List ℕ) → (tells → p ≡ q) → (end : CallsEnd) → IsTidy tells e p last later end → IsTidy tells e q last later end
tidy_moved tells e p q last later same at_clean x = x
tidy_moved tells e p q last later same at_close x = x
tidy_moved tells e p q last later same (at_cut continued) x = λ is. x is ∙ ap (λ r. own_moments e.seen (actor_of_pass r last)) (same is)
tidy_moved tells e p q last later same (at_bad word bodiless) x = x

-- ---- what the history says

-- the count of the call's actor is below that of the next
below_next : (next last actor : ℕ) (end : TaskEnd) (ground : Ground) → ground ≡ task actor end → IsOfNext next ground → last ≡ actor_after next ground → actor < last
below_next next last actor end by_itself e of_next is = absurd (cc)
below_next next last actor end (task own ended) e of_next is =
    let same : own ≡ actor = cc in
    let first : own ≡ next = of_next in
    omega (arith, same, first, is)

module _ (alone : Type 0) (site : Site) (d m e : DoorView) (call : Call) (one : IsSettled alone site d m call) where
  module _ (onward : Advances site.settings m e) where
    kept_right : IsRight site.settings site.zone d.pass e.seen call
    kept_right =
        let last = actor_after (next_count d) call.ground in
        let same : AreSame site.settings d.pass m.seen e.seen (next_count d) last = λ count low high.
        subst (λ p. IsSame site.settings m.seen e.seen (actor_of_pass p count)) one.advances.pass (onward.older count (omega (arith, high, one.last))) in
        (stay site.settings site.zone d.pass m.seen e.seen (next_count d) (call ∷ []) last same (one.of_next, one.right, refl)).1

    pub kept_moments : (actor : ℕ) (end : TaskEnd) → call.ground ≡ task actor end → own_moments e.seen (actor_of_pass d.pass actor) ≡ own_moments m.seen (actor_of_pass d.pass actor)
    kept_moments actor end is =
        let low = below_next (next_count d) (next_count m) actor end call.ground is one.of_next one.last in
        subst (λ p. own_moments e.seen (actor_of_pass p actor) ≡ own_moments m.seen (actor_of_pass p actor)) one.advances.pass (older_moments site.settings m e onward actor low)

  pub more_settled : (calls : List Call) (last : ℕ) → AreSettled alone site m e calls last → AreSettled alone site d e (call ∷ calls) last
  more_settled calls last x = record {
    right = (
      one.of_next,
      kept_right x.advances,
      subst (λ n. AreRight site.settings site.zone d.pass e.seen n calls last) one.last
          (subst (λ p. AreRight site.settings site.zone p e.seen (next_count m) calls last) one.advances.pass x.right),
    );
    begun = x.begun;
    advances = advances_both site.settings d m e one.advances x.advances;
    only = λ is.
        let o = one.only is in
        let p = x.only is in
        record {
          more = o.more ++ p.more;
          grows = p.grows ∙ ap (λ l. l ++ p.more) o.grows ∙ append_assoc d.seen o.more p.more;
          later = p.later;
          made = (o.more, p.more, refl, o.made, subst (λ r. AreMade r calls p.more p.later) one.advances.pass p.made);
          by_last = subst (λ r. AreBy r last p.later) one.advances.pass p.by_last;
        };
  }

-- ---- a request and what follows it

ended_more : (largest : ℕ) (users : List UserView) (k : ℕ) (bytes : List ℕ) (call : Call) (calls : List Call) (e : CallsEnd) → IsStreamFrom largest users k bytes (requests_of calls) e
    → connection_end calls e ≡ connection_end (call ∷ calls) e
ended_more largest users k bytes call calls at_clean x = refl
ended_more largest users k bytes call [] at_close x = absurd x
ended_more largest users k bytes call (next ∷ calls) at_close x = refl
ended_more largest users k bytes call calls (at_cut continued) x = refl
ended_more largest users k bytes call calls (at_bad word bodiless) x = refl

module _ (tells alone : Type 0) (place : Place) (k : ℕ) (x m : Side) (g : GoesOn tells alone place k x.intake.buffer m.intake.buffer x.door m.door x.ends m.ends) where
  same_pass : tells → m.door.pass ≡ x.door.pass
  same_pass is = (g.replied.answered.settled is).advances.pass

  goes_takes : (more : List ℕ) → TakesCall place.settings.largest place.users (x.intake.buffer ++ (g.replied.read ++ more)) (taken_of g.call) (m.intake.buffer ++ more)
  goes_takes more =
      subst (λ l. TakesCall place.settings.largest place.users l (taken_of g.call) (m.intake.buffer ++ more)) (append_assoc x.intake.buffer g.replied.read more)
      (more_call place.settings.largest place.users (x.intake.buffer ++ g.replied.read) (taken_of g.call) m.intake.buffer more (open_whole k g.call.request.head g.call.fate g.stays_open) g.replied.takes)

  goes_told : (e : DoorView) (calls : List Call) (last : ℕ) (moments later : List ℕ) → (tells → AreSettled alone (site_in place) m.door e calls last)
      → AreTold tells e.seen m.door.pass calls moments later → AreTold tells e.seen x.door.pass (g.call ∷ calls) (g.replied.answered.moments ++ moments) later
  goes_told e calls last moments later settled told = (
    g.replied.answered.moments,
    moments,
    refl,
    told_for_moved tells m.door.seen e.seen x.door.pass x.door.pass g.call.ground g.replied.answered.moments
        (λ actor end same is. kept_moments alone (site_in place) x.door m.door e g.call (g.replied.answered.settled is) (settled is).advances actor end same)
        g.replied.answered.each,
    told_moved tells e.seen m.door.pass x.door.pass same_pass calls moments later told,
  )

  goes_amid : (e : DoorView) (last : ℕ) (left : Option (List ℕ)) (more : List ℕ) (requests : List Taken) (end : CallsEnd) → BreaksOff tells place (suc k) (m.intake.buffer ++ more) requests e m.door.pass last left end
      → BreaksOff tells place k (x.intake.buffer ++ (g.replied.read ++ more)) (taken_of g.call ∷ requests) e x.door.pass last left end
  goes_amid e last left more requests at_clean x = tt
  goes_amid e last left more requests at_close x = tt
  goes_amid e last left more requests (at_cut continued) (rest, front, amid) =
      (rest, (m.intake.buffer ++ more, goes_takes more, g.stays_open, front), amid_moved tells place e m.door.pass x.door.pass last rest left same_pass amid)
  goes_amid e last left more requests (at_bad word bodiless) x = tt

  goes_replies : (e : DoorView) (new : EndsState) (calls : List Call) (end : CallsEnd) → RepliesTo tells alone place (suc k) m.intake.buffer m.door e m.ends new calls end
      → RepliesTo tells alone place k x.intake.buffer x.door e x.ends new (g.call ∷ calls) end
  goes_replies e new calls end s =
      let text = whole_text (form_of k g.call.request.head g.call.fate) g.call in
      let texts = texts_from (suc k) calls in
      record {
        read = g.replied.read ++ s.read;
        consumed = Consumes-trans x.ends.left m.ends.left new.left g.replied.read s.read g.replied.consumed s.consumed;
        asked = (g.replied.asked, s.asked);
        stream = (
          m.intake.buffer ++ s.read,
          goes_takes s.read,
          subst (λ b. MatchBool b ((requests_of calls ≡ []) × (end ≡ at_close)) (IsStreamFrom place.settings.largest place.users (suc k) (m.intake.buffer ++ s.read) (requests_of calls) end)) (sym g.stays_open) s.stream,
        );
        written = subst (Appends x.ends.taken new.taken) (sym (append_assoc text texts (end_text end)))
            (Appends-trans x.ends.taken m.ends.taken new.taken text (texts ++ end_text end) g.replied.answered.written s.written);
        last = s.last;
        moments = g.replied.answered.moments ++ s.moments;
        later = s.later;
        asked_clock = Appends-trans x.ends.told m.ends.told new.told g.replied.answered.moments s.moments g.replied.answered.asked_clock s.asked_clock;
        told = goes_told e calls s.last s.moments s.later s.settled s.told;
        tidy = tidy_moved tells e m.door.pass x.door.pass s.last s.later same_pass end s.tidy;
        amid = goes_amid e s.last new.left s.read (requests_of calls) end s.amid;
        settled = λ is. more_settled alone (site_in place) x.door m.door e g.call (g.replied.answered.settled is) calls s.last (s.settled is);
      }

  pub goes_serves : (e : DoorView) (new : EndsState) (replies : ℕ) (end_is : ConnEnd) → ServesFrom tells alone place (suc k) m.intake.buffer m.door e m.ends new replies end_is
      → ServesFrom tells alone place k x.intake.buffer x.door e x.ends new (suc replies) end_is
  goes_serves e new replies end_is s = record {
    calls = g.call ∷ s.calls;
    stream_end = s.stream_end;
    replied = goes_replies e new s.calls s.stream_end s.replied;
    read_out = s.read_out;
    counted = omega (arith, s.counted);
    ended = s.ended ∙ ended_more place.settings.largest place.users (suc k) (m.intake.buffer ++ s.replied.read) g.call s.calls s.stream_end s.replied.stream;
  }

  goes_fails : (e : DoorView) (new : EndsState) → FailsReading tells alone place (suc k) m.intake.buffer m.door e m.ends new → FailsReading tells alone place k x.intake.buffer x.door e x.ends new
  goes_fails e new s = record {
    calls = g.call ∷ s.calls;
    stream_end = s.stream_end;
    replied = goes_replies e new s.calls s.stream_end s.replied;
    waits = s.waits;
  }

  goes_stops : (found : List Event) (y : Side) (fault : ServeFault) → StopsFrom tells alone place (suc k) found m y fault → StopsFrom tells alone place k found x y fault
  goes_stops found y fault s = record {
    calls = g.call ∷ s.calls;
    between = s.between;
    read = g.replied.read ++ s.read;
    consumed = Consumes-trans x.ends.left m.ends.left s.between.ends.left g.replied.read s.read g.replied.consumed s.consumed;
    asked = (g.replied.asked, s.asked);
    front = (m.intake.buffer ++ s.read, goes_takes s.read, g.stays_open, s.front);
    written = Appends-trans x.ends.taken m.ends.taken s.between.ends.taken (whole_text (form_of k g.call.request.head g.call.fate) g.call)
        (texts_from (suc k) s.calls) g.replied.answered.written s.written;
    moments = g.replied.answered.moments ++ s.moments;
    asked_clock = Appends-trans x.ends.told m.ends.told s.between.ends.told g.replied.answered.moments s.moments g.replied.answered.asked_clock s.asked_clock;
    told = goes_told y.door s.calls (next_count s.between.door) s.moments [] s.settled s.told;
    reached = λ is. advances_both place.settings x.door m.door s.between.door (g.replied.answered.settled is).advances (s.reached is);
    settled = λ is. more_settled alone (site_in place) x.door m.door y.door g.call (g.replied.answered.settled is) s.calls (next_count s.between.door) (s.settled is);
    left = s.left;
  }

  pub goes_leaves : (found : List Event) (y : Side) (fault : ServeFault) → LeavesAt tells alone place (suc k) found m y fault → LeavesAt tells alone place k found x y fault
  goes_leaves found y faults.ReadFault s = goes_fails y.door y.ends s
  goes_leaves found y faults.OutOfMemory s = goes_stops found y faults.OutOfMemory s
  goes_leaves found y faults.WriteFault s = goes_stops found y faults.WriteFault s
  goes_leaves found y faults.Worn s = goes_stops found y faults.Worn s
  goes_leaves found y (faults.Late read_at clock) s = goes_stops found y (faults.Late read_at clock) s
