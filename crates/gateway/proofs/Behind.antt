-- What serving a request comes to, as what its head asks.
use Rattle.std.proofs.Common.{◌≡◌, inl, ℕ, Bool, true, false, cond, ◌||◌, List, ◌++◌, Option, None, Some, Ok, Err, refl, sym, ap, ◌∙◌, subst}
use Rattle.std.specs.Io.KnownBytes.{Consumes}
use Rattle.gw_io.specs.Ends.{EndsState}
use Rattle.http_intake.specs.Intake.{IntakeState, GivesHead}
use Rattle.http_intake.specs.Faults.{CountsFaults, HasFaultCause}
use Rattle.http_intake.specs.declared.fault.IntakeFault.{IntakeFault}
use Rattle.http_model.specs.declared.head.Head.{Head}
use Rattle.http_model.specs.declared.reply.ReplyForm.{ReplyForm}
use Rattle.http_model.specs.Forms.{is_bodiless}
use Rattle.http_model.specs.Framings.{framing_of}
use Rattle.realm_model.specs.Doors.{DoorView}
use Rattle.realm_model.specs.declared.event.Event.{Event}
use Rattle.swift_auth.specs.Users.{UserView}
use Rattle.swift_requests.specs.Asks.{asked_of}
use Rattle.swift_requests.specs.Bodies.{body_use, is_unread, closes}
use Rattle.swift_requests.specs.declared.asked.Asked.{Asked}
use Rattle.swift_requests.specs.declared.body.BodyUse.{BodyUse}
use Rattle.call_words.specs.Bodies.{Fate, read_whole, broken_off, unread, is_left, is_broken, Suits}
use Rattle.call_words.specs.Calls.{Ground}
use Rattle.call_words.specs.Streams.{use_of, form_of}
use Rattle.call_service.specs.Serving.{Side, side, HasServeCause}
use Rattle.call_service.specs.declared.fault.ServeFault.{ServeFault}
use Rattle.call_service.specs.declared.fault.ServeFault.TheVariants as faults
use Rattle.call_service.specs.declared.served.Served.{Served}
use Rattle.call_service.specs.declared.served.Served.TheVariants as services
use Rattle.gateway.specs.declared.serve.ConnEnd.{ConnEnd}
use Rattle.gateway.specs.declared.serve.ConnEnd.TheVariants as conn
use Rattle.gateway.specs.Texts.{form_before, is_refusing, is_failing, closing_end}
use Rattle.gateway.specs.Calls.{Place, site_in, MayBegin}
use Rattle.gateway.specs.Requests.{IsReady, Replies, Serves, Stops}
use Rattle.gateway.specs.Serving.{ReadsHead, ServesFrom, StopsFrom, LeavesAt}
use Rattle.gateway.specs.Turns.{GoesOn}
use Rattle.gateway.proofs.Fates.{form_suits, left_closes, shut_closes}
use Rattle.gateway.proofs.Turning.{goes_on, closes_behind, cut_behind, leaves_behind}

module _ (tells alone : Type 0) (place : Place) (k : ℕ) (x z y : Side) (head : Head) (reads : ReadsHead place.settings.largest x z head) (asked : Asked) (plan : BodyUse) (bodiless close : Bool)
    (is_asked : asked ≡ asked_of place.settings.largest place.users head) (is_plan : plan ≡ body_use place.settings.largest head asked)
    (is_bodiless' : bodiless ≡ is_bodiless head.method) (is_close : close ≡ closes k head (is_unread plan)) where
  abbrev largest : ℕ
  largest = place.settings.largest

  abbrev form : ReplyForm
  form = record { bodiless = bodiless; close = close }

  is_closing : close ≡ closes k head (is_unread (use_of largest place.users head))
  is_closing = is_close ∙ ap (λ p. closes k head (is_unread p)) (is_plan ∙ ap (body_use largest head) is_asked)

  is_form : form ≡ form_before largest place.users k head
  is_form = λ i. record { bodiless = is_bodiless' i; close = (is_close ∙ ap (λ p. closes k head (is_unread p)) (is_plan ∙ ap (body_use largest head) is_asked)) i }

  abbrev Served' : Served → Type 0
  Served' s = Serves tells alone (site_in place) head asked (use_of largest place.users head) form z y s

  moved_served : (s : Served) → Served' s → Serves tells alone (site_in place) head (asked_of largest place.users head) (use_of largest place.users head) (form_before largest place.users k head) z y s
  moved_served s served =
      let one = subst (λ (f : ReplyForm). Serves tells alone (site_in place) head asked (use_of largest place.users head) f z y s) is_form served in
      subst (λ (a : Asked). Serves tells alone (site_in place) head a (use_of largest place.users head) (form_before largest place.users k head) z y s) is_asked one

  served_by : (s t : Served) → s ≡ t → Served' s → Serves tells alone (site_in place) head (asked_of largest place.users head) (use_of largest place.users head) (form_before largest place.users k head) z y t
  served_by s t is served = moved_served t (subst Served' is served)

  -- the form of the reply that was written
  closed_at : (fate : Fate) → Suits (use_of largest place.users head) fate → close ≡ true → (form_of k head fate).close ≡ true
  closed_at fate suits closed =
      ap (λ (f : ReplyForm). f.close) (sym (form_suits (is_bodiless head.method) k head (use_of largest place.users head) fate suits))
      ∙ shut_closes (form_before largest place.users k head) fate (sym is_closing ∙ closed)

  pub served_cut : (s : Served) → s ≡ services.Cut → Served' s → ServesFrom tells alone place k x.intake.buffer x.door y.door x.ends y.ends 0 conn.Cut
  served_cut s is served = let cut = served_by s services.Cut is served in cut_behind tells alone place k x z y head reads cut.0 cut.1

  pub served_closed : (s : Served) (end : ConnEnd) → s ≡ services.Replied → close ≡ true → ((ground : Ground) → is_failing ground ≡ false → end ≡ closing_end asked ground)
      → Served' s → ServesFrom tells alone place k x.intake.buffer x.door y.door x.ends y.ends 1 end
  served_closed s end is closed ends served = by (served_by s services.Replied is served)
    where
      by : Serves tells alone (site_in place) head (asked_of largest place.users head) (use_of largest place.users head) (form_before largest place.users k head) z y services.Replied → ServesFrom tells alone place k x.intake.buffer x.door y.door x.ends y.ends 1 end
      by (fate, whole, shut, r, good) =
          subst (λ (e : ConnEnd). ServesFrom tells alone place k x.intake.buffer x.door y.door x.ends y.ends 1 e) (sym (ends r.ground good ∙ ap (λ a. closing_end a r.ground) is_asked))
          (closes_behind tells alone place k x z y head reads fate r (closed_at fate r.taken.0 closed))

  pub served_on : (s : Served) → s ≡ services.Replied → close ≡ false → Served' s
      → GoesOn tells alone place k x.intake.buffer y.intake.buffer x.door y.door x.ends y.ends × IsReady largest y.intake
  served_on s is stays served = by (served_by s services.Replied is served)
    where
      by : Serves tells alone (site_in place) head (asked_of largest place.users head) (use_of largest place.users head) (form_before largest place.users k head) z y services.Replied
          → GoesOn tells alone place k x.intake.buffer y.intake.buffer x.door y.door x.ends y.ends × IsReady largest y.intake
      by (fate, whole, shut, r, good) = at fate whole shut r
        where
          at : (fate : Fate) → is_broken fate ≡ false → (is_left fate ≡ true → (form_before largest place.users k head).close ≡ true) → Replies tells alone (site_in place) head (asked_of largest place.users head) (use_of largest place.users head) (form_before largest place.users k head) fate z y
              → GoesOn tells alone place k x.intake.buffer y.intake.buffer x.door y.door x.ends y.ends × IsReady largest y.intake
          at read_whole whole shut r =
              goes_on tells alone place k x z y head reads read_whole r
              (ap (λ (f : ReplyForm). f.close) (sym (form_suits (is_bodiless head.method) k head (use_of largest place.users head) read_whole r.taken.0)) ∙ sym is_closing ∙ stays)
          at (broken_off why) whole shut r = absurd (cc)
          at unread whole shut r =
              let clash : true ≡ false = sym (shut refl) ∙ sym is_closing ∙ stays in
              absurd (cc)

  -- the body's chunks went wrong, or the body was left
  pub served_broken : (s : Served) → s ≡ services.Closed → Served' s → ServesFrom tells alone place k x.intake.buffer x.door y.door x.ends y.ends 1 conn.Closed
  served_broken s is served = by (served_by s services.Closed is served)
    where
      by : Serves tells alone (site_in place) head (asked_of largest place.users head) (use_of largest place.users head) (form_before largest place.users k head) z y services.Closed → ServesFrom tells alone place k x.intake.buffer x.door y.door x.ends y.ends 1 conn.Closed
      by (fate, left, not, r, good) =
          let end : closing_end (asked_of largest place.users head) r.ground ≡ conn.Closed =
          ap (λ b. cond (b || is_refusing (asked_of largest place.users head)) conn.Refused conn.Closed) good ∙ ap (λ b. cond b conn.Refused conn.Closed) not in
          subst (λ (e : ConnEnd). ServesFrom tells alone place k x.intake.buffer x.door y.door x.ends y.ends 1 e) end
          (closes_behind tells alone place k x z y head reads fate r (ap (closes k head) left ∙ left_closes k head))

  pub served_refused : (s : Served) → s ≡ services.Refused → Served' s → ServesFrom tells alone place k x.intake.buffer x.door y.door x.ends y.ends 1 conn.Refused
  served_refused s is served = by (served_by s services.Refused is served)
    where
      by : Serves tells alone (site_in place) head (asked_of largest place.users head) (use_of largest place.users head) (form_before largest place.users k head) z y services.Refused → ServesFrom tells alone place k x.intake.buffer x.door y.door x.ends y.ends 1 conn.Refused
      by (why, r, failing) =
          let end : closing_end (asked_of largest place.users head) r.ground ≡ conn.Refused =
          ap (λ b. cond (b || is_refusing (asked_of largest place.users head)) conn.Refused conn.Closed) failing in
          subst (λ (e : ConnEnd). ServesFrom tells alone place k x.intake.buffer x.door y.door x.ends y.ends 1 e) end
          (closes_behind tells alone place k x z y head reads (broken_off why) r (left_closes k head))

  pub served_not : (found : List Event) (fault : ServeFault) → (tells → MayBegin place.settings z.door) → Stops tells alone (site_in place) form asked (use_of largest place.users head) found z y fault
      → LeavesAt tells alone place k found x y fault
  served_not found fault may left =
      let one = subst (λ (f : ReplyForm). Stops tells alone (site_in place) f asked (use_of largest place.users head) found z y fault) is_form left in
      leaves_behind tells alone place k x z y head reads found may fault
      (subst (λ (a : Asked). Stops tells alone (site_in place) (form_before largest place.users k head) a (use_of largest place.users head) found z y fault) is_asked one)

-- memory was wanting before the head was judged
pub not_judged : (tells alone : Type 0) (place : Place) (k : ℕ) (x z : Side) (head : Head) (found : List Event) → (tells → MayBegin place.settings z.door) → ReadsHead place.settings.largest x z head
    → StopsFrom tells alone place k found x z faults.OutOfMemory
not_judged tells alone place k x z head found may reads =
    leaves_behind tells alone place k x z z head reads found may faults.OutOfMemory (inl (refl, refl))

-- ---- before the head

-- what becomes of the body follows from the head
pub used_so : (largest : ℕ) (users : List UserView) (head : Head) (asked : Asked) (plan : BodyUse) → asked ≡ asked_of largest users head → plan ≡ body_use largest head asked → plan ≡ use_of largest users head
used_so largest users head asked plan is_asked is_plan = is_plan ∙ ap (body_use largest head) is_asked

-- the form is one that closes, where the body is left
pub shut_by : (largest : ℕ) (users : List UserView) (k : ℕ) (head : Head) (asked : Asked) (plan : BodyUse) (close left : Bool) → asked ≡ asked_of largest users head → plan ≡ body_use largest head asked → left ≡ is_unread plan → close ≡ closes k head left
    → is_unread (use_of largest users head) ≡ true → close ≡ true
shut_by largest users k head asked plan close left is_asked is_plan is_left is_close is =
    is_close ∙ ap (closes k head) (is_left ∙ ap is_unread (is_plan ∙ ap (body_use largest head) is_asked) ∙ is) ∙ left_closes k head

pub reads_head : (most : ℕ) (d : DoorView) (intake after : IntakeState) (old new : EndsState) (head : Head) (more : List ℕ) → intake.largest ≡ most → Consumes old.left new.left more
    → GivesHead (intake.buffer ++ more) intake after head → new.taken ≡ old.taken → new.told ≡ old.told → ReadsHead most (side d intake old) (side d after new) head
reads_head most d intake after old new head more is_largest consumed x taken told = record {
  more = more;
  read = consumed;
  begins = x.begins;
  behind = record {
    failed = x.failed;
    body_left = x.body_left;
    chunked = x.chunked;
    behind = x.behind;
    room = x.room ∙ is_largest;
    largest_is = x.largest ∙ is_largest;
    framed = let says = x.begins.2 in ap (λ (h : Head). framing_of h.minor h.fields) says.head_is ∙ says.framed;
  };
  door = refl;
  taken = taken;
  told = told;
}

-- ---- counts of faults

pub next_good : {T : Type 0} (failed : Option IntakeFault) (before now : ℕ) (value : T) → failed ≡ None → HasFaultCause failed before now (Ok value) → now ≡ before
next_good None before now value is x = x.kept (λ e. absurd (cc))
next_good (Some fault) before now value is x = absurd (cc)

pub next_bad : {T : Type 0} (failed : Option IntakeFault) (before now : ℕ) (cause : IntakeFault) → failed ≡ None → HasFaultCause {T = T} failed before now (Err cause) → CountsFaults {T = T} before now (Err cause)
next_bad None before now cause is x = x
next_bad (Some fault) before now cause is x = absurd (cc)

pub quiet_cause : {T : Type 0} (old new : EndsState) (value : T) → new.plan ≡ old.plan → new.read_faults ≡ old.read_faults → new.write_faults ≡ old.write_faults → HasServeCause old new (Ok value)
quiet_cause old new value plan reads writes = record {
  plan = plan;
  read_rose = λ e. absurd (cc);
  read_kept = λ other. reads;
  write_rose = λ e. absurd (cc);
  write_kept = λ other. writes;
}
