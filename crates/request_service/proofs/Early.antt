-- A request whose body broke off behind the first event of its task: what is written of its reply.
use Rattle.std.proofs.Common.{◌≡◌, ◌⊎◌, inl, inr, ℕ, Bool, true, false, cond, List, [], ◌∷◌, Option, Some, None, refl, sym, ap, ◌∙◌, subst}
use Rattle.std.specs.Prelude.{option_map}
use Rattle.std.proofs.KnownBytes.{Appends-nil}
use Rattle.std.specs.Io.KnownBytes.{Appends}
use Rattle.http_chunks.specs.declared.body.BodyEnd.{BodyEnd}
use Rattle.http_model.specs.declared.reply.ReplyForm.{ReplyForm}
use Rattle.http_intake.specs.Intake.{IntakeState}
use Rattle.realm_model.specs.Doors.{DoorView}
use Rattle.realm_model.specs.Histories.{Legal}
use Rattle.realm_model.specs.declared.event.Event.{Event}
use Rattle.swift_requests.specs.declared.asked.Asked.{Asked}
use Rattle.swift_requests.specs.declared.body.BodyUse.TheVariants.{Dropped}
use Rattle.task_words.specs.declared.outcome.Outcome.TheVariants.{BodyFailed}
use Rattle.call_words.specs.Bodies.{broken_off, IsWrong}
use Rattle.call_words.specs.Calls.{task, text_by, body_at}
use Rattle.call_words.specs.Ends.{TaskEnd, on_object, body_failed, is_by_row}
use Rattle.call_words.specs.Texts.{broken_text}
use Rattle.call_service.specs.Bodies.{BreaksIn}
use Rattle.call_service.specs.Serving.{Site, Side, is_by_end, LeavesText, BearsOut, BearsOutSoFar, form_at, IsReplied, IsServed, IsStopped}
use Rattle.door_moments.specs.Acts.{Asks}
use Rattle.call_service.specs.declared.fault.ServeFault.{ServeFault}
use Rattle.call_service.specs.declared.fault.ServeFault.TheVariants as faults
use Rattle.call_service.specs.declared.served.Served.{Served}
use Rattle.call_service.specs.declared.served.Served.TheVariants as services
use Rattle.door_moments.proofs.Asking.{untold_asks, both_ask}
use Rattle.call_service.proofs.Passing.{fate_come}
use Rattle.call_service.proofs.Replying.{any_actor, broken_replied, broken_stops}
use Rattle.request_service.specs.Requests.{IsUnfed, IsThere, text_at}
use Rattle.request_service.specs.Early.{early_end, early_text, AsksEarly, early_served, EndsEarlyBy, EndsEarly, WantsMemory, LeavesPart}
use Rattle.request_service.proofs.Texts.{row_text, row_by_event, broken_is}

-- ---- what is written

abbrev pub shut : ReplyForm → ReplyForm
shut form = record form { close = true }

row_ends : (outcome : TaskEnd) → is_by_row outcome ≡ true → early_end (Some outcome) ≡ outcome
row_ends outcome is = ap (λ b. cond b outcome body_failed) is

row_served : (outcome : TaskEnd) → is_by_row outcome ≡ true → early_served outcome ≡ services.Closed
row_served (on_object BodyFailed) is = let clash : false ≡ true = is in absurd (cc)
row_served outcome is = refl

row_unasked : (outcome : TaskEnd) (told : Option (List ℕ)) → is_by_row outcome ≡ true → AsksEarly outcome told told
row_unasked (on_object BodyFailed) told is = let clash : false ≡ true = is in absurd (cc)
row_unasked outcome told is = refl

module _ (form : ReplyForm) (asked : Asked) (why : BodyEnd) (broken : Bool) (ended : Option TaskEnd) (taken now : Option (List ℕ)) (going : broken ≡ false) where
  -- the row refused it
  module _ (outcome : TaskEnd) (told : Option (List ℕ)) (is : ended ≡ Some outcome) (by_row : is_by_row outcome ≡ true) where
    ends : early_end ended ≡ outcome
    ends = ap early_end is ∙ row_ends outcome by_row

    text_is : text_at (shut form) asked outcome ≡ early_text form asked why (early_end ended)
    text_is = row_text (shut form) asked (broken_off why) outcome by_row ∙ sym (ap (early_text form asked why) ends)

    pub closed_so : Appends taken now (text_at (shut form) asked outcome) → EndsEarly form asked why broken taken now told told services.Closed (early_end ended)
    closed_so grown = record {
      going = going;
      served_so = sym (ap early_served ends ∙ row_served outcome by_row);
      written = subst (Appends taken now) text_is grown;
      asks = subst (λ o. AsksEarly o told told) (sym ends) (row_unasked outcome told by_row);
    }

    pub closed_stops : (fault : ServeFault) → LeavesText taken now (text_at (shut form) asked outcome) fault → LeavesPart form asked why broken taken now told told fault (early_end ended)
    closed_stops fault leaves = record {
      going = going;
      leaves = subst (λ text. LeavesText taken now text fault) text_is leaves;
      asks = subst (λ o. AsksEarly o told told) (sym ends) (row_unasked outcome told by_row);
    }

  -- the body broke off
  module _ (unfed : IsUnfed asked) (told told' : Option (List ℕ)) (failed : early_end ended ≡ body_failed) (once : (moment : ℕ) × Appends told told' (moment ∷ [])) where
    broken_so : broken_text (shut form) why ≡ early_text form asked why (early_end ended)
    broken_so = broken_is (shut form) asked why unfed ∙ sym (ap (early_text form asked why) failed)

    pub over_so : Appends taken now (broken_text (shut form) why) → EndsEarly form asked why broken taken now told told' services.Refused (early_end ended)
    over_so grown = record {
      going = going;
      served_so = sym (ap early_served failed);
      written = subst (Appends taken now) broken_so grown;
      asks = subst (λ o. AsksEarly o told told') (sym failed) once;
    }

    pub over_stops : (fault : ServeFault) → LeavesText taken now (broken_text (shut form) why) fault → LeavesPart form asked why broken taken now told told' fault (early_end ended)
    over_stops fault leaves = record {
      going = going;
      leaves = subst (λ text. LeavesText taken now text fault) broken_so leaves;
      asks = subst (λ o. AsksEarly o told told') (sym failed) once;
    }

pub none_ended : (ended : Option TaskEnd) → ended ≡ None → early_end ended ≡ body_failed
none_ended ended is = ap early_end is

pub other_ended : (ended : Option TaskEnd) (outcome : TaskEnd) → ended ≡ Some outcome → is_by_row outcome ≡ false → early_end ended ≡ body_failed
other_ended ended outcome is other = ap early_end is ∙ ap (λ b. cond b outcome body_failed) other

-- there was no memory to go on
pub wants_memory : (broken : Bool) (taken told : Option (List ℕ)) → broken ≡ true → WantsMemory broken taken taken told told faults.OutOfMemory
wants_memory broken taken told is = record { is_broken = is; memory = refl; unwritten = Appends-nil taken; untold = refl }

-- ---- the service

-- how the first event leaves it
ends_so : (ended : Option TaskEnd) → (early_end ended ≡ body_failed) ⊎ (is_by_row (early_end ended) ≡ true)
ends_so None = inl refl
ends_so (Some outcome) = by_test (is_by_row outcome) refl
  where
    by_test : (test : Bool) → is_by_row outcome ≡ test → (early_end (Some outcome) ≡ body_failed) ⊎ (is_by_row (early_end (Some outcome)) ≡ true)
    by_test true is = inr (ap is_by_row (row_ends outcome is) ∙ is)
    by_test false is = inl (ap (λ b. cond b outcome body_failed) is)

-- the body broke off for that cause behind these bytes
pub record BreaksEarly (tells : Type 0) (site : Site) (asked : Asked) (why : BodyEnd) (old new : IntakeState) (before after : Option (List ℕ)) (e : DoorView) : Type 0 where
  pub wrong : IsWrong why
  pub came : List ℕ
  pub breaks : BreaksIn old before after why came
  pub so_far : tells → BearsOutSoFar site asked (body_at (broken_off why) came) e

module _ (tells alone : Type 0) (site : Site) (form : ReplyForm) (asked : Asked) (found : List Event) (x y : Side) (told : Option (List ℕ))
    (asks : Asks tells alone site.settings false x.door y.door x.ends.told told) (legal : tells → Legal site.settings y.door.seen) (sound : (x.intake).failed ≡ None)
    (why : BodyEnd) (broken : Bool) (b : BreaksEarly tells site asked why x.intake y.intake x.ends.left y.ends.left y.door) where
  asked_so : (o : TaskEnd) → (o ≡ body_failed) ⊎ (is_by_row o ≡ true) → AsksEarly o told y.ends.told → Asks tells alone site.settings (is_by_end o) x.door y.door x.ends.told y.ends.told
  asked_so o (inl failed) early =
      let once = subst (λ q. AsksEarly q told y.ends.told) failed early in
      subst (λ q. Asks tells alone site.settings (is_by_end q) x.door y.door x.ends.told y.ends.told) (sym failed)
      (both_ask tells alone site.settings site.settings true x.door y.door y.door x.ends.told told y.ends.told refl asks
      (untold_asks tells alone site.settings y.door y.door told y.ends.told once.0 legal (λ is. refl) once.1))
  asked_so o (inr by_row) early =
      subst (λ b. Asks tells alone site.settings b x.door y.door x.ends.told y.ends.told) (sym (row_by_event o by_row))
      (subst (Asks tells alone site.settings false x.door y.door x.ends.told) (sym (untold o by_row early)) asks)
    where
      untold : (o : TaskEnd) → is_by_row o ≡ true → AsksEarly o told y.ends.told → y.ends.told ≡ told
      untold (on_object BodyFailed) by_row early = let clash : false ≡ true = by_row in absurd (cc)
      untold o by_row early = early

  abbrev Bears : TaskEnd → Type 0
  Bears o = tells → BearsOut site asked (broken_off why) b.came o [] y.door

  text_of_any : (o : TaskEnd) → early_text form asked why o ≡ text_by (form_at form (broken_off why)) asked (broken_off why) (task x.door.count o) []
  text_of_any o = any_actor (form_at form (broken_off why)) asked (broken_off why) o [] 0 x.door.count

  abbrev is_replied : (o : TaskEnd) → Asks tells alone site.settings (is_by_end o) x.door y.door x.ends.told y.ends.told → Bears o → Appends x.ends.taken y.ends.taken (early_text form asked why o) → IsReplied tells alone site form asked (broken_off why) x y
  is_replied o all right written =
      broken_replied tells alone site form asked Dropped found x y why b.wrong b.came b.breaks sound o all right b.so_far (subst (Appends x.ends.taken y.ends.taken) (text_of_any o) written)

  served_at : (o : TaskEnd) (served : Served) → (o ≡ body_failed) ⊎ (is_by_row o ≡ true) → Bears o → served ≡ early_served o → AsksEarly o told y.ends.told
      → Appends x.ends.taken y.ends.taken (early_text form asked why o) → IsServed tells alone site form asked Dropped x y served
  served_at o served (inl failed) right is early written =
      let all = asked_so o (inl failed) early in
      subst (IsServed tells alone site form asked Dropped x y) (sym (is ∙ ap early_served failed))
      (why, b.wrong, is_replied o all right written, failed)
  served_at o served (inr by_row) right is early written =
      let all = asked_so o (inr by_row) early in
      subst (IsServed tells alone site form asked Dropped x y) (sym (is ∙ row_served o by_row))
      (broken_off why, b.wrong, refl, is_replied o all right written, λ failed. let clash : false ≡ true = sym (ap is_by_row failed) ∙ by_row in cc)

  served_early : (ended : Option TaskEnd) (served : Served) → (broken ≡ false → Bears (early_end ended)) → EndsEarly form asked why broken x.ends.taken y.ends.taken told y.ends.told served (early_end ended) → IsServed tells alone site form asked Dropped x y served
  served_early ended served right early =
      served_at (early_end ended) served (ends_so ended) (right early.going) early.served_so early.asks early.written

  stops_early : (ended : Option TaskEnd) (fault : ServeFault) → (broken ≡ false → Bears (early_end ended)) → LeavesPart form asked why broken x.ends.taken y.ends.taken told y.ends.told fault (early_end ended) → IsStopped tells alone site form asked Dropped found x y fault
  stops_early ended fault right part =
      broken_stops tells alone site form asked Dropped found x y why b.wrong b.came b.breaks sound (early_end ended) (asked_so (early_end ended) (ends_so ended) part.asks) (right part.going) b.so_far fault
      (subst (λ text. LeavesText x.ends.taken y.ends.taken text fault) (text_of_any (early_end ended)) part.leaves)

  -- there was no memory to go on
  broken_early : (fault : ServeFault) → WantsMemory broken x.ends.taken y.ends.taken told y.ends.told fault → IsStopped tells alone site form asked Dropped found x y fault
  broken_early fault wants =
      subst (IsStopped tells alone site form asked Dropped found x y) (sym wants.memory)
      (inl (
        body_at (broken_off why) b.came,
        fate_come Dropped (broken_off why) x.intake y.intake x.ends.left y.ends.left b.came b.wrong sound b.breaks,
        false,
        record {
          unwritten = wants.unwritten;
          asks = subst (Asks tells alone site.settings false x.door y.door x.ends.told) (sym wants.untold) asks;
          so_far = b.so_far;
        },
      ))

  -- what the door tells bears the end out, by the outcome that is there, or none, unless there was no memory
  module _ (Outcome : Type 0) (over : Type 0) (ends : Outcome → Type 0) (end_by : Outcome → TaskEnd)
      (borne : (outcome : Option Outcome) → IsThere over ends outcome → broken ≡ false → Bears (early_end (option_map end_by outcome))) where
    -- it was replied
    pub is_early_served : (served : Served) → EndsEarlyBy over ends end_by (EndsEarly form asked why broken x.ends.taken y.ends.taken told y.ends.told served) → IsServed tells alone site form asked Dropped x y served
    is_early_served served by = served_early (option_map end_by by.0) served (borne by.0 by.1) by.2

    -- or not, or in part
    pub is_early_stopped : (fault : ServeFault) → WantsMemory broken x.ends.taken y.ends.taken told y.ends.told fault ⊎ EndsEarlyBy over ends end_by (LeavesPart form asked why broken x.ends.taken y.ends.taken told y.ends.told fault) → IsStopped tells alone site form asked Dropped found x y fault
    is_early_stopped fault (inl wants) = broken_early fault wants
    is_early_stopped fault (inr by) = stops_early (option_map end_by by.0) fault (borne by.0 by.1) by.2
