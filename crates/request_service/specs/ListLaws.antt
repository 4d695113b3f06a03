-- The laws of a listing as a request.
use Rattle.std.proofs.Common.{◌≡◌, ℕ, true, false, List, [], ◌∷◌, ◌++◌, Option, Some, None, refl, sym, ap, ◌∙◌, subst}
use Rattle.std.specs.Prelude.{option_map}
use Rattle.http_chunks.specs.declared.body.BodyEnd.{BodyEnd}
use Rattle.object_words.specs.declared.bucket.Bucket.{Bucket}
use Rattle.realm_model.specs.Accounts.{Looked, Account, decided_after}
use Rattle.realm_model.specs.Doors.{DoorView, actor_at}
use Rattle.realm_model.specs.Histories.{Doings, account_of, world_of}
use Rattle.realm_model.specs.Maps.{heads}
use Rattle.realm_model.specs.Owns.{OwnEvent, own_events}
use Rattle.realm_model.specs.Settings.{SettingsView}
use Rattle.realm_door.specs.declared.door.Answered.{Answered}
use Rattle.realm_door.specs.Steps.{Extends, own_event}
use Rattle.realm_door.specs.Turns.{MakesEvent}
use Rattle.realm_door.specs.Waiting.{Waited}
use Rattle.swift_auth.specs.declared.policy.Deed.TheVariants.{ListContainer}
use Rattle.swift_reply.specs.declared.reply.ListingForm.{ListingForm}
use Rattle.swift_requests.specs.declared.asked.Asked.{Asked}
use Rattle.swift_requests.specs.declared.asked.Asked.TheVariants.{Unfed}
use Rattle.swift_requests.specs.declared.asked.UnfedCommand.TheVariants.{Listing as asks_listing}
use Rattle.task_words.specs.declared.outcome.Outcome.{Outcome}
use Rattle.task_words.specs.declared.outcome.Outcome.TheVariants.{Done, MovedOften}
use Rattle.task_words.specs.declared.reply.MapReply.TheVariants.{Listed, Refused}
use Rattle.task_words.specs.declared.reply.Refusal.TheVariants.{Unauthorized, Denied, NoContainer}
use Rattle.task_words.specs.Rows.{row_refusal}
use Rattle.task_list.specs.declared.request.ListRequest.{ListRequest}
use Rattle.task_list.specs.declared.stage.Stage.{Stage}
use Rattle.task_list.specs.declared.stage.Stage.TheVariants.{Look, Page, Head, Suggest, Broken, Ended}
use Rattle.task_words.specs.Outcomes.{Body, Granted}
use Rattle.task_list.specs.Listed.{asks_row, is_of_listing, AreOfListing, IsListOutcome}
use Rattle.task_list.specs.declared.task.ListTask.{ListTask}
use Rattle.task_list.specs.Tasks.{IsOver, IsPast, IsSound, IsGoing, MayEnd as MayEndListing, Going, Looking, FitsAt, Steps, ended_in, is_broken, op_of, request_of, stage_of, fits}
use Rattle.call_words.specs.Bodies.{read_whole, broken_off, IsWrong}
use Rattle.call_words.specs.Calls.{ReadsRowAlone, IsBorneOut}
use Rattle.call_words.specs.Ends.{TaskEnd, on_object, body_failed}
use Rattle.call_words.proofs.Fates.{broken_has_list_reply}
use Rattle.call_service.specs.Serving.{BearsOut, BearsOutSoFar, IsNew}
use Rattle.request_service.specs.declared.listing.Listing.{Listing}
use Rattle.request_service.specs.Early.{early_end}
use Rattle.request_service.specs.FirstEvents.{events_after, alone_after}
use Rattle.request_service.specs.Listings.{task_of, command_of, BeginsAtRow, Fits}
use Rattle.request_service.specs.NoBytes.{no_bytes, none_comes}
use Rattle.request_service.specs.Requests.{Question, site_of, MayEnd, IsThere, GoesOn, EndsSo}

abbrev pub asked_by : ListRequest × ListingForm → Asked
asked_by c = Unfed c.0.asker (asks_listing c.0.command c.1)

abbrev pub asks : ListRequest × ListingForm → Question
asks c = record { zone = c.0.zone; asked = asked_by c }

abbrev EndsWith : Listing → Outcome → Type 0
EndsWith t outcome = ended_in (stage_of (task_of t)) ≡ Some outcome

-- ---- its own events

going_op : (r : ListRequest) (stage : Stage) → IsGoing stage → is_of_listing (op_of r stage) ≡ true
going_op r (Look known) going = refl
going_op r (Page m next) going = refl
going_op r (Head m wanted) going = refl
going_op r (Suggest m s) going = refl
going_op r Broken going = absurd going
going_op r (Ended outcome) going = absurd going

one_more : (events : List OwnEvent) (own : OwnEvent) → AreOfListing events → is_of_listing own.op ≡ true → AreOfListing (events ++ own ∷ [])
one_more [] own are is = (is, tt)
one_more (e ∷ es) own are is = (are.0, one_more es own are.1 is)

same_row : (t u : ListTask) → request_of u ≡ request_of t → asks_row (request_of t).zone (request_of t).command ≡ asks_row (request_of u).zone (request_of u).command
same_row t u same = ap (λ (r : ListRequest). asks_row r.zone r.command) (sym same)

row_first : (t u : ListTask) (events : List OwnEvent) (own : OwnEvent) → request_of u ≡ request_of t → own.op ≡ op_of (request_of t) (stage_of t) → BeginsAtRow t events → BeginsAtRow u (events ++ own ∷ [])
row_first t u [] own same is begins = is ∙ ap (op_of (request_of t)) begins ∙ same_row t u same
row_first t u (e ∷ es) own same is begins = begins ∙ same_row t u same

pub fits_first : (t : Listing) (settings : SettingsView) (d : DoorView) → stage_of (task_of t) ≡ Look None → own_events d.seen (actor_at d) ≡ [] → fits (task_of t) settings d → Fits t settings d
fits_first t settings d looks none stands = record {
  stands = stands;
  reads = subst AreOfListing (sym none) tt;
  at_row = subst (BeginsAtRow (task_of t)) (sym none) looks;
}

pub fits_next : (t u : Listing) (settings : SettingsView) (d e : DoorView) (moment : ℕ) (a : Answered) → IsGoing (stage_of (task_of t)) → request_of (task_of u) ≡ request_of (task_of t) → Fits t settings d
    → Extends settings d (op_of (request_of (task_of t)) (stage_of (task_of t))) moment a e → fits (task_of u) settings e → Fits u settings e
fits_next t u settings d e moment a going same f x stands =
    let r = request_of (task_of t) in
    let op = op_of r (stage_of (task_of t)) in
    let events = events_after settings d e op moment a x in
    let before = own_events d.seen (actor_at d) in
    record {
      stands = stands;
      reads = subst AreOfListing (sym events) (one_more before (own_event op a) f.reads (going_op r (stage_of (task_of t)) going));
      at_row = subst (BeginsAtRow (task_of u)) (sym events) (row_first (task_of t) (task_of u) before (own_event op a) same refl f.at_row);
    }

pub fits_waiting : (t : Listing) (settings : SettingsView) (d e : DoorView) → Waited settings d e → Fits t settings d → fits (task_of t) settings e → Fits t settings e
fits_waiting t settings d e waited f stands =
    let actor : actor_at e ≡ actor_at d = λ i. record { pass = waited.pass i; count = waited.count i } in
    let events : own_events e.seen (actor_at e) ≡ own_events d.seen (actor_at d) = ap (own_events e.seen) actor ∙ waited.same.events in
    record { stands = stands; reads = subst AreOfListing (sym events) f.reads; at_row = subst (BeginsAtRow (task_of t)) (sym events) f.at_row }

pub so_far : (t : Listing) (settings : SettingsView) (d : DoorView) (body : Body) → Fits t settings d → BearsOutSoFar (site_of settings (asks (command_of t))) (asked_by (command_of t)) body d
so_far t settings d body f = f.reads

-- ---- also where nothing is told

pub onward : (t : Listing) → (IsOver (stage_of (task_of t)) → ⊥) → IsOver (stage_of (task_of t)) → ⊥
onward t going = going

pub begun : (t : Listing) → stage_of (task_of t) ≡ Look None → (IsOver (stage_of (task_of t)) → ⊥) × IsSound (stage_of (task_of t))
begun t looks = subst (λ stage. (IsOver stage → ⊥) × IsSound stage) (sym looks) (λ over. over, tt)

pub goes_on : (t u : Listing) → Steps (task_of t) (task_of u) → IsSound (stage_of (task_of t)) → IsSound (stage_of (task_of u)) × GoesOn None None no_bytes
goes_on t u steps sound = (steps.sound, none_comes)

-- ---- how it ends

stage_ends : (c : ListRequest × ListingForm) (outcome : Outcome) → MayEndListing outcome → MayEnd (asked_by c) None (on_object outcome)
stage_ends c (Done (Listed rows)) may = record { has_reply = tt; by_event = refl; is_shown = λ reply shown. cc }
stage_ends c (Done (Refused Unauthorized)) may = record { has_reply = tt; by_event = refl; is_shown = λ reply shown. cc }
stage_ends c (Done (Refused (Denied rule))) may = record { has_reply = tt; by_event = refl; is_shown = λ reply shown. cc }
stage_ends c (Done (Refused NoContainer)) may = record { has_reply = tt; by_event = refl; is_shown = λ reply shown. cc }
stage_ends c MovedOften may = record { has_reply = tt; by_event = refl; is_shown = λ reply shown. cc }
stage_ends c outcome may = absurd may

ends_so : (stage : Stage) (outcome : Outcome) → IsSound stage → ended_in stage ≡ Some outcome → MayEndListing outcome
ends_so (Ended found) outcome sound is = let same : found ≡ outcome = cc in subst MayEndListing same sound
ends_so stage outcome sound is = cc

pub may_end : (t : Listing) (outcome : Outcome) → IsSound (stage_of (task_of t)) → EndsWith t outcome → MayEnd (asked_by (command_of t)) None (on_object outcome)
may_end t outcome sound is = stage_ends (command_of t) outcome (ends_so (stage_of (task_of t)) outcome sound is)

-- ---- what is borne out

done_borne : (settings : SettingsView) (r : ListRequest) (listing : ListingForm) (outcome : Outcome) (y : Account) (events : List OwnEvent) (body : List ℕ) → MayEndListing outcome → IsListOutcome r outcome y events
    → IsBorneOut settings r.zone (asked_by (r, listing)) read_whole body (on_object outcome) [] y events
done_borne settings r listing (Done (Listed rows)) y events body may f = (((f, tt), refl, (f.1).reads), tt)
done_borne settings r listing (Done (Refused Unauthorized)) y events body may f = (((f, tt), refl, (f.1).reads), tt)
done_borne settings r listing (Done (Refused (Denied rule))) y events body may f = (((f, tt), refl, (f.1).reads), tt)
done_borne settings r listing (Done (Refused NoContainer)) y events body may f = (((f, tt), refl, (f.1).reads), tt)
done_borne settings r listing MovedOften y events body may f = (((f, tt), refl, (f.2).reads), tt)
done_borne settings r listing outcome y events body may f = absurd may

end_right : (c : ListRequest × ListingForm) (settings : SettingsView) (d : DoorView) (outcome : Outcome) → MayEndListing outcome → IsListOutcome c.0 outcome (account_of settings d.seen (actor_at d)) (own_events d.seen (actor_at d))
    → EndsSo (site_of settings (asks c)) (asked_by c) [] d (on_object outcome)
end_right c settings d (Done reply) may f = λ body. done_borne settings c.0 c.1 (Done reply) (account_of settings d.seen (actor_at d)) (own_events d.seen (actor_at d)) body may f
end_right c settings d MovedOften may f = λ body. done_borne settings c.0 c.1 MovedOften (account_of settings d.seen (actor_at d)) (own_events d.seen (actor_at d)) body may f
end_right c settings d outcome may f = absurd may

stage_means : (r : ListRequest) (stage : Stage) (moved last : ℕ) (y : Account) (events : List OwnEvent) (outcome : Outcome) → FitsAt r stage moved y events last → ended_in stage ≡ Some outcome → IsListOutcome r outcome y events
stage_means r (Ended found) moved last y events outcome f is = let same : found ≡ outcome = cc in subst (λ o. IsListOutcome r o y events) same f
stage_means r stage moved last y events outcome f is = cc

pub right : (t : Listing) (settings : SettingsView) (d : DoorView) (outcome : Outcome) → IsSound (stage_of (task_of t)) → Fits t settings d → EndsWith t outcome
    → EndsSo (site_of settings (asks (command_of t))) (asked_by (command_of t)) [] d (on_object outcome)
right t settings d outcome sound f is =
    end_right (command_of t) settings d outcome (ends_so (stage_of (task_of t)) outcome sound is)
    (stage_means (request_of (task_of t)) (stage_of (task_of t)) _ _ (account_of settings d.seen (actor_at d)) (own_events d.seen (actor_at d)) outcome f.stands.2 is)

-- ---- behind a body that broke off

-- the first event alone was made: it read the row, and decided nothing
record IsAlone (r : ListRequest) (y : Account) (events : List OwnEvent) : Type 0 where
  undecided : y.decided ≡ None
  row : ReadsRowAlone r.zone r.command.container events

row_alone : (t : Listing) (settings : SettingsView) (d e : DoorView) (moment : ℕ) → Fits t settings e → IsNew settings d → MakesEvent settings moment d e → IsAlone (request_of (task_of t)) (account_of settings e.seen (actor_at e)) (own_events e.seen (actor_at e))
row_alone t settings d e moment f new made =
    let r = request_of (task_of t) in
    let x = made.extends in
    let a = made.answered in
    let own : OwnEvent = own_event made.op a in
    let maps = heads (d.seen ++ x.between) in
    let tails = (world_of settings (d.seen ++ x.between)).stripes.made in
    let alone : own_events e.seen (actor_at e) ≡ own ∷ [] = alone_after settings d e moment new made in
    let row : made.op ≡ asks_row r.zone r.command = subst (BeginsAtRow (task_of t)) alone f.at_row in
    record {
      undecided =
          ap (λ (doings : Doings). doings.account.decided) x.own
          ∙ ap (λ op. decided_after (account_of settings d.seen (actor_at d)) maps tails op a.reply a.number a.clock) row
          ∙ ap (λ (y : Account). y.decided) new.account;
      row = record { look = own; alone = alone; op = row };
    }

module _ (settings : SettingsView) (r : ListRequest) (listing : ListingForm) (why : BodyEnd) (wrong : IsWrong why) (came : List ℕ) (moved last : ℕ) (y : Account) (events : List OwnEvent) (alone : IsAlone r y events) where
  abbrev Right : TaskEnd → Type 0
  Right end = IsBorneOut settings r.zone (asked_by (r, listing)) (broken_off why) came end [] y events

  abbrev RightBy : Option Outcome → Type 0
  RightBy outcome = Right (early_end (option_map on_object outcome))

  -- the row grants it, and the body decides
  granted : Granted r.zone r.asker r.command.container ListContainer y → AreOfListing events → Right body_failed
  granted by reads = (((by, alone.undecided, alone.row), refl, reads), broken_has_list_reply listing why wrong)

  by_look : (row : Bucket) (look : Looked) → y.looked ≡ Some look → look.zone ≡ r.zone → look.name ≡ r.command.container → look.row ≡ Some row → row_refusal r.asker (Some row) ListContainer ≡ None → y.changes ≡ 0 → AreOfListing events → Right body_failed
  by_look row look last zone name showed grants unchanged =
      granted (record {
        by_row = record {
          look = look;
          is_last = last;
          in_zone = zone;
          under_name = name;
          refuses = subst (λ o. row_refusal r.asker o ListContainer ≡ None) (sym showed) grants;
        };
        unchanged = unchanged;
      })

  still_going : Going r moved y events last → (row : Bucket) → Looking r row y last → Right body_failed
  still_going g row l = by_look row l.look l.is_last l.in_zone l.under_name l.showed l.granted g.unchanged g.reads

  right_while : (stage : Stage) → is_broken stage ≡ false → IsPast stage → FitsAt r stage moved y events last → (IsOver stage → ⊥) → RightBy None
  right_while (Look known) whole past f going = absurd past
  right_while (Page m next) whole past f going = still_going f.0 m.row f.1
  right_while (Head m wanted) whole past f going = still_going f.0 m.row f.1
  right_while (Suggest m s) whole past f going = still_going f.0 m.row f.1
  right_while Broken whole past f going = let clash : true ≡ false = whole in absurd (cc)
  right_while (Ended outcome) whole past f going = absurd (going tt)

  right_once : (outcome : Outcome) → IsPast (Ended outcome) → FitsAt r (Ended outcome) moved y events last → RightBy (Some outcome)
  right_once (Done (Refused Unauthorized)) past f = (((f, refl), refl, (f.1).reads), tt)
  right_once (Done (Refused (Denied rule))) past f = (((f, refl), refl, (f.1).reads), tt)
  right_once (Done (Refused NoContainer)) past f = (((f, refl), refl, (f.1).reads), tt)
  right_once (Done (Refused refusal)) past f = absurd past
  right_once (Done (Listed rows)) past f =
      let l = f.0 in by_look l.row l.look l.is_last l.in_zone l.under_name l.showed l.granted (f.1).unchanged (f.1).reads
  right_once MovedOften past f = granted (record { by_row = f.0; unchanged = (f.2).unchanged }) (f.2).reads
  right_once (Done reply) past f = absurd f.0
  right_once outcome past f = absurd f

  right_at_first : (stage : Stage) (outcome : Option Outcome) → is_broken stage ≡ false → IsPast stage → FitsAt r stage moved y events last → IsThere (IsOver stage) (λ o. ended_in stage ≡ Some o) outcome → RightBy outcome
  right_at_first stage None whole past f there = right_while stage whole past f there
  right_at_first (Ended found) (Some outcome) whole past f there =
      let same : found ≡ outcome = cc in subst (λ o. RightBy (Some o)) same (right_once found past f)
  right_at_first stage (Some outcome) whole past f there = cc

pub early : (t u : Listing) (outcome : Option Outcome) (settings : SettingsView) (d e : DoorView) (moment : ℕ) (why : BodyEnd) (came : List ℕ) → stage_of (task_of t) ≡ Look None → Steps (task_of t) (task_of u) → is_broken (stage_of (task_of u)) ≡ false → Fits u settings e
    → IsThere (IsOver (stage_of (task_of u))) (EndsWith u) outcome → IsNew settings d → MakesEvent settings moment d e → IsWrong why
    → BearsOut (site_of settings (asks (command_of u))) (asked_by (command_of u)) (broken_off why) came (early_end (option_map on_object outcome)) [] e
early t u outcome settings d e moment why came looks steps whole f there new made wrong =
    right_at_first settings (request_of (task_of u)) u.listing why wrong came _ _ (account_of settings e.seen (actor_at e)) (own_events e.seen (actor_at e)) (row_alone u settings d e moment f new made)
    (stage_of (task_of u)) outcome whole (steps.looked looks) f.stands.2 there
