-- A GET as a request.
use Rattle.std.proofs.Common.{◌≡◌, ℕ, false, List, [], ◌++◌, Option, Some, None, refl, sym, ap, ◌∙◌, subst}
use Rattle.std.specs.Prelude.{option_map}
use Rattle.http_chunks.specs.declared.body.BodyEnd.{BodyEnd}
use Rattle.realm_model.specs.Accounts.{Decided, Account}
use Rattle.realm_model.specs.Doors.{DoorView, actor_at}
use Rattle.realm_model.specs.Owns.{OwnEvent, own_events}
use Rattle.realm_model.specs.Phases.{Phase}
use Rattle.realm_model.specs.Settings.{SettingsView}
use Rattle.realm_door.specs.Turns.{MakesEvent}
use Rattle.swift_requests.specs.declared.asked.Asked.{Asked}
use Rattle.swift_requests.specs.declared.asked.Asked.TheVariants.{Unfed}
use Rattle.swift_requests.specs.declared.asked.UnfedCommand.TheVariants.{Get}
use Rattle.task_words.specs.declared.asker.Asker.{Asker}
use Rattle.task_words.specs.declared.command.GetCommand.{GetCommand}
use Rattle.task_words.specs.declared.outcome.Outcome.{Outcome}
use Rattle.task_words.specs.declared.outcome.Outcome.TheVariants.{Done, LateRead}
use Rattle.task_words.specs.declared.reply.MapReply.{MapReply}
use Rattle.task_words.specs.declared.reply.MapReply.TheVariants.{Shown, Same, Refused}
use Rattle.task_words.specs.declared.reply.Refusal.TheVariants.{Unauthorized, Denied, NoContainer, OtherEtag}
use Rattle.task_words.specs.Answers.{span_of}
use Rattle.task_words.specs.Outcomes.{Body, IsShown, IsGetOutcome}
use Rattle.task_get.specs.declared.request.GetRequest.{GetRequest}
use Rattle.task_get.specs.declared.stage.Stage.{Stage}
use Rattle.task_get.specs.declared.stage.Stage.TheVariants.{Look, Open, Tails, Ended, Late}
use Rattle.task_get.specs.declared.task.GetTask.{GetTask}
use Rattle.task_get.specs.Gets.{FitsStage, shown_at}
use Rattle.task_get.specs.Pieces.{brought}
use Rattle.task_get.specs.Stages.{IsOpen, IsOver, IsGetReply, IsSound, IsBehindRow, ended_in}
use Rattle.task_get.specs.Tasks.{account_at, phase_at, events_at, request_of, stage_of, bytes_of, shown_by, shown_of, Fits, Steps}
use Rattle.task_get.proofs.Giving.{shown_reply, shown_rests, front_at_once, none_brought, next_piece_follows}
use Rattle.call_words.specs.Bodies.{read_whole, broken_off, IsWrong}
use Rattle.call_words.specs.Calls.{IsBorneOut}
use Rattle.call_words.specs.Ends.{TaskEnd, on_object}
use Rattle.call_words.specs.Events.{AreOfGet}
use Rattle.call_words.specs.Texts.{told_reply, HasReply}
use Rattle.call_words.proofs.Fates.{broken_has_reply}
use Rattle.call_service.specs.Serving.{BearsOut, BearsOutSoFar, IsNew, is_by_end}
use Rattle.request_service.specs.Early.{early_end}
use Rattle.request_service.specs.Gets.{brought_at, whole_by, whole_at}
use Rattle.request_service.specs.Requests.{Question, site_of, HasBytes, MayEnd, IsThere, GoesOn, EndsSo, ShowsFront}
use Rattle.request_service.specs.OwnReads.{means_reads, stage_reads}

abbrev asked_get : Asker → GetCommand → Asked
asked_get asker c = Unfed asker (Get c)

abbrev pub asked_in : GetRequest → Asked
asked_in r = asked_get r.asker r.get

abbrev pub asks : GetRequest → Question
asks r = record { zone = r.zone; asked = asked_in r }

abbrev EndsWith : GetTask → Outcome → Type 0
EndsWith t outcome = ended_in (stage_of t) ≡ Some outcome

-- ---- also where nothing is told

still_open : (stage : Stage) → (IsOver stage → ⊥) → IsOpen stage
still_open (Ended outcome given) going = absurd (going tt)
still_open (Late x outcome) going = absurd (going tt)
still_open stage going = tt

pub onward : (t : GetTask) → (IsOver (stage_of t) → ⊥) → IsOpen (stage_of t)
onward t = still_open (stage_of t)

pub begun : (t : GetTask) → stage_of t ≡ Look → IsOpen (stage_of t) × IsSound (stage_of t)
begun t looks = subst (λ stage. IsOpen stage × IsSound stage) (sym looks) (tt, tt)

pub goes_on : (t u : GetTask) → Steps t u → IsSound (stage_of t) → IsSound (stage_of u) × GoesOn (shown_of t) (shown_of u) (bytes_of u)
goes_on t u steps sound = (steps.sound sound, record { shows = steps.shown sound; brings = steps.brings sound })

pub first : (t u : GetTask) → Steps t u → stage_of t ≡ Look → bytes_of u ≡ []
first t u steps looks = (steps.looked looks).1

shown_has : (asker : Asker) (c : GetCommand) (reply : MapReply) → IsShown reply → HasBytes (asked_get asker c) reply
shown_has asker c (Shown kind meta etag stamp size start count) is = tt
shown_has asker c reply is = absurd is

stage_shows : (stage : Stage) (reply : MapReply) → IsSound stage → shown_by stage ≡ Some reply → IsShown reply
stage_shows Look reply sound is = cc
stage_shows (Open container) reply sound is = cc
stage_shows (Tails x) reply sound is = let same : x.reply ≡ reply = cc in subst IsShown same sound
stage_shows (Ended (Done found) given) reply sound is = (shown_reply found reply is).1
stage_shows (Ended outcome given) reply sound is = absurd sound
stage_shows (Late x (LateRead read_at clock)) reply sound is = let same : x.reply ≡ reply = cc in subst IsShown same sound
stage_shows (Late x outcome) reply sound is = absurd sound

pub shows : (t : GetTask) (reply : MapReply) → IsSound (stage_of t) → shown_of t ≡ Some reply → HasBytes (asked_in (request_of t)) reply
shows t reply sound is = shown_has (request_of t).asker (request_of t).get reply (stage_shows (stage_of t) reply sound is)

-- ---- how it ends

has_reply : (c : GetCommand) (reply : MapReply) → IsGetReply reply → HasReply (told_reply (span_of c) read_whole (Done reply))
has_reply c (Shown kind meta etag stamp size start count) is = tt
has_reply c (Same etag stamp) is = tt
has_reply c (Refused refusal) is = tt
has_reply c reply is = absurd is

by_event : (reply : MapReply) → IsGetReply reply → is_by_end (on_object (Done reply)) ≡ false
by_event (Shown kind meta etag stamp size start count) is = refl
by_event (Same etag stamp) is = refl
by_event (Refused OtherEtag) is = absurd is
by_event (Refused refusal) is = refl
by_event reply is = absurd is

stage_ends : (asker : Asker) (c : GetCommand) (stage : Stage) (outcome : Outcome) → IsSound stage → ended_in stage ≡ Some outcome → MayEnd (asked_get asker c) (shown_by stage) (on_object outcome)
stage_ends asker c (Ended (Done reply) given) outcome sound is =
    let same : Done reply ≡ outcome = cc in
    subst (λ o. MayEnd (asked_get asker c) (shown_by (Ended (Done reply) given)) (on_object o)) same (record {
      has_reply = has_reply c reply sound;
      by_event = by_event reply sound;
      is_shown = λ shown there. ap (λ (r : MapReply). on_object (Done r)) (shown_reply reply shown there).0;
    })
stage_ends asker c (Ended end given) outcome sound is = absurd sound
stage_ends asker c (Late x (LateRead read_at clock)) outcome sound is =
    let same : LateRead read_at clock ≡ outcome = cc in
    subst (λ o. MayEnd (asked_get asker c) (Some x.reply) (on_object o)) same tt
stage_ends asker c (Late x end) outcome sound is = absurd sound
stage_ends asker c stage outcome sound is = cc

pub may_end : (t : GetTask) (outcome : Outcome) → IsSound (stage_of t) → EndsWith t outcome → MayEnd (asked_in (request_of t)) (shown_of t) (on_object outcome)
may_end t outcome sound is = stage_ends (request_of t).asker (request_of t).get (stage_of t) outcome sound is

-- ---- bytes

pub unbrought : (r : GetRequest) (d : DoorView) → own_events d.seen (actor_at d) ≡ [] → brought_at r d ≡ []
unbrought r d none = ap (brought r.get) none

pub brings : (t u : GetTask) (settings : SettingsView) (d e : DoorView) (moment : ℕ) → request_of u ≡ request_of t → Fits u settings e → MakesEvent settings moment d e → brought_at (request_of t) e ≡ brought_at (request_of t) d ++ bytes_of u
brings t u settings d e moment request fits made = next_piece_follows settings t u d e moment request fits made

-- ---- what is borne out

-- a reply that shows bytes rests on the event that decided
record RestsOnEvent (r : GetRequest) (reply : MapReply) (y : Account) : Type 0 where
  event : Decided
  decided : y.decided ≡ Some event

rests_on_event : (r : GetRequest) (reply : MapReply) (y : Account) → IsShown reply → IsGetOutcome r.zone r.asker r.get (Done reply) y → RestsOnEvent r reply y
rests_on_event r (Shown kind meta etag stamp size start count) y is rests = record { event = rests.0.event; decided = rests.0.is_last }
rests_on_event r reply y is rests = absurd is

-- it is borne out where these bytes are shown
borne_by_event : (settings : SettingsView) (r : GetRequest) (reply : MapReply) (y : Account) (events : List OwnEvent) (bytes body : List ℕ) (event : Decided) → IsShown reply → IsGetOutcome r.zone r.asker r.get (Done reply) y → y.decided ≡ Some event → bytes ≡ shown_at r event → AreOfGet events
    → IsBorneOut settings r.zone (asked_in r) read_whole body (on_object (Done reply)) bytes y events
borne_by_event settings r (Shown kind meta etag stamp size start count) y events bytes body event is rests decided are read =
    (((rests, tt), record { event = event; is_last = decided; bytes = are }, read), tt)
borne_by_event settings r reply y events bytes body event is rests decided are read = absurd is

pub front : (t : GetTask) (settings : SettingsView) (d : DoorView) (reply : MapReply) → Fits t settings d → shown_of t ≡ Some reply
    → ShowsFront (site_of settings (asks (request_of t))) (asked_in (request_of t)) reply (brought_at (request_of t) d) (whole_at (request_of t) settings d) d
front t settings d reply fits is =
    let r = request_of t in
    let y = account_at settings d in
    let events = events_at d in
    let rests = shown_rests r (stage_of t) y (phase_at settings d) events reply fits.stage is in
    let on = rests_on_event r reply y rests.1 rests.0 in
    let part = front_at_once r (stage_of t) y (phase_at settings d) events fits.stage on.event on.decided in
    let whole : whole_by r y.decided ≡ shown_at r on.event = ap (whole_by r) on.decided in
    record {
      rest = part.rest;
      joined = whole ∙ part.joined;
      borne = λ body. borne_by_event settings r reply y events (whole_by r y.decided) body on.event rests.1 rests.0 on.decided whole (stage_reads r (stage_of t) y (phase_at settings d) events fits.stage);
    }

done_borne : (settings : SettingsView) (r : GetRequest) (reply : MapReply) (given : ℕ) (y : Account) (p : Phase) (events : List OwnEvent) (body : List ℕ) → IsGetReply reply → FitsStage r (Ended (Done reply) given) y p events
    → IsBorneOut settings r.zone (asked_in r) read_whole body (on_object (Done reply)) (brought r.get events) y events
done_borne settings r (Shown kind meta etag stamp size start count) given y p events body is fits =
    let by = fits.0.0.0 in
    (((fits.0.0, tt), record { event = by.event; is_last = by.is_last; bytes = fits.0.1.1 by.event by.is_last }, means_reads r (Done (Shown kind meta etag stamp size start count)) y events fits.0), tt)
done_borne settings r (Same etag stamp) given y p events body is fits =
    (((fits.0.0, tt), none_brought r (Ended (Done (Same etag stamp)) given) y p events fits refl, means_reads r (Done (Same etag stamp)) y events fits.0), tt)
done_borne settings r (Refused refusal) given y p events body is fits =
    (((fits.0.0, tt), none_brought r (Ended (Done (Refused refusal)) given) y p events fits refl, means_reads r (Done (Refused refusal)) y events fits.0), tt)
done_borne settings r reply given y p events body is fits = absurd is

abbrev Ends : GetRequest → SettingsView → DoorView → Outcome → Type 0
Ends r settings d outcome = EndsSo (site_of settings (asks r)) (asked_in r) (brought_at r d) d (on_object outcome)

stage_right : (r : GetRequest) (stage : Stage) (settings : SettingsView) (d : DoorView) (outcome : Outcome) → IsSound stage → FitsStage r stage (account_at settings d) (phase_at settings d) (events_at d) → ended_in stage ≡ Some outcome → Ends r settings d outcome
stage_right r (Ended (Done reply) given) settings d outcome sound fits is =
    let same : Done reply ≡ outcome = cc in
    subst (Ends r settings d) same (λ body. done_borne settings r reply given (account_at settings d) (phase_at settings d) (events_at d) body sound fits)
stage_right r (Ended end given) settings d outcome sound fits is = absurd sound
stage_right r (Late x (LateRead read_at clock)) settings d outcome sound fits is =
    let same : LateRead read_at clock ≡ outcome = cc in
    subst (Ends r settings d) same (fits.0.0, fits.0.1)
stage_right r (Late x end) settings d outcome sound fits is = absurd sound
stage_right r stage settings d outcome sound fits is = cc

pub right : (t : GetTask) (settings : SettingsView) (d : DoorView) (outcome : Outcome) → IsSound (stage_of t) → Fits t settings d → EndsWith t outcome → Ends (request_of t) settings d outcome
right t settings d outcome sound fits is = stage_right (request_of t) (stage_of t) settings d outcome sound fits.stage is

pub so_far : (t : GetTask) (settings : SettingsView) (d : DoorView) (body : Body) → Fits t settings d → BearsOutSoFar (site_of settings (asks (request_of t))) (asked_in (request_of t)) body d
so_far t settings d body fits = stage_reads (request_of t) (stage_of t) (account_at settings d) (phase_at settings d) (events_at d) fits.stage

-- ---- behind a body that broke off

abbrev BornEarly : SettingsView → GetRequest → BodyEnd → List ℕ → Account → List OwnEvent → TaskEnd → Type 0
BornEarly settings r why came y events end = IsBorneOut settings r.zone (asked_in r) (broken_off why) came end [] y events

-- the row refused it
refused_borne : (settings : SettingsView) (r : GetRequest) (why : BodyEnd) (came : List ℕ) (stage : Stage) (outcome : Outcome) (y : Account) (p : Phase) (events : List OwnEvent) → IsBehindRow stage → FitsStage r stage y p events → ended_in stage ≡ Some outcome
    → BornEarly settings r why came y events (early_end (Some (on_object outcome)))
refused_borne settings r why came (Ended (Done (Refused Unauthorized)) given) outcome y p events behind fits is =
    let same : Done (Refused Unauthorized) ≡ outcome = cc in
    subst (λ o. BornEarly settings r why came y events (early_end (Some (on_object o)))) same
    (((fits.0.0, refl), refl, stage_reads r (Ended (Done (Refused Unauthorized)) given) y p events fits), tt)
refused_borne settings r why came (Ended (Done (Refused (Denied rule))) given) outcome y p events behind fits is =
    let same : Done (Refused (Denied rule)) ≡ outcome = cc in
    subst (λ o. BornEarly settings r why came y events (early_end (Some (on_object o)))) same
    (((fits.0.0, refl), refl, stage_reads r (Ended (Done (Refused (Denied rule))) given) y p events fits), tt)
refused_borne settings r why came (Ended (Done (Refused NoContainer)) given) outcome y p events behind fits is =
    let same : Done (Refused NoContainer) ≡ outcome = cc in
    subst (λ o. BornEarly settings r why came y events (early_end (Some (on_object o)))) same
    (((fits.0.0, refl), refl, stage_reads r (Ended (Done (Refused NoContainer)) given) y p events fits), tt)
refused_borne settings r why came (Open container) outcome y p events behind fits is = cc
refused_borne settings r why came stage outcome y p events behind fits is = absurd behind

-- the row granted it, and the body decides
granted_borne : (settings : SettingsView) (r : GetRequest) (why : BodyEnd) (came : List ℕ) (stage : Stage) (y : Account) (p : Phase) (events : List OwnEvent) → IsWrong why → IsBehindRow stage → FitsStage r stage y p events → (IsOver stage → ⊥)
    → BornEarly settings r why came y events (early_end None)
granted_borne settings r why came (Open container) y p events wrong behind fits going = (
  (
    (
      record {
        by_row = record {
          look = record { zone = r.zone; name = r.get.container; row = Some fits.row; number = fits.look.number };
          is_last = fits.looked;
          in_zone = refl;
          under_name = refl;
          refuses = fits.granted.granted;
        };
        unchanged = fits.unchanged;
      },
      fits.undecided,
      record { look = fits.look; alone = fits.stands; op = fits.granted.op },
    ),
    refl,
    stage_reads r (Open container) y p events fits,
  ),
  broken_has_reply (span_of r.get) why wrong,
)
granted_borne settings r why came (Ended outcome given) y p events wrong behind fits going = absurd (going tt)
granted_borne settings r why came stage y p events wrong behind fits going = absurd behind

early_borne : (settings : SettingsView) (r : GetRequest) (why : BodyEnd) (came : List ℕ) (stage : Stage) (outcome : Option Outcome) (y : Account) (p : Phase) (events : List OwnEvent) → IsWrong why → IsBehindRow stage → FitsStage r stage y p events
    → IsThere (IsOver stage) (λ o. ended_in stage ≡ Some o) outcome → BornEarly settings r why came y events (early_end (option_map on_object outcome))
early_borne settings r why came stage None y p events wrong behind fits there = granted_borne settings r why came stage y p events wrong behind fits there
early_borne settings r why came stage (Some outcome) y p events wrong behind fits there = refused_borne settings r why came stage outcome y p events behind fits there

pub early : (t u : GetTask) (outcome : Option Outcome) (settings : SettingsView) (d e : DoorView) (moment : ℕ) (why : BodyEnd) (came : List ℕ) → stage_of t ≡ Look → Steps t u → false ≡ false → Fits u settings e → IsThere (IsOver (stage_of u)) (EndsWith u) outcome → IsNew settings d → MakesEvent settings moment d e → IsWrong why
    → BearsOut (site_of settings (asks (request_of u))) (asked_in (request_of u)) (broken_off why) came (early_end (option_map on_object outcome)) [] e
early t u outcome settings d e moment why came looks steps going fits there new made wrong =
    early_borne settings (request_of u) why came (stage_of u) outcome (account_at settings e) (phase_at settings e) (events_at e) wrong (steps.looked looks).0 fits.stage there
