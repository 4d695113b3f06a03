-- A PUT at work.
use Rattle.std.proofs.Common.{◌≡◌, ℕ, ◌+◌, ◌<◌, ◌≤◌, List, [], ◌++◌, take, drop, length, Option, Some, None, refl, sym, ap, ◌∙◌, subst, append_assoc, take-append-drop, arith}
use Rattle.std.proofs.lemmas.List.{take_all, length-take-le}
use Rattle.realm_model.specs.Settings.{SettingsView}
use Rattle.realm_model.specs.Accounts.{Account}
use Rattle.realm_model.specs.Doors.{DoorView, actor_at}
use Rattle.realm_model.specs.Histories.{account_of}
use Rattle.realm_model.specs.Owns.{OwnEvent, own_events}
use Rattle.realm_model.specs.declared.event.Reply.{Reply}
use Rattle.task_words.specs.declared.asker.Asker.{Asker}
use Rattle.task_words.specs.declared.command.BodyEnd.{BodyEnd}
use Rattle.task_words.specs.declared.command.BodyEnd.TheVariants.{Whole, Failed}
use Rattle.task_words.specs.declared.command.PutCommand.{PutCommand}
use Rattle.task_words.specs.declared.outcome.Outcome.{Outcome}
use Rattle.task_words.specs.declared.outcome.Outcome.TheVariants.{Done, BodyFailed, Busy, MovedOften, LateTag, NoSpace}
use Rattle.task_words.specs.declared.reply.MapReply.TheVariants.{Stored, Refused}
use Rattle.task_words.specs.declared.reply.Refusal.TheVariants.{Unauthorized, Denied, NoContainer, NotMet, OtherEtag}
use Rattle.task_words.specs.Cuts.{AreCut}
use Rattle.task_words.specs.Outcomes.{IsPutOutcome}
use Rattle.task_put.specs.Bodies.{most_bytes, no_bytes, first_end}
use Rattle.task_put.specs.Cuts.{CutBody}
use Rattle.task_put.specs.Stages.{IsOver, IsReady, settled}
use Rattle.task_put.specs.Stepped.{stepped}
use Rattle.task_put.specs.Taking.{WantsBytes, room_at, fed_request, ended_request}
use Rattle.task_put.specs.Runs.{request_of, stage_of, fault_of, with_stages, fits}
use Rattle.task_put.specs.Tasks.{decided as stages_decided, body_ended as stages_ended, request_of as stages_request, IsPutEnd}
use Rattle.task_put.specs.declared.stage.Draft.{Draft}
use Rattle.task_put.specs.declared.stage.PutRequest.{PutRequest}
use Rattle.task_put.specs.declared.stage.Stage.{Stage}
use Rattle.task_put.specs.declared.stage.Stage.TheVariants.{Looking, Feeding, Changing, Ended}
use Rattle.realm_door.specs.declared.stepping.Stepping.{Stepping}
use Rattle.task_put.specs.declared.task.PutTask.{PutTask}
use Rattle.task_put.proofs.Running.{settled_run}
use Rattle.put_service.specs.Standing.{IsSteady}
use Rattle.put_service.proofs.Pausing.{wants_open, ready_open, steady_fed, steady_ended, steady_wanting, steady_ready, wants_room, wants_unended}
use Rattle.put_service.proofs.Serving.{steady_new}
use Rattle.put_service.proofs.Steps.{steady_after}
use Rattle.script_words.specs.Bodies.{body_bytes}
use Rattle.script_words.specs.declared.line.ScriptBody.{ScriptBody}
use Rattle.script_words.specs.declared.line.Verb.TheVariants.{Put}
use Rattle.script_player.specs.Requests.{plain_put, put_request}
use Rattle.script_player.specs.Meanings.{MeansRequest}
use Rattle.script_player.specs.Plays.{asked_put, EndsAt, IsPut, TakesNext, PutStands, unended, left_of, FitsPut}
use Rattle.script_player.specs.declared.put.PutPlay.{PutPlay}

abbrev pub play_of : Stepping PutTask → ScriptBody → ℕ → PutPlay
play_of task body at = record { task = task; body = body; fed = at }

-- the play with other stages of its task
abbrev pub play_with : PutPlay → PutTask → ℕ → PutPlay
play_with x stages at = play_of (with_stages x.task stages) x.body at

-- ---- at first

pub new_stands : (stages : PutTask) (body : ScriptBody) (zone stripe : ℕ) (asker : Asker) (container name : List ℕ) → length (body_bytes body) ≤ most_bytes → stages_request stages ≡ put_request zone asker container name [] None
    → (draft : Draft) × (stages.stage ≡ Looking draft) × (draft.body ≡ no_bytes stripe) → PutStands (play_of (record { stages = stages; fault = None }) body 0)
new_stands stages body zone stripe asker container name few request looks = record {
  is_put = record {
    plain = request ∙ ap (λ (r : PutRequest). put_request r.zone r.asker r.command.container r.command.name (take 0 (body_bytes body)) r.end) (sym request);
    fed = omega arith;
    few = few;
    ends = subst (λ e. EndsAt e 0 (length (body_bytes body))) (sym (ap (λ (r : PutRequest). r.end) request)) tt;
  };
  steady = λ _. steady_new stages (put_request zone asker container name [] None) stripe request refl refl looks;
  sound = refl;
}

-- ---- bytes

-- the request with the body so far
with_bytes : (r s : PutRequest) (all : List ℕ) (at count : ℕ) (more : List ℕ) → r ≡ put_request r.zone r.asker r.command.container r.command.name (take at all) r.end → s ≡ fed_request r more → take at all ++ more ≡ take (at + count) all
    → s ≡ put_request s.zone s.asker s.command.container s.command.name (take (at + count) all) s.end
with_bytes r s all at count more plain is next =
    let command = ap (λ (q : PutRequest). q.command) plain in
    let bytes : r.bytes ++ more ≡ take (at + count) all = ap (λ (q : PutRequest). q.bytes ++ more) plain ∙ next in
    let fed : fed_request r more ≡ put_request r.zone r.asker r.command.container r.command.name (take (at + count) all) r.end =
    λ i. record { zone = r.zone; asker = r.asker; command = command i; bytes = bytes i; end = r.end } in
    is ∙ fed ∙ ap (λ (q : PutRequest). put_request q.zone q.asker q.command.container q.command.name (take (at + count) all) q.end) (sym is)

-- a task that wants bytes goes on
steady_now : (x : PutPlay) → PutStands x → WantsBytes (stage_of x.task) → IsSteady x.task.stages
steady_now x s wants = s.steady (wants_open (stage_of x.task) wants)

-- the body did not end yet
unended_now : (x : PutPlay) → PutStands x → WantsBytes (stage_of x.task) → (request_of x.task).end ≡ None
unended_now x s wants = wants_unended (request_of x.task) (stage_of x.task) (steady_now x s wants) wants

has_room : (x : PutPlay) → PutStands x → WantsBytes (stage_of x.task) → x.fed < length (body_bytes x.body) → 1 ≤ room_at (stage_of x.task)
has_room x s wants more =
    let bytes = ap (λ (q : PutRequest). length q.bytes) s.is_put.plain ∙ length-take-le x.fed (body_bytes x.body) s.is_put.fed in
    let few = s.is_put.few in
    wants_room (request_of x.task) (stage_of x.task) (steady_now x s wants) wants (omega (arith, bytes, few, more))

module _ (x : PutPlay) (stages : PutTask) (count : ℕ) (s : PutStands x) (wants : WantsBytes (stage_of x.task)) (takes : TakesNext (body_bytes x.body) x.fed x.task.stages stages count) where
  request_now : stages_request stages ≡ fed_request (request_of x.task) takes.more
  request_now = ap stages_request takes.task

  ended_as : (stages_request stages).end ≡ None
  ended_as = ap (λ (q : PutRequest). q.end) request_now ∙ unended_now x s wants

  pub fed_stands : PutStands (play_with x stages (x.fed + count))
  fed_stands = record {
    is_put = record {
      plain = with_bytes (request_of x.task) (stages_request stages) (body_bytes x.body) x.fed count takes.more s.is_put.plain request_now takes.next;
      fed = takes.inside;
      few = s.is_put.few;
      ends = subst (λ e. EndsAt e (x.fed + count) (length (body_bytes x.body))) (sym ended_as) tt;
    };
    steady = λ _. steady_fed x.task.stages stages takes.more takes.task (steady_now x s wants);
    sound = s.sound;
  }

  pub fed_less : x.fed < length (body_bytes x.body) → left_of (play_with x stages (x.fed + count)) < left_of x
  fed_less more =
      let some = takes.some (has_room x s wants more) in
      let inside = takes.inside in
      let now = ap unended ended_as in
      let then = ap unended (unended_now x s wants) in
      omega (arith, some, inside, now, then)

  pub fed_asked : asked_put (play_with x stages (x.fed + count)) ≡ asked_put x
  fed_asked = ap (λ t. asked_put (play_with x t (x.fed + count))) takes.task

module _ (x : PutPlay) (stages : PutTask) (s : PutStands x) (wants : WantsBytes (stage_of x.task)) (whole : length (body_bytes x.body) ≤ x.fed) (is : stages ≡ stages_ended x.task.stages Whole) where
  ends_whole : (stages_request stages).end ≡ Some Whole
  ends_whole = ap (λ t. (stages_request t).end) is ∙ ap (λ e. first_end e Whole) (unended_now x s wants)

  pub ended_stands : PutStands (play_with x stages x.fed)
  ended_stands =
      let inside = s.is_put.fed in
      let size : x.fed ≡ length (body_bytes x.body) = omega (arith, whole, inside) in
      let plain = s.is_put.plain in
      let command = ap (λ (q : PutRequest). q.command) plain in
      let bytes = ap (λ (q : PutRequest). q.bytes) plain in
      let r = request_of x.task in
      let request : stages_request stages ≡ ended_request r Whole = ap stages_request is in
      let now : ended_request r Whole ≡ put_request r.zone r.asker r.command.container r.command.name (take x.fed (body_bytes x.body)) (first_end r.end Whole) =
      λ i. record { zone = r.zone; asker = r.asker; command = command i; bytes = bytes i; end = first_end r.end Whole } in
      record {
        is_put = record {
          plain = request ∙ now ∙ ap (λ (q : PutRequest). put_request q.zone q.asker q.command.container q.command.name (take x.fed (body_bytes x.body)) q.end) (sym request);
          fed = s.is_put.fed;
          few = s.is_put.few;
          ends = subst (λ e. EndsAt e x.fed (length (body_bytes x.body))) (sym ends_whole) size;
        };
        steady = λ _. steady_ended x.task.stages stages Whole is (steady_now x s wants);
        sound = s.sound;
      }

  pub ended_less : left_of (play_with x stages x.fed) < left_of x
  ended_less =
      let now = ap unended ends_whole in
      let then = ap unended (unended_now x s wants) in
      omega (arith, now, then)

  pub ended_asked : asked_put (play_with x stages x.fed) ≡ asked_put x
  ended_asked = ap (λ t. asked_put (play_with x t x.fed)) is

-- ---- a step

-- the task stands where another stands of which the same is asked
pub put_as : (x : PutPlay) (task : Stepping PutTask) → IsPut x → request_of task ≡ request_of x.task → IsPut (play_of task x.body x.fed)
put_as x task s same = record {
  plain = same ∙ s.plain ∙ ap (λ (q : PutRequest). put_request q.zone q.asker q.command.container q.command.name (take x.fed (body_bytes x.body)) q.end) (sym same);
  fed = s.fed;
  few = s.few;
  ends = subst (λ (q : PutRequest). EndsAt q.end x.fed (length (body_bytes x.body))) (sym same) s.ends;
}

pub asked_as : (x : PutPlay) (task : Stepping PutTask) → request_of task ≡ request_of x.task → asked_put (play_of task x.body x.fed) ≡ asked_put x
asked_as x task same = ap (λ (q : PutRequest). record { zone = q.zone; asker = q.asker; verb = Put q.command.container q.command.name x.body }) same

-- the end of the body changes nothing at an outcome
over_settled : (stage : Stage) → IsOver stage → IsOver (settled stage)
over_settled (Ended outcome) over = over
over_settled (Looking draft) over = absurd over
over_settled (Feeding write key draft) over = absurd over
over_settled (Changing etag u) over = absurd over

over_decided : (t u : PutTask) → u ≡ stages_decided t → IsOver t.stage → IsOver u.stage
over_decided t u is over = subst (λ (x : PutTask). IsOver x.stage) (sym is) (over_settled t.stage over)

module _ (x : PutPlay) (stages : PutTask) (is : stages ≡ stages_decided x.task.stages) (s : PutStands x) where
  decided_as : ((IsOver stages.stage → ⊥) → IsSteady stages) → PutStands (play_with x stages x.fed)
  decided_as steady = record {
    is_put = put_as x (with_stages x.task stages) s.is_put (ap stages_request is);
    steady = steady;
    sound = s.sound;
  }

  -- more bytes are wanted, an event comes next, or the outcome is there
  pub wanting_stands : WantsBytes stages.stage → PutStands (play_with x stages x.fed)
  wanting_stands wants =
      decided_as (λ _. steady_wanting x.task.stages stages is (s.steady (λ over. wants_open stages.stage wants (over_decided x.task.stages stages is over))) wants)

  pub ready_stands : IsReady stages.stage → PutStands (play_with x stages x.fed)
  ready_stands ready =
      decided_as (λ _. steady_ready x.task.stages stages is (s.steady (λ over. ready_open stages.stage ready (over_decided x.task.stages stages is over))) ready)

  pub over_stands : IsOver stages.stage → PutStands (play_with x stages x.fed)
  over_stands over = decided_as (λ going. absurd (going over))

  pub decided_asked : asked_put (play_with x stages x.fed) ≡ asked_put x
  decided_asked = asked_as x (with_stages x.task stages) (ap stages_request is)

-- an event was made
pub next_stands : (x : PutPlay) (task : Stepping PutTask) → PutStands x → IsReady (stage_of x.task) → request_of task ≡ request_of x.task → fault_of task ≡ None
    → (number : ℕ) × (reply : Reply) × (task.stages ≡ stepped x.task.stages number reply) → PutStands (play_of task x.body x.fed)
next_stands x task s ready request sound steps = record {
  is_put = put_as x task s.is_put request;
  steady = λ _. steady_after x.task.stages task.stages ready (s.steady (ready_open (stage_of x.task) ready)) steps;
  sound = sound;
}

pub decided_fits : (settings : SettingsView) (d : DoorView) (t : Stepping PutTask) (stages : PutTask) → stages ≡ stages_decided t.stages → fits t settings d → fits (with_stages t stages) settings d
decided_fits settings d t stages is f = subst (λ (x : PutTask). fits (with_stages t x) settings d) (sym is) (settled_run settings d t f)

-- ---- the end

module _ (zone : ℕ) (asker : Asker) (c : PutCommand) (all : List ℕ) (y : Account) (events : List OwnEvent) where
  -- an outcome that was there before the end of the body is that of the whole body
  before_end : (bytes : List ℕ) (outcome : Outcome) → IsPutOutcome zone asker c (record { bytes = bytes; end = None }) outcome y events → IsPutOutcome zone asker c (record { bytes = all; end = Some Whole }) outcome y events
  before_end bytes (Done (Stored etag stamp)) m = let e : None ≡ Some Whole = m.0.whole in cc
  before_end bytes (Done (Refused NotMet)) m = let e : None ≡ Some Whole = m.0.whole in cc
  before_end bytes (Done (Refused OtherEtag)) m = let e : None ≡ Some Whole = m.0.whole in cc
  before_end bytes (Done (Refused Unauthorized)) m = m
  before_end bytes (Done (Refused (Denied rule))) m = m
  before_end bytes (Done (Refused NoContainer)) m = m
  before_end bytes (Done reply) m = absurd m
  before_end bytes BodyFailed m = let e : None ≡ Some Failed = m.0 in cc
  before_end bytes (Busy id) m = m
  before_end bytes MovedOften m = m
  before_end bytes LateTag m = m
  before_end bytes (NoSpace free needed) m = m
  before_end bytes outcome m = absurd m

  whole_end : (end : Option BodyEnd) (at : ℕ) (outcome : Outcome) → EndsAt end at (length all) → IsPutOutcome zone asker c (record { bytes = take at all; end = end }) outcome y events → IsPutOutcome zone asker c (record { bytes = all; end = Some Whole }) outcome y events
  whole_end None at outcome ends m = before_end (take at all) outcome m
  whole_end (Some Whole) at outcome ends m =
      let every : take at all ≡ all = take_all at all (omega (arith, ends)) in
      subst (λ l. IsPutOutcome zone asker c (record { bytes = l; end = Some Whole }) outcome y events) every m
  whole_end (Some Failed) at outcome ends m = absurd ends

  -- so are its events cut from the whole body
  whole_cut : (stripe : ℕ) (end : Option BodyEnd) (at : ℕ) → EndsAt end at (length all) → CutBody zone stripe (take at all) end events → CutBody zone stripe all (Some Whole) events
  whole_cut stripe None at ends cut = λ more none.
      subst (λ l. AreCut zone stripe l events) (sym (append_assoc (take at all) (drop at all) more) ∙ ap (λ l. l ++ more) (take-append-drop at all)) (cut (drop at all ++ more) tt)
  whole_cut stripe (Some Whole) at ends cut =
      let every : take at all ≡ all = take_all at all (omega (arith, ends)) in
      subst (λ l. CutBody zone stripe l (Some Whole) events) every cut
  whole_cut stripe (Some Failed) at ends cut = absurd ends

-- what the outcome says, of the whole body
pub put_means : (x : PutPlay) (settings : SettingsView) (d : DoorView) (outcome : Outcome) → FitsPut x settings d → IsPutEnd (request_of x.task) outcome settings d → MeansRequest (asked_put x).zone (asked_put x).asker (asked_put x).verb outcome [] settings d
put_means x settings d outcome f m =
    let r = request_of x.task in
    let plain : IsPutEnd (put_request r.zone r.asker r.command.container r.command.name (take x.fed (body_bytes x.body)) r.end) outcome settings d = subst (λ (q : PutRequest). IsPutEnd q outcome settings d) f.is_put.plain m in (
      (
        whole_end r.zone r.asker (plain_put r.command.container r.command.name) (body_bytes x.body) (account_of settings d.seen (actor_at d)) (own_events d.seen (actor_at d)) r.end x.fed outcome f.is_put.ends plain.0,
        plain.1,
        whole_cut r.zone r.asker (plain_put r.command.container r.command.name) (body_bytes x.body) (account_of settings d.seen (actor_at d)) (own_events d.seen (actor_at d)) settings.stripe r.end x.fed f.is_put.ends plain.2,
      ),
      refl,
    )
