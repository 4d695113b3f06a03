-- A GET at work.
use Rattle.std.proofs.Common.{◌≡◌, ℕ, true, false, cond, List, [], ◌++◌, length, Option, Some, None, IsSome, IfSome, refl, sym, ap, ◌∙◌, subst}
use Rattle.rgw_types.specs.declared.stamp.Stamp.{Stamp}
use Rattle.rgw_model.specs.declared.slot.Content.{Content}
use Rattle.rgw_model.specs.declared.slot.Slot.{Slot}
use Rattle.rgw_model.specs.declared.slot.Slot.TheVariants as Slots
use Rattle.realm_model.specs.Settings.{SettingsView}
use Rattle.realm_model.specs.Doors.{DoorView}
use Rattle.realm_model.specs.Owns.{OwnEvent}
use Rattle.realm_door.specs.Turns.{MakesEvent}
use Rattle.realm_door.specs.Waiting.{UnlessFaulted}
use Rattle.realm_door.specs.declared.stepping.Stepping.{Stepping}
use Rattle.task_words.specs.declared.command.GetCommand.{GetCommand}
use Rattle.task_words.specs.declared.outcome.Outcome.{Outcome}
use Rattle.task_words.specs.declared.outcome.Outcome.TheVariants.{Done, LateRead}
use Rattle.task_words.specs.declared.reply.MapReply.{MapReply}
use Rattle.task_words.specs.declared.reply.MapReply.TheVariants.{Stored, Shown, Same, Counted, Listed, Refused}
use Rattle.task_words.specs.declared.reply.Refusal.TheVariants.{Unauthorized, Denied, NoContainer, NoObject, NotMet, NoRange, OtherEtag}
use Rattle.task_words.specs.declared.span.ByteRange.{ByteRange}
use Rattle.task_words.specs.Answers.{is_unmet, is_had, span_of, get_answer, shown_range, answered}
use Rattle.task_words.specs.Spans.{bytes_taken}
use Rattle.task_get.specs.declared.request.GetRequest.{GetRequest}
use Rattle.task_get.specs.declared.stage.Stage.{Stage}
use Rattle.task_get.specs.declared.stage.Stage.TheVariants.{Ended, Late}
use Rattle.task_get.specs.declared.task.GetTask.{GetTask}
use Rattle.task_get.specs.Gets.{Means as GetMeans, ReadsRow}
use Rattle.task_get.specs.Pieces.{brought}
use Rattle.task_get.specs.Stages.{IsOpen, IsOver}
use Rattle.task_get.specs.Tasks.{account_at, phase_at, events_at, request_of, stage_of, bytes_of, where_shown, means, Fits}
use Rattle.task_get.proofs.Giving.{next_piece_follows, none_at_first}
use Rattle.script_words.specs.declared.line.Verb.TheVariants.{Get}
use Rattle.script_player.specs.Requests.{get_request}
use Rattle.script_player.specs.Meanings.{AreBytesOf, MeansRequest}
use Rattle.script_player.specs.Plays.{asked_get, FitsGet, BringsGet}
use Rattle.script_player.specs.Views.{GetPlayView}

-- ---- a step

pub still_open : (stage : Stage) → (IsOver stage → ⊥) → IsOpen stage
still_open (Ended outcome given) not_over = not_over tt
still_open (Late x outcome) not_over = not_over tt
still_open stage not_over = tt

-- the bytes of the event follow those before it
pub bytes_brought : (settings : SettingsView) (t u : GetTask) (d e : DoorView) (moment : ℕ) (before : List ℕ) → request_of u ≡ request_of t → Fits u settings e → MakesEvent settings moment d e
    → before ≡ brought (request_of t).get (events_at d) → before ++ bytes_of u ≡ brought (request_of u).get (events_at e)
bytes_brought settings t u d e moment before request fits made so_far =
    ap (λ l. l ++ bytes_of u) so_far
    ∙ sym (next_piece_follows settings t u d e moment request fits made)
    ∙ ap (λ (r : GetRequest). brought r.get (events_at e)) (sym request)

pub asked_as : (t u : Stepping GetTask) (before now : List ℕ) → request_of u.stages ≡ request_of t.stages → asked_get (record { task = u; shown = now }) ≡ asked_get (record { task = t; shown = before })
asked_as t u before now same = ap (λ (q : GetRequest). record { zone = q.zone; asker = q.asker; verb = Get q.get.container q.get.name }) same

pub get_as : (t u : GetTask) → request_of u ≡ request_of t → request_of t ≡ get_request (request_of t).zone (request_of t).asker (request_of t).get.container (request_of t).get.name
    → request_of u ≡ get_request (request_of u).zone (request_of u).asker (request_of u).get.container (request_of u).get.name
get_as t u same is = same ∙ is ∙ ap (λ (q : GetRequest). get_request q.zone q.asker q.get.container q.get.name) (sym same)

-- the bytes are kept
pub keeps : (x y : GetPlayView) → y.task ≡ x.task → y.shown ≡ x.shown ++ bytes_of x.task.stages → (settings : SettingsView) (d : DoorView) → BringsGet x settings d → FitsGet y settings d
keeps x y task grown settings d b =
    let kept : FitsGet (record { task = x.task; shown = y.shown }) settings d = record { is_get = b.is_get; task = b.task; shown = grown ∙ b.shown } in
    subst (λ t. FitsGet (record { task = t; shown = y.shown }) settings d) (sym task) kept

-- ---- the end

-- the answer of the bucket map has bytes only where it shows an object
range_hides : (c : GetCommand) (content : Content) (stamp : Stamp) (range : Option ByteRange) → where_shown (shown_range c.body content stamp range).reply ≡ None → (shown_range c.body content stamp range).shown ≡ []
range_hides c content stamp None = λ _. refl
range_hides c content stamp (Some range) = λ is. cc

answer_hides : (c : GetCommand) (slot : Slot) → where_shown (get_answer c slot).reply ≡ None → (get_answer c slot).shown ≡ []
answer_hides c Slots.Nothing = λ _. refl
answer_hides c (Slots.Mark stamp) = λ _. refl
answer_hides c (Slots.Live content stamp) =
    let range = shown_range c.body content stamp (bytes_taken (span_of c) (length content.bytes)) in
    let unmet = answered (Refused NotMet) (Slots.Live content stamp) in
    let had = answered (Same content.etag stamp) (Slots.Live content stamp) in
    elim (is_unmet c.when.matches c.when.unmodified content.etag stamp) as (λ b. where_shown (cond b unmet (cond (is_had c.when.none c.when.modified content.etag stamp) had range)).reply ≡ None → (cond b unmet (cond (is_had c.when.none c.when.modified content.etag stamp) had range)).shown ≡ []) [
      | true ↦ λ is. refl
      | false ↦ elim (is_had c.when.none c.when.modified content.etag stamp) as (λ b. where_shown (cond b had range).reply ≡ None → (cond b had range).shown ≡ []) [
        | true ↦ λ is. refl
        | false ↦ range_hides c content stamp (bytes_taken (span_of c) (length content.bytes))
      ]
    ]

module _ (settings : SettingsView) (t : GetTask) (d : DoorView) (fits : Fits t settings d) where
  abbrev r : GetRequest
  r = request_of t

  abbrev events : List OwnEvent
  events = events_at d

  -- the row alone was read
  by_row : ReadsRow r events → brought r.get events ≡ []
  by_row reads = none_at_first r (stage_of t) (account_at settings d) (phase_at settings d) events reads.look fits.stage reads.stands

  -- nor does the bucket map show any
  no_bytes : (reply : MapReply) → where_shown reply ≡ None → GetMeans r (Done reply) (account_at settings d) events → brought r.get events ≡ []
  no_bytes (Refused Unauthorized) hidden m = by_row m.1
  no_bytes (Refused (Denied rule)) hidden m = by_row m.1
  no_bytes (Refused NoContainer) hidden m = by_row m.1
  no_bytes (Refused NoObject) hidden m = m.1.1 m.0.0.event m.0.0.is_last ∙ answer_hides r.get m.0.0.event.before (sym (ap where_shown m.0.0.answers))
  no_bytes (Refused NotMet) hidden m = m.1.1 m.0.0.event m.0.0.is_last ∙ answer_hides r.get m.0.0.event.before (sym (ap where_shown m.0.0.answers))
  no_bytes (Refused (NoRange size)) hidden m = m.1.1 m.0.0.event m.0.0.is_last ∙ answer_hides r.get m.0.0.event.before (sym (ap where_shown m.0.0.answers))
  no_bytes (Refused OtherEtag) hidden m = m.1.1 m.0.0.event m.0.0.is_last ∙ answer_hides r.get m.0.0.event.before (sym (ap where_shown m.0.0.answers))
  no_bytes (Stored etag stamp) hidden m = m.1.1 m.0.0.event m.0.0.is_last ∙ answer_hides r.get m.0.0.event.before (sym (ap where_shown m.0.0.answers))
  no_bytes (Same etag stamp) hidden m = m.1.1 m.0.0.event m.0.0.is_last ∙ answer_hides r.get m.0.0.event.before (sym (ap where_shown m.0.0.answers))
  no_bytes (Counted row objects bytes) hidden m = m.1.1 m.0.0.event m.0.0.is_last ∙ answer_hides r.get m.0.0.event.before (sym (ap where_shown m.0.0.answers))
  no_bytes (Listed rows) hidden m = m.1.1 m.0.0.event m.0.0.is_last ∙ answer_hides r.get m.0.0.event.before (sym (ap where_shown m.0.0.answers))
  no_bytes (Shown kind meta etag stamp size start count) hidden m = cc

  bytes_shown : (outcome : Outcome) (shown : List ℕ) → shown ≡ brought r.get events → GetMeans r outcome (account_at settings d) events → AreBytesOf r outcome shown (account_at settings d)
  bytes_shown (Done (Shown kind meta etag stamp size start count)) shown is m =
      record { event = m.0.0.event; is_last = m.0.0.is_last; bytes = is ∙ m.1.1 m.0.0.event m.0.0.is_last }
  bytes_shown (Done (Refused refusal)) shown is m = is ∙ no_bytes (Refused refusal) refl m
  bytes_shown (Done (Stored etag stamp)) shown is m = is ∙ no_bytes (Stored etag stamp) refl m
  bytes_shown (Done (Same etag stamp)) shown is m = is ∙ no_bytes (Same etag stamp) refl m
  bytes_shown (Done (Counted row objects bytes)) shown is m = is ∙ no_bytes (Counted row objects bytes) refl m
  bytes_shown (Done (Listed rows)) shown is m = is ∙ no_bytes (Listed rows) refl m
  bytes_shown (LateRead read_at clock) shown is m =
      let last = m.0.by_map.is_last in
      let front = m.2 m.0.by_map.event last in
      record { event = m.0.by_map.event; is_last = last; front = record { rest = front.rest; joined = front.joined ∙ ap (λ l. l ++ front.rest) (sym is) } }
  bytes_shown outcome shown is m = absurd m

-- what follows from a clause on what is there, and from that it is there
pub if_there : {X S : Type 0} (r : Option X) {P Q : X → Type 0} → (IsSome r → S) → IfSome r P → ((x : X) → S → P x → Q x) → IfSome r Q
if_there None there clause so = tt
if_there (Some x) there clause so = so x (there refl) clause

pub get_means : (x : GetPlayView) (settings : SettingsView) (d : DoorView) (outcome : Outcome) → x.task.fault ≡ None → FitsGet x settings d → means (request_of x.task.stages) outcome settings d
    → MeansRequest (asked_get x).zone (asked_get x).asker (asked_get x).verb outcome x.shown settings d
get_means x settings d outcome sound f m =
    let stands : Fits x.task.stages settings d = subst (λ o. UnlessFaulted o (Fits x.task.stages settings d)) sound f.task in
    let bytes = bytes_shown settings x.task.stages d stands outcome x.shown f.shown m in
    subst (λ (q : GetRequest). means q outcome settings d × AreBytesOf q outcome x.shown (account_at settings d)) f.is_get (m, bytes)
