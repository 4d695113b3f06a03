-- How an answer brings a GET on, whatever it is.
use Rattle.std.proofs.Common.{◌≡◌, ℕ, ◌+◌, ◌*◌, ◌/◌, ◌≤◌, nat_lt, max, Bool, true, false, cond, List, length, take, Option, Some, None, refl, sym, ap, ◌∙◌, subst, arith}
use Rattle.std.specs.Prelude.{IsSome}
use Rattle.rgw_types.specs.declared.stamp.Stamp.{Stamp}
use Rattle.rgw_types.specs.Stripes.{ManifestView}
use Rattle.object_words.specs.declared.bucket.Bucket.{Bucket}
use Rattle.object_words.specs.declared.head.NewHead.{NewHead}
use Rattle.object_words.specs.declared.head.SeenSlot.{SeenSlot}
use Rattle.object_words.specs.declared.head.SeenSlot.TheVariants.{Nothing, Live, Mark}
use Rattle.realm_model.specs.declared.event.Reply.{Reply}
use Rattle.realm_model.specs.Shown.{row_shown}
use Rattle.swift_auth.specs.declared.policy.Deed.TheVariants.{ReadThing}
use Rattle.swift_auth.specs.declared.policy.Verdict.{Verdict}
use Rattle.swift_auth.specs.declared.policy.Verdict.TheVariants.{Granted, Unknown, Denied as PolicyDenied}
use Rattle.swift_auth.specs.Policies.{found_under, verdict_of}
use Rattle.task_words.specs.declared.command.GetCommand.{GetCommand}
use Rattle.task_words.specs.declared.span.ByteRange.{ByteRange}
use Rattle.task_words.specs.declared.reply.MapReply.{MapReply}
use Rattle.task_words.specs.declared.reply.MapReply.TheVariants.{Shown, Refused}
use Rattle.task_words.specs.declared.reply.Refusal.TheVariants.{Unauthorized, Denied, NoContainer}
use Rattle.task_words.specs.declared.outcome.Outcome.TheVariants.{Done}
use Rattle.task_words.specs.Answers.{is_unmet, is_had, span_of}
use Rattle.task_words.specs.Outcomes.{IsShown}
use Rattle.task_words.specs.Rows.{refusal_by}
use Rattle.task_words.specs.Spans.{bytes_taken}
use Rattle.task_get.specs.declared.request.GetRequest.{GetRequest}
use Rattle.task_get.specs.declared.stage.Stage.{Stage}
use Rattle.task_get.specs.declared.stage.Stage.TheVariants.{Look, Open, Tails, Ended, Late}
use Rattle.task_get.specs.declared.stage.TailShown.{TailShown}
use Rattle.task_get.specs.declared.stage.TailShown.TheVariants.{Bytes, Gone}
use Rattle.task_get.specs.declared.task.GetTask.{GetTask}
use Rattle.task_get.specs.Readings.{ReadingView, next_piece}
use Rattle.task_get.specs.Replies.{reply_by, reply_of, range_of}
use Rattle.task_get.specs.Pieces.{first_bytes}
use Rattle.task_get.specs.Stages.{IsGetReply, IsSound, IsBehindRow, after_refusal, slot_shown, from_part, after_live, after_head, tail_shown, gone_on, after_tail, step_of}
use Rattle.task_get.specs.Tasks.{bytes_of, shown_by, Steps}
use Rattle.task_get.proofs.Ends.{shows_bytes}
use Rattle.task_get.proofs.Giving.{shown_is}

-- ---- the row

refused_so : (v : Verdict) (found row : Option Bucket) → IsBehindRow (after_refusal (refusal_by v found) row)
refused_so Unknown found row = tt
refused_so Granted None row = tt
refused_so (PolicyDenied rule) None row = tt
refused_so Granted (Some r) None = tt
refused_so Granted (Some r) (Some row) = tt
refused_so (PolicyDenied rule) (Some r) row = tt

-- the row alone was read
behind_row : (r : GetRequest) (reply : Reply) (clock : ℕ) → IsBehindRow (step_of r Look reply clock).0
behind_row r reply clock =
    refused_so (verdict_of r.asker.user r.asker.account (row_shown reply) ReadThing) (found_under r.asker.account (row_shown reply)) (row_shown reply)

behind_sound : (stage : Stage) → IsBehindRow stage → IsSound stage
behind_sound (Open container) behind = tt
behind_sound (Ended (Done (Refused Unauthorized)) given) behind = tt
behind_sound (Ended (Done (Refused (Denied rule))) given) behind = tt
behind_sound (Ended (Done (Refused NoContainer)) given) behind = tt
behind_sound stage behind = absurd behind

-- ---- the head

reply_sound : (unmet had : Bool) (range : Option ByteRange) (size : ℕ) (kind : List ℕ) (meta : List (List ℕ × List ℕ)) (etag : List ℕ) (stamp : Stamp) → IsGetReply (reply_by unmet had range size kind meta etag stamp)
reply_sound true had range size kind meta etag stamp = tt
reply_sound false true range size kind meta etag stamp = tt
reply_sound false false None size kind meta etag stamp = tt
reply_sound false false (Some range) size kind meta etag stamp = tt

head_reply : (c : GetCommand) (new : NewHead) (stamp : Stamp) → IsGetReply (reply_of c new stamp)
head_reply c new stamp =
    reply_sound (is_unmet c.when.matches c.when.unmodified new.etag stamp) (is_had c.when.none c.when.modified new.etag stamp) (bytes_taken (span_of c) new.manifest.size) new.manifest.size new.kind new.meta new.etag stamp

shown_sound : (reply : MapReply) → IsShown reply → IsGetReply reply
shown_sound (Shown kind meta etag stamp size start count) is = tt
shown_sound reply is = absurd is

-- a stage that is sound and shows this reply
record SoundlyShows (reply : MapReply) (stage : Stage) : Type 0 where
  sound : IsSound stage
  shows : shown_by stage ≡ Some reply

part_sound : (reply : MapReply) (m : ManifestView) (range : ByteRange) (part given clock : ℕ) → IsShown reply → SoundlyShows reply (from_part reply m range part given clock)
part_sound reply m range part given clock is =
    elim (nat_lt (part * m.stripe) (range.start + range.count)) as (λ b. SoundlyShows reply (cond b (Tails (record { reply = reply; manifest = m; range = range; part = part; given = given; read_at = clock })) (Ended (Done reply) given))) [
      | true ↦ record { sound = is; shows = refl }
      | false ↦ record { sound = shown_sound reply is; shows = sym (shown_is reply is) }
    ]

-- a stage that is sound, and shows a reply where bytes come
record SoundlyBrings (stage : Stage) (bytes : List ℕ) : Type 0 where
  sound : IsSound stage
  brings : 1 ≤ length bytes → IsSome (shown_by stage)

live_sound : (c : GetCommand) (new : NewHead) (stamp : Stamp) (o : Option ByteRange) (clock : ℕ) → range_of c (Live new stamp) ≡ o → let step = after_live (reply_of c new stamp) new.manifest new.first o clock in SoundlyBrings step.0 step.1
live_sound c new stamp None clock is = record { sound = head_reply c new stamp; brings = λ some. absurd (omega (arith, some)) }
live_sound c new stamp (Some range) clock is =
    let reply = reply_of c new stamp in
    let m = new.manifest in
    let shows = part_sound reply m range (max 1 (range.start / m.stripe)) (length (first_bytes m new.first (Some range))) clock (shows_bytes c.body reply range is) in
    record { sound = shows.sound; brings = λ some. subst IsSome (sym shows.shows) refl }

head_sound : (c : GetCommand) (slot : SeenSlot) (clock : ℕ) → SoundlyBrings (after_head c slot clock).0 (after_head c slot clock).1
head_sound c Nothing clock = record { sound = tt; brings = λ some. absurd (omega (arith, some)) }
head_sound c (Mark stamp) clock = record { sound = tt; brings = λ some. absurd (omega (arith, some)) }
head_sound c (Live new stamp) clock = live_sound c new stamp (range_of c (Live new stamp)) clock refl

-- ---- tails

going_sound : (x : ReadingView) (count : ℕ) → IsShown x.reply → SoundlyShows x.reply (gone_on x count)
going_sound x count is =
    elim (nat_lt ((x.part + 1) * x.manifest.stripe) (x.range.start + x.range.count)) as (λ b. SoundlyShows x.reply (cond b (Tails (record x { part = x.part + 1; given = x.given + count })) (Ended (Done x.reply) (x.given + count)))) [
      | true ↦ record { sound = is; shows = refl }
      | false ↦ record { sound = shown_sound x.reply is; shows = sym (shown_is x.reply is) }
    ]

tail_sound : (x : ReadingView) (tail : TailShown) → IsShown x.reply → SoundlyShows x.reply (after_tail x tail).0
tail_sound x (Bytes bytes) is = going_sound x (length (take (next_piece x).count bytes)) is
tail_sound x (Gone clock) is = record { sound = is; shows = refl }

-- ---- all stages

step_sound : (r : GetRequest) (stage : Stage) (answer : Reply) (clock : ℕ) → IsSound stage → IsSound (step_of r stage answer clock).0
step_sound r Look answer clock sound = behind_sound (step_of r Look answer clock).0 (behind_row r answer clock)
step_sound r (Open container) answer clock sound = (head_sound r.get (slot_shown answer) clock).sound
step_sound r (Tails x) answer clock sound = (tail_sound x (tail_shown answer) sound).sound
step_sound r (Ended outcome given) answer clock sound = sound
step_sound r (Late x outcome) answer clock sound = sound

step_shows : (r : GetRequest) (stage : Stage) (answer : Reply) (clock : ℕ) (reply : MapReply) → IsSound stage → shown_by stage ≡ Some reply → shown_by (step_of r stage answer clock).0 ≡ Some reply
step_shows r Look answer clock reply sound is = cc
step_shows r (Open container) answer clock reply sound is = cc
step_shows r (Tails x) answer clock reply sound is = (tail_sound x (tail_shown answer) sound).shows ∙ is
step_shows r (Ended outcome given) answer clock reply sound is = is
step_shows r (Late x outcome) answer clock reply sound is = is

step_brings : (r : GetRequest) (stage : Stage) (answer : Reply) (clock : ℕ) → IsSound stage → 1 ≤ length (step_of r stage answer clock).1 → IsSome (shown_by (step_of r stage answer clock).0)
step_brings r Look answer clock sound some = absurd (omega (arith, some))
step_brings r (Open container) answer clock sound some = (head_sound r.get (slot_shown answer) clock).brings some
step_brings r (Tails x) answer clock sound some = subst IsSome (sym (tail_sound x (tail_shown answer) sound).shows) refl
step_brings r (Ended outcome given) answer clock sound some = absurd (omega (arith, some))
step_brings r (Late x outcome) answer clock sound some = absurd (omega (arith, some))

pub steps_on : (t u : GetTask) (answer : Reply) (clock : ℕ) → u.stage ≡ (step_of t.request t.stage answer clock).0 → bytes_of u ≡ (step_of t.request t.stage answer clock).1 → Steps t u
steps_on t u answer clock stage piece = record {
  looked = λ looks. (
    subst IsBehindRow (sym (stage ∙ ap (λ (s : Stage). (step_of t.request s answer clock).0) looks)) (behind_row t.request answer clock),
    piece ∙ ap (λ (s : Stage). (step_of t.request s answer clock).1) looks,
  );
  sound = λ sound. subst IsSound (sym stage) (step_sound t.request t.stage answer clock sound);
  shown = λ sound reply is. ap shown_by stage ∙ step_shows t.request t.stage answer clock reply sound is;
  brings = λ sound some.
      subst (λ s. IsSome (shown_by s)) (sym stage) (step_brings t.request t.stage answer clock sound (subst (λ (bytes : List ℕ). 1 ≤ length bytes) piece some));
}
