-- The reply by the head is that of the bucket map, and so are the bytes that it shows.
use Rattle.std.proofs.Common.{◌≡◌, ℕ, ◌+◌, ◌-◌, ◌<◌, ◌≤◌, ◌==◌, min, Bool, true, false, nat_lt, nat_le, cond, List, [], length, take, drop, Option, Some, None, refl, ap, subst, arith}
use Rattle.std.specs.Prelude.{IfSome, ◌^◌}
use Rattle.std.proofs.lemmas.Bool.Decides.{nat_tests}
use Rattle.rgw_types.specs.declared.stamp.Stamp.{Stamp}
use Rattle.rgw_model.specs.declared.slot.Content.{Content}
use Rattle.rgw_model.specs.declared.slot.Slot.TheVariants as Slots
use Rattle.object_words.specs.declared.head.NewHead.{NewHead}
use Rattle.object_words.specs.declared.head.SeenSlot.TheVariants.{Live}
use Rattle.task_words.specs.declared.command.GetCommand.{GetCommand}
use Rattle.task_words.specs.declared.span.Span.{Span}
use Rattle.task_words.specs.declared.span.Span.TheVariants.{Between, From, Last}
use Rattle.task_words.specs.declared.span.ByteRange.{ByteRange}
use Rattle.task_words.specs.declared.reply.MapReply.TheVariants.{Same, Refused}
use Rattle.task_words.specs.declared.reply.Refusal.TheVariants.{NotMet}
use Rattle.task_words.specs.Spans.{all_bytes, range_between, bytes_taken}
use Rattle.task_words.specs.Answers.{Answer, answered, is_unmet, is_had, span_of, shown_range, live_answer}
use Rattle.task_get.specs.Shown.{content_with}
use Rattle.task_get.specs.Replies.{reply_by, reply_to, range_in, some_range, range_wanted, range_of}

-- the bytes of a range
abbrev pub bytes_in : Option ByteRange → List ℕ → List ℕ
bytes_in None bytes = []
bytes_in (Some range) bytes = take range.count (drop range.start bytes)

abbrev pub answer_by : Bool → Bool → Option ByteRange → Bool → Content → Stamp → Answer
answer_by unmet had range wanted content stamp =
    cond unmet (answered (Refused NotMet) (Slots.Live content stamp))
    (cond had (answered (Same content.etag stamp) (Slots.Live content stamp)) (shown_range wanted content stamp range))

some_bytes : (range : ByteRange) (bytes : List ℕ) → take range.count (drop range.start bytes) ≡ bytes_in (some_range range) bytes
some_bytes range bytes =
    elim (range.count == 0) as (λ b. (range.count == 0) ≡ b → take range.count (drop range.start bytes) ≡ bytes_in (cond b None (Some range)) bytes) [
      | true ↦ λ none.
          let zero : range.count ≡ 0 = grind (arith, nat_tests) in
          ap (λ n. take n (drop range.start bytes)) zero
      | false ↦ λ some. refl
    ] refl

-- the reply, the bytes and the slot after it
pub record LiveIs (c : GetCommand) (new : NewHead) (stamp : Stamp) (bytes : List ℕ) (size : ℕ) : Type 0 where
  pub reply : reply_to c size new.kind new.meta new.etag stamp ≡ (live_answer c (content_with new bytes) stamp).reply
  pub shown : (live_answer c (content_with new bytes) stamp).shown ≡ bytes_in (range_wanted c.body (range_in (reply_to c size new.kind new.meta new.etag stamp))) bytes
  pub after : (live_answer c (content_with new bytes) stamp).after ≡ Slots.Live (content_with new bytes) stamp

record ByCases (unmet had : Bool) (range : Option ByteRange) (wanted : Bool) (new : NewHead) (stamp : Stamp) (bytes : List ℕ) : Type 0 where
  reply : reply_by unmet had range (length bytes) new.kind new.meta new.etag stamp ≡ (answer_by unmet had range wanted (content_with new bytes) stamp).reply
  shown : (answer_by unmet had range wanted (content_with new bytes) stamp).shown ≡ bytes_in (range_wanted wanted (range_in (reply_by unmet had range (length bytes) new.kind new.meta new.etag stamp))) bytes
  after : (answer_by unmet had range wanted (content_with new bytes) stamp).after ≡ Slots.Live (content_with new bytes) stamp

by_cases : (unmet had : Bool) (range : Option ByteRange) (wanted : Bool) (new : NewHead) (stamp : Stamp) (bytes : List ℕ) → ByCases unmet had range wanted new stamp bytes
by_cases true had range true new stamp bytes = record { reply = refl; shown = refl; after = refl }
by_cases true had range false new stamp bytes = record { reply = refl; shown = refl; after = refl }
by_cases false true range true new stamp bytes = record { reply = refl; shown = refl; after = refl }
by_cases false true range false new stamp bytes = record { reply = refl; shown = refl; after = refl }
by_cases false false None true new stamp bytes = record { reply = refl; shown = refl; after = refl }
by_cases false false None false new stamp bytes = record { reply = refl; shown = refl; after = refl }
by_cases false false (Some range) true new stamp bytes = record { reply = refl; shown = some_bytes range bytes; after = refl }
by_cases false false (Some range) false new stamp bytes = record { reply = refl; shown = refl; after = refl }

pub live_is : (c : GetCommand) (new : NewHead) (stamp : Stamp) (bytes : List ℕ) → length bytes ≡ new.manifest.size → LiveIs c new stamp bytes new.manifest.size
live_is c new stamp bytes size =
    let cases = by_cases (is_unmet c.when.matches c.when.unmodified new.etag stamp) (is_had c.when.none c.when.modified new.etag stamp) (bytes_taken (span_of c) (length bytes)) c.body new stamp bytes in
    let here : LiveIs c new stamp bytes (length bytes) = record { reply = cases.reply; shown = cases.shown; after = cases.after } in
    subst (LiveIs c new stamp bytes) size here

-- ---- the range lies in the object

abbrev pub Lies : ℕ → ByteRange → Type 0
Lies size range = range.start + range.count ≤ size

between_lies : (first last size : ℕ) → IfSome (range_between first last size) (Lies size)
between_lies first last size =
    elim (nat_le size first) as (λ b. nat_le size first ≡ b → IfSome (cond b None (Some (record { start = first; count = min (last + 1) size - first }))) (Lies size)) [
      | true ↦ λ behind. tt
      | false ↦ λ inside. let before : first < size = grind (arith, nat_tests) in omega (arith, before)
    ] refl

pub taken_lies : (span : Option Span) (size : ℕ) → IfSome (bytes_taken span size) (Lies size)
taken_lies None size = omega arith
taken_lies (Some (Between first last)) size =
    elim (nat_lt last first) as (λ b. IfSome (cond b (Some (all_bytes size)) (range_between first last size)) (Lies size)) [
      | true ↦ omega arith
      | false ↦ between_lies first last size
    ]
taken_lies (Some (From first)) size = between_lies first (2 ^ 64 - 1) size
taken_lies (Some (Last count)) size =
    elim (count == 0) as (λ b. IfSome (cond b None (Some (record { start = size - min count size; count = min count size }))) (Lies size)) [
      | true ↦ tt
      | false ↦ omega arith
    ]

-- the range has bytes, and lies in the object
pub record IsRange (size : ℕ) (range : ByteRange) : Type 0 where
  pub lies : range.start + range.count ≤ size
  pub some : 1 ≤ range.count

some_lies : (size : ℕ) (range : ByteRange) → Lies size range → IfSome (some_range range) (IsRange size)
some_lies size range lies =
    elim (range.count == 0) as (λ b. (range.count == 0) ≡ b → IfSome (cond b None (Some range)) (IsRange size)) [
      | true ↦ λ none. tt
      | false ↦ λ some. record { lies = lies; some = grind (arith, nat_tests) }
    ] refl

wanted_lies : (unmet had : Bool) (range : Option ByteRange) (wanted : Bool) (size : ℕ) (kind : List ℕ) (meta : List (List ℕ × List ℕ)) (etag : List ℕ) (stamp : Stamp) → IfSome range (Lies size)
    → IfSome (range_wanted wanted (range_in (reply_by unmet had range size kind meta etag stamp))) (IsRange size)
wanted_lies true had range true size kind meta etag stamp lies = tt
wanted_lies true had range false size kind meta etag stamp lies = tt
wanted_lies false true range true size kind meta etag stamp lies = tt
wanted_lies false true range false size kind meta etag stamp lies = tt
wanted_lies false false None true size kind meta etag stamp lies = tt
wanted_lies false false None false size kind meta etag stamp lies = tt
wanted_lies false false (Some range) true size kind meta etag stamp lies = some_lies size range lies
wanted_lies false false (Some range) false size kind meta etag stamp lies = tt

pub range_lies : (c : GetCommand) (new : NewHead) (stamp : Stamp) → IfSome (range_of c (Live new stamp)) (IsRange new.manifest.size)
range_lies c new stamp =
    let size = new.manifest.size in
    wanted_lies (is_unmet c.when.matches c.when.unmodified new.etag stamp) (is_had c.when.none c.when.modified new.etag stamp) (bytes_taken (span_of c) size) c.body size new.kind new.meta new.etag stamp (taken_lies (span_of c) size)
