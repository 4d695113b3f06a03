-- The reply to a call, as the step has it.
use Rattle.std.proofs.Common.{◌≡◌, Option, Some, None, IfSome, Result, Err, sym, ap, ◌∙◌, subst}
use Rattle.std.specs.Prelude.{MatchResult}
use Rattle.omap_pages.specs.declared.error.OutOfMemory.{OutOfMemory as OutOf}
use Rattle.object_words.specs.declared.bucket.Bucket.{Bucket}
use Rattle.object_words.specs.declared.why.Why.{Why}
use Rattle.object_words.specs.declared.why.Why.TheVariants.{Absent}
use Rattle.object_words.specs.declared.why.ClassFault.{ClassFault}
use Rattle.object_words.specs.declared.why.ClassFault.TheVariants.{OutOfMemory, No as refused}
use Rattle.object_words.specs.Answers.{Answers}
use Rattle.object_words.specs.Shards.{Shard}
use Rattle.realm_model.specs.States.{State}
use Rattle.realm_model.specs.Steps.{on_shard, reply_or, row_reply}
use Rattle.realm_model.specs.declared.event.Reply.{Reply}
use Rattle.realm_model.specs.declared.event.Reply.TheVariants.{No, Row}
use Rattle.zone_core.specs.Calls.{fault_reply, refusal_at}

-- ---- a call on a shard

pub always : (found : Option Shard) (P : Shard → Type 0) → ((s : Shard) → P s) → IfSome found P
always None P all = tt
always (Some s) P all = all s

pub shard_done : (found : Option Shard) (refusal : Shard → Option Why) (value : Shard → Reply) (reply : Reply) → refusal_at found refusal ≡ None → IfSome found (λ s. reply ≡ value s)
    → reply ≡ on_shard found (λ s. reply_or (value s) (refusal s))
shard_done None refusal value reply none is = absurd cc
shard_done (Some s) refusal value reply none is = is ∙ ap (reply_or (value s)) (sym none)

pub shard_refused : (found : Option Shard) (refusal : Shard → Option Why) (value : Shard → Reply) (why : Why) → refusal_at found refusal ≡ Some why
    → No why ≡ on_shard found (λ s. reply_or (value s) (refusal s))
shard_refused None refusal value why told = cc
shard_refused (Some s) refusal value why told = ap (reply_or (value s)) (sym told)

-- ---- any call

pub done : (refusal : Option Why) (value : Reply) → refusal ≡ None → value ≡ reply_or value refusal
done refusal value none = ap (reply_or value) (sym none)

pub call_refused : (refusal : Option Why) (value : Reply) (why : Why) → refusal ≡ Some why → No why ≡ reply_or value refusal
call_refused refusal value why told = ap (reply_or value) (sym told)

pub row_found : (found : Option Bucket) (row : Bucket) → found ≡ Some row → Row row ≡ row_reply found
row_found found row is = ap row_reply (sym is)

pub row_absent : (found : Option Bucket) → found ≡ None → No Absent ≡ row_reply found
row_absent found is = ap row_reply (sym is)

-- a call that failed
pub faulted : {V : Type 0} (fault : ClassFault) (result : Result Reply OutOf) (refusal : Option Why) (reply : Reply) (IsValue : V → Type 0) (Is : State → Type 0) (before after : State)
    → result ≡ fault_reply fault → ((why : Why) → refusal ≡ Some why → No why ≡ reply) → Answers {V = V} (Err fault) refusal IsValue Is before after
    → MatchResult result (λ r. (r ≡ reply) × Is after) (λ _. Is before)
faulted (refused why) result refusal reply IsValue Is before after same told answers =
    subst (λ x. MatchResult x (λ r. (r ≡ reply) × Is after) (λ _. Is before)) (sym same) (told why answers.0, answers.1)
faulted OutOfMemory result refusal reply IsValue Is before after same told answers =
    subst (λ x. MatchResult x (λ r. (r ≡ reply) × Is after) (λ _. Is before)) (sym same) answers
