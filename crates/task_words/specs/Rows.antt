-- What the row of a container refuses (OpenStack Object Storage API v1, container access control lists).
use Rattle.std.specs.Prelude.{Option, Some, None}
use Rattle.object_words.specs.declared.bucket.Bucket.{Bucket}
use Rattle.swift_auth.specs.declared.policy.Deed.{Deed}
use Rattle.swift_auth.specs.declared.policy.Verdict.{Verdict}
use Rattle.swift_auth.specs.declared.policy.Verdict.TheVariants.{Granted, Unknown, Denied}
use Rattle.swift_auth.specs.Policies.{found_under, verdict_of}
use Rattle.task_words.specs.declared.asker.Asker.{Asker}
use Rattle.task_words.specs.declared.reply.Refusal.{Refusal}
use Rattle.task_words.specs.declared.reply.Refusal.TheVariants as Refusals

-- it is not known who asks; then no such container is found; then a rule of the policy refuses
abbrev pub refusal_by : Verdict → Option Bucket → Option Refusal
refusal_by Unknown found = Some Refusals.Unauthorized
refusal_by Granted None = Some Refusals.NoContainer
refusal_by (Denied rule) None = Some Refusals.NoContainer
refusal_by Granted (Some row) = None
refusal_by (Denied rule) (Some row) = Some (Refusals.Denied rule)

-- why the row that was read refuses this to who asks, if it does
abbrev pub row_refusal : Asker → Option Bucket → Deed → Option Refusal
row_refusal asker row deed = refusal_by (verdict_of asker.user asker.account row deed) (found_under asker.account row)
