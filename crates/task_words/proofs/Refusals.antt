-- What a row can refuse.
use Rattle.std.proofs.Common.{◌≡◌, Option, Some, None, subst}
use Rattle.object_words.specs.declared.bucket.Bucket.{Bucket}
use Rattle.swift_auth.specs.declared.policy.Rule.{Rule}
use Rattle.swift_auth.specs.declared.policy.Verdict.{Verdict}
use Rattle.swift_auth.specs.declared.policy.Verdict.TheVariants.{Granted, Unknown, Denied as denied_verdict}
use Rattle.task_words.specs.declared.reply.Refusal.{Refusal}
use Rattle.task_words.specs.declared.reply.Refusal.TheVariants.{Unauthorized, Denied, NoContainer}
use Rattle.task_words.specs.Rows.{refusal_by}

-- a row refuses by one of three
pub by_three : (P : Refusal → Type 0) (v : Verdict) (found : Option Bucket) (refusal : Refusal) → refusal_by v found ≡ Some refusal → P Unauthorized → ((rule : Rule) → P (Denied rule)) → P NoContainer → P refusal
by_three P Unknown found refusal is unknown denied none = let same : Unauthorized ≡ refusal = cc in subst P same unknown
by_three P Granted None refusal is unknown denied none = let same : NoContainer ≡ refusal = cc in subst P same none
by_three P (denied_verdict rule) None refusal is unknown denied none = let same : NoContainer ≡ refusal = cc in subst P same none
by_three P Granted (Some row) refusal is unknown denied none = cc
by_three P (denied_verdict rule) (Some row) refusal is unknown denied none = let same : Denied rule ≡ refusal = cc in subst P same (denied rule)

-- where no row is, something refuses
pub some_refusal : (v : Verdict) → refusal_by v None ≡ None → ⊥
some_refusal Unknown none = cc
some_refusal Granted none = cc
some_refusal (denied_verdict rule) none = cc
