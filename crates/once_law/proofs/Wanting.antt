-- A PUT whose body has no bytes wants no room.
use Rattle.std.proofs.Common.{◌≡◌, ℕ, Bool, true, false, cond, List, [], length, take, Some, None, Option, ◌∙◌, ap, arith, nat_lt, nat_le, min, ◌^◌, ◌-◌}
use Rattle.std.proofs.Math.Nat.{zero-div, zero-mod}
use Rattle.std.proofs.Math.Seq.{take-nil}
use Rattle.std.proofs.lemmas.Bool.Decides.{nat_tests}
use Rattle.rgw_types.specs.declared.stamp.Stamp.{Stamp}
use Rattle.object_words.specs.declared.why.Why.TheVariants.{Expired, NotMet, NoSpace}
use Rattle.object_words.specs.Conditions.{fails}
use Rattle.object_words.specs.Heads.{Head, seen_stamp, etag_of, frames_for}
use Rattle.object_words.specs.HeadCalls.{guard_refusal, condition_refusal, space_refusal, written, change_of}
use Rattle.object_words.specs.Keys.{head_key}
use Rattle.object_words.specs.Refusals.{first_refusal}
use Rattle.object_words.specs.declared.head.Changed.{Changed}
use Rattle.realm_model.specs.Accounts.{SpaceWanted, wanted_at, wanted_after}
use Rattle.realm_model.specs.Settings.{SettingsView}
use Rattle.realm_model.specs.States.{State, number_next}
use Rattle.realm_model.specs.Steps.{reply_or, reply_of}
use Rattle.realm_model.specs.declared.op.Op.{Op}
use Rattle.realm_model.specs.declared.op.Op.TheVariants.{HeadWrite, TailMake}
use Rattle.realm_model.specs.declared.event.Reply.{Reply}
use Rattle.realm_model.specs.declared.event.Reply.TheVariants.{Changed as changed_reply}
use Rattle.task_words.specs.Cuts.{IsCutAt}

no_frames : (frame : ℕ) → frames_for frame [] ≡ 0
no_frames frame = let whole = zero-div frame in let rest = zero-mod frame in omega (arith, whole, rest)

-- there is always room for nothing
always_room : (free needed : ℕ) → needed ≡ 0 → space_refusal free needed ≡ None
always_room free needed none =
    let enough : nat_lt free needed ≡ false = grind (arith, nat_tests, none) in
    ap (λ b. cond b (Some (NoSpace free (min needed (2 ^ 32 - 1)))) None) enough

-- a refusal for want of room is none for time or for a condition
wants_none : (reply : Reply) (change : Changed) (number : ℕ) (a b : Bool) (deadline late : ℕ) (found : Option Stamp)
    → reply ≡ reply_or (changed_reply change) (first_refusal (cond a (Some (Expired deadline late)) None) (first_refusal (cond b (Some (NotMet found)) None) None)) → wanted_at None reply number ≡ None
wants_none reply change number true b deadline late found said = ap (λ r. wanted_at None r number) said
wants_none reply change number false true deadline late found said = ap (λ r. wanted_at None r number) said
wants_none reply change number false false deadline late found said = ap (λ r. wanted_at None r number) said

-- an event of a PUT whose body has no bytes wants no room
pub none_wanted : (settings : SettingsView) (zone : ℕ) (st : State) (tails : ℕ) (was : Bool) (body : List ℕ) (op : Op) (reply : Reply) (number : ℕ) (wanted : Option SpaceWanted) → body ≡ [] → IsCutAt zone settings.stripe body tails was op
    → reply ≡ reply_of settings st op → wanted ≡ None → wanted_after wanted op reply number ≡ None
none_wanted settings zone st tails was body (TailMake z write part piece) reply number wanted empty cut told none =
    let long = cut.2 in let size = ap length empty in absurd (omega (arith, long, size))
none_wanted settings zone st tails was body (HeadWrite z container name guard new when) reply number wanted empty cut told none =
    let head : Head = st.heads z (head_key container name) in
    let bytes : new.first ≡ [] = cut.2 ∙ ap (take settings.stripe) empty ∙ take-nil settings.stripe in
    let room = always_room (st.free z) (frames_for settings.frame new.first) (ap (frames_for settings.frame) bytes ∙ no_frames settings.frame) in
    let after = written head guard new when z (number_next st) st.clock (st.free z) settings.frame in
    let said = told ∙ ap (λ r. reply_or (changed_reply (change_of head after)) (first_refusal (guard_refusal guard st.clock) (first_refusal (condition_refusal when head.slot) r))) room in
    ap (λ o. wanted_at o reply number) none
    ∙ wants_none reply (change_of head after) number (nat_le guard.deadline st.clock) (fails when (etag_of head.slot)) guard.deadline st.clock (seen_stamp head.slot) said
none_wanted settings zone st tails was body op reply number wanted empty cut told none = none
