-- What one event of a PUT leaves of the room for the rest of its body.
use Rattle.std.proofs.Common.{◌≡◌, ℕ, suc, ◌+◌, ◌-◌, ◌*◌, ◌<◌, ◌≤◌, Bool, true, false, cond, List, length, Option, Some, None, refl, sym, ◌∙◌, ap, subst, arith}
use Rattle.std.specs.Prelude.{nat_le, nat_lt, min, ◌^◌}
use Rattle.std.specs.List.{range_with_len}
use Rattle.std.proofs.Math.Nat.{mul_comm, le-mul_of_pos_right}
use Rattle.std.proofs.lemmas.Bool.Decides.{nat_tests}
use Rattle.std.proofs.lemmas.List.Sums.{sum_by-cons}
use Rattle.object_words.specs.declared.entry.Guard.{Guard}
use Rattle.object_words.specs.declared.head.Conditions.{Conditions}
use Rattle.object_words.specs.declared.head.NewHead.{NewHead}
use Rattle.object_words.specs.declared.head.SeenSlot.TheVariants.{Live}
use Rattle.object_words.specs.declared.why.Why.{Why}
use Rattle.object_words.specs.declared.why.Why.TheVariants.{Expired, NotMet, NoSpace}
use Rattle.object_words.specs.Conditions.{fails}
use Rattle.object_words.specs.Heads.{Head, seen_stamp, etag_of, first_bytes as head_bytes, frames_for}
use Rattle.object_words.specs.HeadCalls.{space_refusal, write_refusal, stamp_next, change_of}
use Rattle.object_words.specs.Keys.{head_key, tail_key, put}
use Rattle.object_words.specs.Refusals.{first_refusal, unless_refused}
use Rattle.object_words.specs.Tails.{Tail}
use Rattle.object_words.proofs.KeyLemmas.{number_itself}
use Rattle.realm_model.specs.Settings.{SettingsView}
use Rattle.realm_model.specs.States.{State, number_next, free_after}
use Rattle.realm_model.specs.Steps.{reply_or, reply_of, after}
use Rattle.realm_model.specs.Accounts.{SpaceWanted, wanted_at, wanted_after}
use Rattle.realm_model.specs.declared.op.Op.{Op}
use Rattle.realm_model.specs.declared.op.Op.TheVariants.{HeadWrite, TailMake}
use Rattle.realm_model.specs.declared.event.Reply.{Reply}
use Rattle.realm_model.specs.declared.event.Reply.TheVariants.{Done, No, Changed}
use Rattle.task_words.specs.Cuts.{first_bytes, tail_bytes, tails_after, is_changed_after, IsCutAt}
use Rattle.room_law.specs.Frames.{frames_of_tails, frames_of_body}

-- ---- what is left of a body

module _ (frame stripe : ℕ) (bytes : List ℕ) where
  -- the frames that the rest of a body takes, behind so many tails and where the head is to be changed yet
  abbrev pub left_of : ℕ → Bool → ℕ
  left_of tails was = frames_of_tails frame stripe bytes (tails + 1) (length bytes - tails) + cond was 0 (frames_for frame (first_bytes stripe bytes))

  pub left_first : left_of 0 false ≡ frames_of_body frame stripe bytes
  left_first =
      let long : length bytes - 0 ≡ length bytes = omega arith in
      let whole : frames_of_tails frame stripe bytes (0 + 1) (length bytes - 0) ≡ frames_of_tails frame stripe bytes 1 (length bytes) = ap (λ k. frames_of_tails frame stripe bytes 1 k) long in
      omega (arith, whole)

  -- a part that begins inside the body is not behind its length
  part_within : (part : ℕ) → 0 < stripe → stripe * part < length bytes → part < length bytes
  part_within part some within =
      let least = le-mul_of_pos_right {m = stripe} part some in
      let turned = mul_comm part stripe in
      omega (arith, least, turned, within)

  tail_first : (tails : ℕ) → tails < length bytes
      → frames_of_tails frame stripe bytes (tails + 1) (length bytes - tails) ≡ frames_for frame (tail_bytes stripe bytes (tails + 1)) + frames_of_tails frame stripe bytes (tails + 1 + 1) (length bytes - (tails + 1))
  tail_first tails within =
      let one : length bytes - tails ≡ suc (length bytes - (tails + 1)) = omega (arith, within) in
      ap (λ k. frames_of_tails frame stripe bytes (tails + 1) k) one
      ∙ sum_by-cons (λ p. frames_for frame (tail_bytes stripe bytes p)) (tails + 1) (range_with_len (tails + 1 + 1) (length bytes - (tails + 1)))

  pub left_tail : (tails : ℕ) (was : Bool) → 0 < stripe → stripe * (tails + 1) < length bytes
      → left_of tails was ≡ frames_for frame (tail_bytes stripe bytes (tails + 1)) + left_of (tails + 1) was
  left_tail tails was some within =
      let low = part_within (tails + 1) some within in
      let first = tail_first tails (omega (arith, low)) in
      omega (arith, first)

-- ---- one event

-- the frames that are free
put_here : (f : ℕ → ℕ) (zone n : ℕ) → put f zone n zone ≡ n
put_here f zone n = ap (λ b. cond b n (f zone)) (number_itself zone)

-- the frames of new bytes are all that a change takes
taken : (frame free : ℕ) (old new : List ℕ) → free ≤ free_after frame free old new + frames_for frame new
taken frame free old new = omega arith

-- where so many frames were free before the event, and so many behind it: there is room for the rest of the body, the event
-- took what it made, and wanted none
pub record Kept (settings : SettingsView) (bytes : List ℕ) (tails : ℕ) (was : Bool) (op : Op) (reply : Reply) (free free' : ℕ) (wanted : Option SpaceWanted) (number : ℕ) : Type 0 where
  pub room : left_of settings.frame settings.stripe bytes (tails_after tails op reply) (is_changed_after was op reply) ≤ free'
  pub takes : free + left_of settings.frame settings.stripe bytes (tails_after tails op reply) (is_changed_after was op reply) ≤ free' + left_of settings.frame settings.stripe bytes tails was
  pub unwanted : wanted_after wanted op reply number ≡ wanted

some_is : {X : Type 0} {x y : X} → Some x ≡ Some y → x ≡ y
some_is same = cc

module _ (settings : SettingsView) (zone : ℕ) (bytes : List ℕ) (some : 0 < settings.stripe) (tails : ℕ) (was : Bool) (st : State) (wanted : Option SpaceWanted) (number : ℕ) where
  abbrev left : ℕ → Bool → ℕ
  left = left_of settings.frame settings.stripe bytes

  abbrev free : ℕ
  free = st.free zone

  abbrev KeptBy : Op → Reply → ℕ → Type 0
  KeptBy op reply free' = Kept settings bytes tails was op reply free free' wanted number

  -- ---- a tail

  module _ (write part : ℕ) (piece : List ℕ) (next : part ≡ tails + 1) (within : settings.stripe * part < length bytes) (piece_is : piece ≡ tail_bytes settings.stripe bytes part) (fits : left tails was ≤ free) where
    abbrev old : Tail
    old = st.tails zone (tail_key write part)

    needed_is : frames_for settings.frame piece ≡ frames_for settings.frame (tail_bytes settings.stripe bytes (tails + 1))
    needed_is = ap (frames_for settings.frame) (piece_is ∙ ap (tail_bytes settings.stripe bytes) next)

    splits : left tails was ≡ frames_for settings.frame piece + left (tails + 1) was
    splits =
        let one = left_tail settings.frame settings.stripe bytes tails was some (subst (λ p. settings.stripe * p < length bytes) next within) in
        omega (arith, one, needed_is)

    tail_kept : (reply : Reply) → reply ≡ reply_of settings st (TailMake zone write part piece) → KeptBy (TailMake zone write part piece) reply ((after settings st (TailMake zone write part piece)).free zone)
    tail_kept reply told =
        elim (nat_lt free (frames_for settings.frame piece)) as (λ b. nat_lt free (frames_for settings.frame piece) ≡ b
        → reply ≡ reply_or Done (cond b (Some (NoSpace free (min (frames_for settings.frame piece) (2 ^ 32 - 1)))) None)
        → KeptBy (TailMake zone write part piece) reply (put st.free zone (free_after settings.frame free old.bytes (unless_refused (cond b (Some (NoSpace free (min (frames_for settings.frame piece) (2 ^ 32 - 1)))) None) old (record { bytes = piece })).bytes) zone)) [
          | true ↦ λ less no. let few : free < frames_for settings.frame piece = grind (arith, nat_tests, less) in absurd (omega (arith, few, splits, fits))
          | false ↦ λ enough done.
              let here = put_here st.free zone (free_after settings.frame free old.bytes piece) in
              let took = taken settings.frame free old.bytes piece in
              subst (λ y. KeptBy (TailMake zone write part piece) y (put st.free zone (free_after settings.frame free old.bytes piece) zone)) (sym done)
              (record { room = omega (arith, here, took, splits, fits); takes = omega (arith, here, took, splits); unwanted = refl })
        ] refl told

  -- ---- the head

  module _ (container : ℕ) (name : List ℕ) (guard : Guard) (new : NewHead) (when : Conditions) (first : was ≡ false) (bytes_are : new.first ≡ first_bytes settings.stripe bytes) (fits : left tails was ≤ free) where
    abbrev head : Head
    head = st.heads zone (head_key container name)

    abbrev changed : Head
    changed = record { version = number_next st; slot = Live new (stamp_next head zone st.clock) }

    abbrev writes : Op
    writes = HeadWrite zone container name guard new when

    splits_head : left tails was ≡ left tails true + frames_for settings.frame new.first
    splits_head =
        let at_first = ap (left tails) first in
        let same = ap (frames_for settings.frame) bytes_are in
        omega (arith, at_first, same)

    unwanted_by : (why : Why) → write_refusal head guard new when st.clock free settings.frame ≡ Some why → wanted_at wanted (No why) number ≡ wanted
    unwanted_by why is =
        elim (nat_le guard.deadline st.clock) as (λ a. first_refusal (cond a (Some (Expired guard.deadline st.clock)) None)
        (first_refusal (cond (fails when (etag_of head.slot)) (Some (NotMet (seen_stamp head.slot))) None) (space_refusal free (frames_for settings.frame new.first))) ≡ Some why → wanted_at wanted (No why) number ≡ wanted) [
          | true ↦ λ late. subst (λ y. wanted_at wanted (No y) number ≡ wanted) (some_is late) refl
          | false ↦
              elim (fails when (etag_of head.slot)) as (λ a. first_refusal (cond a (Some (NotMet (seen_stamp head.slot))) None) (space_refusal free (frames_for settings.frame new.first)) ≡ Some why → wanted_at wanted (No why) number ≡ wanted) [
                | true ↦ λ unmet. subst (λ y. wanted_at wanted (No y) number ≡ wanted) (some_is unmet) refl
                | false ↦
                    elim (nat_lt free (frames_for settings.frame new.first)) as (λ a. nat_lt free (frames_for settings.frame new.first) ≡ a → cond a (Some (NoSpace free (min (frames_for settings.frame new.first) (2 ^ 32 - 1)))) None ≡ Some why → wanted_at wanted (No why) number ≡ wanted) [
                      | true ↦ λ less no. let few : free < frames_for settings.frame new.first = grind (arith, nat_tests, less) in absurd (omega (arith, few, splits_head, fits))
                      | false ↦ λ enough none. cc
                    ] refl
              ]
        ] is

    head_kept : (reply : Reply) → reply ≡ reply_of settings st writes → KeptBy writes reply ((after settings st writes).free zone)
    head_kept reply told =
        elim (write_refusal head guard new when st.clock free settings.frame) as (λ r. write_refusal head guard new when st.clock free settings.frame ≡ r
        → reply ≡ reply_or (Changed (change_of head (unless_refused r head changed))) r
        → KeptBy writes reply (put st.free zone (free_after settings.frame free (head_bytes head.slot) (head_bytes (unless_refused r head changed).slot)) zone)) [
          | None ↦ λ ok done.
              let here = put_here st.free zone (free_after settings.frame free (head_bytes head.slot) new.first) in
              let took = taken settings.frame free (head_bytes head.slot) new.first in
              subst (λ y. KeptBy writes y (put st.free zone (free_after settings.frame free (head_bytes head.slot) new.first) zone)) (sym done)
              (record { room = omega (arith, here, took, splits_head, fits); takes = omega (arith, here, took, splits_head); unwanted = refl })
          | Some why ↦ λ no refused.
              let here = put_here st.free zone (free_after settings.frame free (head_bytes head.slot) (head_bytes head.slot)) in
              subst (λ y. KeptBy writes y (put st.free zone (free_after settings.frame free (head_bytes head.slot) (head_bytes head.slot)) zone)) (sym refused)
              (record { room = omega (arith, here, fits); takes = omega (arith, here); unwanted = unwanted_by why no })
        ] refl told

  -- ---- any event

  pub step_kept : (op : Op) (reply : Reply) → reply ≡ reply_of settings st op → IsCutAt zone settings.stripe bytes tails was op → left tails was ≤ free → KeptBy op reply ((after settings st op).free zone)
  step_kept (TailMake z write part piece) reply told cut fits =
      subst (λ y. reply ≡ reply_of settings st (TailMake y write part piece) → KeptBy (TailMake y write part piece) reply ((after settings st (TailMake y write part piece)).free zone)) (sym cut.0)
      (tail_kept write part piece cut.1 cut.2 cut.3 fits reply) told
  step_kept (HeadWrite z container name guard new when) reply told cut fits =
      subst (λ y. reply ≡ reply_of settings st (HeadWrite y container name guard new when) → KeptBy (HeadWrite y container name guard new when) reply ((after settings st (HeadWrite y container name guard new when)).free zone)) (sym cut.0)
      (head_kept container name guard new when cut.1 cut.2 fits reply) told
  step_kept op reply told cut fits = record { room = fits; takes = omega arith; unwanted = refl }
