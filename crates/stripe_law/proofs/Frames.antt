-- Each event keeps the sum of frames, from any state that has it.
use Rattle.std.proofs.Common.{◌≡◌, ℕ, ◌≤◌, ◌==◌, true, false, cond, List, Some, None, refl, sym, subst, arith, nat_lt}
use Rattle.std.proofs.lemmas.Bool.Decides.{nat_tests}
use Rattle.rgw_types.specs.declared.pool_key.Key.{Key}
use Rattle.rgw_types.specs.declared.pool_key.Key.TheVariants.{Head, Tail}
use Rattle.object_words.specs.declared.entry.Guard.{Guard}
use Rattle.object_words.specs.declared.head.NewHead.{NewHead}
use Rattle.object_words.specs.declared.head.Conditions.{Conditions}
use Rattle.object_words.specs.declared.head.SeenSlot.TheVariants.{Live}
use Rattle.object_words.specs.Keys.{is_key, head_key, tail_key, put}
use Rattle.object_words.specs.Refusals.{first_refusal, unless_refused}
use Rattle.object_words.specs.Heads.{Head as HeadOf, first_bytes, frames_for}
use Rattle.object_words.specs.HeadCalls.{guard_refusal, condition_refusal, space_refusal, write_refusal, stamp_next}
use Rattle.object_words.specs.Tails.{Tail as TailOf, tail_refusal}
use Rattle.object_words.proofs.KeyLemmas.{key_itself, number_itself}
use Rattle.realm_model.specs.Settings.{SettingsView}
use Rattle.realm_model.specs.States.{State, number_next, put_in, free_after, at_head, at_tail, touched}
use Rattle.realm_model.specs.Steps.{touch_of}
use Rattle.realm_model.specs.Stripes.{framed_bytes, FrameSum, HasFrameSum}
use Rattle.realm_model.specs.declared.op.Op.{Op}
use Rattle.realm_model.specs.declared.op.Op.TheVariants.{HeadWrite, TailMake}
use Rattle.realm_model.proofs.FrameLemmas.{frame_same, frame_moves}
use Rattle.realm_model.proofs.ObjectLemmas.{number_same}
use Rattle.realm_model.proofs.TouchLemmas.{head_same, tail_same}
use Rattle.stripe_law.proofs.Puts.{put_in_apart}

abbrev Sums : SettingsView → State → Type 0
Sums settings st = (zone : ℕ) → HasFrameSum settings st zone

put_in_here : {A : Type 0} (f : ℕ → Key → A) (zone : ℕ) (key : Key) (x : A) → put_in f zone key x zone key ≡ x
put_in_here f zone key x = rw (number_itself zone, key_itself key) refl

-- in one zone the bytes of one object change
module _ (frame frames : ℕ) (bytes bytes' : ℕ → Key → List ℕ) (free : ℕ → ℕ) (zone : ℕ) (key : Key) (new : List ℕ) (here : bytes' zone key ≡ new) (apart : (z : ℕ) (k : Key) → (zone ≡ z → key ≡ k → ⊥) → bytes' z k ≡ bytes z k) (room : frames_for frame new ≤ free zone) where
  sums_move : ((z : ℕ) → FrameSum frame frames (bytes z) (free z)) → (z : ℕ) → FrameSum frame frames (bytes' z) (put free zone (free_after frame (free zone) (bytes zone key) new) z)
  sums_move s z =
      elim (zone == z) as (λ b. (zone == z) ≡ b → FrameSum frame frames (bytes' z) (cond b (free_after frame (free zone) (bytes zone key) new) (free z))) [
        | true ↦ λ is.
            subst (λ q. FrameSum frame frames (bytes' q) (free_after frame (free zone) (bytes zone key) new)) (number_same zone z is)
            (frame_moves frame frames (bytes zone) (bytes' zone) (free zone) key new here
            (λ k other. apart zone k (λ one same. let itself = subst (λ q. is_key key q ≡ true) same (key_itself key) in cc (itself, other))) room (s zone))
        | false ↦ λ other.
            frame_same frame frames (bytes z) (bytes' z) (free z)
            (λ k. apart z k (λ one same. let itself = subst (λ q. (zone == q) ≡ true) one (number_itself zone) in cc (itself, other))) (s z)
      ] refl

module _ (settings : SettingsView) (st : State) (sums : Sums settings st) (zone : ℕ) where
  abbrev frame : ℕ
  frame = settings.frame

  module _ (container : ℕ) (name : List ℕ) (head : HeadOf) (room : frames_for settings.frame (first_bytes head.slot) ≤ st.free zone) where
    abbrev heads' : ℕ → Key → HeadOf
    heads' = put_in st.heads zone (head_key container name) head

    head_apart : (z : ℕ) (k : Key) → (zone ≡ z → head_key container name ≡ k → ⊥) → framed_bytes heads' st.tails z k ≡ framed_bytes st.heads st.tails z k
    head_apart z (Head c n) other =
        put_in_apart (λ z k h. (zone ≡ z → head_key container name ≡ k → ⊥) → first_bytes h.slot ≡ first_bytes (st.heads z k).slot) st.heads zone (head_key container name) head
        (λ no. absurd (no refl refl)) (λ z k is no. refl) z (Head c n) other
    head_apart z (Tail w p) other = refl
    head_apart z k other = refl

    head_sums : Sums settings (touched settings st (at_head zone (head_key container name) head))
    head_sums =
        sums_move settings.frame settings.frames (framed_bytes st.heads st.tails) (framed_bytes heads' st.tails) st.free zone (head_key container name) (first_bytes head.slot)
        (subst (λ h. first_bytes h.slot ≡ first_bytes head.slot) (sym (put_in_here st.heads zone (head_key container name) head)) refl) head_apart room sums

  module _ (write part : ℕ) (tail : TailOf) (room : frames_for settings.frame tail.bytes ≤ st.free zone) where
    abbrev tails' : ℕ → Key → TailOf
    tails' = put_in st.tails zone (tail_key write part) tail

    tail_apart : (z : ℕ) (k : Key) → (zone ≡ z → tail_key write part ≡ k → ⊥) → framed_bytes st.heads tails' z k ≡ framed_bytes st.heads st.tails z k
    tail_apart z (Tail w p) other =
        put_in_apart (λ z k t. (zone ≡ z → tail_key write part ≡ k → ⊥) → t.bytes ≡ (st.tails z k).bytes) st.tails zone (tail_key write part) tail
        (λ no. absurd (no refl refl)) (λ z k is no. refl) z (Tail w p) other
    tail_apart z (Head c n) other = refl
    tail_apart z k other = refl

    tail_sums : Sums settings (touched settings st (at_tail zone (tail_key write part) tail))
    tail_sums =
        sums_move settings.frame settings.frames (framed_bytes st.heads st.tails) (framed_bytes st.heads tails') st.free zone (tail_key write part) tail.bytes
        (subst (λ t. t.bytes ≡ tail.bytes) (sym (put_in_here st.tails zone (tail_key write part) tail)) refl) tail_apart room sums

-- ---- what is not refused has room

has_room : (free needed : ℕ) → space_refusal free needed ≡ None → needed ≤ free
has_room free needed none =
    elim (nat_lt free needed) as (λ b. nat_lt free needed ≡ b → needed ≤ free) [
      | true ↦ λ few. cc (few, none)
      | false ↦ λ enough. grind (arith, nat_tests, enough)
    ] refl

head_room : (head : HeadOf) (guard : Guard) (new : NewHead) (when : Conditions) (clock free frame : ℕ) → write_refusal head guard new when clock free frame ≡ None → frames_for frame new.first ≤ free
head_room head guard new when clock free frame =
    elim (guard_refusal guard clock) as (λ r. first_refusal r (first_refusal (condition_refusal when head.slot) (space_refusal free (frames_for frame new.first))) ≡ None → frames_for frame new.first ≤ free) [
      | None ↦ elim (condition_refusal when head.slot) as (λ r. first_refusal r (space_refusal free (frames_for frame new.first)) ≡ None → frames_for frame new.first ≤ free) [
        | None ↦ has_room free (frames_for frame new.first)
        | Some why ↦ λ none. cc
      ]
      | Some why ↦ λ none. cc
    ]

-- ---- event by event

pub frames_next : (settings : SettingsView) (st : State) (op : Op) → ((zone : ℕ) → HasFrameSum settings st zone) → (zone : ℕ) → HasFrameSum settings (touched settings st (touch_of settings st op)) zone
frames_next settings st (HeadWrite zone container name guard new when) sums =
    let head = st.heads zone (head_key container name) in
    let stored : HeadOf = record { version = number_next st; slot = Live new (stamp_next head zone st.clock) } in
    elim (write_refusal head guard new when st.clock (st.free zone) settings.frame) as (λ r. write_refusal head guard new when st.clock (st.free zone) settings.frame ≡ r → Sums settings (touched settings st (at_head zone (head_key container name) (unless_refused r head stored)))) [
      | None ↦ λ may. head_sums settings st sums zone container name stored (head_room head guard new when st.clock (st.free zone) settings.frame may)
      | Some why ↦ λ refused. subst (Sums settings) (sym (head_same settings st zone (head_key container name) head refl)) sums
    ] refl
frames_next settings st (TailMake zone write part bytes) sums =
    let tail = st.tails zone (tail_key write part) in
    elim (tail_refusal bytes (st.free zone) settings.frame) as (λ r. tail_refusal bytes (st.free zone) settings.frame ≡ r → Sums settings (touched settings st (at_tail zone (tail_key write part) (unless_refused r tail (record { bytes = bytes }))))) [
      | None ↦ λ may. tail_sums settings st sums zone write part (record { bytes = bytes }) (has_room (st.free zone) (frames_for settings.frame bytes) may)
      | Some why ↦ λ refused. subst (Sums settings) (sym (tail_same settings st zone (tail_key write part) tail refl)) sums
    ] refl
frames_next settings st op sums = sums
