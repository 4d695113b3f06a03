-- In each zone the frames are free or taken, after every history.
use Rattle.std.proofs.Common.{◌≡◌, ℕ, ◌≤◌, ◌==◌, true, false, cond, List, [], ◌∷◌, Some, None, refl, sym, ◌∙◌, ap, subst, arith, nat_lt}
use Rattle.std.specs.List.{list_any, IsDistinct}
use Rattle.std.proofs.lemmas.Bool.Decides.{nat_tests}
use Rattle.rgw_types.specs.declared.pool_key.Key.{Key}
use Rattle.rgw_types.specs.declared.pool_key.Key.TheVariants.{Head, Tail}
use Rattle.object_words.specs.Keys.{is_key, head_key, tail_key, put}
use Rattle.object_words.specs.Refusals.{first_refusal, unless_refused}
use Rattle.object_words.specs.Heads.{Head as HeadOf, first_bytes, frames_for}
use Rattle.object_words.specs.declared.entry.Guard.{Guard}
use Rattle.object_words.specs.declared.head.NewHead.{NewHead}
use Rattle.object_words.specs.declared.head.Conditions.{Conditions}
use Rattle.object_words.specs.declared.head.SeenSlot.TheVariants.{Live}
use Rattle.object_words.specs.HeadCalls.{guard_refusal, condition_refusal, space_refusal, write_refusal, stamp_next}
use Rattle.object_words.specs.Tails.{Tail as TailOf, tail_refusal}
use Rattle.object_words.proofs.KeyLemmas.{key_itself, number_itself}
use Rattle.realm_model.proofs.ObjectLemmas.{number_same}
use Rattle.realm_model.proofs.TouchLemmas.{head_same, tail_same}
use Rattle.realm_model.specs.Settings.{SettingsView}
use Rattle.realm_model.specs.States.{State, opening, number_next, at_moment, put_in, free_after, at_head, at_tail, touched}
use Rattle.realm_model.specs.Steps.{touch_of}
use Rattle.realm_model.specs.Worlds.{World, start, happens}
use Rattle.realm_model.specs.Histories.{run, state_of}
use Rattle.realm_model.specs.Stripes.{framed_bytes, FrameSum, HasFrameSum}
use Rattle.realm_model.specs.declared.op.Op.{Op}
use Rattle.realm_model.specs.declared.op.Op.TheVariants.{HeadWrite, TailMake}
use Rattle.realm_model.specs.declared.event.Event.{Event}
use Rattle.realm_model.proofs.FrameLemmas.{frame_same, frame_moves}

-- ---- a touch of a head or a tail

has_room : (free needed : ℕ) → space_refusal free needed ≡ None → needed ≤ free
has_room free needed none =
    elim (nat_lt free needed) as (λ b. nat_lt free needed ≡ b → needed ≤ free) [
      | true ↦ λ few. cc (few, none)
      | false ↦ λ enough. grind (arith, nat_tests, enough)
    ] refl

module _ (heads : ℕ → Key → HeadOf) (tails : ℕ → Key → TailOf) (zone : ℕ) where
  module _ (container : ℕ) (name : List ℕ) (head : HeadOf) where
    key : Key
    key = head_key container name

    head_bytes : (k : Key) → framed_bytes (put_in heads zone key head) tails zone k ≡ cond (is_key key k) (first_bytes head.slot) (framed_bytes heads tails zone k)
    unfolding key
    head_bytes (Head c n) =
        rw (number_itself zone) (elim (is_key (head_key container name) (Head c n)) as (λ b. first_bytes (cond b head (heads zone (Head c n))).slot ≡ cond b (first_bytes head.slot) (first_bytes (heads zone (Head c n)).slot)) [
          | true ↦ refl
          | false ↦ refl
        ])
    head_bytes (Tail w p) = refl
    head_bytes k = refl

    heads_apart : (z : ℕ) → (zone == z) ≡ false → (k : Key) → framed_bytes (put_in heads zone key head) tails z k ≡ framed_bytes heads tails z k
    heads_apart z other (Head c n) = rw other refl
    heads_apart z other (Tail w p) = refl
    heads_apart z other k = refl

  module _ (write part : ℕ) (tail : TailOf) where
    tail_bytes : (k : Key) → framed_bytes heads (put_in tails zone (tail_key write part) tail) zone k ≡ cond (is_key (tail_key write part) k) tail.bytes (framed_bytes heads tails zone k)
    tail_bytes (Tail w p) =
        rw (number_itself zone, framed_bytes) (elim (is_key (tail_key write part) (Tail w p)) as (λ b. (cond b tail (tails zone (Tail w p))).bytes ≡ cond b tail.bytes (tails zone (Tail w p)).bytes) [
          | true ↦ refl
          | false ↦ refl
        ])
    tail_bytes (Head c n) = refl
    tail_bytes k = refl

    tails_apart : (z : ℕ) → (zone == z) ≡ false → (k : Key) → framed_bytes heads (put_in tails zone (tail_key write part) tail) z k ≡ framed_bytes heads tails z k
    tails_apart z other (Tail w p) = rw (other, framed_bytes) refl
    tails_apart z other (Head c n) = refl
    tails_apart z other k = refl

-- in one zone an object's bytes change
module _ (frame frames : ℕ) (bytes bytes' : ℕ → Key → List ℕ) (free : ℕ → ℕ) (zone : ℕ) (key : Key) (new : List ℕ) (apart : (z : ℕ) → (zone == z) ≡ false → (k : Key) → bytes' z k ≡ bytes z k) (moved : (k : Key) → bytes' zone k ≡ cond (is_key key k) new (bytes zone k)) (room : frames_for frame new ≤ free zone) where
  zone_moves : ((z : ℕ) → FrameSum frame frames (bytes z) (free z)) → (z : ℕ) → FrameSum frame frames (bytes' z) (put free zone (free_after frame (free zone) (bytes zone key) new) z)
  zone_moves s z =
      elim (zone == z) as (λ b. (zone == z) ≡ b → FrameSum frame frames (bytes' z) (cond b (free_after frame (free zone) (bytes zone key) new) (free z))) [
        | true ↦ λ is.
            let here : bytes' zone key ≡ new = moved key ∙ ap (λ b. cond b new (bytes zone key)) (key_itself key) in
            let same : (k : Key) → is_key key k ≡ false → bytes' zone k ≡ bytes zone k = λ k other. moved k ∙ ap (λ b. cond b new (bytes zone k)) other in
            let now = frame_moves frame frames (bytes zone) (bytes' zone) (free zone) key new here same room (s zone) in
            subst (λ z. FrameSum frame frames (bytes' z) (free_after frame (free zone) (bytes zone key) new)) (number_same zone z is) now
        | false ↦ λ other. frame_same frame frames (bytes z) (bytes' z) (free z) (apart z other) (s z)
      ] refl

-- ---- after every history

no_frames_taken : (settings : SettingsView) (zone : ℕ) → HasFrameSum settings (opening settings) zone
unfolding IsDistinct
no_frames_taken settings zone = record { keys = []; apart = tt; others = none; sum = omega arith }
  where
    none : (key : Key) → list_any (is_key key) [] ≡ false → framed_bytes (opening settings).heads (opening settings).tails zone key ≡ []
    none (Head c n) h = refl
    none (Tail w p) h = refl
    none k h = refl

room_for_head : (head : HeadOf) (guard : Guard) (new : NewHead) (when : Conditions) (clock free frame : ℕ) → write_refusal head guard new when clock free frame ≡ None → frames_for frame new.first ≤ free
room_for_head head guard new when clock free frame =
    elim (guard_refusal guard clock) as (λ r. first_refusal r (first_refusal (condition_refusal when head.slot) (space_refusal free (frames_for frame new.first))) ≡ None → frames_for frame new.first ≤ free) [
      | None ↦ elim (condition_refusal when head.slot) as (λ r. first_refusal r (space_refusal free (frames_for frame new.first)) ≡ None → frames_for frame new.first ≤ free) [
        | None ↦ has_room free (frames_for frame new.first)
        | Some why ↦ λ none. cc
      ]
      | Some why ↦ λ none. cc
    ]

HasSums : SettingsView → State → Type 0
HasSums settings st = (zone : ℕ) → HasFrameSum settings st zone

head_sums : (settings : SettingsView) (st : State) (zone container : ℕ) (name : List ℕ) (head : HeadOf) → frames_for settings.frame (first_bytes head.slot) ≤ st.free zone → HasSums settings st → HasSums settings (touched settings st (at_head zone (head_key container name) head))
unfolding HasSums key
head_sums settings st zone container name head room sums =
    let bytes = framed_bytes st.heads st.tails in
    let bytes' = framed_bytes (put_in st.heads zone (head_key container name) head) st.tails in
    zone_moves settings.frame settings.frames bytes bytes' st.free zone (head_key container name) (first_bytes head.slot)
    (heads_apart st.heads st.tails zone container name head) (head_bytes st.heads st.tails zone container name head) room sums

tail_sums : (settings : SettingsView) (st : State) (zone write part : ℕ) (tail : TailOf) → frames_for settings.frame tail.bytes ≤ st.free zone → HasSums settings st → HasSums settings (touched settings st (at_tail zone (tail_key write part) tail))
unfolding HasSums
tail_sums settings st zone write part tail room sums =
    let bytes = framed_bytes st.heads st.tails in
    let bytes' = framed_bytes st.heads (put_in st.tails zone (tail_key write part) tail) in
    zone_moves settings.frame settings.frames bytes bytes' st.free zone (tail_key write part) tail.bytes
    (tails_apart st.heads st.tails zone write part tail) (tail_bytes st.heads st.tails zone write part tail) room sums

sums_next : (settings : SettingsView) (st : State) (op : Op) → HasSums settings st → HasSums settings (touched settings st (touch_of settings st op))
unfolding HasSums
sums_next settings st (HeadWrite zone container name guard new when) sums =
    let head = st.heads zone (head_key container name) in
    let stored : HeadOf = record { version = number_next st; slot = Live new (stamp_next head zone st.clock) } in
    elim (write_refusal head guard new when st.clock (st.free zone) settings.frame) as (λ r. write_refusal head guard new when st.clock (st.free zone) settings.frame ≡ r → HasSums settings (touched settings st (at_head zone (head_key container name) (unless_refused r head stored)))) [
      | None ↦ λ may. head_sums settings st zone container name stored (room_for_head head guard new when st.clock (st.free zone) settings.frame may) sums
      | Some why ↦ λ refused. subst (HasSums settings) (sym (head_same settings st zone (head_key container name) head refl)) sums
    ] refl
sums_next settings st (TailMake zone write part bytes) sums =
    let tail = st.tails zone (tail_key write part) in
    elim (tail_refusal bytes (st.free zone) settings.frame) as (λ r. tail_refusal bytes (st.free zone) settings.frame ≡ r → HasSums settings (touched settings st (at_tail zone (tail_key write part) (unless_refused r tail (record { bytes = bytes }))))) [
      | None ↦ λ may. tail_sums settings st zone write part (record { bytes = bytes }) (has_room (st.free zone) (frames_for settings.frame bytes) may) sums
      | Some why ↦ λ refused. subst (HasSums settings) (sym (tail_same settings st zone (tail_key write part) tail refl)) sums
    ] refl
sums_next settings st op sums = sums

sums_from : (settings : SettingsView) (w : World) (es : List Event) → HasSums settings w.state → HasSums settings (run settings w es).state
unfolding HasSums
sums_from settings w [] sums = sums
sums_from settings w (e ∷ es) sums =
    sums_from settings (happens settings w e) es (sums_next settings (at_moment w.state e.moment) e.op sums)

pub frames_add_up : (settings : SettingsView) (history : List Event) (zone : ℕ) → HasFrameSum settings (state_of settings history) zone
unfolding HasSums
frames_add_up settings history = sums_from settings (start settings) history (no_frames_taken settings)
