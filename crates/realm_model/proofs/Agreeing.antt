-- The bucket maps of a history are what its heads hold.
use Rattle.std.proofs.Common.{◌≡◌, ℕ, ◌==◌, true, false, cond, List, [], ◌∷◌, Some, None, refl, sym, ◌∙◌, subst}
use Rattle.std.specs.Prelude.{unwrap_or}
use Rattle.rgw_types.specs.declared.pool_key.Key.{Key}
use Rattle.object_words.specs.declared.head.SeenSlot.{SeenSlot}
use Rattle.object_words.specs.declared.head.SeenSlot.TheVariants.{Nothing, Live}
use Rattle.object_words.specs.Keys.{is_key, head_key, put, put_key}
use Rattle.object_words.specs.Names.{Named, at, with_name}
use Rattle.object_words.specs.Heads.{Head}
use Rattle.object_words.specs.HeadCalls.{write_refusal, stamp_next, change_of}
use Rattle.object_words.specs.Refusals.{unless_refused}
use Rattle.object_words.proofs.KeyLemmas.{same_key, key_itself, same_text, number_itself}
use Rattle.object_words.proofs.NameLemmas.{is_name_of, name_itself, at-none, at-with_name}
use Rattle.realm_model.specs.Settings.{SettingsView}
use Rattle.realm_model.specs.States.{State, number_next, at_moment, put_in, touched}
use Rattle.realm_model.specs.Steps.{reply_or, reply_of, touch_of}
use Rattle.realm_model.specs.Maps.{Maps, slot_at, with_slot, mapped, mapped_by, heads}
use Rattle.realm_model.specs.Worlds.{World, start, happens}
use Rattle.realm_model.specs.Histories.{run, state_of, LegalFrom, Legal}
use Rattle.realm_model.specs.declared.op.Op.{Op}
use Rattle.realm_model.specs.declared.op.Op.TheVariants.{HeadWrite}
use Rattle.realm_model.specs.declared.event.Reply.{Reply}
use Rattle.realm_model.specs.declared.event.Reply.TheVariants.{Changed}
use Rattle.realm_model.specs.declared.event.Event.{Event}
use Rattle.realm_model.proofs.ObjectLemmas.{number_same}
use Rattle.realm_model.proofs.TouchLemmas.{put_in_same}

-- each name has in the maps what its head holds
abbrev pub Agree : Maps → (ℕ → Key → Head) → Type 0
Agree maps objects = (zone container : ℕ) (name : List ℕ) → slot_at (maps zone container) name ≡ (objects zone (head_key container name)).slot

container_is : (c d : ℕ) (n m : List ℕ) → head_key c n ≡ head_key d m → c ≡ d
container_is c d n m same = cc

name_is : (c d : ℕ) (n m : List ℕ) → head_key c n ≡ head_key d m → n ≡ m
name_is c d n m same = cc

-- one head changes, and the map at its name
module _ (maps : ℕ → Named SeenSlot) (objects : Key → Head) (container : ℕ) (name : List ℕ) (head : Head) (agree : (c : ℕ) (n : List ℕ) → slot_at (maps c) n ≡ (objects (head_key c n)).slot) where
  map : Named SeenSlot
  map = with_name (maps container) name head.slot

  slot-map : (n : List ℕ) → slot_at map n ≡ cond (is_name_of n name) head.slot (slot_at (maps container) n)
  unfolding map
  slot-map n =
      rw (at-with_name (maps container) name head.slot n) (
      elim (is_name_of n name) as (λ b. unwrap_or (cond b (Some head.slot) (at (maps container) n)) Nothing ≡ cond b head.slot (slot_at (maps container) n)) [
        | true ↦ refl
        | false ↦ refl
      ])

  here : slot_at (put maps container map container) name ≡ head.slot
  here = rw (number_itself container) (slot-map name ∙ rw (name_itself name) refl)

  same_container : (c : ℕ) (n : List ℕ) → container ≡ c → is_key (head_key container name) (head_key c n) ≡ false → slot_at map n ≡ (objects (head_key c n)).slot
  same_container c n is apart =
      slot-map n ∙ (
      elim (is_name_of n name) as (λ b. is_name_of n name ≡ b → cond b head.slot (slot_at (maps container) n) ≡ (objects (head_key c n)).slot) [
        | true ↦ λ same.
            let key : head_key container name ≡ head_key c n = λ i. head_key (is i) (sym (same_text n name same) i) in
            let itself = subst (λ k. is_key (head_key container name) k ≡ true) key (key_itself (head_key container name)) in
            cc (itself, apart)
        | false ↦ λ other. subst (λ d. slot_at (maps container) n ≡ (objects (head_key d n)).slot) is (agree container n)
      ] refl)

  changed_at : (c : ℕ) (n : List ℕ) → slot_at (put maps container map c) n ≡ (put_key objects (head_key container name) head (head_key c n)).slot
  changed_at c n =
      elim (is_key (head_key container name) (head_key c n)) as (λ b. is_key (head_key container name) (head_key c n) ≡ b → slot_at (put maps container map c) n ≡ (cond b head (objects (head_key c n))).slot) [
        | true ↦ λ same.
            let key = same_key (head_key container name) (head_key c n) same in
            let at_name = subst (λ m. slot_at (put maps container map container) m ≡ head.slot) (name_is container c name n key) here in
            subst (λ d. slot_at (put maps container map d) n ≡ head.slot) (container_is container c name n key) at_name
        | false ↦ λ apart.
            elim (container == c) as (λ b. (container == c) ≡ b → slot_at (cond b map (maps c)) n ≡ (objects (head_key c n)).slot) [
              | true ↦ λ same. same_container c n (number_same container c same) apart
              | false ↦ λ other. agree c n
            ] refl
      ] refl

-- a head that is written, where its answer is the step's
written_agrees : (settings : SettingsView) (st : State) (maps : Maps) (zone container : ℕ) (name : List ℕ) (head : Head) → Agree maps st.heads → Agree (with_slot maps zone container name head.slot) (put_in st.heads zone (head_key container name) head)
unfolding map
written_agrees settings st maps zone container name head agree z c n =
    elim (zone == z) as (λ b. slot_at (cond b (put (maps zone) container (with_name (maps zone container) name head.slot)) (maps z) c) n ≡ (cond b (put_key (st.heads zone) (head_key container name) head) (st.heads z) (head_key c n)).slot) [
      | true ↦ changed_at (maps zone) (st.heads zone) container name head (agree zone) c n
      | false ↦ agree z c n
    ]

agrees_next : (settings : SettingsView) (st : State) (maps : Maps) (op : Op) (reply : Reply) → reply ≡ reply_of settings st op → Agree maps st.heads → Agree (mapped maps op reply) (touched settings st (touch_of settings st op)).heads
agrees_next settings st maps (HeadWrite zone container name guard new when) reply is agree =
    let key = head_key container name in
    let head = st.heads zone key in
    let after : Head = record { version = number_next st; slot = Live new (stamp_next head zone st.clock) } in
    let op = HeadWrite zone container name guard new when in
    elim (write_refusal head guard new when st.clock (st.free zone) settings.frame) as (λ r. reply ≡ reply_or (Changed (change_of head (unless_refused r head after))) r → Agree (mapped maps op reply) (put_in st.heads zone key (unless_refused r head after))) [
      | None ↦ λ told.
          subst (λ said. Agree (mapped maps op said) (put_in st.heads zone key after)) (sym told)
          (written_agrees settings st maps zone container name after agree)
      | Some why ↦ λ told.
          subst (λ said. Agree (mapped maps op said) (put_in st.heads zone key head)) (sym told)
          (subst (λ objects. Agree maps objects) (sym (put_in_same st.heads zone key)) agree)
    ] is
agrees_next settings st maps op reply is agree = agree

agrees_from : (settings : SettingsView) (w : World) (es : List Event) → LegalFrom settings w es → Agree w.maps w.state.heads → Agree (run settings w es).maps (run settings w es).state.heads
agrees_from settings w [] legal agree = agree
agrees_from settings w (e ∷ es) legal agree =
    agrees_from settings (happens settings w e) es legal.1
    (agrees_next settings (at_moment w.state e.moment) w.maps e.op e.reply legal.0.answer agree)

pub maps-run : (settings : SettingsView) (w : World) (es : List Event) → (run settings w es).maps ≡ mapped_by w.maps es
maps-run settings w [] = refl
maps-run settings w (e ∷ es) = maps-run settings (happens settings w e) es

pub heads_agree : (settings : SettingsView) (history : List Event) → Legal settings history → Agree (heads history) (state_of settings history).heads
heads_agree settings history legal =
    let agree = agrees_from settings (start settings) history legal (λ zone container name. rw at-none refl) in
    subst (λ maps. Agree maps (state_of settings history).heads) (maps-run settings (start settings) history) agree
