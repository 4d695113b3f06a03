-- A change has a stamp that was never given, and other events give none.
use Rattle.std.proofs.Common.{◌≡◌, ◌⊎◌, inl, inr, ⊎_elim, ℕ, ◌+◌, ◌-◌, ◌==◌, ◌≤◌, ◌^◌, true, false, cond, List, [], ◌∷◌, Option, Some, None, refl, sym, subst, ap, ◌∙◌, arith}
use Rattle.std.specs.Prelude.{bytes_eq}
use Rattle.rgw_model.specs.declared.slot.Slot.{Slot}
use Rattle.rgw_types.specs.declared.stamp.Stamp.{Stamp}
use Rattle.rgw_types.specs.Stamps.{stamp_above}
use Rattle.object_words.specs.declared.entry.Guard.{Guard}
use Rattle.object_words.specs.declared.head.Conditions.{Conditions}
use Rattle.object_words.specs.declared.head.NewHead.{NewHead}
use Rattle.object_words.specs.declared.head.SeenSlot.TheVariants.{Live}
use Rattle.object_words.specs.Keys.{put, head_key}
use Rattle.object_words.specs.Heads.{Head, seen_stamp}
use Rattle.object_words.specs.HeadCalls.{write_refusal, stamp_next, change_of}
use Rattle.object_words.specs.Refusals.{unless_refused}
use Rattle.object_words.proofs.KeyLemmas.{number_itself}
use Rattle.realm_model.specs.Settings.{SettingsView, IsSettings}
use Rattle.realm_model.specs.Tests.{same_stamp}
use Rattle.realm_model.specs.Maps.{whole_slot}
use Rattle.realm_model.specs.States.{State, at_moment, put_in}
use Rattle.realm_model.specs.Steps.{reply_or, reply_of, after}
use Rattle.realm_model.specs.Worlds.{World, start, put_name, put_stamp, slots_after, happens}
use Rattle.realm_model.specs.Histories.{run, world_of, IsNext, LegalFrom, Legal}
use Rattle.realm_model.specs.declared.op.Op.{Op}
use Rattle.realm_model.specs.declared.op.Op.TheVariants.{HeadWrite}
use Rattle.realm_model.specs.declared.event.Event.{Event}
use Rattle.realm_model.specs.declared.event.Reply.{Reply}
use Rattle.realm_model.specs.declared.event.Reply.TheVariants.{Changed}
use Rattle.realm_model.proofs.ObjectLemmas.{number_same}
use Rattle.realm_model.proofs.TouchLemmas.{put_in_same}
use Rattle.std.proofs.lemmas.Slice.Eq.{bytes_eq-Decides}
use Rattle.index_law.specs.Tables.{Heads, heads_of}
use Rattle.index_law.specs.Stamps.{Slots, IsOwnStamp, IsReached, StampsGiven}
use Rattle.index_law.specs.Invariants.{IndexHolds}
use Rattle.index_law.proofs.Puts.{head_here, head_cases}
use Rattle.index_law.proofs.Tests.{stamp_is, same_text}
use Rattle.index_law.proofs.NumberLaws.{clock_early}
use Rattle.index_law.proofs.Keeping.{keeps, starts}

-- ---- one slot more

module _ (slots : Slots) (container : ℕ) (name : List ℕ) (stamp : Stamp) (new : Slot) where
  abbrev slots_now : Slots
  slots_now = put slots container (put_name (slots container) name (put_stamp (slots container name) stamp (Some new)))

  slot_here : slots_now container name stamp ≡ Some new
  slot_here = rw (number_itself container, (bytes_eq-Decides name name).1 refl) (rw (number_itself stamp.micros, number_itself stamp.zone) refl)

  -- a slot is the new one, at its place, or is as it was
  slot_cases : (c : ℕ) (n : List ℕ) (s : Stamp) → (slots_now c n s ≡ slots c n s) ⊎ ((container ≡ c) × (name ≡ n) × (stamp ≡ s))
  slot_cases c n s =
      elim (container == c) as (λ b. (container == c) ≡ b → (cond b (put_name (slots container) name (put_stamp (slots container name) stamp (Some new))) (slots c) n s ≡ slots c n s) ⊎ ((container ≡ c) × (name ≡ n) × (stamp ≡ s))) [
        | true ↦ λ at_c.
            let cs = number_same container c at_c in
            elim (bytes_eq n name) as (λ b. bytes_eq n name ≡ b → (cond b (put_stamp (slots container name) stamp (Some new)) (slots container n) s ≡ slots c n s) ⊎ ((container ≡ c) × (name ≡ n) × (stamp ≡ s))) [
              | true ↦ λ at_n.
                  let ns = sym (same_text n name at_n) in
                  elim (same_stamp s stamp) as (λ b. same_stamp s stamp ≡ b → (cond b (Some new) (slots container name s) ≡ slots c n s) ⊎ ((container ≡ c) × (name ≡ n) × (stamp ≡ s))) [
                    | true ↦ λ at_s. inr (cs, ns, sym (stamp_is s stamp at_s))
                    | false ↦ λ other. inl (λ i. slots (cs i) (ns i) s)
                  ] refl
              | false ↦ λ other. inl (ap (λ d. slots d n s) cs)
            ] refl
        | false ↦ λ other. inl refl
      ] refl

-- ---- a change

pub above_zone : (before : Option Stamp) (moment zone : ℕ) → (stamp_above before moment zone).zone ≡ zone
above_zone None moment zone = refl
above_zone (Some s) moment zone = refl

above_bound : (before : Option Stamp) (moment zone : ℕ) → moment ≤ 2 ^ 58 → (stamp_above before moment zone).micros ≤ 2 ^ 64 - 1
above_bound None moment zone early = omega (arith, early)
above_bound (Some s) moment zone early = omega (arith, early)

module _ (state : State) (slots : Slots) (given : StampsGiven (heads_of state.heads) slots) (last : ℕ → ℕ → List ℕ → Option ℕ) (zone container : ℕ) (name : List ℕ) (version now : ℕ) (new : NewHead) (made : Slot) (early : now ≤ 2 ^ 58) where
  abbrev old : Head
  old = state.heads zone (head_key container name)

  abbrev stamp : Stamp
  stamp = stamp_next old zone now

  abbrev head : Head
  head = record { version = version; slot = Live new stamp }

  abbrev heads_now : Heads
  heads_now = heads_of (put_in state.heads zone (head_key container name) head)

  abbrev now_slots : Slots
  now_slots = slots_now slots container name stamp made

  still_left : (c : ℕ) (n : List ℕ) (s : Stamp) (x : Slot) → slots c n s ≡ Some x → (y : Slot) × (now_slots c n s ≡ Some y)
  still_left c n s x is =
      ⊎_elim (λ same. (x, same ∙ is)) (λ at_place. (made, (λ i. now_slots (sym at_place.0 i) (sym at_place.1 i) (sym at_place.2 i)) ∙ slot_here slots container name stamp made)) (slot_cases slots container name stamp made c n s)

  own_now : (z c : ℕ) (n : List ℕ) (s : Stamp) → seen_stamp (heads_now z c n).slot ≡ Some s → IsOwnStamp now_slots z c n s
  own_now =
      head_cases (λ z c n h l. (s : Stamp) → seen_stamp h.slot ≡ Some s → IsOwnStamp now_slots z c n s) state.heads last zone container name head None
      (λ s is.
      let same : stamp ≡ s = cc in
      subst (λ x. IsOwnStamp now_slots zone container name x) same
      (record { zone_is = above_zone (seen_stamp old.slot) now zone; bound = above_bound (seen_stamp old.slot) now zone early; slot = made; left = slot_here slots container name stamp made }))
      (λ z c n elsewhere s is.
      let o = given.own z c n s is in
      let l = still_left c n s o.slot o.left in
      record { zone_is = o.zone_is; bound = o.bound; slot = l.0; left = l.1 })

  -- a stamp that the head had reached is reached by the new one
  above_reached : (before : Option Stamp) → seen_stamp old.slot ≡ before → (s : Stamp) → IsReached old s → s.micros ≤ (stamp_above before now zone).micros
  above_reached None none s r = let has = r.has in absurd cc
  above_reached (Some t) some s r =
      let same : Some t ≡ Some r.now = sym some ∙ r.has in
      let one : t ≡ r.now = cc in
      let micros = ap (λ (x : Stamp). x.micros) one in
      let bound = (given.own zone container name t some).bound in
      let below = r.not_below in
      omega (arith, micros, bound, below)

  reached_now : (c : ℕ) (n : List ℕ) (s : Stamp) (x : Slot) → now_slots c n s ≡ Some x → IsReached (heads_now s.zone c n) s
  reached_now c n s x is =
      ⊎_elim
      (λ same.
      let was = given.reached c n s x (sym same ∙ is) in
      head_cases (λ z d m h l. s.zone ≡ z → c ≡ d → n ≡ m → IsReached h s) state.heads last zone container name head None
      (λ a b e.
      let there : IsReached old s = subst (λ h. IsReached h s) (λ i. state.heads (a i) (head_key (b i) (e i))) was in
      record { now = stamp; has = refl; not_below = above_reached (seen_stamp old.slot) refl s there })
      (λ z d m elsewhere a b e. subst (λ h. IsReached h s) (λ i. state.heads (a i) (head_key (b i) (e i))) was) s.zone c n refl refl refl)
      (λ at_place.
      let at_zone : s.zone ≡ zone = ap (λ (y : Stamp). y.zone) (sym at_place.2) ∙ above_zone (seen_stamp old.slot) now zone in
      let micros = ap (λ (y : Stamp). y.micros) (sym at_place.2) in
      let at_head : heads_now s.zone c n ≡ head = (λ i. heads_now (at_zone i) (sym at_place.0 i) (sym at_place.1 i)) ∙ head_here state.heads zone container name head in
      subst (λ h. IsReached h s) (sym at_head) (record { now = stamp; has = refl; not_below = omega (arith, micros) }))
      (slot_cases slots container name stamp made c n s)

  given_now : StampsGiven heads_now now_slots
  given_now = record { own = own_now; reached = reached_now }

-- ---- each event

module _ (settings : SettingsView) (w : World) (j : IndexHolds w) (given : StampsGiven (heads_of w.state.heads) w.stamps.slots) (moment : ℕ) where
  abbrev st : State
  st = at_moment w.state moment

  abbrev Left : Op → Reply → Type 0
  Left op reply = StampsGiven (heads_of (after settings st op).heads) (slots_after w.stamps.slots w.stripes.made op reply)

  write_given : (zone container : ℕ) (name : List ℕ) (guard : Guard) (new : NewHead) (when : Conditions) → Left (HeadWrite zone container name guard new when) (reply_of settings st (HeadWrite zone container name guard new when))
  write_given zone container name guard new when =
      elim (write_refusal head guard new when st.clock (st.free zone) settings.frame) as (λ r. StampsGiven (heads_of (put_in w.state.heads zone (head_key container name) (unless_refused r head changed))) (slots_after w.stamps.slots w.stripes.made (HeadWrite zone container name guard new when) (reply_or (Changed (change_of head (unless_refused r head changed))) r))) [
        | None ↦ given_now w.state w.stamps.slots given w.index.last zone container name (w.state.count + 1) st.clock new (whole_slot w.stripes.made zone (Live new (stamp_next head zone st.clock))) (clock_early w j moment)
        | Some why ↦ subst (λ hs. StampsGiven (heads_of hs) w.stamps.slots) (sym (put_in_same w.state.heads zone (head_key container name))) given
      ] where
        head : Head
        head = w.state.heads zone (head_key container name)

        changed : Head
        changed = record { version = w.state.count + 1; slot = Live new (stamp_next head zone st.clock) }

  given_by : (op : Op) → Left op (reply_of settings st op)
  given_by (HeadWrite zone container name guard new when) = write_given zone container name guard new when
  given_by op = given

pub given_next : (settings : SettingsView) (w : World) (e : Event) → IndexHolds w → StampsGiven (heads_of w.state.heads) w.stamps.slots → IsNext settings w e → StampsGiven (heads_of (happens settings w e).state.heads) (happens settings w e).stamps.slots
given_next settings w e j given next = subst (λ r. Left settings w j given e.moment e.op r) (sym next.answer) (given_by settings w j given e.moment e.op)

given_from : (settings : SettingsView) → IsSettings settings → (w : World) (es : List Event) → LegalFrom settings w es → IndexHolds w → StampsGiven (heads_of w.state.heads) w.stamps.slots
    → StampsGiven (heads_of (run settings w es).state.heads) (run settings w es).stamps.slots
given_from settings good w [] legal j given = given
given_from settings good w (e ∷ es) legal j given =
    given_from settings good (happens settings w e) es legal.1 (keeps settings good w j e legal.0)
    (given_next settings w e j given legal.0)

pub stamps_given : (settings : SettingsView) (history : List Event) → IsSettings settings → Legal settings history → StampsGiven (heads_of (world_of settings history).state.heads) (world_of settings history).stamps.slots
stamps_given settings history good legal =
    given_from settings good (start settings) history legal (starts settings)
    (record { own = λ zone container name stamp is. absurd cc; reached = λ container name stamp slot is. absurd cc })
