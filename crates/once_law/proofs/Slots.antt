-- What an event leaves of the slots.
use Rattle.std.proofs.Common.{◌≡◌, ℕ, ◌==◌, true, false, cond, List, [], ◌∷◌, ◌++◌, Some, refl, sym, ◌∙◌, ap, subst}
use Rattle.std.specs.Prelude.{unwrap_or, bytes_eq}
use Rattle.std.proofs.lemmas.Slice.Eq.{bytes_eq-Decides}
use Rattle.std.proofs.lemmas.Map.Text.{is_eq-slice_cmp}
use Rattle.rgw_model.specs.declared.slot.Slot.{Slot}
use Rattle.rgw_model.specs.declared.slot.Slot.TheVariants as Slots
use Rattle.object_words.specs.declared.head.Changed.{Changed}
use Rattle.object_words.specs.declared.head.Conditions.{Conditions}
use Rattle.object_words.specs.declared.head.NewHead.{NewHead}
use Rattle.object_words.specs.declared.head.SeenSlot.{SeenSlot}
use Rattle.object_words.specs.declared.head.SeenSlot.TheVariants.{Nothing, Live, Mark}
use Rattle.object_words.specs.declared.entry.Guard.{Guard}
use Rattle.object_words.specs.Keys.{put}
use Rattle.object_words.specs.Names.{at, with_name}
use Rattle.object_words.proofs.KeyLemmas.{put_same}
use Rattle.object_words.proofs.NameLemmas.{at-with_name}
use Rattle.realm_model.specs.Settings.{SettingsView}
use Rattle.realm_model.specs.Maps.{Maps, Made, no_maps, mapped, mapped_by, heads, slot_at, whole_bytes, whole_slot}
use Rattle.realm_model.specs.Maps as maps
use Rattle.realm_model.specs.Accounts.{slot_now}
use Rattle.realm_model.specs.Worlds.{start, put_name, made_after}
use Rattle.realm_model.specs.Histories.{world_of, Legal}
use Rattle.realm_model.specs.declared.op.Op.TheVariants.{HeadWrite}
use Rattle.realm_model.specs.declared.event.Reply.TheVariants.{Changed as changed_reply}
use Rattle.realm_model.specs.declared.event.Event.{Event}
use Rattle.realm_model.proofs.Agreeing.{heads_agree}
use Rattle.realm_model.proofs.ObjectLemmas.{number_same}
use Rattle.realm_model.proofs.Runs.{run-append, legal_front}
use Rattle.stripe_law.proofs.Staying.{bytes_stay}
use Rattle.once_law.specs.Maps.{Slots, slots_in, with_slot}

-- ---- one name

put_name_same : {A : Type 0} (f : List ℕ → A) (name : List ℕ) → put_name f name (f name) ≡ f
put_name_same f name = λ i n. at_name n i where
  at_name : (n : List ℕ) → put_name f name (f name) n ≡ f n
  at_name n = elim (bytes_eq n name) as (λ b. bytes_eq n name ≡ b → cond b (f name) (f n) ≡ f n) [
    | true ↦ λ same. ap f (sym ((bytes_eq-Decides n name).0 same))
    | false ↦ λ other. refl
  ] refl

-- the slot that is there is no other
pub with_slot_same : (slots : Slots) (container : ℕ) (name : List ℕ) → with_slot slots container name (slots container name) ≡ slots
with_slot_same slots container name =
    ap (λ f. put slots container f) (put_name_same (slots container) name) ∙ put_same slots container

-- ---- all zones

abbrev pub all_slots : SettingsView → List Event → ℕ → Slots
all_slots settings history zone = slots_in settings history zone

-- a slot is changed in one zone
abbrev pub with_zone_slot : (ℕ → Slots) → ℕ → ℕ → List ℕ → Slot → ℕ → Slots
with_zone_slot all zone container name slot = put all zone (with_slot (all zone) container name slot)

module _ (bucket_maps : Maps) (made : Made) (zone container : ℕ) (name : List ℕ) (slot : SeenSlot) where
  whole : ℕ → Slots
  whole z c n = slot_now bucket_maps made z c n

  named : (n : List ℕ) → whole_slot made zone (slot_at (with_name (bucket_maps zone container) name slot) n) ≡ put_name (whole zone container) name (whole_slot made zone slot) n
  unfolding whole
  named n =
      rw (at-with_name (bucket_maps zone container) name slot n) (
      rw (is_eq-slice_cmp n name) (
      elim (bytes_eq n name) as (λ b. whole_slot made zone (unwrap_or (cond b (Some slot) (at (bucket_maps zone container) n)) Nothing) ≡ cond b (whole_slot made zone slot) (whole zone container n)) [
        | true ↦ refl
        | false ↦ refl
      ]))

  contained : (c : ℕ) (n : List ℕ) → whole_slot made zone (slot_at (put (bucket_maps zone) container (with_name (bucket_maps zone container) name slot) c) n) ≡ with_slot (whole zone) container name (whole_slot made zone slot) c n
  unfolding whole
  contained c n =
      elim (container == c) as (λ b. whole_slot made zone (slot_at (cond b (with_name (bucket_maps zone container) name slot) (bucket_maps zone c)) n) ≡ cond b (put_name (whole zone container) name (whole_slot made zone slot)) (whole zone c) n) [
        | true ↦ named n
        | false ↦ refl
      ]

  pub written_at : (z c : ℕ) (n : List ℕ) → slot_now (maps.with_slot bucket_maps zone container name slot) made z c n ≡ with_zone_slot (λ z c n. slot_now bucket_maps made z c n) zone container name (whole_slot made zone slot) z c n
  unfolding whole
  written_at z c n =
      elim (zone == z) as (λ b. (zone == z) ≡ b → whole_slot made z (slot_at (cond b (put (bucket_maps zone) container (with_name (bucket_maps zone container) name slot)) (bucket_maps z) c) n) ≡ cond b (with_slot (whole zone) container name (whole_slot made zone slot)) (whole z) c n) [
        | true ↦ λ same. subst (λ q. whole_slot made q (slot_at (put (bucket_maps zone) container (with_name (bucket_maps zone container) name slot) c) n) ≡ with_slot (whole zone) container name (whole_slot made zone slot) c n) (number_same zone z same) (contained c n)
        | false ↦ λ other. refl
      ] refl

-- ---- an event more

mapped_by-append : (m : Maps) (xs ys : List Event) → mapped_by m (xs ++ ys) ≡ mapped_by (mapped_by m xs) ys
mapped_by-append m [] ys = refl
mapped_by-append m (x ∷ xs) ys = mapped_by-append (mapped m x.op x.reply) xs ys

module _ (settings : SettingsView) (history : List Event) (e : Event) (legal : Legal settings (history ++ e ∷ [])) where
  made : Made
  made = (world_of settings history).stripes.made

  made' : Made
  made' = (world_of settings (history ++ e ∷ [])).stripes.made

  heads-next : heads (history ++ e ∷ []) ≡ mapped (heads history) e.op e.reply
  heads-next = mapped_by-append no_maps history (e ∷ [])

  made-next : made' ≡ made_after made e.op e.reply
  unfolding made made'
  made-next = ap (λ w. w.stripes.made) (run-append settings (start settings) history (e ∷ []))

  bytes_still : (zone container : ℕ) (name : List ℕ) (slot : SeenSlot) → slot_at (heads history zone container) name ≡ slot → whole_slot made' zone slot ≡ whole_slot made zone slot
  unfolding made made'
  bytes_still zone container name Nothing is = refl
  bytes_still zone container name (Mark stamp) is = refl
  bytes_still zone container name (Live new stamp) is =
      let agree = heads_agree settings history (legal_front settings (start settings) history (e ∷ []) legal) zone container name in
      ap (λ bytes. Slots.Live (record { bytes = bytes; kind = new.kind; meta = new.meta; etag = new.etag }) stamp)
      (bytes_stay settings history (e ∷ []) legal zone container name new stamp (sym agree ∙ is))

  -- an event that changes no head leaves every slot
  pub slots_still : mapped (heads history) e.op e.reply ≡ heads history → all_slots settings (history ++ e ∷ []) ≡ all_slots settings history
  unfolding made made'
  slots_still same = λ i zone container name. at_name zone container name i where
    at_name : (zone container : ℕ) (name : List ℕ) → slots_in settings (history ++ e ∷ []) zone container name ≡ slots_in settings history zone container name
    at_name zone container name =
        ap (λ m. whole_slot made' zone (slot_at (m zone container) name)) (heads-next ∙ same)
        ∙ bytes_still zone container name (slot_at (heads history zone container) name) refl

  -- a head that is changed
  pub slots_written : (zone container : ℕ) (name : List ℕ) (guard : Guard) (new : NewHead) (when : Conditions) (change : Changed) → e.op ≡ HeadWrite zone container name guard new when → e.reply ≡ changed_reply change
      → all_slots settings (history ++ e ∷ []) ≡ with_zone_slot (all_slots settings history) zone container name (whole_slot (world_of settings history).stripes.made zone (Live new change.stamp))
  unfolding made made'
  slots_written zone container name guard new when change op reply = λ i z c n. at_name z c n i where
    now : heads (history ++ e ∷ []) ≡ maps.with_slot (heads history) zone container name (Live new change.stamp)
    now = heads-next ∙ λ i. mapped (heads history) (op i) (reply i)

    still : made' ≡ made
    still = made-next ∙ λ i. made_after made (op i) (reply i)

    at_name : (z c : ℕ) (n : List ℕ) → slots_in settings (history ++ e ∷ []) z c n ≡ with_zone_slot (all_slots settings history) zone container name (whole_slot made zone (Live new change.stamp)) z c n
    at_name z c n =
        (λ i. slot_now (now i) (still i) z c n) ∙ written_at (heads history) made zone container name (Live new change.stamp) z c n
