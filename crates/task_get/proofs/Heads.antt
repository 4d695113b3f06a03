-- What a read of a head shows is the slot of the bucket map, with as many bytes as its manifest says.
use Rattle.std.proofs.Common.{◌≡◌, ℕ, ◌+◌, ◌<◌, ◌≤◌, ◌==◌, ◌&&◌, ◌||◌, inl, inr, Bool, true, List, [], ◌∷◌, length, get_or, nat_le, refl, sym, ap, ◌∙◌, arith, map}
use Rattle.std.specs.Prelude.{flat_map, unwrap_or}
use Rattle.std.specs.List.{concat, list_any, range_with_len}
use Rattle.std.proofs.lemmas.Bool.Decides.{nat_tests}
use Rattle.std.proofs.lemmas.List.FromFn.{get_or-map-range_with_len}
use Rattle.rgw_types.specs.Stripes.{ManifestView, tails_of}
use Rattle.rgw_model.specs.declared.slot.Slot.{Slot}
use Rattle.rgw_model.specs.declared.slot.Slot.TheVariants as Slots
use Rattle.manifest.specs.Ranges.{part_size, AreContents}
use Rattle.object_words.specs.declared.head.SeenSlot.{SeenSlot}
use Rattle.object_words.specs.declared.head.SeenSlot.TheVariants.{Nothing, Live, Mark}
use Rattle.object_words.specs.Keys.{head_key, tail_key}
use Rattle.object_words.proofs.KeyLemmas.{number_itself}
use Rattle.realm_model.specs.Settings.{SettingsView}
use Rattle.realm_model.specs.Phases.{SeenManifest}
use Rattle.realm_model.specs.Needs.{is_between, is_seen_range}
use Rattle.realm_model.specs.Maps.{content_of, heads, whole_bytes, whole_slot, slot_at}
use Rattle.realm_model.specs.Accounts.{slot_now}
use Rattle.realm_model.specs.Histories.{world_of, state_of, Legal}
use Rattle.realm_model.specs.declared.event.Event.{Event}
use Rattle.realm_model.proofs.Agreeing.{heads_agree}
use Rattle.stripe_law.specs.Reading.{contents_at}
use Rattle.stripe_law.proofs.Storing.{object_parts, object_size, object_slot, live_sized, has_stripes}
use Rattle.realm_model.specs.Phases.{Phase}
use Rattle.realm_model.specs.Learnt.{with_manifest}
use Rattle.stripe_law.proofs.Keeping.{stripes_hold}
use Rattle.task_get.specs.Shown.{HasParts, IsShownAs}
use Rattle.task_get.specs.Gets.{HasSeen}

abbrev bytes_in : Slot → List ℕ
bytes_in (Slots.Live content stamp) = content.bytes
bytes_in slot = []

first_size : (m : ManifestView) (first : List ℕ) (rest : List (List ℕ)) → AreContents m (first ∷ rest) → length first ≡ part_size m 0
first_size m first rest are =
    ap (λ (sizes : List ℕ). get_or sizes 0 0) are ∙ get_or-map-range_with_len (part_size m) 0 (tails_of m + 1) 0 0 0 (omega arith) (omega arith)

-- the history has a legal front, in which the head shows this slot
pub shown_as : (settings : SettingsView) (found : List Event) (zone container : ℕ) (name : List ℕ) (slot : SeenSlot) → Legal settings found → slot ≡ slot_at (heads found zone container) name → IsShownAs (slot_now (heads found) (world_of settings found).stripes.made zone container name) slot
shown_as settings found zone container name Nothing legal is = ap (whole_slot (world_of settings found).stripes.made zone) (sym is)
shown_as settings found zone container name (Mark stamp) legal is = ap (whole_slot (world_of settings found).stripes.made zone) (sym is)
shown_as settings found zone container name (Live new stamp) legal is =
    let made = (world_of settings found).stripes.made in
    let state : ((state_of settings found).heads zone (head_key container name)).slot ≡ Live new stamp =
    sym (heads_agree settings found legal zone container name) ∙ sym is in
    let here : slot_now (heads found) made zone container name ≡ Slots.Live (content_of made zone new) stamp = ap (whole_slot made zone) (sym is) in
    let there = object_slot settings found legal zone container name new stamp state in
    let contents = contents_at (state_of settings found).tails zone new in
    let bytes : whole_bytes made zone new ≡ concat contents = ap bytes_in (sym here ∙ there) in
    let parts : HasParts new (whole_bytes made zone new) = record {
      rest = flat_map (λ part. unwrap_or (made zone new.manifest.write part) []) (range_with_len 1 (tails_of new.manifest));
      begins = refl;
      size = ap length bytes ∙ object_size settings found legal zone container name new stamp state;
      first = first_size new.manifest new.first (map (λ part. ((state_of settings found).tails zone (tail_key new.manifest.write part)).bytes) (range_with_len 1 (tails_of new.manifest))) (object_parts settings found legal zone container name new stamp state);
    } in
    (whole_bytes made zone new, parts, here)

-- four tests that hold, or another
all_hold : (b c d e rest : Bool) → b ≡ true → c ≡ true → d ≡ true → e ≡ true → ((b && (c && (d && e))) || rest) ≡ true
all_hold b c d e rest is_b is_c is_d is_e = rw is_b (rw is_c (rw is_d (rw is_e refl)))

low_test : (low n : ℕ) → low ≤ n → nat_le low n ≡ true
low_test low n h = grind (arith, nat_tests)

pub between_test : (low high n : ℕ) → low ≤ n → n ≤ high → is_between low high n ≡ true
between_test low high n a b = rw (low_test low n a) (low_test n high b)

-- the range lies in a tail of this manifest
abbrev in_tail : ℕ → ℕ → ℕ → ℕ → ℕ → SeenManifest → Bool
in_tail zone write part start count s =
    s.zone == zone
    && (s.manifest.write == write
    && (is_between 1 (tails_of s.manifest) part && nat_le (start + count) (part_size s.manifest part)))

-- the manifest that was seen last may be read
pub seen_first : (zone : ℕ) (m : ManifestView) (number clock : ℕ) (rest : List SeenManifest) (part start count : ℕ) → 1 ≤ count → 1 ≤ part → part ≤ tails_of m → start + count ≤ part_size m part
    → is_seen_range (record { zone = zone; manifest = m; number = number; clock = clock } ∷ rest) zone m.write part start count ≡ true
seen_first zone m number clock rest part start count some low high inside =
    let others : Bool = list_any (in_tail zone m.write part start count) rest in
    let holds = all_hold (zone == zone) (m.write == m.write) (is_between 1 (tails_of m) part) (nat_le (start + count) (part_size m part)) others
    (number_itself zone) (number_itself m.write) (between_test 1 (tails_of m) part low high) (low_test (start + count) (part_size m part) inside) in
    rw (low_test 1 count some) holds

-- the same for the manifest that a head shows
abbrev pub HasSeenIn : ℕ → SeenSlot → Phase → Type 0
HasSeenIn zone (Live new stamp) p = HasSeen zone new.manifest p
HasSeenIn zone slot p = Unit {0}

pub seen_in : (zone : ℕ) (slot : SeenSlot) (old : List SeenManifest) (number clock : ℕ) (p : Phase) → p.stripes.seen ≡ with_manifest old zone slot number clock → HasSeenIn zone slot p
seen_in zone Nothing old number clock p is = tt
seen_in zone (Mark stamp) old number clock p is = tt
seen_in zone (Live new stamp) old number clock p is = λ part start count some low high inside.
    rw is (seen_first zone new.manifest number clock old part start count some low high inside)

-- an object with bytes has stripes
abbrev pub HasStripe : SeenSlot → Type 0
HasStripe (Live new stamp) = 1 ≤ new.manifest.size → 0 < new.manifest.stripe
HasStripe slot = Unit {0}

pub has_stripe : (settings : SettingsView) (found : List Event) (zone container : ℕ) (name : List ℕ) (slot : SeenSlot) → Legal settings found → slot ≡ slot_at (heads found zone container) name → HasStripe slot
has_stripe settings found zone container name Nothing legal is = tt
has_stripe settings found zone container name (Mark stamp) legal is = tt
has_stripe settings found zone container name (Live new stamp) legal is = λ some.
    let w = world_of settings found in
    let state : ((state_of settings found).heads zone (head_key container name)).slot ≡ Live new stamp =
    sym (heads_agree settings found legal zone container name) ∙ sym is in
    let sizes = live_sized settings found legal zone (head_key container name) new stamp state in
    elim (has_stripes w.stripes.made w.stripes.ledger zone new.manifest (stripes_hold settings found legal).made_once sizes.1) [
      | inl filled ↦ filled
      | inr none ↦ absurd (omega (arith, some, none))
    ]
