-- What the tails of a live head are, and its bytes.
use Rattle.std.proofs.Common.{◌≡◌, ℕ, zero, suc, ◌+◌, ◌-◌, ◌%◌, ◌<◌, ◌≤◌, ◌⊎◌, inl, inr, ◌==◌, true, false, List, [], ◌∷◌, ◌++◌, length, map, flat_map, nat_le, Option, Some, None, refl, sym, ◌∙◌, ap, subst, arith, add-one}
use Rattle.std.specs.Prelude.{IfSome, is_some, unwrap_or}
use Rattle.std.proofs.Math.Nat.{mod-zero}
use Rattle.std.specs.List.{concat, range_with_len}
use Rattle.std.proofs.lemmas.Bool.Decides.{nat_tests}
use Rattle.rgw_types.specs.declared.pool_key.Key.{Key}
use Rattle.rgw_types.specs.declared.stamp.Stamp.{Stamp}
use Rattle.rgw_types.specs.Stripes.{ManifestView, tails_of}
use Rattle.rgw_model.specs.declared.slot.Slot.TheVariants as Slots
use Rattle.manifest.specs.Ranges.{part_size, AreContents}
use Rattle.manifest.proofs.CoverLemmas.{whole_length, nothing_covered}
use Rattle.object_words.specs.declared.head.NewHead.{NewHead}
use Rattle.object_words.specs.declared.head.SeenSlot.{SeenSlot}
use Rattle.object_words.specs.declared.head.SeenSlot.TheVariants.{Nothing, Live, Mark}
use Rattle.object_words.specs.Keys.{head_key, tail_key}
use Rattle.object_words.specs.Tails.{Tail, is_there}
use Rattle.realm_model.specs.Settings.{SettingsView}
use Rattle.realm_model.specs.Phases.{ActorId, opened}
use Rattle.realm_model.specs.Needs.{is_between, holder_of}
use Rattle.realm_model.specs.Facts.{Place, making, in_head, replaced, Ledger}
use Rattle.realm_model.specs.Maps.{Made, heads, whole_bytes, whole_slot}
use Rattle.realm_model.specs.Accounts.{slot_now}
use Rattle.realm_model.specs.Stripes.{has_stripe, IsNamed}
use Rattle.realm_model.specs.Histories.{world_of, state_of, phase_of, Legal}
use Rattle.realm_model.specs.declared.event.Event.{Event}
use Rattle.realm_model.proofs.Computing.{left_of, right_of}
use Rattle.realm_model.proofs.ObjectLemmas.{number_same}
use Rattle.realm_model.proofs.Agreeing.{heads_agree}
use Rattle.realm_model.proofs.MadeOnce.{tails_agree}
use Rattle.stripe_law.specs.Sizes.{IsOfSize, IsSized, IfLive}
use Rattle.stripe_law.specs.MadeOnce.{MadeOnce}
use Rattle.stripe_law.specs.Olds.{IsReplaced}
use Rattle.stripe_law.specs.Tails.{Bytes}
use Rattle.stripe_law.specs.Reading.{IsStored, contents_at}
use Rattle.stripe_law.proofs.Knowing.{at_least}
use Rattle.stripe_law.proofs.Keeping.{stripes_hold, there_where}
use Rattle.stripe_law.proofs.Made.{has_making}

-- ---- one tail

module _ (settings : SettingsView) (history : List Event) (legal : Legal settings history) where
  pub live_sized : (zone : ℕ) (key : Key) (new : NewHead) (stamp : Stamp) → ((state_of settings history).heads zone key).slot ≡ Live new stamp
      → (length new.first ≡ part_size new.manifest 0) × IsSized (world_of settings history).stripes.made zone new.manifest
  live_sized zone key new stamp is =
      subst (λ slot. IfLive slot (λ new. (length new.first ≡ part_size new.manifest 0) × IsSized (world_of settings history).stripes.made zone new.manifest)) is
      ((stripes_hold settings history legal).head_sizes zone key)

  tail_stored : (zone write part size : ℕ) → IsOfSize ((world_of settings history).stripes.made zone write part) size → IsStored history ((state_of settings history).tails zone (tail_key write part)) zone write part size
  tail_stored zone write part size = at ((world_of settings history).stripes.made zone write part) refl where
    at : (o : Option (List ℕ)) → (world_of settings history).stripes.made zone write part ≡ o → IsOfSize o size → IsStored history ((state_of settings history).tails zone (tail_key write part)) zone write part size
    at None is none = absurd none
    at (Some b) is sized =
        let same : ((state_of settings history).tails zone (tail_key write part)).bytes ≡ b = tails_agree settings history legal zone write part ∙ ap (λ o. unwrap_or o []) is in
        let once = subst (λ o. IfSome o (λ bytes. (1 ≤ part) × ((part ≤ ((world_of settings history).stripes.ledger zone write write).count) × (1 ≤ length bytes)))) is ((stripes_hold settings history legal).made_once zone write part) in
        record {
          bytes = b;
          is = λ i. record { bytes = same i };
          some = once.1.1;
          sized = sized;
          making = has_making settings history zone write part b is;
        }

  pub named_stored : (zone container : ℕ) (name : List ℕ) (new : NewHead) (stamp : Stamp) → ((state_of settings history).heads zone (head_key container name)).slot ≡ Live new stamp → (part : ℕ) → 1 ≤ part → part ≤ tails_of new.manifest
      → IsStored history ((state_of settings history).tails zone (tail_key new.manifest.write part)) zone new.manifest.write part (part_size new.manifest part)
  named_stored zone container name new stamp is part low high =
      tail_stored zone new.manifest.write part (part_size new.manifest part) ((live_sized zone (head_key container name) new stamp is).1 part low high)

-- ---- what is named is there

pub between_is : (low high n : ℕ) → is_between low high n ≡ true → (low ≤ n) × (n ≤ high)
between_is low high n is =
    (at_least low n (left_of (nat_le low n) (nat_le n high) is), at_least n high (right_of (nat_le low n) (nat_le n high) is))

some_of : (o : Option (List ℕ)) (size : ℕ) → IsOfSize o size → is_some o ≡ true
some_of None size none = absurd none
some_of (Some b) size is = refl

stripe_made : (made : Made) (zone write part : ℕ) (slot : SeenSlot) → IfLive slot (λ new. (length new.first ≡ part_size new.manifest 0) × IsSized made zone new.manifest) → has_stripe slot write part ≡ true → is_some (made zone write part) ≡ true
stripe_made made zone write part Nothing is has = cc
stripe_made made zone write part (Mark stamp) is has = cc
stripe_made made zone write part (Live new stamp) is has =
    let m = new.manifest in
    let same = number_same m.write write (left_of (m.write == write) (is_between 1 (tails_of m) part) has) in
    let range = between_is 1 (tails_of m) part (right_of (m.write == write) (is_between 1 (tails_of m) part) has) in
    subst (λ w. is_some (made zone w part) ≡ true) same (some_of (made zone m.write part) (part_size m part) (is.1 part range.0 range.1))

pub named_there : (settings : SettingsView) (history : List Event) → Legal settings history → (zone write part : ℕ) → IsNamed (state_of settings history) zone write part → is_there ((state_of settings history).tails zone (tail_key write part)) ≡ true
named_there settings history legal zone write part named =
    let w = world_of settings history in
    let holds = stripes_hold settings history legal in
    let key = head_key named.container named.name in
    let some = stripe_made w.stripes.made zone write part (w.state.heads zone key).slot (holds.head_sizes zone key) named.has in
    subst (λ b. is_there (record { bytes = b }) ≡ true) (sym (tails_agree settings history legal zone write part))
    (there_where (w.stripes.made zone write part) part (w.stripes.ledger zone write write).count (holds.made_once zone write part) some)

-- ---- one head

place_of_stripe : (ledger : ℕ → ℕ → ℕ → Ledger) (zone write part : ℕ) (place : Place) (slot : SeenSlot) → IfLive slot (λ new. 1 ≤ tails_of new.manifest → ledger zone new.manifest.write (holder_of new.manifest) ≡ record { count = tails_of new.manifest; place = place })
    → has_stripe slot write part ≡ true → (ledger zone write write).place ≡ place
place_of_stripe ledger zone write part place Nothing is has = cc
place_of_stripe ledger zone write part place (Mark stamp) is has = cc
place_of_stripe ledger zone write part place (Live new stamp) is has =
    let m = new.manifest in
    let same = number_same m.write write (left_of (m.write == write) (is_between 1 (tails_of m) part) has) in
    let range = between_is 1 (tails_of m) part (right_of (m.write == write) (is_between 1 (tails_of m) part) has) in
    let low = range.0 in
    let high = range.1 in
    subst (λ w. (ledger zone w w).place ≡ place) same (ap (λ (l : Ledger). l.place) (is (omega (arith, low, high))))

module _ (settings : SettingsView) (history : List Event) (legal : Legal settings history) where
  ledger : ℕ → ℕ → ℕ → Ledger
  ledger = (world_of settings history).stripes.ledger

  head_place : (zone container write part : ℕ) (name : List ℕ) → has_stripe ((state_of settings history).heads zone (head_key container name)).slot write part ≡ true → (ledger zone write write).place ≡ in_head container name
  unfolding ledger
  head_place zone container write part name has =
      place_of_stripe (world_of settings history).stripes.ledger zone write part (in_head container name) ((state_of settings history).heads zone (head_key container name)).slot
      ((stripes_hold settings history legal).named zone container name) has

  maker_place : (a : ActorId) (zone write holder : ℕ) (sizes : List ℕ) → (phase_of settings history a).stripes.own zone write holder ≡ opened sizes → (ledger zone write holder).place ≡ making a
  unfolding ledger
  maker_place a zone write holder sizes is = ap (λ (l : Ledger). l.place) ((stripes_hold settings history legal).open_bundles a zone write holder sizes is)

  changer_place : (a : ActorId) (zone write holder : ℕ) (m : ManifestView) → (phase_of settings history a).stripes.olds zone write holder ≡ Some m → (ledger zone write holder).place ≡ replaced a
  unfolding ledger
  changer_place a zone write holder m is =
      let old = subst (λ o. IfSome o (λ m. IsReplaced a write holder m ((world_of settings history).stripes.ledger zone write holder))) is ((stripes_hold settings history legal).olds a zone write holder) in
      ap (λ (l : Ledger). l.place) old.place

  pub one_head : (zone container other : ℕ) (name another : List ℕ) (write part : ℕ)
      → has_stripe ((state_of settings history).heads zone (head_key container name)).slot write part ≡ true
      → has_stripe ((state_of settings history).heads zone (head_key other another)).slot write part ≡ true
      → head_key container name ≡ head_key other another
  one_head zone container other name another write part has both =
      let same : in_head container name ≡ in_head other another = sym (head_place zone container write part name has) ∙ head_place zone other write part another both in
      cc

  pub one_maker : (a b : ActorId) (zone write holder : ℕ) (sizes others : List ℕ) → (phase_of settings history a).stripes.own zone write holder ≡ opened sizes → (phase_of settings history b).stripes.own zone write holder ≡ opened others → a ≡ b
  one_maker a b zone write holder sizes others is too =
      let same : making a ≡ making b = sym (maker_place a zone write holder sizes is) ∙ maker_place b zone write holder others too in
      cc

  pub one_changer : (a b : ActorId) (zone write holder : ℕ) (m n : ManifestView) → (phase_of settings history a).stripes.olds zone write holder ≡ Some m → (phase_of settings history b).stripes.olds zone write holder ≡ Some n → a ≡ b
  one_changer a b zone write holder m n is too =
      let same : replaced a ≡ replaced b = sym (changer_place a zone write holder m is) ∙ changer_place b zone write holder n too in
      cc

  pub made_or_named : (a : ActorId) (zone write part : ℕ) (sizes : List ℕ) → (phase_of settings history a).stripes.own zone write write ≡ opened sizes → IsNamed (state_of settings history) zone write part → ⊥
  made_or_named a zone write part sizes is named =
      let same : making a ≡ in_head named.container named.name = sym (maker_place a zone write write sizes is) ∙ head_place zone named.container write part named.name named.has in
      cc

  pub replaced_or_named : (a : ActorId) (zone write part : ℕ) (m : ManifestView) → (phase_of settings history a).stripes.olds zone write write ≡ Some m → IsNamed (state_of settings history) zone write part → ⊥
  replaced_or_named a zone write part m is named =
      let same : replaced a ≡ in_head named.container named.name = sym (changer_place a zone write write m is) ∙ head_place zone named.container write part named.name named.has in
      cc

  pub made_or_replaced : (a b : ActorId) (zone write holder : ℕ) (sizes : List ℕ) (m : ManifestView) → (phase_of settings history a).stripes.own zone write holder ≡ opened sizes → (phase_of settings history b).stripes.olds zone write holder ≡ Some m → ⊥
  made_or_replaced a b zone write holder sizes m is old =
      let same : making a ≡ replaced b = sym (maker_place a zone write holder sizes is) ∙ changer_place b zone write holder m old in
      cc

-- ---- stripes of no bytes

tails_some : (m : ManifestView) → m.stripe ≡ 0 → 1 ≤ m.size → 1 ≤ tails_of m
tails_some m empty some =
    let rest : (m.size - m.stripe) % m.stripe ≡ m.size - m.stripe = ap (λ n. (m.size - m.stripe) % n) empty ∙ mod-zero (m.size - m.stripe) in
    omega (arith, rest, empty, some)

no_tail_of_nothing : (o : Option (List ℕ)) (part count size : ℕ) → IfSome o (λ b. (1 ≤ part) × ((part ≤ count) × (1 ≤ length b))) → IsOfSize o size → 1 ≤ size
no_tail_of_nothing None part count size once none = absurd none
no_tail_of_nothing (Some b) part count size once is = let some = once.1.1 in omega (arith, some, is)

-- an object has stripes with bytes, or no bytes
pub has_stripes : (made : Made) (ledger : ℕ → ℕ → ℕ → Ledger) (zone : ℕ) (m : ManifestView) → MadeOnce made ledger → IsSized made zone m → (0 < m.stripe) ⊎ (m.size ≡ 0)
has_stripes made ledger zone m once sized =
    elim (m.stripe == 0) as (λ b. (m.stripe == 0) ≡ b → (0 < m.stripe) ⊎ (m.size ≡ 0)) [
      | false ↦ λ some. inl (grind (arith, nat_tests))
      | true ↦ λ none. elim (m.size == 0) as (λ b. (m.size == 0) ≡ b → (0 < m.stripe) ⊎ (m.size ≡ 0)) [
        | true ↦ λ empty. inr (number_same m.size 0 empty)
        | false ↦ λ some.
            let no_stripe = number_same m.stripe 0 none in
            let filled : 1 ≤ m.size = grind (arith, nat_tests) in
            let bytes = no_tail_of_nothing (made zone m.write 1) 1 (ledger zone m.write m.write).count (part_size m 1) (once zone m.write 1) (sized 1 (omega arith) (tails_some m no_stripe filled)) in
            absurd (omega (arith, bytes, no_stripe))
      ] refl
    ] refl

-- ---- all bytes

map_sizes : (f : ℕ → List ℕ) (g : ℕ → ℕ) (a n : ℕ) → ((k : ℕ) → a ≤ k → k < a + n → length (f k) ≡ g k) → map length (map f (range_with_len a n)) ≡ map g (range_with_len a n)
map_sizes f g a zero same = refl
map_sizes f g a (suc n) same =
    let here = same a (omega arith) (omega arith) in
    let rest = map_sizes f g (a + 1) n (λ k low high. same k (omega (arith, low)) (omega (arith, high))) in
    λ i. here i ∷ rest i

numbers_split : (n : ℕ) → range_with_len 0 (n + 1) ≡ 0 ∷ range_with_len 1 n
numbers_split n = ap (λ k. range_with_len 0 k) (add-one n)

pub are_contents : (m : ManifestView) (first : List ℕ) (f : ℕ → List ℕ) → length first ≡ part_size m 0 → ((k : ℕ) → 1 ≤ k → k ≤ tails_of m → length (f k) ≡ part_size m k) → AreContents m (first ∷ map f (range_with_len 1 (tails_of m)))
are_contents m first f size same =
    let rest = map_sizes f (part_size m) 1 (tails_of m) (λ k low high. same k low (omega (arith, high))) in
    (λ i. size i ∷ rest i) ∙ sym (ap (λ ks. map (part_size m) ks) (numbers_split (tails_of m)))

pub concat-map : (f : ℕ → List ℕ) (ks : List ℕ) → concat (map f ks) ≡ flat_map f ks
concat-map f [] = refl
concat-map f (k ∷ ks) = ap (λ rest. f k ++ rest) (concat-map f ks)

pub size_unwrapped : (o : Option (List ℕ)) (size : ℕ) → IsOfSize o size → length (unwrap_or o []) ≡ size
size_unwrapped None size none = absurd none
size_unwrapped (Some b) size is = is

-- the bytes of tails as they were made
abbrev pub made_bytes : Made → ℕ → ℕ → ℕ → List ℕ
made_bytes made zone write part = unwrap_or (made zone write part) []

-- an object's parts as they were made
abbrev pub made_contents : Made → ℕ → NewHead → List (List ℕ)
made_contents made zone new = new.first ∷ map (made_bytes made zone new.manifest.write) (range_with_len 1 (tails_of new.manifest))

pub made_are_contents : (made : Made) (zone : ℕ) (new : NewHead) → length new.first ≡ part_size new.manifest 0 → IsSized made zone new.manifest → AreContents new.manifest (made_contents made zone new)
made_are_contents made zone new first sized =
    are_contents new.manifest new.first (made_bytes made zone new.manifest.write) first
    (λ k low high. size_unwrapped (made zone new.manifest.write k) (part_size new.manifest k) (sized k low high))

pub made_whole : (made : Made) (zone : ℕ) (new : NewHead) → concat (made_contents made zone new) ≡ whole_bytes made zone new
made_whole made zone new = ap (λ rest. new.first ++ rest) (concat-map (made_bytes made zone new.manifest.write) (range_with_len 1 (tails_of new.manifest)))

pub contents_same : (tails : ℕ → Key → Tail) (made : Made) (zone : ℕ) (new : NewHead) → Bytes tails made → contents_at tails zone new ≡ made_contents made zone new
contents_same tails made zone new bytes =
    λ i. new.first ∷ map (λ part. bytes zone new.manifest.write part i) (range_with_len 1 (tails_of new.manifest))

module _ (settings : SettingsView) (history : List Event) (legal : Legal settings history) (zone container : ℕ) (name : List ℕ) (new : NewHead) (stamp : Stamp)
    (is : ((state_of settings history).heads zone (head_key container name)).slot ≡ Live new stamp) where
  same_contents : contents_at (state_of settings history).tails zone new ≡ made_contents (world_of settings history).stripes.made zone new
  same_contents = contents_same (state_of settings history).tails (world_of settings history).stripes.made zone new (tails_agree settings history legal)

  pub object_parts : AreContents new.manifest (contents_at (state_of settings history).tails zone new)
  object_parts =
      let sizes = live_sized settings history legal zone (head_key container name) new stamp is in
      subst (λ c. AreContents new.manifest c) (sym same_contents) (made_are_contents (world_of settings history).stripes.made zone new sizes.0 sizes.1)

  pub object_size : length (concat (contents_at (state_of settings history).tails zone new)) ≡ new.manifest.size
  object_size =
      let w = world_of settings history in
      let sizes = live_sized settings history legal zone (head_key container name) new stamp is in
      let contents = contents_at w.state.tails zone new in
      elim (has_stripes w.stripes.made w.stripes.ledger zone new.manifest (stripes_hold settings history legal).made_once sizes.1) [
        | inl some ↦ whole_length new.manifest some contents object_parts
        | inr none ↦ ap length (nothing_covered new.manifest none contents object_parts) ∙ sym none
      ]

  pub slot_shown : slot_now (heads history) (world_of settings history).stripes.made zone container name ≡ whole_slot (world_of settings history).stripes.made zone (Live new stamp)
  slot_shown = ap (λ slot. whole_slot (world_of settings history).stripes.made zone slot) (heads_agree settings history legal zone container name ∙ is)

  pub object_slot : slot_now (heads history) (world_of settings history).stripes.made zone container name ≡ Slots.Live (record { bytes = concat (contents_at (state_of settings history).tails zone new); kind = new.kind; meta = new.meta; etag = new.etag }) stamp
  object_slot =
      let same = sym (ap concat same_contents ∙ made_whole (world_of settings history).stripes.made zone new) in
      slot_shown ∙ (λ i. Slots.Live (record { bytes = same i; kind = new.kind; meta = new.meta; etag = new.etag }) stamp)
