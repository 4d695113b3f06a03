-- What was made stays, and so do the bytes of an object that a head showed.
use Rattle.std.proofs.Common.{◌≡◌, ℕ, zero, suc, ◌+◌, ◌<◌, ◌≤◌, List, ◌++◌, flat_map, Some, refl, sym, ap, subst, arith}
use Rattle.std.specs.List.{range_with_len}
use Rattle.rgw_types.specs.declared.stamp.Stamp.{Stamp}
use Rattle.rgw_types.specs.Stripes.{tails_of}
use Rattle.manifest.specs.Ranges.{part_size}
use Rattle.object_words.specs.declared.head.NewHead.{NewHead}
use Rattle.object_words.specs.declared.head.SeenSlot.TheVariants.{Live}
use Rattle.object_words.specs.Keys.{head_key}
use Rattle.realm_model.specs.Settings.{SettingsView}
use Rattle.realm_model.specs.Maps.{whole_bytes}
use Rattle.realm_model.specs.Worlds.{World, start}
use Rattle.realm_model.specs.Histories.{world_of, state_of, Legal}
use Rattle.realm_model.specs.declared.event.Event.{Event}
use Rattle.realm_model.proofs.Runs.{run-append, legal_front, legal_back}
use Rattle.stripe_law.proofs.Keeping.{stripes_hold}
use Rattle.stripe_law.proofs.Made.{made_stays}
use Rattle.stripe_law.proofs.Storing.{live_sized, made_bytes}
use Rattle.stripe_law.proofs.Getting.{unwrapped_same}

flat_same : (f g : ℕ → List ℕ) (a n : ℕ) → ((k : ℕ) → a ≤ k → k < a + n → f k ≡ g k) → flat_map f (range_with_len a n) ≡ flat_map g (range_with_len a n)
flat_same f g a zero same = refl
flat_same f g a (suc n) same =
    let here = same a (omega arith) (omega arith) in
    let rest = flat_same f g (a + 1) n (λ k low high. same k (omega (arith, low)) (omega (arith, high))) in
    λ i. here i ++ rest i

module _ (settings : SettingsView) (history later : List Event) (legal : Legal settings (history ++ later)) where
  front : Legal settings history
  front = legal_front settings (start settings) history later legal

  pub still_made : (zone write part : ℕ) (bytes : List ℕ) → (world_of settings history).stripes.made zone write part ≡ Some bytes → (world_of settings (history ++ later)).stripes.made zone write part ≡ Some bytes
  still_made zone write part bytes is =
      subst (λ (w : World). w.stripes.made zone write part ≡ Some bytes) (sym (run-append settings (start settings) history later))
      (made_stays settings (world_of settings history) later (legal_back settings (start settings) history later legal) (stripes_hold settings history front) zone write part bytes is)

  pub bytes_stay : (zone container : ℕ) (name : List ℕ) (new : NewHead) (stamp : Stamp) → ((state_of settings history).heads zone (head_key container name)).slot ≡ Live new stamp
      → whole_bytes (world_of settings (history ++ later)).stripes.made zone new ≡ whole_bytes (world_of settings history).stripes.made zone new
  bytes_stay zone container name new stamp is =
      let made = (world_of settings history).stripes.made in
      let made' = (world_of settings (history ++ later)).stripes.made in
      let write = new.manifest.write in
      let sized = (live_sized settings history front zone (head_key container name) new stamp is).1 in
      ap (λ rest. new.first ++ rest)
      (flat_same (made_bytes made' zone write) (made_bytes made zone write) 1 (tails_of new.manifest)
      (λ part low high. unwrapped_same (made zone write part) (made' zone write part) (part_size new.manifest part) (sized part low (omega (arith, high))) (still_made zone write part)))
