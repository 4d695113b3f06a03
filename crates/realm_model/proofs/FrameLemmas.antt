-- Sums of frames over keys, when the bytes at one key change.
use Rattle.std.proofs.Common.{◌≡◌, ℕ, ◌+◌, ◌≤◌, ◌||◌, true, false, List, [], ◌∷◌, sum_by, refl, sym, ◌∙◌, ap, subst, arith}
use Rattle.std.specs.List.{list_any, AllByRecursion, IsDistinct}
use Rattle.std.proofs.Math.Nat.{zero-div, zero-mod}
use Rattle.std.proofs.lemmas.List.Sums.{sum_by-cons}
use Rattle.rgw_types.specs.declared.pool_key.Key.{Key}
use Rattle.object_words.specs.Keys.{is_key}
use Rattle.object_words.specs.Heads.{frames_for}
use Rattle.object_words.proofs.KeyLemmas.{same_key, key_itself}
use Rattle.realm_model.specs.States.{free_after}
use Rattle.realm_model.specs.Stripes.{FrameSum}

-- ---- sums over keys

none_of : (key : Key) (keys : List Key) → AllByRecursion (λ k. is_key key k ≡ false) keys → list_any (is_key key) keys ≡ false
none_of key [] apart = refl
none_of key (k ∷ ks) apart = rw apart.0 (none_of key ks apart.1)

all_of : (key : Key) (keys : List Key) → list_any (is_key key) keys ≡ false → AllByRecursion (λ k. is_key key k ≡ false) keys
all_of key [] none = tt
all_of key (k ∷ ks) none =
    elim (is_key key k) as (λ b. is_key key k ≡ b → (b || list_any (is_key key) ks) ≡ false → AllByRecursion (λ q. is_key key q ≡ false) (k ∷ ks)) [
      | true ↦ λ is n. cc
      | false ↦ λ is n. (is, all_of key ks n)
    ] refl none

module _ (F G : Key → ℕ) (key : Key) (same : (k : Key) → is_key key k ≡ false → G k ≡ F k) where
  sum_same : (keys : List Key) → list_any (is_key key) keys ≡ false → sum_by G keys ≡ sum_by F keys
  sum_same [] none = refl
  sum_same (k ∷ ks) none =
      let apart = all_of key (k ∷ ks) none in
      let here = same k apart.0 in
      let rest = sum_same ks (none_of key ks apart.1) in
      let f = sum_by-cons F k ks in
      let g = sum_by-cons G k ks in
      omega (arith, here, rest, f, g)

  sum_moved : (keys : List Key) → IsDistinct is_key keys → list_any (is_key key) keys ≡ true → sum_by G keys + F key ≡ sum_by F keys + G key
  unfolding IsDistinct
  sum_moved [] apart has = cc
  sum_moved (k ∷ ks) apart has =
      elim (is_key key k) as (λ b. is_key key k ≡ b → (b || list_any (is_key key) ks) ≡ true → sum_by G (k ∷ ks) + F key ≡ sum_by F (k ∷ ks) + G key) [
        | true ↦ λ is h.
            let one = same_key key k is in
            let f : F key ≡ F k = ap F one in
            let g : G key ≡ G k = ap G one in
            let fs = sum_by-cons F k ks in
            let gs = sum_by-cons G k ks in
            let none = subst (λ q. list_any (is_key q) ks ≡ false) (sym one) (none_of k ks apart.0) in
            let rest = sum_same ks none in
            omega (arith, f, g, rest, fs, gs)
        | false ↦ λ is h.
            let here = same k is in
            let rest = sum_moved ks apart.1 h in
            let fs = sum_by-cons F k ks in
            let gs = sum_by-cons G k ks in
            omega (arith, here, rest, fs, gs)
      ] refl has

-- ---- one object's bytes change

no_frames : (frame : ℕ) → frames_for frame [] ≡ 0
no_frames frame =
    let quotient = zero-div frame in
    let rest = zero-mod frame in
    omega (arith, quotient, rest)

apart_back : (k q : Key) → is_key k q ≡ false → is_key q k ≡ false
apart_back k q apart =
    elim (is_key q k) as (λ b. is_key q k ≡ b → b ≡ false) [
      | true ↦ λ is. cc (subst (λ p. is_key p q ≡ true) (same_key q k is) (key_itself q), apart)
      | false ↦ λ is. refl
    ] refl

in_keys : (key k : Key) (keys : List Key) → list_any (is_key key) keys ≡ true → list_any (is_key k) keys ≡ false → is_key key k ≡ false
in_keys key k keys has none =
    elim (is_key key k) as (λ b. is_key key k ≡ b → b ≡ false) [
      | true ↦ λ is. cc (subst (λ q. list_any (is_key q) keys ≡ true) (same_key key k is) has, none)
      | false ↦ λ is. refl
    ] refl

module _ (frame frames : ℕ) (bytes bytes' : Key → List ℕ) (free : ℕ) where
  pub frame_same : ((k : Key) → bytes' k ≡ bytes k) → FrameSum frame frames bytes free → FrameSum frame frames bytes' free
  frame_same same s = subst (λ f. FrameSum frame frames f free) (λ i k. sym (same k) i) s

  module _ (key : Key) (new : List ℕ) (here : bytes' key ≡ new) (same : (k : Key) → is_key key k ≡ false → bytes' k ≡ bytes k) (room : frames_for frame new ≤ free) where
    pub frame_moves : FrameSum frame frames bytes free → FrameSum frame frames bytes' (free_after frame free (bytes key) new)
    unfolding IsDistinct
    frame_moves s =
        let F : Key → ℕ = λ k. frames_for frame (bytes k) in
        let G : Key → ℕ = λ k. frames_for frame (bytes' k) in
        let others_same : (k : Key) → is_key key k ≡ false → G k ≡ F k = λ k apart. ap (frames_for frame) (same k apart) in
        let total = s.sum in
        let now : G key ≡ frames_for frame new = ap (frames_for frame) here in
        elim (list_any (is_key key) s.keys) as (λ b. list_any (is_key key) s.keys ≡ b → FrameSum frame frames bytes' (free_after frame free (bytes key) new)) [
          | true ↦ λ has.
              let moved = sum_moved F G key others_same s.keys s.apart has in
              record {
                keys = s.keys;
                apart = s.apart;
                others = λ k none. same k (in_keys key k s.keys has none) ∙ s.others k none;
                sum = omega (arith, moved, total, room, now);
              }
          | false ↦ λ none.
              let stays = sum_same F G key others_same s.keys none in
              let f = sum_by-cons F key s.keys in
              let g = sum_by-cons G key s.keys in
              let empty : F key ≡ 0 = ap (frames_for frame) (s.others key none) ∙ no_frames frame in
              record {
                keys = key ∷ s.keys;
                apart = (all_of key s.keys none, s.apart);
                others = λ k absent.
                    let apart = all_of k (key ∷ s.keys) absent in
                    same k (apart_back k key apart.0) ∙ s.others k (none_of k s.keys apart.1);
                sum = omega (arith, stays, total, room, empty, now, f, g);
              }
        ] refl
