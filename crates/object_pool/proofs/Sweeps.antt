-- What is left where the objects that do not exist are forgotten.
use Rattle.std.proofs.Common.{◌≡◌, ℕ, ◌==◌, Bool, true, false, cond, List, [], ◌∷◌, sum_by, Some, None, IsNone, is_some, unwrap_or, if◌then◌else◌, refl, sym, ◌∙◌, ap, ap₂, subst, arith}
use Rattle.std.specs.List.{AllByRecursion, filter}
use Rattle.std.specs.List.Sorted.{IsStrictlySortedBy}
use Rattle.std.specs.Int.{div_ceil}
use Rattle.std.specs.Map.{lookup, keys_of}
use Rattle.std.specs.declared.cmp.Ordering.TheVariants.{Less}
use Rattle.std.specs.Ordering.{is_eq}
use Rattle.std.proofs.Math.Nat.{zero-div, zero-mod}
use Rattle.std.proofs.lemmas.Bool.{eqb-true}
use Rattle.std.proofs.lemmas.List.Sums.{sum_by-cons}
use Rattle.rgw_types.specs.declared.pool_key.Key.{Key}
use Rattle.frame_region.specs.Region.{RegionView}
use Rattle.object_pool.specs.declared.object.Stored.{Stored}
use Rattle.object_pool.specs.Objects.{Object, Slots, exists, is_key, key_cmp, nothing, settled, slot_at}
use Rattle.object_pool.specs.Stored.{Entries, object_in, slots_in, is_stored, IsHeld, AreApart, AllApart, AllHeld, IsSound}
use Rattle.object_pool.proofs.FrameSums.{exists_is, first_of_both}
use Rattle.object_pool.proofs.Keys.{same_key}
use Rattle.object_pool.proofs.SlotLemmas.{slot_absent}

abbrev pub stored_only : Entries → Entries
stored_only es = filter (λ e. is_stored e.1) es

module _ (p : Key × Stored → Bool) where
  all_filter : (P : Key × Stored → Type 0) (es : Entries) → AllByRecursion P es → AllByRecursion P (filter p es)
  all_filter P [] h = tt
  all_filter P (e ∷ es) h =
      elim (p e) as (λ b. AllByRecursion P (cond b (e ∷ filter p es) (filter p es))) [
        | true ↦ (h.0, all_filter P es h.1)
        | false ↦ all_filter P es h.1
      ]

  apart_filter : (es : Entries) → AllApart es → AllApart (filter p es)
  unfolding AllApart
  apart_filter [] h = h
  apart_filter (e ∷ es) h =
      elim (p e) as (λ b. AllApart (cond b (e ∷ filter p es) (filter p es))) [
        | true ↦ (all_filter (λ f. AreApart e.1 f.1) es h.0, apart_filter es h.1)
        | false ↦ apart_filter es h.1
      ]

-- an object that does not exist has no frames
no_count : (region : RegionView) (o : Stored) → IsHeld region o → is_stored o ≡ false → o.run.count ≡ 0
no_count region o held gone =
    let none : o.size ≡ 0 = eqb-true o.size 0 (first_of_both (o.size == 0) _ gone) in
    let quotient = zero-div region.frame in
    let rest = zero-mod region.frame in
    let at_none : div_ceil 0 region.frame ≡ 0 = omega (arith, quotient, rest) in
    held.count ∙ (ap (λ n. div_ceil n region.frame) none ∙ at_none)

sum_swept : (region : RegionView) (es : Entries) → AllHeld region es → sum_by (λ e. e.1.run.count) (stored_only es) ≡ sum_by (λ e. e.1.run.count) es
sum_swept region [] held = refl
sum_swept region (e ∷ es) held =
    let F : Key × Stored → ℕ = λ e. e.1.run.count in
    elim (is_stored e.1) as (λ b. is_stored e.1 ≡ b → sum_by F (cond b (e ∷ stored_only es) (stored_only es)) ≡ sum_by F (e ∷ es)) [
      | true ↦ λ _.
          let left = sum_by-cons F e (stored_only es) in
          let right = sum_by-cons F e es in
          let more = sum_swept region es held.1 in
          let t : sum_by F (e ∷ stored_only es) ≡ sum_by F (e ∷ es) = omega (arith, left, right, more) in t
      | false ↦ λ gone.
          let right = sum_by-cons F e es in
          let none = no_count region e.1 held.0 gone in
          let more = sum_swept region es held.1 in
          let t : sum_by F (stored_only es) ≡ sum_by F (e ∷ es) = omega (arith, right, none, more) in t
    ] refl

pub view_swept : (region : RegionView) (es : Entries) → AllHeld region es → slots_in region (stored_only es) ≡ filter (λ e. exists e.1) (slots_in region es)
view_swept region [] held = refl
view_swept region (e ∷ es) held =
    let S = slots_in region in
    elim (is_stored e.1) as (λ b. is_stored e.1 ≡ b → S (cond b (e ∷ stored_only es) (stored_only es)) ≡ filter (λ e. exists e.1) (S (e ∷ es))) [
      | true ↦ λ is. ap₂ (λ b z. cond b ((e.0, object_in region e.1) ∷ z) z) (sym is ∙ exists_is region e.1 held.0) (view_swept region es held.1)
      | false ↦ λ is. ap₂ (λ b z. cond b ((e.0, object_in region e.1) ∷ z) z) (sym is ∙ exists_is region e.1 held.0) (view_swept region es held.1)
    ] refl

pub swept_sound : (region : RegionView) (frame : ℕ) (es : Entries) → IsSound region frame es → IsStrictlySortedBy key_cmp (keys_of (stored_only es)) → IsSound region frame (stored_only es)
swept_sound region frame es sound in_order = record {
  frame_is = sound.frame_is;
  not_too_small = sound.not_too_small;
  not_too_large = sound.not_too_large;
  not_too_many = sound.not_too_many;
  held = all_filter (λ e. is_stored e.1) (λ e. IsHeld region e.1) es sound.held;
  apart = apart_filter (λ e. is_stored e.1) es sound.apart;
  in_order = in_order;
  sum = omega (arith, sum_swept region es sound.held, sound.sum);
}

-- no key below is met again
none_later : (k : Key) (es : Entries) → AllByRecursion (λ y. key_cmp k y ≡ Less) (keys_of es) → lookup (is_key k) es ≡ None
none_later k [] h = refl
none_later k (e ∷ es) h = ap (λ o. cond (is_eq o) (Some e.1) (lookup (is_key k) es)) h.0 ∙ none_later k es h.1

-- each object is as it was
pub swept_same : (region : RegionView) (key : Key) (es : Entries) → IsStrictlySortedBy key_cmp (keys_of es) → AllHeld region es → settled (slot_at (slots_in region (stored_only es)) key) ≡ settled (slot_at (slots_in region es) key)
unfolding IsStrictlySortedBy
swept_same region key [] sorted held = refl
swept_same region key (e ∷ es) sorted held =
    let S = slots_in region in
    let T = is_key key in
    let o = object_in region e.1 in
    let more : settled (slot_at (S (stored_only es)) key) ≡ settled (slot_at (S es) key) = swept_same region key es sorted.1 held.1 in
    let gone_here : is_stored e.1 ≡ false → T e.0 ≡ true → settled (slot_at (S (stored_only es)) key) ≡ settled o = λ gone here.
    let none : lookup T es ≡ None = subst (λ k. lookup (is_key k) es ≡ None) (sym (same_key key e.0 here)) (none_later e.0 es sorted.0) in
    let out : settled o ≡ nothing = ap (λ b. if b then o else nothing) (sym (exists_is region e.1 held.0) ∙ gone) in
    more ∙ (ap settled (slot_absent region es (S es) key refl none) ∙ sym out) in
    elim (is_stored e.1) as (λ b. is_stored e.1 ≡ b → settled (slot_at (S (cond b (e ∷ stored_only es) (stored_only es))) key) ≡ settled (slot_at (S (e ∷ es)) key)) [
      | true ↦ λ _.
          elim (T e.0) as (λ t. settled (unwrap_or (cond t (Some o) (lookup T (S (stored_only es)))) nothing) ≡ settled (unwrap_or (cond t (Some o) (lookup T (S es))) nothing)) [
            | true ↦ refl
            | false ↦ more
          ]
      | false ↦ λ gone.
          elim (T e.0) as (λ t. T e.0 ≡ t → settled (slot_at (S (stored_only es)) key) ≡ settled (unwrap_or (cond t (Some o) (lookup T (S es))) nothing)) [
            | true ↦ λ here. gone_here gone here
            | false ↦ λ _. more
          ] refl
    ] refl

-- the same filter once more changes nothing
pub filter_twice : {X : Type 0} (p : X → Bool) (xs : List X) → filter p (filter p xs) ≡ filter p xs
filter_twice p [] = refl
filter_twice p (x ∷ xs) =
    elim (p x) as (λ b. p x ≡ b → filter p (cond b (x ∷ filter p xs) (filter p xs)) ≡ cond b (x ∷ filter p xs) (filter p xs)) [
      | true ↦ λ is. ap (λ b. cond b (x ∷ filter p (filter p xs)) (filter p (filter p xs))) is ∙ ap (λ z. x ∷ z) (filter_twice p xs)
      | false ↦ λ _. filter_twice p xs
    ] refl

-- what is not found is not found in a part
pub absent_still : {X : Type 0} (test : Key → Bool) (p : Key × X → Bool) (es : List (Key × X)) → IsNone (lookup test es) → IsNone (lookup test (filter p es))
absent_still test p [] none = none
absent_still test p (e ∷ es) none =
    elim (test e.0) as (λ t. test e.0 ≡ t → IsNone (cond t (Some e.1) (lookup test es)) → IsNone (lookup test (cond (p e) (e ∷ filter p es) (filter p es)))) [
      | true ↦ λ _ bad. absurd (let no : true ≡ false = bad in cc)
      | false ↦ λ not_here later.
          let more = absent_still test p es later in
          elim (p e) as (λ b. IsNone (lookup test (cond b (e ∷ filter p es) (filter p es)))) [
            | true ↦ ap (λ t. is_some (cond t (Some e.1) (lookup test (filter p es)))) not_here ∙ more
            | false ↦ more
          ]
    ] refl none

-- what is found among the objects that exist does exist
found_exists : (slots : Slots) (key : Key) → settled (slot_at (filter (λ e. exists e.1) slots) key) ≡ slot_at (filter (λ e. exists e.1) slots) key
found_exists [] key = refl
found_exists (e ∷ es) key =
    let E : Key × Object → Bool = λ e. exists e.1 in
    let more = found_exists es key in
    elim (exists e.1) as (λ b. exists e.1 ≡ b → settled (slot_at (cond b (e ∷ filter E es) (filter E es)) key) ≡ slot_at (cond b (e ∷ filter E es) (filter E es)) key) [
      | true ↦ λ is.
          elim (is_key key e.0) as (λ t. settled (unwrap_or (cond t (Some e.1) (lookup (is_key key) (filter E es))) nothing) ≡ unwrap_or (cond t (Some e.1) (lookup (is_key key) (filter E es))) nothing) [
            | true ↦ ap (λ b. if b then e.1 else nothing) is
            | false ↦ more
          ]
      | false ↦ λ _. more
    ] refl

-- the list of the objects has at a key what a look-up finds
pub one_map : (region : RegionView) (frame : ℕ) (es : Entries) → IsSound region frame es → (key : Key) → settled (slot_at (slots_in region es) key) ≡ slot_at (filter (λ e. exists e.1) (slots_in region es)) key
one_map region frame es sound key =
    sym (swept_same region key es sound.in_order sound.held)
    ∙ (ap (λ z. settled (slot_at z key)) (view_swept region es sound.held) ∙ found_exists (slots_in region es) key)

all_keys : (P : Key → Type 0) (p : Key × Object → Bool) (es : Slots) → AllByRecursion P (keys_of es) → AllByRecursion P (keys_of (filter p es))
all_keys P p [] h = tt
all_keys P p (e ∷ es) h =
    elim (p e) as (λ b. AllByRecursion P (keys_of (cond b (e ∷ filter p es) (filter p es)))) [
      | true ↦ (h.0, all_keys P p es h.1)
      | false ↦ all_keys P p es h.1
    ]

sorted_filter : (p : Key × Object → Bool) (es : Slots) → IsStrictlySortedBy key_cmp (keys_of es) → IsStrictlySortedBy key_cmp (keys_of (filter p es))
unfolding IsStrictlySortedBy
sorted_filter p [] h = h
sorted_filter p (e ∷ es) h =
    elim (p e) as (λ b. IsStrictlySortedBy key_cmp (keys_of (cond b (e ∷ filter p es) (filter p es)))) [
      | true ↦ (all_keys (λ y. key_cmp e.0 y ≡ Less) p es h.0, sorted_filter p es h.1)
      | false ↦ sorted_filter p es h.1
    ]

same_keys : (region : RegionView) (es : Entries) → keys_of (slots_in region es) ≡ keys_of es
same_keys region [] = refl
same_keys region (e ∷ es) = ap (λ z. e.0 ∷ z) (same_keys region es)

pub objects_in_order : (region : RegionView) (frame : ℕ) (es : Entries) → IsSound region frame es → IsStrictlySortedBy key_cmp (keys_of (filter (λ e. exists e.1) (slots_in region es)))
objects_in_order region frame es sound = sorted_filter (λ e. exists e.1) (slots_in region es) (subst (IsStrictlySortedBy key_cmp) (sym (same_keys region es)) sound.in_order)
