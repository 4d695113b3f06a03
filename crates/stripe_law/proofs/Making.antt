-- A tail is made: the next part of a bundle that is nowhere, or is being made by this actor.
use Rattle.std.proofs.Common.{◌≡◌, ℕ, ◌+◌, ◌<◌, ◌≤◌, ◌⊎◌, inl, inr, ◌==◌, true, false, List, [], ◌∷◌, ◌++◌, length, get_or, length-append, Option, Some, None, refl, sym, ◌∙◌, ap, subst, arith}
use Rattle.std.specs.Prelude.{IfSome, is_some}
use Rattle.std.proofs.lemmas.List.{get_or_append_left, get_or-append-add}
use Rattle.std.proofs.lemmas.Bool.Decides.{nat_tests}
use Rattle.rgw_types.specs.Stripes.{ManifestView}
use Rattle.realm_model.specs.Phases.{ActorId, Bundle, unused, opened, spent}
use Rattle.realm_model.specs.Needs.{is_next_part}
use Rattle.realm_model.specs.Learnt.{put_bundle, with_part}
use Rattle.realm_model.specs.Facts.{Place, nowhere, making, replaced, Ledger}
use Rattle.realm_model.specs.Maps.{Made}
use Rattle.realm_model.specs.Worlds.{counted_part}
use Rattle.realm_model.proofs.ObjectLemmas.{number_same, put_bundle_cases}
use Rattle.stripe_law.specs.Sizes.{IsOfSize}
use Rattle.stripe_law.specs.Makers.{no_ledger}
use Rattle.stripe_law.specs.OpenBundles.{OpenAt, SizesAt}
use Rattle.stripe_law.specs.Olds.{OldsAt}
use Rattle.stripe_law.specs.MadeOnce.{MadeOnce, MadeAll}
use Rattle.stripe_law.proofs.Puts.{put_bundle_both, put_bundle_here}
use Rattle.stripe_law.proofs.Knowing.{if_some_more, olds_more}

-- ---- the part that may be made

-- the tails that were made of the bundle have these sizes, and the part comes next
pub record IsFresh (own : Bundle) (l : Ledger) (actor : ActorId) (part : ℕ) : Type 0 where
  pub sizes : List ℕ
  pub counted : l.count ≡ length sizes
  pub next : part ≡ length sizes + 1
  pub grown : (size : ℕ) → with_part own size ≡ opened (sizes ++ size ∷ [])
  pub at_maker : (l.place ≡ nowhere) ⊎ (l.place ≡ making actor)
  pub was : (sizes ≡ []) ⊎ (own ≡ opened sizes)

pub fresh_part : (own : Bundle) (l : Ledger) (actor : ActorId) (part : ℕ) → is_next_part own part ≡ true
    → (own ≡ unused → l ≡ no_ledger) → ((sizes : List ℕ) → own ≡ opened sizes → l ≡ record { count = length sizes; place = making actor }) → IsFresh own l actor part
fresh_part unused l actor part next none opens = record {
  sizes = [];
  counted = ap (λ x. x.count) (none refl);
  next = number_same part 1 next;
  grown = λ size. refl;
  at_maker = inl (ap (λ x. x.place) (none refl));
  was = inl refl;
}
fresh_part (opened sizes) l actor part next none opens = record {
  sizes = sizes;
  counted = ap (λ x. x.count) (opens sizes refl);
  next = number_same part (length sizes + 1) next;
  grown = λ size. refl;
  at_maker = inr (ap (λ x. x.place) (opens sizes refl));
  was = inr refl;
}
fresh_part spent l actor part next none opens = cc

counted_from : (actor : ActorId) (part count : ℕ) (place : Place) → (place ≡ nowhere) ⊎ (place ≡ making actor) → counted_part (record { count = count; place = place }) actor part ≡ record { count = part; place = making actor }
counted_from actor part count place (inl is) = rw is refl
counted_from actor part count place (inr is) = rw is refl

pub counted_is : (own : Bundle) (l : Ledger) (actor : ActorId) (part : ℕ) → IsFresh own l actor part → counted_part l actor part ≡ record { count = part; place = making actor }
counted_is own l actor part f = counted_from actor part l.count l.place f.at_maker

-- ---- one tail more

below : (p part count : ℕ) → (p == part) ≡ false → p ≤ part → part ≡ count + 1 → p ≤ count
below p part count apart high is = grind (arith, nat_tests)

under : (i n : ℕ) → (i == n) ≡ false → i < n + 1 → i < n
under i n apart low = grind (arith, nat_tests)

module _ (ledger : ℕ → ℕ → ℕ → Ledger) (made : Made) (own : ℕ → ℕ → ℕ → Bundle) (actor : ActorId) (zone write part : ℕ) (bytes : List ℕ) (fresh : IsFresh (own zone write write) (ledger zone write write) actor part) where
  -- the ledger, and what was made, with the tail
  abbrev after : ℕ → ℕ → ℕ → Ledger
  after = put_bundle ledger zone write write (counted_part (ledger zone write write) actor part)

  abbrev now_made : Made
  now_made = put_bundle made zone write part (Some bytes)

  -- another place is not that of the bundle
  pub kept_place : (l : Ledger) → (l.place ≡ nowhere → ⊥) → (l.place ≡ making actor → ⊥) → (z w h : ℕ) → ledger z w h ≡ l → after z w h ≡ l
  kept_place l apart other =
      put_bundle_cases (λ z w h x. ledger z w h ≡ l → x ≡ l) ledger zone write write (counted_part (ledger zone write write) actor part)
      (λ was. let place = ap (λ (x : Ledger). x.place) was in absurd (elim (fresh.at_maker) [
        | inl is ↦ apart (sym place ∙ is)
        | inr is ↦ other (sym place ∙ is)
      ]))
      (λ z w h is. is)

  counts_rise : (z w h : ℕ) → (ledger z w h).count ≤ (after z w h).count
  counts_rise =
      put_bundle_cases (λ z w h x. (ledger z w h).count ≤ x.count) ledger zone write write (counted_part (ledger zone write write) actor part)
      (let is = ap (λ (x : Ledger). x.count) (counted_is (own zone write write) (ledger zone write write) actor part fresh) in
      let one = fresh.counted in
      let two = fresh.next in
      omega (arith, is, one, two))
      (λ z w h. omega arith)

  -- the part was not made
  pub unmade : MadeOnce made ledger → made zone write part ≡ None
  unmade once =
      elim (made zone write part) as (λ o. IfSome o (λ b. (1 ≤ part) × ((part ≤ (ledger zone write write).count) × (1 ≤ length b))) → o ≡ None) [
        | None ↦ λ is. refl
        | Some b ↦ λ is.
            let one = fresh.counted in
            let two = fresh.next in
            let three = is.1.0 in
            absurd (omega (arith, one, two, three))
      ] (once zone write part)

  pub sizes_stay : made zone write part ≡ None → (z w p size : ℕ) → IsOfSize (made z w p) size → IsOfSize (now_made z w p) size
  sizes_stay none z w p size =
      put_bundle_cases (λ z w p o. IsOfSize (made z w p) size → IsOfSize o size) made zone write part (Some bytes)
      (λ was. absurd (subst (λ o. IsOfSize o size) none was)) (λ z w p is. is) z w p

  pub made_once_next : 1 ≤ length bytes → MadeOnce made ledger → MadeOnce now_made after
  made_once_next some once =
      put_bundle_cases (λ z w p o. IfSome o (λ b. (1 ≤ p) × ((p ≤ (after z w w).count) × (1 ≤ length b)))) made zone write part (Some bytes)
      (let here = ap (λ (x : Ledger). x.count) (put_bundle_here ledger zone write write (counted_part (ledger zone write write) actor part) ∙ counted_is (own zone write write) (ledger zone write write) actor part fresh) in
      let two = fresh.next in
      (omega (arith, two), (omega (arith, here), some)))
      (λ z w p. if_some_more (λ (b : List ℕ). (1 ≤ p) × ((p ≤ (ledger z w w).count) × (1 ≤ length b))) (λ b. (1 ≤ p) × ((p ≤ (after z w w).count) × (1 ≤ length b))) (made z w p)
      (λ b is. let more = counts_rise z w w in let low = is.1.0 in (is.0, (omega (arith, more, low), is.1.1))) (once z w p))

  still_made : (z w p : ℕ) → is_some (made z w p) ≡ true → is_some (now_made z w p) ≡ true
  still_made = put_bundle_cases (λ z w p o. is_some (made z w p) ≡ true → is_some o ≡ true) made zone write part (Some bytes) (λ was. refl) (λ z w p is. is)

  pub made_all_next : MadeAll made ledger → MadeAll now_made after
  made_all_next all z w p low =
      put_bundle_cases (λ z w h x. h ≡ w → p ≤ x.count → is_some (now_made z w p) ≡ true) ledger zone write write (counted_part (ledger zone write write) actor part)
      (λ same high.
      let is = ap (λ (x : Ledger). x.count) (counted_is (own zone write write) (ledger zone write write) actor part fresh) in
      let one = fresh.counted in
      let two = fresh.next in
      elim (p == part) as (λ b. (p == part) ≡ b → is_some (now_made zone write p) ≡ true) [
        | true ↦ λ at. subst (λ q. is_some (now_made zone write q) ≡ true) (sym (number_same p part at)) (ap is_some (put_bundle_here made zone write part (Some bytes)))
        | false ↦ λ apart. still_made zone write p (all zone write p low (below p part (ledger zone write write).count apart (omega (arith, high, is)) (omega (arith, one, two))))
      ] refl)
      (λ z w h same high. still_made z w p (all z w p low (subst (λ q. p ≤ (ledger z w q).count) same high))) z w w refl

  -- ---- opens bundles

  pub open_own : OpenAt actor own ledger → OpenAt actor (put_bundle own zone write write (with_part (own zone write write) (length bytes))) after
  open_own opens =
      put_bundle_both (λ z w h o x. (sizes : List ℕ) → o ≡ opened sizes → x ≡ record { count = length sizes; place = making actor }) own ledger zone write write (with_part (own zone write write) (length bytes)) (counted_part (ledger zone write write) actor part)
      (λ sizes is.
      let same : opened (fresh.sizes ++ length bytes ∷ []) ≡ opened sizes = sym (fresh.grown (length bytes)) ∙ is in
      let list : fresh.sizes ++ length bytes ∷ [] ≡ sizes = cc in
      let more = length-append fresh.sizes (length bytes ∷ []) in
      let two = fresh.next in
      let whole : part ≡ length sizes = omega (arith, two, more, ap length list) in
      counted_is (own zone write write) (ledger zone write write) actor part fresh ∙ (λ i. record { count = whole i; place = making actor }))
      (λ z w h. opens z w h)

  pub open_other : (a : ActorId) (theirs : ℕ → ℕ → ℕ → Bundle) → (a ≡ actor → ⊥) → OpenAt a theirs ledger → OpenAt a theirs after
  open_other a theirs other opens z w h sizes is =
      kept_place (record { count = length sizes; place = making a }) (λ none. cc) (λ same. other cc) z w h (opens z w h sizes is)

  pub sizes_own : made zone write part ≡ None → SizesAt own made → SizesAt (put_bundle own zone write write (with_part (own zone write write) (length bytes))) now_made
  sizes_own none sizes_are =
      put_bundle_cases (λ z w h o. (sizes : List ℕ) → o ≡ opened sizes → (i : ℕ) → i < length sizes → IsOfSize (now_made z w (i + 1)) (get_or sizes i 0)) own zone write write (with_part (own zone write write) (length bytes))
      (λ sizes is i low.
      let same : opened (fresh.sizes ++ length bytes ∷ []) ≡ opened sizes = sym (fresh.grown (length bytes)) ∙ is in
      let list : fresh.sizes ++ length bytes ∷ [] ≡ sizes = cc in
      subst (λ s. IsOfSize (now_made zone write (i + 1)) (get_or s i 0)) list
      (at_size i (subst (λ s. i < length s) (sym list) low)))
      (λ z w h sizes is i low. sizes_stay none z w (i + 1) (get_or sizes i 0) (sizes_are z w h sizes is i low))
    where
      at_size : (i : ℕ) → i < length (fresh.sizes ++ length bytes ∷ []) → IsOfSize (now_made zone write (i + 1)) (get_or (fresh.sizes ++ length bytes ∷ []) i 0)
      at_size i low =
          elim (i == length fresh.sizes) as (λ b. (i == length fresh.sizes) ≡ b → IsOfSize (now_made zone write (i + 1)) (get_or (fresh.sizes ++ length bytes ∷ []) i 0)) [
            | true ↦ λ at.
                let is = number_same i (length fresh.sizes) at in
                let place : i ≡ length fresh.sizes + 0 = omega (arith, is) in
                let two = fresh.next in
                let number : part ≡ i + 1 = omega (arith, place, two) in
                let size : length bytes ≡ get_or (fresh.sizes ++ length bytes ∷ []) i 0 = sym (ap (λ n. get_or (fresh.sizes ++ length bytes ∷ []) n 0) place ∙ get_or-append-add fresh.sizes (length bytes ∷ []) 0 0) in
                subst (λ q. IsOfSize (now_made zone write q) (get_or (fresh.sizes ++ length bytes ∷ []) i 0)) number
                (subst (λ o. IsOfSize o (get_or (fresh.sizes ++ length bytes ∷ []) i 0)) (sym (put_bundle_here made zone write part (Some bytes))) size)
            | false ↦ λ apart.
                let more = length-append fresh.sizes (length bytes ∷ []) in
                let lower : i < length fresh.sizes = under i (length fresh.sizes) apart (omega (arith, low, more)) in
                subst (λ size. IsOfSize (now_made zone write (i + 1)) size) (sym (get_or_append_left fresh.sizes (length bytes ∷ []) 0 i lower))
                (sizes_stay none zone write (i + 1) (get_or fresh.sizes i 0) (elim (fresh.was) [
                  | inl empty ↦ absurd (omega (arith, lower, ap length empty))
                  | inr is ↦ sizes_are zone write write fresh.sizes is i lower
                ]))
          ] refl

  pub sizes_other : made zone write part ≡ None → (theirs : ℕ → ℕ → ℕ → Bundle) → SizesAt theirs made → SizesAt theirs now_made
  sizes_other none theirs sizes_are z w h sizes is i low = sizes_stay none z w (i + 1) (get_or sizes i 0) (sizes_are z w h sizes is i low)

  pub olds_kept : (a : ActorId) (olds : ℕ → ℕ → ℕ → Option ManifestView) → OldsAt a olds ledger → OldsAt a olds after
  olds_kept a olds = olds_more a olds ledger after (λ z w h n. kept_place (record { count = n; place = replaced a }) (λ none. cc) (λ mine. cc) z w h)
