-- A head changes: the bundle that it named goes to the actor, and the one that the actor made comes to the head.
use Rattle.std.proofs.Common.{◌≡◌, ℕ, ◌+◌, ◌-◌, ◌<◌, ◌≤◌, ◌⊎◌, inl, inr, ◌==◌, true, false, cond, List, length, get_or, Option, Some, None, refl, sym, ◌∙◌, ap, subst, arith}
use Rattle.std.specs.Prelude.{IfSome}
use Rattle.std.proofs.lemmas.Bool.Decides.{nat_tests}
use Rattle.std.proofs.lemmas.List.FromFn.{get_or-map-range_with_len, length-map-range_with_len}
use Rattle.std.proofs.lemmas.Slice.Eq.{bytes_eq-Decides}
use Rattle.rgw_types.specs.declared.pool_key.Key.{Key}
use Rattle.rgw_types.specs.declared.stamp.Stamp.{Stamp}
use Rattle.rgw_types.specs.Stripes.{ManifestView, tails_of}
use Rattle.manifest.specs.Ranges.{part_size}
use Rattle.object_words.specs.declared.head.NewHead.{NewHead}
use Rattle.object_words.specs.declared.head.SeenSlot.{SeenSlot}
use Rattle.object_words.specs.declared.head.SeenSlot.TheVariants.{Nothing, Live, Mark}
use Rattle.object_words.specs.Keys.{head_key}
use Rattle.object_words.specs.Heads.{Head}
use Rattle.realm_model.specs.States.{put_in}
use Rattle.realm_model.specs.Phases.{ActorId, Bundle, unused, opened, spent}
use Rattle.realm_model.specs.Needs.{tail_sizes, has_sizes, holder_of}
use Rattle.realm_model.specs.Learnt.{put_bundle, with_old}
use Rattle.realm_model.specs.Facts.{Place, making, in_head, replaced, Ledger}
use Rattle.realm_model.specs.Maps.{Made}
use Rattle.realm_model.specs.Worlds.{moved_to, tailed}
use Rattle.realm_model.proofs.ObjectLemmas.{put_bundle_cases, put_in_cases}
use Rattle.stripe_law.specs.Sizes.{IsOfSize, IsSized, IfLive}
use Rattle.stripe_law.specs.Ids.{IsBy, OwnHolders}
use Rattle.stripe_law.specs.Makers.{no_ledger}
use Rattle.stripe_law.specs.OpenBundles.{OpenAt, SizesAt}
use Rattle.stripe_law.specs.HeadSizes.{HeadSizes}
use Rattle.stripe_law.specs.Named.{Named}
use Rattle.stripe_law.specs.Olds.{IsReplaced, OldsAt}
use Rattle.stripe_law.proofs.Puts.{put_bundle_both, put_bundle_here, put_in_apart}
use Rattle.stripe_law.proofs.Knowing.{if_some_more, olds_more}

pub moved_cases : (R : ℕ → ℕ → ℕ → Ledger → Type 0) (ledger : ℕ → ℕ → ℕ → Ledger) (zone : ℕ) (m : Option ManifestView) (place : Place)
    → IfSome m (λ m. R zone m.write (holder_of m) (record (ledger zone m.write (holder_of m)) { place = place }))
    → ((z w h : ℕ) → R z w h (ledger z w h)) → (z w h : ℕ) → R z w h (moved_to ledger zone m place z w h)
moved_cases R ledger zone None place here else = else
moved_cases R ledger zone (Some m) place here else = put_bundle_cases R ledger zone m.write (holder_of m) (record (ledger zone m.write (holder_of m)) { place = place }) here else

-- the bundle of a manifest is spent, where there is one
abbrev pub spends : (ℕ → ℕ → ℕ → Bundle) → ℕ → Option ManifestView → ℕ → ℕ → ℕ → Bundle
spends own zone None = own
spends own zone (Some m) = put_bundle own zone m.write (holder_of m) spent

pub own_spends : (own : ℕ → ℕ → ℕ → Bundle) (zone : ℕ) (m : ManifestView) → spends own zone (tailed m) ≡ cond (tails_of m == 0) own (put_bundle own zone m.write (holder_of m) spent)
own_spends own zone m =
    elim (tails_of m == 0) as (λ b. spends own zone (cond b None (Some m)) ≡ cond b own (put_bundle own zone m.write (holder_of m) spent)) [
      | true ↦ refl
      | false ↦ refl
    ]

pub tailed_is : (m : ManifestView) → 1 ≤ tails_of m → tailed m ≡ Some m
tailed_is m some =
    elim (tails_of m == 0) as (λ b. (tails_of m == 0) ≡ b → cond b None (Some m) ≡ Some m) [
      | true ↦ λ none. let zero : tails_of m ≡ 0 = grind (arith, nat_tests) in absurd (omega (arith, zero, some))
      | false ↦ λ some. refl
    ] refl

pub if_live_more : (P Q : NewHead → Type 0) (slot : SeenSlot) → ((x : NewHead) → P x → Q x) → IfLive slot P → IfLive slot Q
if_live_more P Q Nothing more is = tt
if_live_more P Q (Live x stamp) more is = more x is
if_live_more P Q (Mark stamp) more is = tt

old_cases : (R : ℕ → ℕ → ℕ → Option ManifestView → Type 0) (olds : ℕ → ℕ → ℕ → Option ManifestView) (zone : ℕ) (old : Option ManifestView)
    → IfSome old (λ m. R zone m.write (holder_of m) (Some m)) → ((z w h : ℕ) → R z w h (olds z w h)) → (z w h : ℕ) → R z w h (with_old olds zone old z w h)
old_cases R olds zone None here else = else
old_cases R olds zone (Some m) here else = put_bundle_cases R olds zone m.write (holder_of m) (Some m) here else

spent_cases : (R : ℕ → ℕ → ℕ → Bundle → Type 0) (own : ℕ → ℕ → ℕ → Bundle) (zone : ℕ) (new : Option ManifestView)
    → IfSome new (λ m. R zone m.write (holder_of m) spent) → ((z w h : ℕ) → R z w h (own z w h)) → (z w h : ℕ) → R z w h (spends own zone new z w h)
spent_cases R own zone None here else = else
spent_cases R own zone (Some m) here else = put_bundle_cases R own zone m.write (holder_of m) spent here else

any_some : {A : Type 0} (P : A → Type 0) (o : Option A) → ((x : A) → P x) → IfSome o P
any_some P None is = tt
any_some P (Some x) is = is x

-- the tails of a manifest are at one place, all of them
abbrev pub IsAllAt : (ℕ → ℕ → ℕ → Ledger) → ℕ → Place → ManifestView → Type 0
IsAllAt ledger zone place m = ledger zone m.write (holder_of m) ≡ record { count = tails_of m; place = place }

moved_count : (ledger : ℕ → ℕ → ℕ → Ledger) (zone : ℕ) (m : Option ManifestView) (place : Place) (z w h : ℕ) → (moved_to ledger zone m place z w h).count ≡ (ledger z w h).count
moved_count ledger zone m place =
    moved_cases (λ z w h x. x.count ≡ (ledger z w h).count) ledger zone m place
    (any_some (λ (m : ManifestView). (ledger zone m.write (holder_of m)).count ≡ (ledger zone m.write (holder_of m)).count) m (λ m. refl)) (λ z w h. refl)

-- ---- what the actor knows of its bundles

pub fewer_unused : (own : ℕ → ℕ → ℕ → Bundle) (zone : ℕ) (new : Option ManifestView) (z w h : ℕ) → spends own zone new z w h ≡ unused → own z w h ≡ unused
fewer_unused own zone new =
    spent_cases (λ z w h b. b ≡ unused → own z w h ≡ unused) own zone new
    (any_some (λ (m : ManifestView). spent ≡ unused → own zone m.write (holder_of m) ≡ unused) new (λ m is. cc)) (λ z w h is. is)

pub sizes_stay : (own : ℕ → ℕ → ℕ → Bundle) (made : Made) (zone : ℕ) (new : Option ManifestView) → SizesAt own made → SizesAt (spends own zone new) made
sizes_stay own made zone new sizes_are =
    spent_cases (λ z w h b. (sizes : List ℕ) → b ≡ opened sizes → (i : ℕ) → i < length sizes → IsOfSize (made z w (i + 1)) (get_or sizes i 0)) own zone new
    (any_some (λ (m : ManifestView). (sizes : List ℕ) → spent ≡ opened sizes → (i : ℕ) → i < length sizes → IsOfSize (made zone m.write (i + 1)) (get_or sizes i 0)) new (λ m sizes is i low. cc)) sizes_are

pub holders_stay : (by : ℕ → ActorId) (count : ℕ) (actor : ActorId) (own : ℕ → ℕ → ℕ → Bundle) (zone : ℕ) (new : Option ManifestView) → IfSome new (λ m. IsBy by count actor (holder_of m)) → OwnHolders by count actor own → OwnHolders by count actor (spends own zone new)
holders_stay by count actor own zone new is holders =
    spent_cases (λ z w h b. (b ≡ unused) ⊎ IsBy by count actor h) own zone new
    (if_some_more (λ (m : ManifestView). IsBy by count actor (holder_of m)) (λ m. (spent ≡ unused) ⊎ IsBy by count actor (holder_of m)) new (λ m at. inr at) is) holders

-- ---- a bundle with the sizes of a manifest

has_sizes_is : (b : Bundle) (sizes : List ℕ) → has_sizes b sizes ≡ true → b ≡ opened sizes
has_sizes_is unused sizes has = cc
has_sizes_is (opened made) sizes has = ap (λ s. opened s) ((bytes_eq-Decides made sizes).0 has)
has_sizes_is spent sizes has = cc

module _ (own : ℕ → ℕ → ℕ → Bundle) (zone : ℕ) (m : ManifestView) (has : has_sizes (own zone m.write (holder_of m)) (tail_sizes m) ≡ true) where
  bundle_is : own zone m.write (holder_of m) ≡ opened (tail_sizes m)
  bundle_is = has_sizes_is (own zone m.write (holder_of m)) (tail_sizes m) has

  pub all_made : (ledger : ℕ → ℕ → ℕ → Ledger) (actor : ActorId) → OpenAt actor own ledger → IsAllAt ledger zone (making actor) m
  all_made ledger actor opens =
      let whole : length (tail_sizes m) ≡ tails_of m = length-map-range_with_len (part_size m) 1 (tails_of m) in
      opens zone m.write (holder_of m) (tail_sizes m) bundle_is ∙ (λ i. record { count = whole i; place = making actor })

  pub all_sized : (made : Made) → SizesAt own made → IsSized made zone m
  all_sized made sizes_are part low high =
      let whole : length (tail_sizes m) ≡ tails_of m = length-map-range_with_len (part_size m) 1 (tails_of m) in
      let number : (part - 1) + 1 ≡ part = omega (arith, low) in
      let at = sizes_are zone m.write (holder_of m) (tail_sizes m) bundle_is (part - 1) (omega (arith, low, high, whole)) in
      let size = get_or-map-range_with_len (part_size m) 1 (tails_of m) (part - 1) part 0 (omega (arith, low, high)) (omega (arith, low)) in
      subst (λ n. IsOfSize (made zone m.write part) n) size
      (subst (λ p. IsOfSize (made zone m.write p) (get_or (tail_sizes m) (part - 1) 0)) number at)

  pub holder_own : (by : ℕ → ActorId) (count : ℕ) (actor : ActorId) → OwnHolders by count actor own → IsBy by count actor (holder_of m)
  holder_own by count actor holders =
      elim (holders zone m.write (holder_of m)) [
        | inl none ↦ let bad : unused ≡ opened (tail_sizes m) = sym none ∙ bundle_is in absurd cc
        | inr is ↦ is
      ]

-- `old` is the manifest that the head at the name had, and `new` the one that it gets, each where it has tails
module _ (ledger : ℕ → ℕ → ℕ → Ledger) (actor : ActorId) (zone container : ℕ) (name : List ℕ) (old new : Option ManifestView)
    (was : IfSome old (λ m. (1 ≤ tails_of m) × IsAllAt ledger zone (in_head container name) m))
    (mine : IfSome new (IsAllAt ledger zone (making actor))) where
  abbrev before : ℕ → ℕ → ℕ → Ledger
  before = moved_to ledger zone old (replaced actor)

  abbrev pub after : ℕ → ℕ → ℕ → Ledger
  after = moved_to (moved_to ledger zone old (replaced actor)) zone new (in_head container name)

  -- a place that is not this head's is not that of the old bundle
  kept_before : (l : Ledger) (z w h : ℕ) → (zone ≡ z → l.place ≡ in_head container name → ⊥) → ledger z w h ≡ l → before z w h ≡ l
  kept_before l z w h other =
      moved_cases (λ q w h x. (zone ≡ q → l.place ≡ in_head container name → ⊥) → ledger q w h ≡ l → x ≡ l) ledger zone old (replaced actor)
      (if_some_more (λ (m : ManifestView). (1 ≤ tails_of m) × IsAllAt ledger zone (in_head container name) m) (λ m. (zone ≡ zone → l.place ≡ in_head container name → ⊥) → ledger zone m.write (holder_of m) ≡ l → record (ledger zone m.write (holder_of m)) { place = replaced actor } ≡ l) old
      (λ m at apart is. absurd (apart refl (ap (λ (x : Ledger). x.place) (sym is ∙ at.1)))) was)
      (λ z w h apart is. is) z w h other

  still_mine : IfSome new (IsAllAt before zone (making actor))
  still_mine =
      if_some_more (IsAllAt ledger zone (making actor)) (IsAllAt before zone (making actor)) new
      (λ m is. kept_before (record { count = tails_of m; place = making actor }) zone m.write (holder_of m) (λ same place. cc) is) mine

  -- nor is one that the actor doesn't make that of the new one
  kept_after : (l : Ledger) (z w h : ℕ) → (l.place ≡ making actor → ⊥) → before z w h ≡ l → after z w h ≡ l
  kept_after l z w h other =
      moved_cases (λ q w h x. before q w h ≡ l → x ≡ l) before zone new (in_head container name)
      (if_some_more (IsAllAt before zone (making actor)) (λ m. before zone m.write (holder_of m) ≡ l → record (before zone m.write (holder_of m)) { place = in_head container name } ≡ l) new
      (λ m at is. absurd (other (ap (λ (x : Ledger). x.place) (sym is ∙ at)))) still_mine)
      (λ z w h is. is) z w h

  pub kept_place : (l : Ledger) (z w h : ℕ) → (zone ≡ z → l.place ≡ in_head container name → ⊥) → (l.place ≡ making actor → ⊥) → ledger z w h ≡ l → after z w h ≡ l
  kept_place l z w h apart other is = kept_after l z w h other (kept_before l z w h apart is)

  pub now_named : IfSome new (IsAllAt after zone (in_head container name))
  now_named = at new still_mine where
    at : (new : Option ManifestView) → IfSome new (IsAllAt before zone (making actor)) → IfSome new (IsAllAt (moved_to before zone new (in_head container name)) zone (in_head container name))
    at None is = tt
    at (Some m) is =
        put_bundle_here before zone m.write (holder_of m) _
        ∙ ap (λ (x : Ledger). record x { place = in_head container name }) is

  now_replaced : IfSome old (λ m. (1 ≤ tails_of m) × IsAllAt before zone (replaced actor) m)
  now_replaced = at old was where
    at : (old : Option ManifestView) → IfSome old (λ m. (1 ≤ tails_of m) × IsAllAt ledger zone (in_head container name) m) → IfSome old (λ m. (1 ≤ tails_of m) × IsAllAt (moved_to ledger zone old (replaced actor)) zone (replaced actor) m)
    at None is = tt
    at (Some m) is = (is.0, put_bundle_here ledger zone m.write (holder_of m) _ ∙ ap (λ (x : Ledger). record x { place = replaced actor }) is.1)

  -- how many tails were made stays
  pub counts_same : (z w h : ℕ) → (after z w h).count ≡ (ledger z w h).count
  counts_same z w h = moved_count before zone new (in_head container name) z w h ∙ moved_count ledger zone old (replaced actor) z w h

  -- ---- parts

  pub named_next : (heads : ℕ → Key → Head) (version : ℕ) (content : NewHead) (stamp : Stamp) → new ≡ tailed content.manifest → Named heads ledger → Named (put_in heads zone (head_key container name) (record { version = version; slot = Live content stamp })) after
  named_next heads version content stamp is named z c n =
      put_in_apart (λ z k head. (c : ℕ) (n : List ℕ) → k ≡ head_key c n → IfLive head.slot (λ x. 1 ≤ tails_of x.manifest → IsAllAt after z (in_head c n) x.manifest)) heads zone (head_key container name) (record { version = version; slot = Live content stamp })
      (λ c n same some.
      let now : IsAllAt after zone (in_head container name) content.manifest = subst (λ o. IfSome o (IsAllAt after zone (in_head container name))) (is ∙ tailed_is content.manifest some) now_named in
      let place : in_head container name ≡ in_head c n = cc in
      now ∙ (λ i. record { count = tails_of content.manifest; place = place i }))
      (λ z k apart c n same.
      subst (λ q. IfLive (heads z q).slot (λ x. 1 ≤ tails_of x.manifest → IsAllAt after z (in_head c n) x.manifest)) (sym same)
      (if_live_more (λ x. 1 ≤ tails_of x.manifest → IsAllAt ledger z (in_head c n) x.manifest) (λ x. 1 ≤ tails_of x.manifest → IsAllAt after z (in_head c n) x.manifest) (heads z (head_key c n)).slot
      (λ x at some. kept_place (record { count = tails_of x.manifest; place = in_head c n }) z x.manifest.write (holder_of x.manifest) (λ one place. apart one cc) (λ place. cc) (at some)) (named z c n)))
      z (head_key c n) c n refl

  pub olds_other : (a : ActorId) (olds : ℕ → ℕ → ℕ → Option ManifestView) → OldsAt a olds ledger → OldsAt a olds after
  olds_other a olds = olds_more a olds ledger after (λ z w h n. kept_place (record { count = n; place = replaced a }) z w h (λ one place. cc) (λ place. cc))

  pub olds_own : (olds : ℕ → ℕ → ℕ → Option ManifestView) → OldsAt actor olds ledger → OldsAt actor (with_old olds zone old) after
  olds_own olds are =
      old_cases (λ z w h o. IfSome o (λ m. IsReplaced actor w h m (after z w h))) olds zone old
      (if_some_more (λ (m : ManifestView). (1 ≤ tails_of m) × IsAllAt before zone (replaced actor) m) (λ m. IsReplaced actor m.write (holder_of m) m (after zone m.write (holder_of m))) old
      (λ m is. record {
        of_write = refl;
        of_holder = refl;
        has_tails = is.0;
        place = kept_after (record { count = tails_of m; place = replaced actor }) zone m.write (holder_of m) (λ place. cc) is.1;
      }) now_replaced)
      (olds_other actor olds are)

  open_before : (own : ℕ → ℕ → ℕ → Bundle) → OpenAt actor own ledger → OpenAt actor own before
  open_before own opens z w h sizes is = kept_before (record { count = length sizes; place = making actor }) z w h (λ one place. cc) (opens z w h sizes is)

  pub open_own : (own : ℕ → ℕ → ℕ → Bundle) → OpenAt actor own ledger → OpenAt actor (spends own zone new) after
  open_own own opens = at new (open_before own opens) where
    at : (new : Option ManifestView) → OpenAt actor own before → OpenAt actor (spends own zone new) (moved_to before zone new (in_head container name))
    at None is = is
    at (Some m) is =
        put_bundle_both (λ z w h o x. (sizes : List ℕ) → o ≡ opened sizes → x ≡ record { count = length sizes; place = making actor }) own before zone m.write (holder_of m) spent (record (before zone m.write (holder_of m)) { place = in_head container name })
        (λ sizes bad. cc) is

  pub open_other : (a : ActorId) (own : ℕ → ℕ → ℕ → Bundle) → (a ≡ actor → ⊥) → OpenAt a own ledger → OpenAt a own after
  open_other a own apart opens z w h sizes is =
      kept_place (record { count = length sizes; place = making a }) z w h (λ one place. cc) (λ place. apart cc) (opens z w h sizes is)

  pub makers_kept : (z w h : ℕ) → ledger z w h ≡ no_ledger → after z w h ≡ no_ledger
  makers_kept z w h is = kept_place no_ledger z w h (λ one place. cc) (λ place. cc) is

pub head_sizes_next : (heads : ℕ → Key → Head) (made : Made) (zone : ℕ) (key : Key) (version : ℕ) (content : NewHead) (stamp : Stamp) → length content.first ≡ part_size content.manifest 0 → IsSized made zone content.manifest → HeadSizes heads made → HeadSizes (put_in heads zone key (record { version = version; slot = Live content stamp })) made
head_sizes_next heads made zone key version content stamp first sized are =
    put_in_cases (λ z k head. IfLive head.slot (λ x. (length x.first ≡ part_size x.manifest 0) × IsSized made z x.manifest)) heads zone key (record { version = version; slot = Live content stamp })
    (first, sized) are
