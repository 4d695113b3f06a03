-- That no two texts are the same.
use Rattle.std.proofs.Common.{◌≡◌, ℕ, ◌+◌, ◌<◌, ◌||◌, List, [], ◌∷◌, ◌++◌, length, map, take, drop, get_or, Bool, true, false, cond, not, Bor, refl, sym, ap, ◌∙◌, subst, bytes_eq}
use Rattle.std.specs.Ordering.{nat_cmp}
use Rattle.std.specs.declared.cmp.Ordering.{Ordering}
use Rattle.std.specs.Cmp.Lexicographic.{slice_cmp, nat_list_eq_equiv}
use Rattle.std.specs.List.{IsDistinct, AllByRecursion, list_any}
use Rattle.std.specs.BTreeMap.{is_at}
use Rattle.std.specs.BTreeSet.{BTreeSet, contains, Updates}
use Rattle.std.proofs.lemmas.List.{take_more, drop_more, take-append-drop, map_push, map-append}
use Rattle.std.proofs.lemmas.Bool.{false≢true}
use Rattle.std.proofs.lemmas.List.Folds.{list_any-append}
use Rattle.std.proofs.lemmas.Map.Keys.{IsDistinct-push, IsDistinct-head, IsDistinct-tail}
use Rattle.std.proofs.lemmas.Map.Text.{is_eq-slice_cmp}

-- the texts that references show
abbrev pub texts_at : List (Bor (List ℕ)) → List (List ℕ)
texts_at refs = map (λ (r : Bor (List ℕ)). r.now) refs

-- the order of references by their texts
abbrev pub ref_cmp : Bor (List ℕ) → Bor (List ℕ) → Ordering
ref_cmp x y = slice_cmp nat_cmp x.now y.now

-- no two of the texts are the same, and the set has them all
pub record AreSeen (texts : List (List ℕ)) (seen : BTreeSet (Bor (List ℕ))) : Type 0 where
  pub differ : IsDistinct bytes_eq texts
  pub kept : (q : Bor (List ℕ)) → contains ref_cmp seen q ≡ list_any (bytes_eq q.now) texts

either_way : (a b : Bool) → cond a true b ≡ (b || (a || false))
either_way true true = refl
either_way true false = refl
either_way false true = refl
either_way false false = refl

symm : (x y : List ℕ) → bytes_eq x y ≡ bytes_eq y x
symm x y = nat_list_eq_equiv.symm x y

-- one text more, which the set did not have
pub seen_more : (texts : List (List ℕ)) (seen next : BTreeSet (Bor (List ℕ))) (text : Bor (List ℕ)) → AreSeen texts seen → contains ref_cmp seen text ≡ false
    → Updates ref_cmp seen next text true → AreSeen (texts ++ text.now ∷ []) next
seen_more texts seen next text so_far new step = record {
  differ = IsDistinct-push nat_list_eq_equiv texts text.now so_far.differ (sym (so_far.kept text) ∙ new);
  kept = λ q.
      step.0 q ∙ (ap (λ b. cond b true (contains ref_cmp seen q)) (is_eq-slice_cmp text.now q.now ∙ symm text.now q.now)
      ∙ (ap (λ b. cond (bytes_eq q.now text.now) true b) (so_far.kept q) ∙ (either_way (bytes_eq q.now text.now) (list_any (bytes_eq q.now) texts)
      ∙ sym (list_any-append (bytes_eq q.now) texts (text.now ∷ [])))));
}

unlike_behind : (x : List ℕ) (xs : List (List ℕ)) (y : List ℕ) (zs : List (List ℕ)) → AllByRecursion (λ z. bytes_eq x z ≡ false) (xs ++ y ∷ zs) → bytes_eq x y ≡ false
unlike_behind x [] y zs all = all.0
unlike_behind x (z ∷ xs) y zs all = unlike_behind x xs y zs all.1

-- of different texts none stands in front of itself
pub not_in_front : (xs : List (List ℕ)) (y : List ℕ) (zs : List (List ℕ)) → IsDistinct bytes_eq (xs ++ y ∷ zs) → list_any (bytes_eq y) xs ≡ false
not_in_front [] y zs differ = refl
not_in_front (x ∷ xs) y zs differ =
    let head = unlike_behind x xs y zs (IsDistinct-head bytes_eq x (xs ++ y ∷ zs) differ) in
    ap (λ b. b || list_any (bytes_eq y) xs) (symm y x ∙ head) ∙ not_in_front xs y zs (IsDistinct-tail bytes_eq x (xs ++ y ∷ zs) differ)

module _ (refs : List (Bor (List ℕ))) (i : ℕ) (text : Bor (List ℕ)) (inside : i < length refs) where
  -- the texts up to a place, and the one there
  pub texts_more : texts_at (take (i + 1) refs) ≡ texts_at (take i refs) ++ (get_or refs i text).now ∷ []
  texts_more = ap texts_at (take_more refs i text inside) ∙ map_push (λ (r : Bor (List ℕ)). r.now) (take i refs) (get_or refs i text)

  parted : texts_at (take i refs) ++ (get_or refs i text).now ∷ texts_at (drop (i + 1) refs) ≡ texts_at refs
  parted =
      sym (map-append (λ (r : Bor (List ℕ)). r.now) (take i refs) (get_or refs i text ∷ drop (i + 1) refs))
      ∙ ap (λ rest. texts_at (take i refs ++ rest)) (sym (drop_more refs i text inside)) ∙ ap texts_at (take-append-drop i refs)

  -- a text that the set had is no different text
  pub not_new : (seen : BTreeSet (Bor (List ℕ))) → AreSeen (texts_at (take i refs)) seen → contains ref_cmp seen (get_or refs i text) ≡ true → ¬ (IsDistinct bytes_eq (texts_at refs))
  not_new seen so_far old differ =
      let front = not_in_front (texts_at (take i refs)) (get_or refs i text).now (texts_at (drop (i + 1) refs)) (subst (IsDistinct bytes_eq) (sym parted) differ) in
      false≢true (sym front ∙ (sym (so_far.kept (get_or refs i text)) ∙ old))

-- an empty set
pub nothing_seen : (seen : BTreeSet (Bor (List ℕ))) → seen.keys ≡ [] → AreSeen [] seen
unfolding IsDistinct
nothing_seen seen empty = record { differ = tt; kept = λ q. ap (λ keys. list_any (is_at (ref_cmp q)) keys) empty }

-- what an insertion says of the set before it
pub was_new : (had added : Bool) → added ≡ not had → added ≡ true → had ≡ false
was_new true added is new = absurd (false≢true (sym is ∙ new))
was_new false added is new = refl

pub was_old : (had added : Bool) → added ≡ not had → added ≡ false → had ≡ true
was_old true added is old = refl
was_old false added is old = absurd (false≢true (sym old ∙ is))
