-- An edit of one leaf, as an edit of all rows at the position of its place.
use Rattle.std.proofs.Common.{◌≡◌, ℕ, suc, ◌+◌, ◌<◌, ◌≤◌, List, [], ◌∷◌, ◌++◌, length, take, drop, set, get_or, refl, sym, ap, ◌∙◌, inl, inr, arith, length-append}
use Rattle.std.specs.List.{insert, remove}
use Rattle.std.proofs.lemmas.Bool.{cases_lt}
use Rattle.std.proofs.lemmas.List.{get_or_read, set_split, set-get_or, take-set, drop-set-lt, nil_from_length, take-append-drop}
use Rattle.std.proofs.lemmas.List.Edits.{length-remove}
use Rattle.omap_pages.specs.Leaves.{flat, position, leaf_at, with_row_at, AreLeaves, IsNotAfter, IsPlace}
use Rattle.omap_pages.specs.declared.place.Place.{Place}
use Rattle.omap_pages.proofs.FlatLemmas.{front, back, around, around-set, around-remove, edited, flat_split, read_at, front_le}

-- where there are leaves there are rows
pub flat_nil : {X : Type 0} (ls : List (List X)) → AreLeaves ls → flat ls ≡ [] → length ls ≡ 0
flat_nil [] leaves is = refl
flat_nil (l ∷ ls) leaves is = absurd (omega (arith, (leaves 0 l (omega arith)).0, ap length is, length-append l (flat ls)))

module _ {X : Type 0} (ls : List (List X)) (place : Place) (lt : place.leaf < length ls) where
  length_around : length (flat ls) ≡ length (front ls place.leaf) + (length (leaf_at ls place) + length (back ls place.leaf))
  length_around = ap length (around ls place.leaf lt) ∙ length-append (front ls place.leaf) (leaf_at ls place ++ back ls place.leaf) ∙ ap (λ n. length (front ls place.leaf) + n) (length-append (leaf_at ls place) (back ls place.leaf))

  pub position_lt : place.row < length (leaf_at ls place) → position ls place < length (flat ls)
  position_lt row = omega (arith, length_around)

  pub position_le : place.row ≤ length (leaf_at ls place) → position ls place ≤ length (flat ls)
  position_le row = omega (arith, length_around)

  past : suc (position ls place) ≡ length (front ls place.leaf) + suc place.row
  past = omega arith

  pub flat-set : (w : X) → place.row < length (leaf_at ls place) → flat (with_row_at ls place w) ≡ set (flat ls) (position ls place) w
  flat-set w row =
      ap (λ m. flat (set ls place.leaf m)) (set_split (leaf_at ls place) place.row w row)
      ∙ sym (edited ls place.leaf lt place.row (suc place.row) (w ∷ []) (omega arith) (omega arith))
      ∙ ap (λ n. take (position ls place) (flat ls) ++ w ∷ drop n (flat ls)) (sym past)
      ∙ sym (set_split (flat ls) (position ls place) w (position_lt row))

  -- a row is written over by itself
  pub flat-set_same : (w : X) → place.row < length (leaf_at ls place) → w ≡ get_or (flat ls) (position ls place) w → flat (with_row_at ls place w) ≡ flat ls
  flat-set_same w row read = flat-set w row ∙ ap (set (flat ls) (position ls place)) read ∙ set-get_or (flat ls) (position ls place) w

-- l is the leaf at the place, as it was read
module _ {X : Type 0} (ls seen : List (List X)) (same : ls ≡ seen) (place : Place) (lt : place.leaf < length seen) (l : List X) (read : l ≡ get_or ls place.leaf l) where
  pub here : l ≡ leaf_at seen place
  here = get_or_read ls place.leaf l (omega (arith, ap length same)) read [] ∙ ap (λ z. get_or z place.leaf []) same

  pub row_here : (x : X) → place.row < length (leaf_at seen place) → x ≡ get_or l place.row x → x ≡ get_or (flat seen) (position seen place) x
  row_here x row is = is ∙ ap (λ z. get_or z place.row x) here ∙ sym (read_at seen place.leaf lt place.row x row)

  pub insert_here : (new : List X) (x : X) → place.row ≤ length (leaf_at seen place) → new ≡ insert l place.row x → flat (set ls place.leaf new) ≡ insert (flat seen) (position seen place) x
  insert_here new x row is =
      (λ j. flat (set (same j) place.leaf ((is ∙ ap (λ z. insert z place.row x) here) j)))
      ∙ sym (edited seen place.leaf lt place.row place.row (x ∷ []) row row)

  pub remove_here : (new : List X) → place.row < length (leaf_at seen place) → new ≡ remove l place.row → flat (set ls place.leaf new) ≡ remove (flat seen) (position seen place)
  remove_here new row is =
      (λ j. flat (set (same j) place.leaf ((is ∙ ap (λ z. remove z place.row) here) j)))
      ∙ sym (edited seen place.leaf lt place.row (suc place.row) [] (omega arith) (omega arith))
      ∙ ap (λ n. take (position seen place) (flat seen) ++ drop n (flat seen)) (sym (past seen place lt))

  -- the leaf has no other row
  pub remove_leaf : place.row < length (leaf_at seen place) → length l ≡ 1 → flat (remove (set ls place.leaf l) place.leaf) ≡ remove (flat seen) (position seen place)
  remove_leaf row one =
      let none : [] ≡ remove l place.row = sym (nil_from_length (remove l place.row) (omega (arith, length-remove l place.row (omega (arith, ap length here))))) in
      around-remove (set ls place.leaf l) place.leaf
      ∙ (λ j. flat (take-set ls place.leaf l j) ++ flat (drop-set-lt (suc place.leaf) ls place.leaf l (omega arith) j))
      ∙ sym (around-set ls place.leaf [] (omega (arith, ap length same)))
      ∙ remove_here [] row none

  -- the leaf was split in two
  pub split_here : (new : List (List X)) (a b : List X) (h : ℕ) → new ≡ insert (set ls place.leaf a) (place.leaf + 1) b → a ≡ take h l → b ≡ drop h l → flat new ≡ flat seen
  split_here new a b h is lower upper =
      let next : place.leaf + 1 ≡ suc place.leaf = omega arith in
      ap flat is
      ∙ (λ j. flat (insert (set (same j) place.leaf a) (next j) b))
      ∙ flat_split seen place.leaf a b lt ((λ j. lower j ++ upper j) ∙ take-append-drop h l ∙ here)

-- an earlier place has no more rows before it
pub position_rises : {X : Type 0} (ls : List (List X)) (p q : Place) → IsPlace ls p → IsPlace ls q → IsNotAfter p q → position ls p ≤ position ls q
position_rises ls p q p_in q_in order = elim (cases_lt p.leaf q.leaf) [
  | inl two ↦ omega (arith, front_le ls p.leaf q.leaf two q_in.leaf, p_in.row)
  | inr one ↦
      let same : p.leaf ≡ q.leaf = omega (arith, order.leaf) in
      omega (arith, ap (λ n. length (front ls n)) same, order.row same)
]
