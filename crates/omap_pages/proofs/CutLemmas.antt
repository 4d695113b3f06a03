-- The leaves once the rows from one place to below another are gone.
use Rattle.std.proofs.Common.{◌≡◌, ℕ, suc, ◌+◌, ◌*◌, ◌-◌, ◌<◌, ◌≤◌, List, [], ◌∷◌, ◌++◌, length, take, drop, set, get_or, max, ◌≢◌, refl, sym, ap, subst, ◌∙◌, inl, inr, arith, append_assoc, length-append}
use Rattle.std.specs.List.{remove_range, slice_range}
use Rattle.std.proofs.Math.Seq.{take-add}
use Rattle.std.proofs.lemmas.Bool.{cases_lt}
use Rattle.std.proofs.lemmas.List.{append-nil, take_more, take-set-le, drop-set-lt, length-set, length-take, length-drop, get_or-set_same, get_or-set_other, drop_more}
use Rattle.std.proofs.lemmas.List.Elements.{All-append, All-take, All-drop, All-nil, All-cons}
use Rattle.omap_pages.specs.Leaves.{flat, position, leaf_at, one_if_rows, one_if_none, IsLeaf, AreLeaves, IsPlace}
use Rattle.omap_pages.specs.declared.leaf.TheConstants.{LEAF_ROWS}
use Rattle.omap_pages.specs.declared.place.Place.{Place}
use Rattle.omap_pages.proofs.FlatLemmas.{front, back, flat-append, take_to, drop_to, front_le}

module _ {X : Type 0} where
  -- a leaf stays where it has rows
  abbrev kept : List X → List (List X)
  kept [] = []
  kept (x ∷ xs) = (x ∷ xs) ∷ []

  flat-kept : (m : List X) → flat (kept m) ≡ m
  flat-kept [] = refl
  flat-kept (x ∷ xs) = append-nil (x ∷ xs)

  are_leaves_kept : (m : List X) → length m ≤ LEAF_ROWS → AreLeaves (kept m)
  are_leaves_kept [] le = All-nil IsLeaf
  are_leaves_kept (x ∷ xs) le = All-cons IsLeaf (x ∷ xs) [] (omega arith, le) (All-nil IsLeaf)

  take-kept : (ls : List (List X)) (i : ℕ) (m : List X) → i < length ls → get_or ls i [] ≡ m → take (i + one_if_rows m) ls ≡ take i ls ++ kept m
  take-kept ls i [] lt is = let same : i + 0 ≡ i = omega arith in ap (λ n. take n ls) same ∙ sym (append-nil (take i ls))
  take-kept ls i (x ∷ xs) lt is = take_more ls i [] lt ∙ ap (λ z. take i ls ++ z ∷ []) is

  drop-kept : (ls : List (List X)) (i : ℕ) (m : List X) → i < length ls → get_or ls i [] ≡ m → drop (i + one_if_none m) ls ≡ kept m ++ drop (suc i) ls
  drop-kept ls i [] lt is = let same : i + 1 ≡ suc i = omega arith in ap (λ n. drop n ls) same
  drop-kept ls i (x ∷ xs) lt is =
      let same : i + 0 ≡ i = omega arith in
      let next : i + 1 ≡ suc i = omega arith in
      ap (λ n. drop n ls) same ∙ drop_more ls i [] lt ∙ (λ j. is j ∷ drop (next j) ls)

  few : (m : List X) → one_if_rows m + one_if_none m ≡ 1
  few [] = refl
  few (x ∷ xs) = refl

  -- how many rows some leaves have
  pub length-flat_range : (ls : List (List X)) (a b : ℕ) → a ≤ b → length (front ls a) + length (flat (slice_range ls a b)) ≡ length (front ls b)
  length-flat_range ls a b le =
      let whole : a + (b - a) ≡ b = omega arith in
      omega (arith, ap (λ n. length (front ls n)) whole, ap (λ z. length (flat z)) (take-add a (b - a) ls), ap length (flat-append (take a ls) (take (b - a) (drop a ls))), length-append (front ls a) (flat (take (b - a) (drop a ls))))

  pub length-flat_le : (ls : List (List X)) → AreLeaves ls → length (flat ls) ≤ LEAF_ROWS * length ls
  length-flat_le [] leaves = omega arith
  length-flat_le (l ∷ ls) leaves = omega (arith, length-append l (flat ls), (leaves 0 l (omega arith)).1, length-flat_le ls (λ k d lt. leaves (suc k) d (omega arith)))

-- so many rows stand in the leaves from the first to below the last
module _ {X : Type 0} (seen ls : List (List X)) (same : seen ≡ ls) (start end : Place) (at_start : IsPlace ls start) (end_in : end.leaf < length ls) (leaf_order : start.leaf ≤ end.leaf) (row_order : start.leaf ≡ end.leaf → start.row ≤ end.row) (count : ℕ) (is : count ≡ length (flat (slice_range seen start.leaf end.leaf))) where
  pub counted : length (front ls start.leaf) + count ≡ length (front ls end.leaf)
  counted = ap (λ n. length (front ls start.leaf) + n) (is ∙ ap (λ z. length (flat (slice_range z start.leaf end.leaf))) same) ∙ length-flat_range ls start.leaf end.leaf leaf_order

  pub start_before_end : start.row ≤ count + end.row
  start_before_end = elim (cases_lt start.leaf end.leaf) [
    | inl two ↦ omega (arith, counted, front_le ls start.leaf end.leaf two (omega arith), at_start.row)
    | inr one ↦ omega (arith, row_order (omega arith))
  ]

-- what is left once the rows from one place to below another are gone
pub record IsLeft {X : Type 0} (ls left : List (List X)) (start end : Place) : Type 0 where
  pub rows : flat left ≡ remove_range (flat ls) (position ls start) (position ls end)
  pub sizes : AreLeaves left

-- the leaves after the cut, without those between the first and the last and without these where they are empty
abbrev pub left_of : {X : Type 0} → List (List X) → Place → Place → List (List X)
left_of cut start end =
    let low = start.leaf + one_if_rows (get_or cut start.leaf []) in
    remove_range cut low (max (end.leaf + one_if_none (get_or cut end.leaf [])) low)

module _ {X : Type 0} (ls : List (List X)) (start end : Place) (leaves : AreLeaves ls) (at_start : IsPlace ls start) (at_end : IsPlace ls end) (start_in : start.leaf < length ls) (end_in : end.leaf < length ls) where
  module _ (cut : List (List X)) (order : start.leaf < end.leaf) (is : cut ≡ set (set ls start.leaf (take start.row (leaf_at ls start))) end.leaf (drop end.row (leaf_at ls end))) where
    size : length cut ≡ length ls
    size = omega (arith, ap length is, length-set (set ls start.leaf (take start.row (leaf_at ls start))) end.leaf (drop end.row (leaf_at ls end)), length-set ls start.leaf (take start.row (leaf_at ls start)))

    first_is : get_or cut start.leaf [] ≡ take start.row (leaf_at ls start)
    first_is =
        let apart : start.leaf ≢ end.leaf = omega arith in
        ap (λ z. get_or z start.leaf []) is ∙ get_or-set_other (set ls start.leaf (take start.row (leaf_at ls start))) end.leaf start.leaf _ [] apart ∙ get_or-set_same ls start.leaf _ [] start_in

    last_is : get_or cut end.leaf [] ≡ drop end.row (leaf_at ls end)
    last_is = ap (λ z. get_or z end.leaf []) is ∙ get_or-set_same (set ls start.leaf (take start.row (leaf_at ls start))) end.leaf _ [] (omega (arith, length-set ls start.leaf (take start.row (leaf_at ls start))))

    before : take start.leaf cut ≡ take start.leaf ls
    before = ap (take start.leaf) is ∙ take-set-le start.leaf (set ls start.leaf (take start.row (leaf_at ls start))) end.leaf _ (omega arith) ∙ take-set-le start.leaf ls start.leaf _ (omega arith)

    behind : drop (suc end.leaf) cut ≡ drop (suc end.leaf) ls
    behind = ap (drop (suc end.leaf)) is ∙ drop-set-lt (suc end.leaf) (set ls start.leaf (take start.row (leaf_at ls start))) end.leaf _ (omega arith) ∙ drop-set-lt (suc end.leaf) ls start.leaf _ (omega arith)

    left_list : left_of cut start end ≡ (take start.leaf ls ++ kept (take start.row (leaf_at ls start))) ++ (kept (drop end.row (leaf_at ls end)) ++ drop (suc end.leaf) ls)
    left_list =
        let high : max (end.leaf + one_if_none (get_or cut end.leaf [])) (start.leaf + one_if_rows (get_or cut start.leaf [])) ≡ end.leaf + one_if_none (get_or cut end.leaf []) = omega (arith, few (get_or cut start.leaf [])) in
        ap (λ n. take (start.leaf + one_if_rows (get_or cut start.leaf [])) cut ++ drop n cut) high
        ∙ (λ j. take-kept cut start.leaf _ (omega (arith, size)) refl j ++ drop-kept cut end.leaf _ (omega (arith, size)) refl j)
        ∙ (λ j. (before j ++ kept (first_is j)) ++ (kept (last_is j) ++ behind j))

    pub left_in_two : IsLeft ls (left_of cut start end) start end
    left_in_two = record {
      rows = ap flat left_list
          ∙ flat-append (take start.leaf ls ++ kept (take start.row (leaf_at ls start))) (kept (drop end.row (leaf_at ls end)) ++ drop (suc end.leaf) ls)
          ∙ (λ j. flat-append (take start.leaf ls) (kept (take start.row (leaf_at ls start))) j ++ flat-append (kept (drop end.row (leaf_at ls end))) (drop (suc end.leaf) ls) j)
          ∙ (λ j. (front ls start.leaf ++ flat-kept (take start.row (leaf_at ls start)) j) ++ (flat-kept (drop end.row (leaf_at ls end)) j ++ back ls end.leaf))
          ∙ (λ j. sym (take_to ls start.leaf start_in start.row at_start.row) j ++ sym (drop_to ls end.leaf end_in end.row at_end.row) j);
      sizes = subst AreLeaves (sym left_list) (All-append IsLeaf _ _
          (All-append IsLeaf _ _ (All-take IsLeaf start.leaf ls leaves) (are_leaves_kept (take start.row (leaf_at ls start)) (omega (arith, (leaves start.leaf [] start_in).1, length-take start.row (leaf_at ls start)))))
          (All-append IsLeaf _ _ (are_leaves_kept (drop end.row (leaf_at ls end)) (omega (arith, (leaves end.leaf [] end_in).1, length-drop end.row (leaf_at ls end)))) (All-drop IsLeaf (suc end.leaf) ls leaves)));
    }

  module _ (cut : List (List X)) (order : start.leaf ≡ end.leaf) (rows : start.row ≤ end.row) (is : cut ≡ set ls start.leaf (remove_range (leaf_at ls start) start.row end.row)) where
    only_is : get_or cut start.leaf [] ≡ remove_range (leaf_at ls start) start.row end.row
    only_is = ap (λ z. get_or z start.leaf []) is ∙ get_or-set_same ls start.leaf _ [] start_in

    last_end : (m : List X) → max (end.leaf + one_if_none m) (start.leaf + one_if_rows m) ≡ suc end.leaf
    last_end [] = omega arith
    last_end (x ∷ xs) = omega arith

    only_list : left_of cut start end ≡ (take start.leaf ls ++ kept (remove_range (leaf_at ls start) start.row end.row)) ++ drop (suc end.leaf) ls
    only_list =
        let l = get_or cut start.leaf [] in
        let high : max (end.leaf + one_if_none (get_or cut end.leaf [])) (start.leaf + one_if_rows l) ≡ suc end.leaf = ap (λ n. max (end.leaf + one_if_none (get_or cut n [])) (start.leaf + one_if_rows l)) (sym order) ∙ last_end (get_or cut start.leaf []) in
        ap (λ n. take (start.leaf + one_if_rows l) cut ++ drop n cut) high
        ∙ (λ j. take-kept cut start.leaf _ (omega (arith, ap length is, length-set ls start.leaf (remove_range (leaf_at ls start) start.row end.row))) refl j ++ drop (suc end.leaf) cut)
        ∙ (λ j. ((ap (take start.leaf) is ∙ take-set-le start.leaf ls start.leaf _ (omega arith)) j ++ kept (only_is j)) ++ (ap (drop (suc end.leaf)) is ∙ drop-set-lt (suc end.leaf) ls start.leaf _ (omega arith)) j)

    same_leaf : leaf_at ls start ≡ leaf_at ls end
    same_leaf = ap (λ n. get_or ls n []) order

    pub left_in_one : IsLeft ls (left_of cut start end) start end
    left_in_one = record {
      rows = ap flat only_list
          ∙ flat-append (take start.leaf ls ++ kept (remove_range (leaf_at ls start) start.row end.row)) (drop (suc end.leaf) ls)
          ∙ ap (λ z. z ++ back ls end.leaf) (flat-append (take start.leaf ls) (kept (remove_range (leaf_at ls start) start.row end.row)) ∙ ap (λ z. front ls start.leaf ++ z) (flat-kept (remove_range (leaf_at ls start) start.row end.row)))
          ∙ append_assoc (front ls start.leaf) (remove_range (leaf_at ls start) start.row end.row) (back ls end.leaf)
          ∙ ap (λ z. front ls start.leaf ++ z) (append_assoc (take start.row (leaf_at ls start)) (drop end.row (leaf_at ls start)) (back ls end.leaf))
          ∙ sym (append_assoc (front ls start.leaf) (take start.row (leaf_at ls start)) (drop end.row (leaf_at ls start) ++ back ls end.leaf))
          ∙ ap (λ l. (front ls start.leaf ++ take start.row (leaf_at ls start)) ++ (drop end.row l ++ back ls end.leaf)) same_leaf
          ∙ (λ j. sym (take_to ls start.leaf start_in start.row at_start.row) j ++ sym (drop_to ls end.leaf end_in end.row at_end.row) j);
      sizes = subst AreLeaves (sym only_list) (All-append IsLeaf _ _
          (All-append IsLeaf _ _ (All-take IsLeaf start.leaf ls leaves) (are_leaves_kept (remove_range (leaf_at ls start) start.row end.row) (omega (arith, (leaves start.leaf [] start_in).1, length-append (take start.row (leaf_at ls start)) (drop end.row (leaf_at ls start)), length-take start.row (leaf_at ls start), length-drop end.row (leaf_at ls start), rows, at_start.row))))
          (All-drop IsLeaf (suc end.leaf) ls leaves));
    }
