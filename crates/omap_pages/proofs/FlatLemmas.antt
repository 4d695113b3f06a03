-- Rows in leaves as one list, and what an edit of the leaves does to it.
use Rattle.std.proofs.Common.{◌≡◌, ℕ, zero, suc, ◌+◌, ◌<◌, ◌≤◌, List, [], ◌∷◌, ◌++◌, length, take, drop, set, get_or, refl, sym, ap, ◌∙◌, arith, append_assoc, length-append}
use Rattle.std.specs.List.{insert, remove}
use Rattle.std.proofs.Math.Seq.{take-append-add, drop-append-add}
use Rattle.std.proofs.lemmas.List.{take-append-le, drop-append-le, take_more, take-append-drop, take-take, length-take-le, get_or-take, get_or_read}
use Rattle.std.proofs.lemmas.List.Concat.{flat_map-append, get_or-flat_map}
use Rattle.omap_pages.specs.Leaves.{flat}

module _ {X : Type 0} where
  -- the rows before leaf i, and those behind it
  abbrev pub front : List (List X) → ℕ → List X
  front ls i = flat (take i ls)

  abbrev pub back : List (List X) → ℕ → List X
  back ls i = flat (drop (suc i) ls)

  pub flat-append : (xs ys : List (List X)) → flat (xs ++ ys) ≡ flat xs ++ flat ys
  flat-append xs ys = flat_map-append (λ (leaf : List X). leaf) xs ys

  pub around : (ls : List (List X)) (i : ℕ) → i < length ls → flat ls ≡ front ls i ++ (get_or ls i [] ++ back ls i)
  around [] i lt = absurd (omega arith)
  around (l ∷ ls) zero lt = refl
  around (l ∷ ls) (suc i) lt = ap (λ z. l ++ z) (around ls i (omega arith)) ∙ sym (append_assoc l (front ls i) (get_or ls i [] ++ back ls i))

  pub around-set : (ls : List (List X)) (i : ℕ) (m : List X) → i < length ls → flat (set ls i m) ≡ front ls i ++ (m ++ back ls i)
  around-set [] i m lt = absurd (omega arith)
  around-set (l ∷ ls) zero m lt = refl
  around-set (l ∷ ls) (suc i) m lt = ap (λ z. l ++ z) (around-set ls i m (omega arith)) ∙ sym (append_assoc l (front ls i) (m ++ back ls i))

  pub around-remove : (ls : List (List X)) (i : ℕ) → flat (remove ls i) ≡ front ls i ++ back ls i
  around-remove ls i = flat-append (take i ls) (drop (suc i) ls)

  -- a leaf in two parts
  pub flat_split : (ls : List (List X)) (i : ℕ) (a b : List X) → i < length ls → a ++ b ≡ get_or ls i [] → flat (insert (set ls i a) (suc i) b) ≡ flat ls
  flat_split [] i a b lt parts = absurd (omega arith)
  flat_split (l ∷ ls) zero a b lt parts = sym (append_assoc a b (flat ls)) ∙ ap (λ z. z ++ flat ls) parts
  flat_split (l ∷ ls) (suc i) a b lt parts = ap (λ z. l ++ z) (flat_split ls i a b (omega arith) parts)

  module _ (ls : List (List X)) (i : ℕ) (lt : i < length ls) where
    pub take_to : (r : ℕ) → r ≤ length (get_or ls i []) → take (length (front ls i) + r) (flat ls) ≡ front ls i ++ take r (get_or ls i [])
    take_to r le = ap (take (length (front ls i) + r)) (around ls i lt) ∙ take-append-add (front ls i) _ r ∙ ap (λ z. front ls i ++ z) (take-append-le r (get_or ls i []) (back ls i) le)

    pub drop_to : (r : ℕ) → r ≤ length (get_or ls i []) → drop (length (front ls i) + r) (flat ls) ≡ drop r (get_or ls i []) ++ back ls i
    drop_to r le = ap (drop (length (front ls i) + r)) (around ls i lt) ∙ drop-append-add (front ls i) _ r ∙ drop-append-le r (get_or ls i []) (back ls i) le

    -- m stands in the place of a leaf's rows from r to below q
    pub edited : (r q : ℕ) (m : List X) → r ≤ length (get_or ls i []) → q ≤ length (get_or ls i [])
        → take (length (front ls i) + r) (flat ls) ++ (m ++ drop (length (front ls i) + q) (flat ls)) ≡ flat (set ls i (take r (get_or ls i []) ++ (m ++ drop q (get_or ls i []))))
    edited r q m le le' =
        (λ j. take_to r le j ++ (m ++ drop_to q le' j))
        ∙ append_assoc (front ls i) (take r (get_or ls i [])) _
        ∙ ap (λ z. front ls i ++ z) (ap (λ z. take r (get_or ls i []) ++ z) (sym (append_assoc m (drop q (get_or ls i [])) (back ls i))) ∙ sym (append_assoc (take r (get_or ls i [])) (m ++ drop q (get_or ls i [])) (back ls i)))
        ∙ sym (around-set ls i _ lt)

    pub read_at : (r : ℕ) (d : X) → r < length (get_or ls i []) → get_or (flat ls) (length (front ls i) + r) d ≡ get_or (get_or ls i []) r d
    read_at r d le = get_or-flat_map (λ (leaf : List X). leaf) ls i r [] d lt le

    pub length_next : length (front ls (i + 1)) ≡ length (front ls i) + length (get_or ls i [])
    length_next = ap (λ z. length (flat z)) (take_more ls i [] lt) ∙ ap length (flat-append (take i ls) (get_or ls i [] ∷ [])) ∙ omega (arith, length-append (front ls i) (get_or ls i [] ++ []), length-append (get_or ls i []) [])

  pub length_front_le : (ls : List (List X)) (k : ℕ) → length (front ls k) ≤ length (flat ls)
  length_front_le ls k = omega (arith, ap length (flat-append (take k ls) (drop k ls)), ap (λ z. length (flat z)) (take-append-drop k ls), length-append (flat (take k ls)) (flat (drop k ls)))

  -- l is leaf i, as it was read
  pub front_and_leaf : (ls : List (List X)) (i : ℕ) (l : List X) → i < length ls → l ≡ get_or ls i l → length (front ls i) + length l ≤ length (flat ls)
  front_and_leaf ls i l lt read = omega (arith, length_front_le ls (i + 1), length_next ls i lt, ap length (get_or_read ls i l lt read []))

  -- a leaf before leaf i is followed by it
  pub front_le : (ls : List (List X)) (j i : ℕ) → j < i → i ≤ length ls → length (front ls j) + length (get_or ls j []) ≤ length (front ls i)
  front_le ls j i lt le =
      let size : length (take i ls) ≡ i = length-take-le i ls le in
      let next = length_next (take i ls) j (omega arith) in
      let before : take j (take i ls) ≡ take j ls = take-take j i ls (omega arith) in
      let leaf : get_or (take i ls) j [] ≡ get_or ls j [] = get_or-take i ls j [] lt in
      omega (arith, next, length_front_le (take i ls) (j + 1), ap (λ z. length (flat z)) before, ap length leaf)
