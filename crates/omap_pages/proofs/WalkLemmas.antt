-- A walk over leaves that copies the first so many of their rows. f is what is copied of a row.
use Rattle.std.proofs.Common.{◌≡◌, ℕ, ◌+◌, ◌-◌, ◌<◌, ◌≤◌, List, [], ◌∷◌, ◌++◌, length, map, take, drop, get_or, min, sym, ap, ◌∙◌, arith, append_assoc, length-append}
use Rattle.std.proofs.Math.Seq.{take-append-add, drop-append-add}
use Rattle.std.proofs.lemmas.List.{append-nil, drop_more, drop_all, drop-append-le, take-append-le, take_all, take_rest, take-map, take-append-drop, length-map, length-take, map-append}
use Rattle.omap_pages.specs.Cells.{Cell}
use Rattle.omap_pages.specs.Leaves.{flat, position}
use Rattle.omap_pages.specs.declared.place.Place.{Place}
use Rattle.omap_pages.proofs.FlatLemmas.{front, flat-append}

-- what a walk gives, where `all` is what there is to copy
pub record IsFirstOf {Y : Type 0} (pairs all : List Y) (limit : ℕ) : Type 0 where
  pub rows : pairs ≡ take limit all
  pub size : limit < length all

-- what is copied of a cell
abbrev pub copy_of : List ℕ × Cell → List ℕ × List ℕ
copy_of e = (e.0, e.1.value)

module _ {X Y : Type 0} (f : X → Y) where
  -- the walk begins at a place
  pub walked : (seen ls : List (List X)) → seen ≡ ls → (start : Place) → map f (drop start.row (flat (take (length seen - start.leaf) (drop start.leaf seen)))) ≡ map f (drop (position ls start) (flat ls))
  walked seen ls same start =
      ap (λ z. map f (drop start.row (flat z))) (take_rest seen start.leaf ∙ ap (drop start.leaf) same)
      ∙ ap (map f) (sym (drop-append-add (front ls start.leaf) (flat (drop start.leaf ls)) start.row))
      ∙ ap (λ z. map f (drop (position ls start) z)) (sym (flat-append (take start.leaf ls) (drop start.leaf ls)) ∙ ap flat (take-append-drop start.leaf ls))

  module _ (items : List (List X)) (all pairs : List Y) (skipped i limit : ℕ) (rows : pairs ++ map f (drop skipped (flat (drop i items))) ≡ all) (few : length pairs ≤ limit) where
    -- there are no more leaves
    pub all_walked : length items ≤ i → pairs ≡ all
    all_walked end =
        let none : drop skipped (flat (drop i items)) ≡ [] = ap (λ z. drop skipped (flat z)) (drop_all i items end) ∙ drop_all skipped [] (omega arith) in
        sym (append-nil pairs) ∙ ap (λ z. pairs ++ map f z) (sym none) ∙ rows

    -- l is the next leaf, of which so many rows are copied
    module _ (lt : i < length items) (le : skipped ≤ length (get_or items i [])) (l : List X) (leaf : l ≡ get_or items i []) (count : ℕ) (is : count ≡ min (length (take (length l - skipped) (drop skipped l))) (limit - length pairs))
        (new : List Y) (copied : new ≡ pairs ++ map f (take count (take (length l - skipped) (drop skipped l)))) where
      rest : drop skipped (flat (drop i items)) ≡ drop skipped l ++ flat (drop (i + 1) items)
      rest = ap (λ z. drop skipped (flat z)) (drop_more items i [] lt ∙ ap (λ z. z ∷ drop (i + 1) items) (sym leaf)) ∙ drop-append-le skipped l (flat (drop (i + 1) items)) (omega (arith, ap length leaf))

      parts : pairs ++ (map f (drop skipped l) ++ map f (flat (drop (i + 1) items))) ≡ all
      parts = ap (λ z. pairs ++ z) (sym (map-append f (drop skipped l) (flat (drop (i + 1) items))) ∙ ap (map f) (sym rest)) ∙ rows

      part : take (length l - skipped) (drop skipped l) ≡ drop skipped l
      part = take_rest l skipped

      pub leaf_walked : length (take (length l - skipped) (drop skipped l)) ≤ count → new ++ map f (flat (drop (i + 1) items)) ≡ all
      leaf_walked whole =
          ap (λ z. z ++ map f (flat (drop (i + 1) items))) (copied ∙ ap (λ z. pairs ++ map f z) (take_all count _ whole ∙ part))
          ∙ append_assoc pairs (map f (drop skipped l)) (map f (flat (drop (i + 1) items)))
          ∙ parts

      pub still_few : length new ≤ limit
      still_few = omega (arith, ap length copied, length-append pairs (map f (take count (take (length l - skipped) (drop skipped l)))), length-map (take count (take (length l - skipped) (drop skipped l))) f, length-take count (take (length l - skipped) (drop skipped l)))

      pub limit_reached : count < length (take (length l - skipped) (drop skipped l)) → IsFirstOf new all limit
      limit_reached more =
          let size : limit ≡ length pairs + count = omega arith in
          let within : count ≤ length (drop skipped l) = omega (arith, ap length part) in
          let sum = ap length (sym parts) ∙ length-append pairs (map f (drop skipped l) ++ map f (flat (drop (i + 1) items))) in
          record {
            rows = copied
                ∙ ap (λ z. pairs ++ map f (take count z)) part
                ∙ ap (λ z. pairs ++ z) (sym (take-map f count (drop skipped l)) ∙ sym (take-append-le count (map f (drop skipped l)) (map f (flat (drop (i + 1) items))) (omega (arith, length-map (drop skipped l) f))))
                ∙ sym (take-append-add pairs (map f (drop skipped l) ++ map f (flat (drop (i + 1) items))) count)
                ∙ (λ j. take (sym size j) (parts j));
            size = omega (arith, sum, length-append (map f (drop skipped l)) (map f (flat (drop (i + 1) items))), length-map (drop skipped l) f, ap length part);
          }
