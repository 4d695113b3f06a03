-- What is written over a part of a list, read at another part.
use Rattle.std.proofs.Common.{◌≡◌, ℕ, ◌+◌, ◌≤◌, List, [], ◌++◌, length, take, drop, arith, rules, length-drop, sym, ◌∙◌, ap, add-zero}
use Rattle.std.proofs.lemmas.List.{same_lists, places, drop-append-le, take-append-le, drop-drop, drop_at, take-append-drop}
use Rattle.frame_region.specs.Region.{overwritten}

-- parts of a part, and of two lists joined
pub take-drop-part : (xs : List ℕ) (base size offset part : ℕ) → offset + part ≤ size → base + size ≤ length xs → take part (drop offset (take size (drop base xs))) ≡ take part (drop (base + offset) xs)
take-drop-part xs base size offset part fits within =
    same_lists _ _ (search (rules, places)) (λ k d h. grind (arith, places))

pub take-drop-append_left : (xs ys : List ℕ) (start part : ℕ) → start + part ≤ length xs → take part (drop start (xs ++ ys)) ≡ take part (drop start xs)
take-drop-append_left xs ys start part within =
    let inside : start ≤ length xs = omega arith in
    rw drop-append-le (take-append-le part (drop start xs) ys (omega (arith, length-drop start xs)))

pub drop-append_right : (xs ys : List ℕ) (size offset : ℕ) → length xs ≡ size → drop (size + offset) (xs ++ ys) ≡ drop offset ys
drop-append_right xs ys size offset sized =
    sym (drop-drop offset size (xs ++ ys)) ∙ ap (drop offset) (drop_at xs ys size sized)

pub length-overwritten : (bytes : List ℕ) (start : ℕ) (written : List ℕ) → start + length written ≤ length bytes → length (overwritten bytes start written) ≡ length bytes
length-overwritten bytes start written within = search (rules, places)

pub take-drop-overwritten_before : (bytes : List ℕ) (start : ℕ) (written : List ℕ) (from size : ℕ) → from + size ≤ start → start + length written ≤ length bytes → take size (drop from (overwritten bytes start written)) ≡ take size (drop from bytes)
take-drop-overwritten_before bytes start written from size before within =
    same_lists _ _ (search (rules, places)) (λ k d h. grind (arith, places))

pub drop-overwritten_behind : (bytes : List ℕ) (start : ℕ) (written : List ℕ) (from : ℕ) → start + length written ≤ from → start + length written ≤ length bytes → drop from (overwritten bytes start written) ≡ drop from bytes
drop-overwritten_behind bytes start written from behind within =
    same_lists _ _ (search (rules, places)) (λ k d h. grind (arith, places))

pub take-drop-overwritten_inside : (bytes : List ℕ) (from size offset : ℕ) (written : List ℕ) → offset + length written ≤ size → from + size ≤ length bytes → take size (drop from (overwritten bytes (from + offset) written)) ≡ overwritten (take size (drop from bytes)) offset written
take-drop-overwritten_inside bytes from size offset written inside within =
    same_lists _ _ (search (rules, places)) (λ k d h. grind (arith, places))

pub overwritten-append_left : (bytes rest : List ℕ) (start : ℕ) (written : List ℕ) → start + length written ≤ length bytes → overwritten (bytes ++ rest) start written ≡ overwritten bytes start written ++ rest
overwritten-append_left bytes rest start written within =
    same_lists _ _ (search (rules, places)) (λ k d h. grind (arith, places))

pub overwritten-append_right : (front bytes : List ℕ) (start : ℕ) (written : List ℕ) → start + length written ≤ length bytes → overwritten (front ++ bytes) (length front + start) written ≡ front ++ overwritten bytes start written
overwritten-append_right front bytes start written within =
    same_lists _ _ (search (rules, places)) (λ k d h. grind (arith, places))

-- two pieces, one behind the other
pub overwritten-overwritten : (bytes : List ℕ) (start : ℕ) (written more : List ℕ) → start + length written + length more ≤ length bytes → overwritten (overwritten bytes start written) (start + length written) more ≡ overwritten bytes start (written ++ more)
overwritten-overwritten bytes start written more within =
    same_lists _ _ (search (rules, places)) (λ k d h. grind (arith, places))

pub overwritten_none : (bytes : List ℕ) (start : ℕ) → overwritten bytes start [] ≡ bytes
overwritten_none bytes start = rw add-zero (take-append-drop start bytes)

pub overwritten_all : (bytes written : List ℕ) → length written ≡ length bytes → overwritten bytes 0 written ≡ written
overwritten_all bytes written whole =
    same_lists _ _ (search (rules, places)) (λ k d h. grind (arith, places))
