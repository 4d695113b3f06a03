-- Sums over finite maps by name: of two maps whose names count alike, of the parts of one, and sums over numbers.
use Rattle.std.proofs.Common.{◌≡◌, ℕ, zero, suc, ◌+◌, ◌≤◌, ◌<◌, ◌==◌, Bool, true, false, cond, List, [], ◌∷◌, length, Some, None, refl, sym, ◌∙◌, ap, arith}
use Rattle.std.specs.Prelude.{is_some, sum_by}
use Rattle.std.specs.List.{range_with_len}
use Rattle.std.specs.Ordering.{is_eq}
use Rattle.std.specs.Cmp.Lexicographic.{nat_list_cmp_total}
use Rattle.std.specs.FinMap.Entries.{find, where_key, find-where_key, length_without}
use Rattle.std.proofs.lemmas.Bool.Decides.{nat_tests}
use Rattle.std.proofs.lemmas.List.Sums.{sum_by-cons}
use Rattle.object_words.specs.Names.{name_cmp, Named, at, without_name, where_name, entries}
use Rattle.object_words.specs.Shards.{total}
use Rattle.object_words.proofs.KeyLemmas.{same_text}
use Rattle.object_words.proofs.NameLemmas.{is_name_of, name_itself, at-without_name}
use Rattle.object_words.proofs.Sums.{count_of, total-without_name}

-- ---- one name less

module _ {X : Type 0} where
  never_longer : (m : Named X) (name : List ℕ) → length (entries (without_name m name)) ≤ length (entries m)
  unfolding entries without_name
  never_longer m name = let l = length_without name_cmp nat_list_cmp_total name m.list m.sorted in omega (arith, l)

  first_found : (e : List ℕ × X) (es : List (List ℕ × X)) → is_some (find name_cmp e.0 (e ∷ es)) ≡ true
  first_found e es = ap (λ b. is_some (cond b (Some e.1) (find name_cmp e.0 es))) (name_itself e.0)

  shorter : (m : Named X) (e : List ℕ × X) (es : List (List ℕ × X)) → entries m ≡ e ∷ es → length (entries (without_name m e.0)) < length (entries m)
  unfolding entries without_name
  shorter m e es is =
      let l = length_without name_cmp nat_list_cmp_total e.0 m.list m.sorted in
      let there : is_some (find name_cmp e.0 m.list) ≡ true = ap (λ l. is_some (find name_cmp e.0 l)) is ∙ first_found e es in
      let found : ◌≡◌ {A = ℕ} (cond (is_some (find name_cmp e.0 m.list)) 1 0) 1 = ap (λ b. cond b 1 0) there in
      omega (arith, l, found)

  pub at-where_name : (test : List ℕ → Bool) (m : Named X) (q : List ℕ) → at (where_name test m) q ≡ cond (test q) (at m q) None
  unfolding at where_name
  at-where_name test m q = find-where_key name_cmp test q (λ n alike. ap test (sym (same_text q n (ap is_eq alike)))) m.list

-- ---- two maps whose names count alike

module _ {X Y : Type 0} (f : X → ℕ) (g : Y → ℕ) where
  abbrev pub Alike : Named X → Named Y → Type 0
  Alike m n = (q : List ℕ) → count_of f (at m q) ≡ count_of g (at n q)

  alike_without : (m : Named X) (n : Named Y) (name : List ℕ) → Alike m n → Alike (without_name m name) (without_name n name)
  alike_without m n name alike q =
      ap (count_of f) (at-without_name m name q)
      ∙ elim (is_name_of q name) as (λ b. count_of f (cond b None (at m q)) ≡ count_of g (cond b None (at n q))) [
        | true ↦ refl
        | false ↦ alike q
      ]
      ∙ sym (ap (count_of g) (at-without_name n name q))

  one_more : (m : Named X) (n : Named Y) (name : List ℕ) → Alike m n → total f (entries (without_name m name)) ≡ total g (entries (without_name n name)) → total f (entries m) ≡ total g (entries n)
  one_more m n name alike rest =
      let here = alike name in
      let of_m = total-without_name f m name in
      let of_n = total-without_name g n name in
      omega (arith, here, of_m, of_n, rest)

  alike_by : (k : ℕ) (m : Named X) (n : Named Y) → length (entries m) + length (entries n) < k → Alike m n → total f (entries m) ≡ total g (entries n)
  alike_by zero m n fits alike = absurd (omega (arith, fits))
  alike_by (suc k) m n fits alike =
      elim (entries m) as (λ l. entries m ≡ l → total f l ≡ total g (entries n)) [
        | [] ↦ λ none.
            elim (entries n) as (λ l. entries n ≡ l → 0 ≡ total g l) [
              | [] ↦ λ empty. refl
              | y ∷ ys ↦ λ is.
                  let less = shorter n y ys is in
                  let no_more = never_longer m y.0 in
                  let sums = one_more m n y.0 alike (alike_by k (without_name m y.0) (without_name n y.0) (omega (arith, fits, less, no_more)) (alike_without m n y.0 alike)) in
                  sym (ap (total f) none) ∙ sums ∙ ap (total g) is
            ] refl
        | x ∷ xs ↦ λ is.
            let less = shorter m x xs is in
            let no_more = never_longer n x.0 in
            sym (ap (total f) is)
            ∙ one_more m n x.0 alike (alike_by k (without_name m x.0) (without_name n x.0) (omega (arith, fits, less, no_more)) (alike_without m n x.0 alike))
      ] refl

  pub alike_totals : (m : Named X) (n : Named Y) → Alike m n → total f (entries m) ≡ total g (entries n)
  alike_totals m n alike = alike_by (length (entries m) + length (entries n) + 1) m n (omega arith) alike

-- what is under one name counts no more than the whole
pub count-le-total : {X : Type 0} (f : X → ℕ) (m : Named X) (q : List ℕ) → count_of f (at m q) ≤ total f (entries m)
count-le-total f m q = let sum = total-without_name f m q in omega (arith, sum)

-- ---- sums over numbers

pub sum_same : (F G : ℕ → ℕ) → ((n : ℕ) → F n ≡ G n) → (ns : List ℕ) → sum_by F ns ≡ sum_by G ns
sum_same F G same [] = refl
sum_same F G same (n ∷ ns) =
    let here = same n in
    let rest = sum_same F G same ns in
    let f = sum_by-cons F n ns in
    let g = sum_by-cons G n ns in
    omega (arith, here, rest, f, g)

sum_both : (F G : ℕ → ℕ) (ns : List ℕ) → sum_by (λ n. F n + G n) ns ≡ sum_by F ns + sum_by G ns
sum_both F G [] = refl
sum_both F G (n ∷ ns) =
    let rest = sum_both F G ns in
    let f = sum_by-cons F n ns in
    let g = sum_by-cons G n ns in
    let h = sum_by-cons (λ n. F n + G n) n ns in
    omega (arith, rest, f, g, h)

sum_zero : (ns : List ℕ) → sum_by (λ n. 0) ns ≡ 0
sum_zero [] = refl
sum_zero (n ∷ ns) = let rest = sum_zero ns in let all = sum_by-cons (λ n. 0) n ns in omega (arith, rest, all)

-- a number is one of those from a on, or none of them
module _ (j value : ℕ) where
  abbrev At : ℕ → ℕ
  At n = cond (j == n) value 0

  at_other : (n : ℕ) → j < n → At n ≡ 0
  at_other n less =
      elim (j == n) as (λ b. (j == n) ≡ b → cond b value 0 ≡ 0) [
        | true ↦ λ is. absurd (grind (arith, nat_tests, is, less))
        | false ↦ λ other. refl
      ] refl

  sum_past : (a k : ℕ) → j < a → sum_by At (range_with_len a k) ≡ 0
  sum_past a zero less = refl
  sum_past a (suc k) less =
      let here = at_other a less in
      let rest = sum_past (a + 1) k (omega (arith, less)) in
      let all = sum_by-cons At a (range_with_len (a + 1) k) in
      omega (arith, here, rest, all)

  sum_at : (a k : ℕ) → a ≤ j → j < a + k → sum_by At (range_with_len a k) ≡ value
  sum_at a zero low high = absurd (omega (arith, low, high))
  sum_at a (suc k) low high =
      let all = sum_by-cons At a (range_with_len (a + 1) k) in
      elim (j == a) as (λ b. (j == a) ≡ b → sum_by At (range_with_len a (suc k)) ≡ value) [
        | true ↦ λ is.
            let here : At a ≡ value = ap (λ b. cond b value 0) is in
            let rest = sum_past (a + 1) k (grind (arith, nat_tests, is)) in
            omega (arith, all, here, rest)
        | false ↦ λ other.
            let here : At a ≡ 0 = ap (λ b. cond b value 0) other in
            let apart : a + 1 ≤ j = grind (arith, nat_tests, other, low) in
            let rest = sum_at (a + 1) k apart (omega (arith, high)) in
            omega (arith, all, here, rest)
      ] refl

-- ---- a map in parts, each with the names of one number

module _ {X : Type 0} (g : X → ℕ) (number : List ℕ → ℕ) (count : ℕ) (within : (q : List ℕ) → number q < count) where
  abbrev part : List (List ℕ × X) → ℕ → ℕ
  part es n = total g (where_key name_cmp (λ q. number q == n) es)

  parts_of_list : (es : List (List ℕ × X)) → sum_by (part es) (range_with_len 0 count) ≡ total g es
  parts_of_list [] = sum_zero (range_with_len 0 count)
  parts_of_list (e ∷ es) =
      let low = within e.0 in
      let one = sum_at (number e.0) (g e.1) 0 count (omega arith) (omega (arith, low)) in
      let rest = parts_of_list es in
      let both = sum_both (At (number e.0) (g e.1)) (part es) (range_with_len 0 count) in
      let each =
      sum_same (part (e ∷ es)) (λ n. At (number e.0) (g e.1) n + part es n)
      (λ n. elim (number e.0 == n) as (λ b. total g (cond b (e ∷ where_key name_cmp (λ q. number q == n) es) (where_key name_cmp (λ q. number q == n) es)) ≡ cond b (g e.1) 0 + part es n) [
        | true ↦ refl
        | false ↦ omega arith
      ]) (range_with_len 0 count) in
      omega (arith, one, rest, both, each)

  pub parts_of_map : (m : Named X) → sum_by (λ n. total g (entries (where_name (λ q. number q == n) m))) (range_with_len 0 count) ≡ total g (entries m)
  unfolding entries where_name
  parts_of_map m = parts_of_list m.list
