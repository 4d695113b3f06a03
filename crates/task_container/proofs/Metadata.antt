-- Merged metadata rises by name.
use Rattle.std.proofs.Common.{◌≡◌, ℕ, ◌==◌, Bool, true, false, cond, List, [], ◌∷◌, ◌++◌, length, Some, None, refl, sym, ap, ◌∙◌, subst}
use Rattle.std.specs.Prelude.{bytes_eq}
use Rattle.std.specs.declared.cmp.Ordering.{Ordering}
use Rattle.std.specs.declared.cmp.Ordering.TheVariants.{Less, Equal, Greater}
use Rattle.std.specs.Ordering.{nat_cmp, is_eq, is_lt, ordering_reverse}
use Rattle.std.specs.Cmp.Lexicographic.{slice_cmp, nat_list_cmp_total}
use Rattle.std.proofs.lemmas.Bool.{true≢false, and_parts, and_from}
use Rattle.std.proofs.lemmas.Map.Text.{is_eq-slice_cmp}
use Rattle.std.proofs.lemmas.Slice.Eq.{bytes_eq-Decides}
use Rattle.std.specs.Cmp.{tied_itself}
use Rattle.rgw_types.specs.Pairs.{is_before, is_risen, value_of}
use Rattle.task_container.specs.Rows.{lower, higher, given, merged, value_after}

abbrev Pair : Type 0
Pair = List ℕ × List ℕ

-- ---- the order of names

is_less : (o : Ordering) → is_lt o ≡ true → o ≡ Less
is_less Less e = refl
is_less Equal e = absurd (true≢false (sym e))
is_less Greater e = absurd (true≢false (sym e))

before_then : (x y z : List ℕ) → is_before x y ≡ true → is_before y z ≡ true → is_before x z ≡ true
before_then x y z p q = ap is_lt (nat_list_cmp_total.trans x y z (is_less (slice_cmp nat_cmp x y) p) (is_less (slice_cmp nat_cmp y z) q))

before_else : (x y : List ℕ) → is_before x y ≡ false → bytes_eq x y ≡ false → is_before y x ≡ true
before_else x y not_before other =
    elim (slice_cmp nat_cmp x y) as (λ o. slice_cmp nat_cmp x y ≡ o → is_before y x ≡ true) [
      | Less ↦ λ is. absurd (true≢false (sym (ap is_lt is) ∙ not_before))
      | Equal ↦ λ is. absurd (true≢false (sym (ap is_eq is) ∙ is_eq-slice_cmp x y ∙ other))
      | Greater ↦ λ is. ap is_lt (nat_list_cmp_total.antisymm y x ∙ ap ordering_reverse is)
    ] refl

-- ---- pairs that rise

-- the first name is behind this one
abbrev starts_above : List ℕ → List Pair → Bool
starts_above name [] = true
starts_above name (p ∷ ps) = is_before name p.0

risen_rest : (p : Pair) (ps : List Pair) → is_risen (p ∷ ps) ≡ true → (is_risen ps ≡ true) × (starts_above p.0 ps ≡ true)
risen_rest p [] risen = (refl, refl)
risen_rest p (q ∷ qs) risen = let both = and_parts (is_before p.0 q.0) (is_risen (q ∷ qs)) risen in (both.1, both.0)

risen_cons : (p : Pair) (ps : List Pair) → is_risen ps ≡ true → starts_above p.0 ps ≡ true → is_risen (p ∷ ps) ≡ true
risen_cons p [] risen above = refl
risen_cons p (q ∷ qs) risen above = and_from (is_before p.0 q.0) (is_risen (q ∷ qs)) above risen

above_then : (m n : List ℕ) (ps : List Pair) → is_before m n ≡ true → starts_above n ps ≡ true → starts_above m ps ≡ true
above_then m n [] before above = refl
above_then m n (p ∷ ps) before above = before_then m n p.0 before above

-- ---- lower ones in front

above_lower : (m n : List ℕ) (ps xs : List Pair) → starts_above m ps ≡ true → starts_above m xs ≡ true → starts_above m (lower n ps ++ xs) ≡ true
above_lower m n [] xs above here = here
above_lower m n (p ∷ ps) xs above here =
    elim (is_before p.0 n) as (λ b. starts_above m (cond b (p ∷ lower n ps) [] ++ xs) ≡ true) [
      | true ↦ above
      | false ↦ here
    ]

risen_lower : (n : List ℕ) (ps xs : List Pair) → is_risen ps ≡ true → is_risen xs ≡ true → ((m : List ℕ) → is_before m n ≡ true → starts_above m xs ≡ true) → is_risen (lower n ps ++ xs) ≡ true
risen_lower n [] xs risen rises above = rises
risen_lower n (p ∷ ps) xs risen rises above =
    let rest = risen_rest p ps risen in
    elim (is_before p.0 n) as (λ b. is_before p.0 n ≡ b → is_risen (cond b (p ∷ lower n ps) [] ++ xs) ≡ true) [
      | true ↦ λ e. risen_cons p (lower n ps ++ xs) (risen_lower n ps xs rest.0 rises above) (above_lower p.0 n ps xs rest.1 (above p.0 e))
      | false ↦ λ e. rises
    ] refl

-- ---- higher ones

record Higher (n : List ℕ) (ps : List Pair) : Type 0 where
  rises : is_risen ps ≡ true
  above : starts_above n ps ≡ true

higher_rises : (n : List ℕ) (ps : List Pair) → is_risen ps ≡ true → Higher n (higher n ps)
higher_rises n [] risen = record { rises = refl; above = refl }
higher_rises n (p ∷ ps) risen =
    let rest = risen_rest p ps risen in
    elim (is_before p.0 n) as (λ b. is_before p.0 n ≡ b → Higher n (cond b (higher n ps) (cond (bytes_eq p.0 n) ps (p ∷ ps)))) [
      | true ↦ λ e. higher_rises n ps rest.0
      | false ↦ λ e.
          elim (bytes_eq p.0 n) as (λ b. bytes_eq p.0 n ≡ b → Higher n (cond b ps (p ∷ ps))) [
            | true ↦ λ s. record { rises = rest.0; above = subst (λ x. starts_above x ps ≡ true) ((bytes_eq-Decides p.0 n).0 s) rest.1 }
            | false ↦ λ s. record { rises = risen; above = before_else p.0 n e s }
          ] refl
    ] refl

-- ---- the sent one between them

given_rises : (p : Pair) (ps : List Pair) → is_risen ps ≡ true → starts_above p.0 ps ≡ true → is_risen (given p ++ ps) ≡ true
given_rises p ps risen above =
    elim (length p.1 == 0) as (λ b. is_risen (cond b [] (p ∷ []) ++ ps) ≡ true) [
      | true ↦ risen
      | false ↦ risen_cons p ps risen above
    ]

given_above : (m : List ℕ) (p : Pair) (ps : List Pair) → is_before m p.0 ≡ true → starts_above p.0 ps ≡ true → starts_above m (given p ++ ps) ≡ true
given_above m p ps before above =
    elim (length p.1 == 0) as (λ b. starts_above m (cond b [] (p ∷ []) ++ ps) ≡ true) [
      | true ↦ above_then m p.0 ps before above
      | false ↦ before
    ]

record Merged (kept sent all : List Pair) : Type 0 where
  rises : is_risen all ≡ true
  above : (m : List ℕ) → starts_above m kept ≡ true → starts_above m sent ≡ true → starts_above m all ≡ true

merges : (kept sent : List Pair) → is_risen kept ≡ true → is_risen sent ≡ true → Merged kept sent (merged kept sent)
merges kept [] risen rising = record { rises = risen; above = λ m k s. k }
merges kept (p ∷ sent) risen rising =
    let high = higher_rises p.0 kept risen in
    let rest = risen_rest p sent rising in
    let more = merges (higher p.0 kept) sent high.rises rest.0 in
    let all = merged (higher p.0 kept) sent in
    let above = more.above p.0 high.above rest.1 in
    record {
      rises = risen_lower p.0 kept (given p ++ all) risen (given_rises p all more.rises above) (λ m before. given_above m p all before above);
      above = λ m k s. above_lower m p.0 kept (given p ++ all) k (given_above m p all s above);
    }

pub merged_rises : (kept sent : List Pair) → is_risen kept ≡ true → is_risen sent ≡ true → is_risen (merged kept sent) ≡ true
merged_rises kept sent risen rising = (merges kept sent risen rising).rises

-- ---- what a name has after a merge

never_before : (x : List ℕ) → is_before x x ≡ true → ⊥
never_before x before = true≢false (sym before ∙ ap is_lt (tied_itself nat_list_cmp_total x))

same_text : (x y : List ℕ) → bytes_eq x y ≡ true → x ≡ y
same_text x y same = (bytes_eq-Decides x y).0 same

-- a name before the first is not there
absent : (m : List ℕ) (ps : List Pair) → is_risen ps ≡ true → starts_above m ps ≡ true → value_of ps m ≡ None
absent m [] risen above = refl
absent m (p ∷ ps) risen above =
    let rest = risen_rest p ps risen in
    elim (bytes_eq p.0 m) as (λ b. bytes_eq p.0 m ≡ b → cond b (Some p.1) (value_of ps m) ≡ None) [
      | true ↦ λ same. absurd (never_before m (subst (λ x. is_before m x ≡ true) (same_text p.0 m same) above))
      | false ↦ λ other. absent m ps rest.0 (above_then m p.0 ps above rest.1)
    ] refl

-- an earlier name is among the lower ones, if it is there
low_value : (n m : List ℕ) (kept : List Pair) → is_risen kept ≡ true → is_before m n ≡ true → value_of (lower n kept) m ≡ value_of kept m
low_value n m [] risen before = refl
low_value n m (q ∷ qs) risen before =
    let rest = risen_rest q qs risen in
    elim (is_before q.0 n) as (λ b. is_before q.0 n ≡ b → value_of (cond b (q ∷ lower n qs) []) m ≡ value_of (q ∷ qs) m) [
      | true ↦ λ e. ap (λ o. cond (bytes_eq q.0 m) (Some q.1) o) (low_value n m qs rest.0 before)
      | false ↦ λ e.
          sym (absent m (q ∷ qs) risen
          (elim (bytes_eq q.0 n) as (λ b. bytes_eq q.0 n ≡ b → is_before m q.0 ≡ true) [
            | true ↦ λ same. subst (λ x. is_before m x ≡ true) (sym (same_text q.0 n same)) before
            | false ↦ λ other. before_then m n q.0 before (before_else q.0 n e other)
          ] refl))
    ] refl

-- a name that is not earlier is not among them
no_low_value : (n m : List ℕ) (kept : List Pair) → is_before m n ≡ false → value_of (lower n kept) m ≡ None
no_low_value n m [] not_before = refl
no_low_value n m (q ∷ qs) not_before =
    elim (is_before q.0 n) as (λ b. is_before q.0 n ≡ b → value_of (cond b (q ∷ lower n qs) []) m ≡ None) [
      | true ↦ λ e.
          elim (bytes_eq q.0 m) as (λ b. bytes_eq q.0 m ≡ b → cond b (Some q.1) (value_of (lower n qs) m) ≡ None) [
            | true ↦ λ same. absurd (true≢false (sym (subst (λ x. is_before x n ≡ true) (same_text q.0 m same) e) ∙ not_before))
            | false ↦ λ other. no_low_value n m qs not_before
          ] refl
      | false ↦ λ e. refl
    ] refl

-- a later name is among the higher ones, if it is there
high_value : (n m : List ℕ) (kept : List Pair) → is_before n m ≡ true → value_of (higher n kept) m ≡ value_of kept m
high_value n m [] before = refl
high_value n m (q ∷ qs) before =
    elim (is_before q.0 n) as (λ b. is_before q.0 n ≡ b → value_of (cond b (higher n qs) (cond (bytes_eq q.0 n) qs (q ∷ qs))) m ≡ value_of (q ∷ qs) m) [
      | true ↦ λ e. high_value n m qs before ∙ passed (λ same. never_before m (before_then m n m (subst (λ x. is_before x n ≡ true) same e) before))
      | false ↦ λ e.
          elim (bytes_eq q.0 n) as (λ b. bytes_eq q.0 n ≡ b → value_of (cond b qs (q ∷ qs)) m ≡ value_of (q ∷ qs) m) [
            | true ↦ λ here. passed (λ same. never_before m (subst (λ x. is_before x m ≡ true) (sym (same_text q.0 n here) ∙ same) before))
            | false ↦ λ other. refl
          ] refl
    ] refl where
      passed : (q.0 ≡ m → ⊥) → value_of qs m ≡ value_of (q ∷ qs) m
      passed never =
          elim (bytes_eq q.0 m) as (λ b. bytes_eq q.0 m ≡ b → value_of qs m ≡ cond b (Some q.1) (value_of qs m)) [
            | true ↦ λ same. absurd (never (same_text q.0 m same))
            | false ↦ λ other. refl
          ] refl

-- pairs in front in which a name is not
behind : (m : List ℕ) (xs ys : List Pair) → value_of xs m ≡ None → value_of (xs ++ ys) m ≡ value_of ys m
behind m [] ys none = refl
behind m (x ∷ xs) ys none =
    elim (bytes_eq x.0 m) as (λ b. cond b (Some x.1) (value_of xs m) ≡ None → cond b (Some x.1) (value_of (xs ++ ys) m) ≡ value_of ys m) [
      | true ↦ λ some. absurd (some_none some)
      | false ↦ λ here. behind m xs ys here
    ] none where
      some_none : Some x.1 ≡ None → ⊥
      some_none e = cc

-- pairs behind in which a name is not
front : (m : List ℕ) (xs ys : List Pair) → value_of ys m ≡ None → value_of (xs ++ ys) m ≡ value_of xs m
front m [] ys none = none
front m (x ∷ xs) ys none = ap (λ o. cond (bytes_eq x.0 m) (Some x.1) o) (front m xs ys none)

-- the sent pair says nothing of another name
other_name : (m : List ℕ) (p : Pair) (ps : List Pair) → bytes_eq p.0 m ≡ false → value_of (given p ++ ps) m ≡ value_of ps m
other_name m p ps other =
    elim (length p.1 == 0) as (λ b. value_of (cond b [] (p ∷ []) ++ ps) m ≡ value_of ps m) [
      | true ↦ refl
      | false ↦ ap (λ b. cond b (Some p.1) (value_of ps m)) other
    ]

-- and of its own its value, if that has a byte
own_name : (p : Pair) (ps : List Pair) → value_of ps p.0 ≡ None → value_of (given p ++ ps) p.0 ≡ value_after None (Some p.1)
own_name p ps none =
    elim (length p.1 == 0) as (λ b. value_of (cond b [] (p ∷ []) ++ ps) p.0 ≡ cond b None (Some p.1)) [
      | true ↦ none
      | false ↦ ap (λ b. cond b (Some p.1) (value_of ps p.0)) ((bytes_eq-Decides p.0 p.0).1 refl)
    ]

module _ (m : List ℕ) where
  merged_by : (p : Pair) (kept sent all : List Pair) → is_risen kept ≡ true → is_risen (p ∷ sent) ≡ true → is_risen all ≡ true → starts_above p.0 all ≡ true → value_of all m ≡ value_after (value_of (higher p.0 kept) m) (value_of sent m) → value_of (lower p.0 kept ++ (given p ++ all)) m ≡ value_after (value_of kept m) (value_of (p ∷ sent) m)
  merged_by p kept sent all risen rising rises above rest =
      elim (bytes_eq p.0 m) as (λ b. bytes_eq p.0 m ≡ b → value_of (lower p.0 kept ++ (given p ++ all)) m ≡ value_after (value_of kept m) (cond b (Some p.1) (value_of sent m))) [
        | true ↦ λ same.
            subst (λ x. value_of (lower p.0 kept ++ (given p ++ all)) x ≡ value_after (value_of kept x) (Some p.1)) (same_text p.0 m same)
            (behind p.0 (lower p.0 kept) (given p ++ all) (no_low_value p.0 p.0 kept (not_self p.0)) ∙ own_name p all (absent p.0 all rises above))
        | false ↦ λ other.
            let here = other_name m p all other in
            elim (is_before m p.0) as (λ b. is_before m p.0 ≡ b → value_of (lower p.0 kept ++ (given p ++ all)) m ≡ value_after (value_of kept m) (value_of sent m)) [
              | true ↦ λ earlier.
                  front m (lower p.0 kept) (given p ++ all) (here ∙ absent m all rises (above_then m p.0 all earlier above))
                  ∙ (low_value p.0 m kept risen earlier ∙ sym (ap (λ o. value_after (value_of kept m) o) (absent m sent (risen_rest p sent rising).0 (above_then m p.0 sent earlier (risen_rest p sent rising).1))))
              | false ↦ λ later.
                  behind m (lower p.0 kept) (given p ++ all) (no_low_value p.0 m kept later)
                  ∙ (here ∙ (rest ∙ ap (λ o. value_after o (value_of sent m)) (high_value p.0 m kept (before_else m p.0 later (other_side other)))))
            ] refl
      ] refl where
        not_self : (x : List ℕ) → is_before x x ≡ false
        not_self x = ap is_lt (tied_itself nat_list_cmp_total x)

        other_side : bytes_eq p.0 m ≡ false → bytes_eq m p.0 ≡ false
        other_side other =
            elim (bytes_eq m p.0) as (λ b. bytes_eq m p.0 ≡ b → b ≡ false) [
              | true ↦ λ same. absurd (true≢false (sym ((bytes_eq-Decides p.0 m).1 (sym (same_text m p.0 same))) ∙ other))
              | false ↦ λ e. refl
            ] refl

  pub merged_values : (kept sent : List Pair) → is_risen kept ≡ true → is_risen sent ≡ true → value_of (merged kept sent) m ≡ value_after (value_of kept m) (value_of sent m)
  merged_values kept [] risen rising = refl
  merged_values kept (p ∷ sent) risen rising =
      let high = higher_rises p.0 kept risen in
      let rest = risen_rest p sent rising in
      let more = merges (higher p.0 kept) sent high.rises rest.0 in
      merged_by p kept sent (merged (higher p.0 kept) sent) risen rising more.rises (more.above p.0 high.above rest.1) (merged_values (higher p.0 kept) sent high.rises rest.0)
