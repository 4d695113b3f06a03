-- Lists of tags: what they have, and what is due.
use Rattle.std.proofs.Common.{◌≡◌, ◌≢◌, ℕ, ◌==◌, ◌<◌, ◌≤◌, ◌||◌, not, Bool, true, false, cond, List, [], ◌∷◌, refl, sym, ◌∙◌, arith}
use Rattle.std.specs.Prelude.{nat_le}
use Rattle.std.specs.List.{list_any, AllByRecursion}
use Rattle.std.proofs.lemmas.Bool.Decides.{nat_tests}
use Rattle.object_words.specs.declared.entry.Tag.{Tag}
use Rattle.object_words.specs.Tags.{has_tag, with_tag, without_tag, is_due, has_due, tags_due_taken}
use Rattle.object_words.proofs.KeyLemmas.{number_itself}
use Rattle.realm_model.proofs.ObjectLemmas.{number_same}

or_right : (a b : Bool) → b ≡ true → (a || b) ≡ true
or_right true b is = refl
or_right false b is = is

or_map : (a b c : Bool) → (b ≡ true → c ≡ true) → (a || b) ≡ true → (a || c) ≡ true
or_map true b c step is = refl
or_map false b c step is = step is

-- an element that passes a test, with what holds of each
pub record Found {X : Type 0} (test : X → Bool) (P : X → Type 0) : Type 0 where
  pub x : X
  pub passes : test x ≡ true
  pub holds : P x

pub find_any : {X : Type 0} (test : X → Bool) (P : X → Type 0) (xs : List X) → list_any test xs ≡ true → AllByRecursion P xs → Found test P
find_any test P [] is all = cc
find_any test P (x ∷ xs) is all =
    elim (test x) as (λ b. test x ≡ b → (b || list_any test xs) ≡ true → Found test P) [
      | true ↦ λ passes h. record { x = x; passes = passes; holds = all.0 }
      | false ↦ λ fails h. find_any test P xs h all.1
    ] refl is

-- ---- without one

pub any_without : (p : Tag → Bool) (t : ℕ) (xs : List Tag) → list_any p (without_tag t xs) ≡ true → list_any p xs ≡ true
any_without p t [] h = h
any_without p t (x ∷ xs) h =
    elim (x.tag == t) as (λ b. list_any p (cond b xs (x ∷ without_tag t xs)) ≡ true → (p x || list_any p xs) ≡ true) [
      | true ↦ λ is. or_right (p x) (list_any p xs) is
      | false ↦ λ is. or_map (p x) (list_any p (without_tag t xs)) (list_any p xs) (any_without p t xs) is
    ] h

pub all_without : (P : Tag → Type 0) (t : ℕ) (xs : List Tag) → AllByRecursion P xs → AllByRecursion P (without_tag t xs)
all_without P t [] all = all
all_without P t (x ∷ xs) all =
    elim (x.tag == t) as (λ b. AllByRecursion P (cond b xs (x ∷ without_tag t xs))) [
      | true ↦ all.1
      | false ↦ (all.0, all_without P t xs all.1)
    ]

-- another tag stays
pub has_without : (t u : ℕ) (xs : List Tag) → u ≢ t → has_tag u xs ≡ true → has_tag u (without_tag t xs) ≡ true
has_without t u [] n h = h
has_without t u (x ∷ xs) n h =
    elim (x.tag == t) as (λ b. (x.tag == t) ≡ b → has_tag u (cond b xs (x ∷ without_tag t xs)) ≡ true) [
      | true ↦ λ is.
          elim (x.tag == u) as (λ c. (x.tag == u) ≡ c → (c || has_tag u xs) ≡ true → has_tag u xs ≡ true) [
            | true ↦ λ same k. absurd (n (sym (number_same x.tag u same) ∙ number_same x.tag t is))
            | false ↦ λ other k. k
          ] refl h
      | false ↦ λ is. or_map (x.tag == u) (has_tag u xs) (has_tag u (without_tag t xs)) (has_without t u xs n) h
    ] refl

-- ---- with one more

pub has_with : (t : Tag) (u : ℕ) (xs : List Tag) → has_tag u xs ≡ true → has_tag u (with_tag t xs) ≡ true
has_with t u [] h = cc
has_with t u (x ∷ xs) h = or_map (x.tag == u) (has_tag u xs) (has_tag u (with_tag t xs)) (has_with t u xs) h

pub has_new : (t : Tag) (xs : List Tag) → has_tag t.tag (with_tag t xs) ≡ true
has_new t [] = rw (number_itself t.tag) refl
has_new t (x ∷ xs) = or_right (x.tag == t.tag) (has_tag t.tag (with_tag t xs)) (has_new t xs)

pub with_has : (t : Tag) (u : ℕ) (xs : List Tag) → u ≢ t.tag → has_tag u (with_tag t xs) ≡ true → has_tag u xs ≡ true
with_has t u [] n h =
    elim (t.tag == u) as (λ b. (t.tag == u) ≡ b → (b || false) ≡ true → false ≡ true) [
      | true ↦ λ is k. absurd (n (sym (number_same t.tag u is)))
      | false ↦ λ is k. k
    ] refl h
with_has t u (x ∷ xs) n h = or_map (x.tag == u) (has_tag u (with_tag t xs)) (has_tag u xs) (with_has t u xs n) h

-- a tag that is not due
pub due_with : (t : Tag) (moment : ℕ) (xs : List Tag) → moment < t.deadline → has_due moment (with_tag t xs) ≡ true → has_due moment xs ≡ true
due_with t moment [] later h =
    elim (nat_le t.deadline moment) as (λ b. nat_le t.deadline moment ≡ b → (b || false) ≡ true → false ≡ true) [
      | true ↦ λ is k. let due : t.deadline ≤ moment = grind (arith, nat_tests) in absurd (omega (arith, due, later))
      | false ↦ λ is k. k
    ] refl h
due_with t moment (x ∷ xs) later h = or_map (is_due moment x) (has_due moment (with_tag t xs)) (has_due moment xs) (due_with t moment xs later) h

pub all_with : (P : Tag → Type 0) (t : Tag) (xs : List Tag) → P t → AllByRecursion P xs → AllByRecursion P (with_tag t xs)
all_with P t [] here all = (here, tt)
all_with P t (x ∷ xs) here all = (all.0, all_with P t xs here all.1)

-- ---- without those that are due

pub any_taken : (p : Tag → Bool) (moment : ℕ) (xs : List Tag) → list_any p (tags_due_taken moment xs) ≡ true → list_any p xs ≡ true
any_taken p moment [] h = h
any_taken p moment (x ∷ xs) h =
    elim (is_due moment x) as (λ b. list_any p (cond (not b) (x ∷ tags_due_taken moment xs) (tags_due_taken moment xs)) ≡ true → (p x || list_any p xs) ≡ true) [
      | true ↦ λ is. or_right (p x) (list_any p xs) (any_taken p moment xs is)
      | false ↦ λ is. or_map (p x) (list_any p (tags_due_taken moment xs)) (list_any p xs) (any_taken p moment xs) is
    ] h

pub all_taken : (P : Tag → Type 0) (moment : ℕ) (xs : List Tag) → AllByRecursion P xs → AllByRecursion P (tags_due_taken moment xs)
all_taken P moment [] all = all
all_taken P moment (x ∷ xs) all =
    elim (is_due moment x) as (λ b. AllByRecursion P (cond (not b) (x ∷ tags_due_taken moment xs) (tags_due_taken moment xs))) [
      | true ↦ all_taken P moment xs all.1
      | false ↦ (all.0, all_taken P moment xs all.1)
    ]

-- a tag that is not due stays
pub taken_has : (moment u : ℕ) (xs : List Tag) → AllByRecursion (λ x. x.tag ≡ u → moment < x.deadline) xs → has_tag u xs ≡ true → has_tag u (tags_due_taken moment xs) ≡ true
taken_has moment u [] late h = h
taken_has moment u (x ∷ xs) late h =
    elim (is_due moment x) as (λ b. is_due moment x ≡ b → has_tag u (cond (not b) (x ∷ tags_due_taken moment xs) (tags_due_taken moment xs)) ≡ true) [
      | true ↦ λ is.
          elim (x.tag == u) as (λ c. (x.tag == u) ≡ c → (c || has_tag u xs) ≡ true → has_tag u (tags_due_taken moment xs) ≡ true) [
            | true ↦ λ same k.
                let not_due = late.0 (number_same x.tag u same) in
                let due : x.deadline ≤ moment = grind (arith, nat_tests) in
                absurd (omega (arith, due, not_due))
            | false ↦ λ other k. taken_has moment u xs late.1 k
          ] refl h
      | false ↦ λ is. or_map (x.tag == u) (has_tag u xs) (has_tag u (tags_due_taken moment xs)) (taken_has moment u xs late.1) h
    ] refl
