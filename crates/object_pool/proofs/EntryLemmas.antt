-- What a change of one entry is to all of them.
use Rattle.std.proofs.Common.{◌≡◌, ℕ, ◌+◌, Bool, true, false, cond, List, [], ◌∷◌, map, sum_by, Some, None, is_some, unwrap_or, refl, sym, ◌∙◌, ap, subst, arith}
use Rattle.std.specs.List.{AllByRecursion}
use Rattle.std.specs.Option.{option_map}
use Rattle.std.specs.Map.{lookup, set_value}
use Rattle.std.proofs.lemmas.List.Sums.{sum_by-cons}

-- a choice by a test whose answer is known
pub cond-true : {A : Type 0} {b : Bool} (x y : A) → b ≡ true → cond b x y ≡ x
cond-true x y e = ap (λ c. cond c x y) e

pub cond-false : {A : Type 0} {b : Bool} (x y : A) → b ≡ false → cond b x y ≡ y
cond-false x y e = ap (λ c. cond c x y) e

module _ {K X : Type 0} (test : K → Bool) where
  pub lookup_map : {Y : Type 0} (f : X → Y) (es : List (K × X)) → lookup test (map (λ e. (e.0, f e.1)) es) ≡ option_map f (lookup test es)
  lookup_map f [] = refl
  lookup_map f (e ∷ es) =
      elim (test e.0) as (λ b. cond b (Some (f e.1)) (lookup test (map (λ e. (e.0, f e.1)) es)) ≡ option_map f (cond b (Some e.1) (lookup test es))) [
        | true ↦ refl
        | false ↦ lookup_map f es
      ]

  pub set_value_map : {Y : Type 0} (f : X → Y) (es : List (K × X)) (w : X) → map (λ e. (e.0, f e.1)) (set_value test es w) ≡ set_value test (map (λ e. (e.0, f e.1)) es) (f w)
  set_value_map f [] w = refl
  set_value_map f (e ∷ es) w =
      elim (test e.0) as (λ b. map (λ e. (e.0, f e.1)) (cond b ((e.0, w) ∷ es) (e ∷ set_value test es w)) ≡ cond b ((e.0, f w) ∷ map (λ e. (e.0, f e.1)) es) ((e.0, f e.1) ∷ set_value test (map (λ e. (e.0, f e.1)) es) (f w))) [
        | true ↦ refl
        | false ↦ ap (λ z. (e.0, f e.1) ∷ z) (set_value_map f es w)
      ]

  -- a fact of each value is one of the value that is found
  pub all_at : (P : X → Type 0) (es : List (K × X)) (o : X) → AllByRecursion (λ e. P e.1) es → lookup test es ≡ Some o → P o
  all_at P [] o h found = absurd (let bad : None ≡ Some o = found in cc)
  all_at P (e ∷ es) o h found =
      elim (test e.0) as (λ b. cond b (Some e.1) (lookup test es) ≡ Some o → P o) [
        | true ↦ λ here. let same : e.1 ≡ o = cc in subst P same h.0
        | false ↦ λ later. all_at P es o h.1 later
      ] found

  -- and stays one where a value with it takes a place
  pub all_set : (P : X → Type 0) (es : List (K × X)) (w : X) → AllByRecursion (λ e. P e.1) es → P w → AllByRecursion (λ e. P e.1) (set_value test es w)
  all_set P [] w h p = h
  all_set P (e ∷ es) w h p =
      elim (test e.0) as (λ b. AllByRecursion (λ e. P e.1) (cond b ((e.0, w) ∷ es) (e ∷ set_value test es w))) [
        | true ↦ (p, h.1)
        | false ↦ (h.0, all_set P es w h.1 p)
      ]

  -- the sum changes by what the value changes
  pub sum_set : (f : X → ℕ) (es : List (K × X)) (o w : X) → lookup test es ≡ Some o → sum_by (λ e. f e.1) (set_value test es w) + f o ≡ sum_by (λ e. f e.1) es + f w
  sum_set f [] o w found = absurd (let bad : None ≡ Some o = found in cc)
  sum_set f (e ∷ es) o w found =
      let F : K × X → ℕ = λ e. f e.1 in
      elim (test e.0) as (λ b. cond b (Some e.1) (lookup test es) ≡ Some o → sum_by F (cond b ((e.0, w) ∷ es) (e ∷ set_value test es w)) + f o ≡ sum_by F (e ∷ es) + f w) [
        | true ↦ λ here.
            let same : e.1 ≡ o = cc in
            let fs : f e.1 ≡ f o = ap f same in
            let left = sum_by-cons F (e.0, w) es in
            let right = sum_by-cons F e es in
            let t : sum_by F ((e.0, w) ∷ es) + f o ≡ sum_by F (e ∷ es) + f w = omega (arith, fs, left, right) in t
        | false ↦ λ later.
            let more = sum_set f es o w later in
            let left = sum_by-cons F e (set_value test es w) in
            let right = sum_by-cons F e es in
            let t : sum_by F (e ∷ set_value test es w) + f o ≡ sum_by F (e ∷ es) + f w = omega (arith, more, left, right) in t
      ] found

  pub found_there : (es : List (K × X)) (d : X) → is_some (lookup test es) ≡ true → lookup test es ≡ Some (unwrap_or (lookup test es) d)
  found_there es d there =
      elim (lookup test es) as (λ o. is_some o ≡ true → o ≡ Some (unwrap_or o d)) [
        | None ↦ λ bad. absurd (let no : false ≡ true = bad in cc)
        | Some x ↦ λ _. refl
      ] there

  -- the value that was written is found
  pub lookup_set : (es : List (K × X)) (w : X) → is_some (lookup test es) ≡ true → lookup test (set_value test es w) ≡ Some w
  lookup_set [] w there = absurd (let no : false ≡ true = there in cc)
  lookup_set (e ∷ es) w there =
      elim (test e.0) as (λ b. test e.0 ≡ b → is_some (cond b (Some e.1) (lookup test es)) ≡ true → lookup test (cond b ((e.0, w) ∷ es) (e ∷ set_value test es w)) ≡ Some w) [
        | true ↦ λ is _. cond-true (Some w) (lookup test es) is
        | false ↦ λ is later. cond-false (Some e.1) (lookup test (set_value test es w)) is ∙ lookup_set es w later
      ] refl there

  -- and a look-up of another key finds what it found
  pub lookup_set_other : (other : K → Bool) → ((x : K) → test x ≡ true → other x ≡ false) → (es : List (K × X)) (w : X) → lookup other (set_value test es w) ≡ lookup other es
  lookup_set_other other apart [] w = refl
  lookup_set_other other apart (e ∷ es) w =
      elim (test e.0) as (λ b. test e.0 ≡ b → lookup other (cond b ((e.0, w) ∷ es) (e ∷ set_value test es w)) ≡ lookup other (e ∷ es)) [
        | true ↦ λ is. cond-false (Some w) (lookup other es) (apart e.0 is) ∙ sym (cond-false (Some e.1) (lookup other es) (apart e.0 is))
        | false ↦ λ _. ap (λ z. cond (other e.0) (Some e.1) z) (lookup_set_other other apart es w)
      ] refl

  pub set_value_twice : (es : List (K × X)) (v w : X) → set_value test (set_value test es v) w ≡ set_value test es w
  set_value_twice [] v w = refl
  set_value_twice (e ∷ es) v w =
      elim (test e.0) as (λ b. test e.0 ≡ b → set_value test (cond b ((e.0, v) ∷ es) (e ∷ set_value test es v)) w ≡ cond b ((e.0, w) ∷ es) (e ∷ set_value test es w)) [
        | true ↦ λ is. cond-true ((e.0, w) ∷ es) ((e.0, v) ∷ set_value test es w) is
        | false ↦ λ is. cond-false ((e.0, w) ∷ set_value test es v) (e ∷ set_value test (set_value test es v) w) is ∙ ap (λ z. e ∷ z) (set_value_twice es v w)
      ] refl

-- a fact of each is passed on
pub all_map : {A : Type 0} {P Q : A → Type 0} (xs : List A) → ((x : A) → P x → Q x) → AllByRecursion P xs → AllByRecursion Q xs
all_map [] f h = tt
all_map (x ∷ xs) f h = (f x h.0, all_map xs f h.1)
