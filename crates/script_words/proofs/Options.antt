-- What a chain of options gives, and what tests of words say.
use Rattle.std.proofs.Common.{◌≡◌, ◌⊎◌, inl, inr, ℕ, Bool, true, false, cond, List, Option, Some, None, refl}
use Rattle.std.specs.Prelude.{bytes_eq}
use Rattle.std.specs.Option.{option_map, option_and_then}
use Rattle.std.proofs.lemmas.Option.{none-some, same_Some}
use Rattle.std.proofs.lemmas.Slice.Eq.{bytes_eq-Decides}

pub map_some : {A B : Type 0} (f : A → B) (o : Option A) (y : B) → option_map f o ≡ Some y → (x : A) × (o ≡ Some x) × (f x ≡ y)
map_some f None y is = absurd (none-some y is)
map_some f (Some x) y is = (x, refl, same_Some (f x) y is)

pub then_some : {A B : Type 0} (f : A → Option B) (o : Option A) (y : B) → option_and_then f o ≡ Some y → (x : A) × (o ≡ Some x) × (f x ≡ Some y)
then_some f None y is = absurd (none-some y is)
then_some f (Some x) y is = (x, refl, is)

-- one of two readings
pub either_some : {A : Type 0} (test : Bool) (x y : Option A) (v : A) → cond test x y ≡ Some v
    → ((test ≡ true) × (x ≡ Some v)) ⊎ ((test ≡ false) × (y ≡ Some v))
either_some true x y v is = inl (refl, is)
either_some false x y v is = inr (refl, is)

pub same_word : (word text : List ℕ) → bytes_eq word text ≡ true → word ≡ text
same_word word text is = (bytes_eq-Decides word text).0 is
