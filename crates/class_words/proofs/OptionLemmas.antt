-- Values that are there.
use Rattle.std.proofs.Common.{◌≡◌, Option, Some, IsSome, refl, sym, ap, subst}
use Rattle.std.specs.Prelude.{unwrap_or}

pub some_same : {X : Type 0} (x y : X) → Some x ≡ Some y → x ≡ y
some_same x y e = ap (λ o. unwrap_or o x) e

pub is_some_at : {X : Type 0} (o : Option X) (x : X) → o ≡ Some x → IsSome o
is_some_at o x e = subst IsSome (sym e) refl
