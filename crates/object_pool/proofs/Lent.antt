-- A look-up that finds something.
use Rattle.std.proofs.Common.{Option, None, Some, IsSome, rules}
use Rattle.std.specs.Option.{option_copied, option_copied_mut}
use Rattle.std.specs.Borrow.{Bor, MutBor}

pub some_mut : {X : Type 0} (r : Option (MutBor X)) → IsSome (option_copied_mut r) → IsSome r
some_mut None bad = bad
some_mut (Some x) _ = search rules

pub some_ref : {X : Type 0} (r : Option (Bor X)) → IsSome (option_copied r) → IsSome r
some_ref None bad = bad
some_ref (Some x) _ = search rules
