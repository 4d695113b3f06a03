-- What a call on a shard leaves is a shard.
use Rattle.std.proofs.Common.{Option, Result, Ok, Err}
use Rattle.object_words.specs.declared.why.Why.{Why}
use Rattle.object_words.specs.declared.why.ClassFault.{ClassFault}
use Rattle.object_words.specs.declared.why.ClassFault.TheVariants.{No, OutOfMemory}
use Rattle.object_words.specs.Answers.{Answers}

module _ {V S : Type 0} where
  -- what is left, whatever is answered
  pub one_left : (result : Result V ClassFault) (refusal : Option Why) (IsValue : V → Type 0) (Is : S → Type 0) (before after : S) → Answers result refusal IsValue Is before after → (s : S) × Is s
  one_left (Ok value) refusal IsValue Is before after is = (after, is.2)
  one_left (Err (No why)) refusal IsValue Is before after is = (after, is.1)
  one_left (Err OutOfMemory) refusal IsValue Is before after is = (before, is)
