-- What a call on an object answers, in the model's words: its refusal, or none, with what it leaves.
use Rattle.std.specs.Prelude.{◌≡◌, Option, Some, None, Result, Ok, Err}
use Rattle.object_words.specs.declared.why.Why.{Why}
use Rattle.object_words.specs.declared.why.ClassFault.{ClassFault}
use Rattle.object_words.specs.declared.why.ClassFault.TheVariants.{OutOfMemory, No}

module _ {V S : Type 0} where
  -- a call that may want memory: then the object is what it was
  abbrev pub Answers : Result V ClassFault → Option Why → (V → Type 0) → (S → Type 0) → S → S → Type 0
  Answers (Ok value) refusal IsValue Is before after = (refusal ≡ None) × IsValue value × Is after
  Answers (Err (No why)) refusal IsValue Is before after = (refusal ≡ Some why) × Is after
  Answers (Err OutOfMemory) refusal IsValue Is before after = Is before

  -- a call that takes no memory
  abbrev pub Replies : Result V Why → Option Why → (V → Type 0) → (S → Type 0) → S → Type 0
  Replies (Ok value) refusal IsValue Is after = (refusal ≡ None) × IsValue value × Is after
  Replies (Err why) refusal IsValue Is after = (refusal ≡ Some why) × Is after
