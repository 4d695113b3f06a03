-- Why a call does nothing: of several reasons the first, in the order of the tests.
use Rattle.std.specs.Prelude.{Option, Some, None}
use Rattle.object_words.specs.declared.why.Why.{Why}
use Rattle.object_words.specs.declared.why.Why.TheVariants.{Held, Moved, Closed}
use Rattle.object_words.specs.declared.shard.Hold.{Hold}
use Rattle.object_words.specs.declared.shard.Hold.TheVariants.{Free, Reshard, Closing}
use Rattle.object_words.specs.declared.shard.Fate.{Fate}
use Rattle.object_words.specs.declared.shard.Fate.TheVariants as Fates
use Rattle.object_words.specs.Shards.{Shard}

-- of two reasons the first
abbrev pub first_refusal : Option Why → Option Why → Option Why
first_refusal None next = next
first_refusal (Some why) next = Some why

-- what a call leaves: the object as it was where it is refused
abbrev pub unless_refused : {X : Type 0} → Option Why → X → X → X
unless_refused None old new = new
unless_refused (Some why) old new = old

-- a shard that no longer serves
abbrev pub fate_refusal : Fate → Option Why
fate_refusal Fates.Serving = None
fate_refusal (Fates.Moved instance) = Some (Moved instance)
fate_refusal Fates.Closed = Some Closed

-- a shard that is held
abbrev pub hold_refusal : Hold → Option Why
hold_refusal Free = None
hold_refusal (Reshard number) = Some (Held number)
hold_refusal (Closing number) = Some (Held number)

-- a shard that takes no change of an entry
abbrev pub change_refusal : Shard → Option Why
change_refusal s = first_refusal (fate_refusal s.fate) (hold_refusal s.hold)
