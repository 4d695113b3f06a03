use Rattle.std.proofs.Common.{Option, Result, Ok, Err}
use Rattle.object_pool.specs.declared.place.Place.{Place}
use Rattle.object_pool.specs.Places.{object_of}
use Rattle.object_words.specs.declared.head.Changed.{Changed}
use Rattle.object_words.specs.declared.why.Why.{Why}
use Rattle.object_words.specs.declared.why.ClassFault.{ClassFault}
use Rattle.object_words.specs.declared.why.ClassFault.TheVariants.{OutOfMemory, No}
use Rattle.object_words.specs.Answers.{Answers}
use Rattle.object_words.specs.Heads.{Head}
use Rattle.cls_head.specs.Heads.{IsHead, LeavesHead}
use Rattle.class_tests.proofs.heads.change.Goals as goal

-- what is left is a head, whatever the answer
still_head : (r : Result Changed ClassFault) (refusal : Option Why) (IsValue : Changed → Type 0) (old new : Place) (h after : Head)
    → Answers r refusal IsValue (LeavesHead old new h) h after → (x : Head) × IsHead (object_of new) x
still_head (Ok changed) refusal IsValue old new h after a = (after, a.2.head)
still_head (Err (No why)) refusal IsValue old new h after a = (after, a.1.head)
still_head (Err OutOfMemory) refusal IsValue old new h after a = (h, a.head)

pub returns : goal.returns
returns c = still_head c.write.result _ _ _ _ _ _ (c.write.ensures.answers c.requires.head.0 c.requires.head.1)
