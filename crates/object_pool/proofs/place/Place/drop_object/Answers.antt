use Rattle.std.proofs.Common.{refl}
use Rattle.object_pool.proofs.PlaceLemmas.{becomes}
use Rattle.object_pool.proofs.place.Place.drop_object.Goals as goal

pub invariant_of-self : goal.invariant_of-self
invariant_of-self c = record { there = c.drop_object.ensures.there; sum = c.drop_object.ensures.sum }

pub returns : goal.returns
returns c = becomes c.args.self.now _ _ _ c.drop_object.ensures.after refl refl c.drop_object.ensures.sum c.args.self.now.there
