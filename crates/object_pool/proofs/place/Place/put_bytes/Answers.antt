use Rattle.std.proofs.Common.{IsSome, refl, sym, subst}
use Rattle.std.specs.Map.{lookup}
use Rattle.object_pool.specs.Objects.{HasFrameSum, is_key}
use Rattle.object_pool.proofs.PlaceLemmas.{becomes_on_ok, on_ok_same}
use Rattle.object_pool.proofs.place.Place.put_bytes.Goals as goal

pub invariant_of-self : goal.invariant_of-self
invariant_of-self c =
    let same = sym c.note_frame.ensures in
    record {
      there = subst (λ p. IsSome (lookup (is_key c.args.self.now.key.now) p.slots)) same c.put_bytes-done.ensures.there;
      sum = subst HasFrameSum same c.put_bytes-done.ensures.sum;
    }

pub returns-clause-ok : goal.returns-clause-ok
returns-clause-ok c =
    becomes_on_ok c.put_bytes-done.result c.args.self.now _ _ _ (on_ok_same c.put_bytes-done.result _ _ _ c.put_bytes-done.ensures.ok c.note_frame.ensures) refl refl
