use Rattle.std.proofs.Common.{ap, sym, length, ◌∙◌}
use Rattle.object_pool.specs.Objects.{is_key}
use Rattle.object_pool.proofs.FrameSums.{size_is}
use Rattle.object_pool.proofs.SlotLemmas.{entry_there, slot_there, held_of}
use Rattle.object_pool.proofs.pool.Pool.size.Goals as goal

pub stored_at-requires : goal.stored_at-requires
stored_at-requires c = entry_there c.self.inside.region _ _ (is_key c.args.key.now) (ap (λ p. p.slots) c.self.view_is) c.requires

pub returns : goal.returns
returns c =
    let held = held_of c.self.inside.region _ _ (is_key c.args.key.now) _ c.self.invariant c.stored_at.ensures in
    sym (ap (λ o. length o.bytes) (slot_there c.self.inside.region _ _ c.args.key.now _ (ap (λ p. p.slots) c.self.view_is) c.stored_at.ensures) ∙ size_is c.self.inside.region _ held)
