use Rattle.std.proofs.Common.{ap, sym}
use Rattle.object_pool.specs.Objects.{is_key}
use Rattle.object_pool.proofs.SlotLemmas.{entry_there, slot_there}
use Rattle.object_pool.proofs.pool.Pool.parts.Goals as goal

pub stored_at-requires : goal.stored_at-requires
stored_at-requires c = entry_there c.self.inside.region _ _ (is_key c.args.key.now) (ap (λ p. p.slots) c.self.view_is) c.requires

pub returns-clause-attrs : goal.returns-clause-attrs
returns-clause-attrs c = ap (λ o. o.attrs) (sym (slot_there c.self.inside.region _ _ c.args.key.now _ (ap (λ p. p.slots) c.self.view_is) c.stored_at.ensures))

pub returns-clause-rows : goal.returns-clause-rows
returns-clause-rows c = ap (λ o. o.rows) (sym (slot_there c.self.inside.region _ _ c.args.key.now _ (ap (λ p. p.slots) c.self.view_is) c.stored_at.ensures))
