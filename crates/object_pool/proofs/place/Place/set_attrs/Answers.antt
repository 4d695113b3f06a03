use Rattle.std.proofs.Common.{ap, refl, ◌∙◌}
use Rattle.object_pool.proofs.PlaceLemmas.{parts_there, parts_sum, attrs_change}
use Rattle.object_pool.proofs.place.Place.set_attrs.Goals as goal

pub invariant_of-self : goal.invariant_of-self
invariant_of-self c = record { there = parts_there c.args.self.now c.set_attrs.new.self; sum = parts_sum c.args.self.now c.set_attrs.new.self }

pub returns : goal.returns
returns c = attrs_change c.args.self.now _ c.set_attrs.new.self c.args.attrs refl refl refl (ap (λ w. w.attrs) c.set_attrs.ensures) (ap (λ w. w.rows) c.set_attrs.ensures ∙ c.parts_mut.ensures.rows)
