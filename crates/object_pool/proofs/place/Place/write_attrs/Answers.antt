use Rattle.std.proofs.Common.{◌+◌, length, ap, refl, ◌∙◌}
use Rattle.std.specs.List.{splice}
use Rattle.object_pool.specs.Places.{object_of}
use Rattle.object_pool.proofs.PlaceLemmas.{parts_there, parts_sum, attrs_change}
use Rattle.object_pool.proofs.place.Place.write_attrs.Goals as goal

pub invariant_of-self : goal.invariant_of-self
invariant_of-self c = record { there = parts_there c.args.self.now c.write_attrs.new.self; sum = parts_sum c.args.self.now c.write_attrs.new.self }

pub returns : goal.returns
returns c = attrs_change c.args.self.now _ c.write_attrs.new.self (splice (object_of c.args.self.now).attrs c.args.start (c.args.start + length c.args.bytes.now) c.args.bytes.now) refl refl refl (ap (λ w. w.attrs) c.write_attrs.ensures ∙ ap (λ z. splice z c.args.start (c.args.start + length c.args.bytes.now) c.args.bytes.now) c.parts_mut.ensures.attrs) (ap (λ w. w.rows) c.write_attrs.ensures ∙ c.parts_mut.ensures.rows)
