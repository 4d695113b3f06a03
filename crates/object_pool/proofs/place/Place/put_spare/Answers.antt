use Rattle.std.proofs.Common.{refl}
use Rattle.object_pool.proofs.PlaceLemmas.{parts_there, parts_sum, rows_change}
use Rattle.object_pool.proofs.place.Place.put_spare.Goals as goal

pub invariant_of-self : goal.invariant_of-self
invariant_of-self c =
    let old = c.args.self.now in
    record { there = parts_there old (record { attrs = c.parts_mut.result.now.attrs; rows = c.put_spare.new.self }); sum = parts_sum old (record { attrs = c.parts_mut.result.now.attrs; rows = c.put_spare.new.self }) }

pub returns-clause-change : goal.returns-clause-change
returns-clause-change c = rows_change c.args.self.now _ (record { attrs = c.parts_mut.result.now.attrs; rows = c.put_spare.new.self }) refl refl refl c.parts_mut.ensures.attrs
