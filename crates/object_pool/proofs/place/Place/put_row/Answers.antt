use Rattle.std.proofs.Common.{◌≡◌, OnErr, refl, subst, ◌∙◌}
use Rattle.object_pool.proofs.PlaceLemmas.{parts_there, parts_sum, rows_change, stays_on_err}
use Rattle.object_pool.proofs.place.Place.put_row.Goals as goal

pub invariant_of-self : goal.invariant_of-self
invariant_of-self c =
    let old = c.args.self.now in
    record { there = parts_there old (record { attrs = c.parts_mut.result.now.attrs; rows = c.put.new.self }); sum = parts_sum old (record { attrs = c.parts_mut.result.now.attrs; rows = c.put.new.self }) }

pub returns-clause-change : goal.returns-clause-change
returns-clause-change c = rows_change c.args.self.now _ (record { attrs = c.parts_mut.result.now.attrs; rows = c.put.new.self }) refl refl refl c.parts_mut.ensures.attrs

pub returns-clause-err : goal.returns-clause-err
returns-clause-err c = stays_on_err c.put.result c.args.self.now _ c.put.new.self c.parts_mut.result.now.attrs refl refl refl c.parts_mut.ensures.attrs (subst (λ z. OnErr c.put.result (c.put.new.self ≡ z)) (c.rows_mut.ensures.value ∙ c.parts_mut.ensures.rows) c.put.ensures.err)
