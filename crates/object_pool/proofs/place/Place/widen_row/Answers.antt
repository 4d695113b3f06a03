use Rattle.std.proofs.Common.{◌≡◌, OnErr, ap, refl, subst, ◌∙◌}
use Rattle.object_pool.specs.Objects.{Object}
use Rattle.object_pool.specs.Places.{object_of}
use Rattle.object_pool.proofs.PlaceLemmas.{parts_there, parts_sum, rows_change, readied, rows_now, stays_on_err}
use Rattle.object_pool.proofs.place.Place.widen_row.Goals as goal

pub invariant_of-self : goal.invariant_of-self
invariant_of-self c =
    let old = c.args.self.now in
    record { there = parts_there old (record { attrs = c.parts_mut.result.now.attrs; rows = c.widen.new.self }); sum = parts_sum old (record { attrs = c.parts_mut.result.now.attrs; rows = c.widen.new.self }) }

pub returns-clause-err : goal.returns-clause-err
returns-clause-err c = stays_on_err c.widen.result c.args.self.now _ c.widen.new.self c.parts_mut.result.now.attrs refl refl refl c.parts_mut.ensures.attrs (subst (λ z. OnErr c.widen.result (c.widen.new.self ≡ z)) (c.rows_mut.ensures.value ∙ c.parts_mut.ensures.rows) c.widen.ensures.err)

pub returns-clause-readied : goal.returns-clause-readied
returns-clause-readied c =
    let old = c.args.self.now in
    let change = rows_change old _ (record { attrs = c.parts_mut.result.now.attrs; rows = c.widen.new.self }) refl refl refl c.parts_mut.ensures.attrs in
    let rows = rows_now old (record (object_of old) { attrs = c.parts_mut.result.now.attrs; rows = c.widen.new.self }) in
    readied old _ c.rows_mut.result.now c.widen.new.self change (ap (λ (o : Object). o.rows) rows) (c.rows_mut.ensures.value ∙ c.parts_mut.ensures.rows) c.widen.ensures.readied
