use Rattle.std.proofs.Common.{◌≡◌, ◌∷◌, sym, subst, ◌∙◌}
use Rattle.std.specs.Map.Iter.{deref}
use Rattle.std.proofs.lemmas.Map.Iter.{rest_more, rest_all}
use Rattle.object_pool.proofs.ShelfLemmas.{SweepsAll, sweep_starts, sweep_goes_on, sweep_ends}
use Rattle.object_pool.proofs.shelf.forget_emptied.Goals as goal

pub loop-number-init : goal.loop-number-init
loop-number-init c =
    subst (SweepsAll c.args.kept.now c.args.kept.now) (sym (c.into_iter-number-iterator.ensures.into_iter_gives ∙ c.values-number-items.ensures.rest)) (sweep_starts c.args.kept.now c.args.numbers.now.entries c.requires)

pub loop-number-preserved : goal.loop-number-preserved
loop-number-preserved c =
    let next : c.loop-number.number-iterator ≡ c.in-Some.number.now ∷ c.next.new.self = rest_more deref c.loop-number.number-iterator c.next.new.self c.next.result c.in-Some.number c.in-Some.is c.next.ensures.steps in
    sweep_goes_on c.args.kept.now c.loop-number.kept c.forget_if_emptied.new.kept c.in-Some.number.now c.next.new.self (subst (SweepsAll c.args.kept.now c.loop-number.kept) next c.loop-number.invariant) c.forget_if_emptied.ensures

pub returns : goal.returns
returns c =
    sweep_ends c.args.kept.now c.loop-number.kept c.loop-number.number-iterator (rest_all deref c.loop-number.number-iterator c.next.new.self c.next.result c.in-None.is c.next.ensures.steps) c.loop-number.invariant
