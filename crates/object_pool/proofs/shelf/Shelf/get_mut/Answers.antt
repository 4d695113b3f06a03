use Rattle.std.proofs.Common.{◌≡◌, Some, is_some, ap, refl, sym, ◌∙◌}
use Rattle.std.specs.Map.{lookup, set_value}
use Rattle.std.specs.Option.{option_copied_mut}
use Rattle.slab.specs.Slab.{get}
use Rattle.object_pool.specs.Objects.{is_key}
use Rattle.object_pool.specs.Shelves.{HasKey}
use Rattle.object_pool.proofs.Lent.{some_mut}
use Rattle.object_pool.proofs.ShelfLemmas.{number_found, found_object, number_or_not, lent_shelf, lent_view}
use Rattle.object_pool.proofs.shelf.Shelf.get_mut.Goals as goal

pub unwrap-found-requires : goal.unwrap-found-requires
unwrap-found-requires c =
    ap is_some c.locate.ensures ∙ number_or_not c.self.inside.kept c.self.inside.numbers.entries _ (is_key c.args.key.now) c.self.view_is ∙ c.requires

pub unwrap-kept-requires : goal.unwrap-kept-requires
unwrap-kept-requires c =
    let has : HasKey c.self.inside.kept c.unwrap-found.result c.args.key.now =
    number_found c.self.inside.kept c.self.inside.numbers.entries c.args.key.now c.unwrap-found.result c.self.invariant.named (sym c.locate.ensures ∙ c.unwrap-found.ensures) in
    some_mut c.get_mut.result (ap is_some (c.get_mut.ensures.value ∙ has.there))

pub invariant_of-self-lent : goal.invariant_of-self-lent
invariant_of-self-lent c w =
    let at : get c.self.inside.kept c.unwrap-found.result ≡ Some c.unwrap-kept.result.now = sym c.get_mut.ensures.value ∙ ap option_copied_mut c.unwrap-kept.ensures in
    lent_shelf c.self.inside.kept c.self.inside.numbers.entries c.self.invariant c.args.key.now c.unwrap-found.result (sym c.locate.ensures ∙ c.unwrap-found.ensures) c.unwrap-kept.result.now at w

pub returns : goal.returns
returns c =
    let key = c.args.key.now in
    let kept = c.self.inside.kept in
    let numbers = c.self.inside.numbers.entries in
    let x = c.unwrap-kept.result.now in
    let found : lookup (is_key key) numbers ≡ Some c.unwrap-found.result = sym c.locate.ensures ∙ c.unwrap-found.ensures in
    let at : get kept c.unwrap-found.result ≡ Some x = sym c.get_mut.ensures.value ∙ ap option_copied_mut c.unwrap-kept.ensures in
    let before = c.self.view_is in (
      (
        refl,
        λ w. lent_view kept numbers c.self.invariant key c.unwrap-found.result found x at w ∙ ap (λ z. set_value (is_key key) z w) before,
      ),
      record { lends = tt; value = ap (lookup (is_key key)) (sym before) ∙ found_object kept numbers c.self.invariant c.unwrap-found.result key x found at },
    )
