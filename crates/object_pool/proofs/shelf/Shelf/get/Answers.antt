use Rattle.std.proofs.Common.{is_some, ap, sym, ◌∙◌}
use Rattle.std.specs.Map.{lookup}
use Rattle.std.specs.Option.{option_copied}
use Rattle.object_pool.specs.Objects.{is_key}
use Rattle.object_pool.specs.Shelves.{HasKey}
use Rattle.object_pool.proofs.Lent.{some_ref}
use Rattle.object_pool.proofs.ShelfLemmas.{number_found, found_object, found_nothing}
use Rattle.object_pool.proofs.shelf.Shelf.get.Goals as goal

pub unwrap-requires : goal.unwrap-requires
unwrap-requires c =
    let has : HasKey c.self.inside.kept c.in-Some.found c.args.key.now =
    number_found c.self.inside.kept c.self.inside.numbers.entries c.args.key.now c.in-Some.found c.self.invariant.named (sym c.locate.ensures ∙ c.in-Some.is) in
    some_ref c.get.result (ap is_some (c.get.ensures ∙ has.there))

pub returns-in-Some : goal.returns-in-Some
returns-in-Some c =
    sym (found_object c.self.inside.kept c.self.inside.numbers.entries c.self.invariant c.in-Some.found c.args.key.now c.unwrap.result.now (sym c.locate.ensures ∙ c.in-Some.is) (sym c.get.ensures ∙ ap option_copied c.unwrap.ensures))
    ∙ ap (lookup (is_key c.args.key.now)) c.self.view_is

pub returns-in-None : goal.returns-in-None
returns-in-None c =
    sym (found_nothing c.self.inside.kept c.self.inside.numbers.entries (is_key c.args.key.now) (sym c.locate.ensures ∙ c.in-None.is))
    ∙ ap (lookup (is_key c.args.key.now)) c.self.view_is
