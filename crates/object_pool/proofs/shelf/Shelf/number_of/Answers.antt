use Rattle.std.proofs.Common.{ap, is_some, ◌∙◌}
use Rattle.object_pool.specs.Objects.{is_key}
use Rattle.object_pool.proofs.ShelfLemmas.{number_or_not}
use Rattle.object_pool.proofs.shelf.Shelf.number_of.Goals as goal

pub returns : goal.returns
returns c = ap is_some c.locate.ensures ∙ number_or_not c.self.inside.kept c.self.inside.numbers.entries _ (is_key c.args.key.now) c.self.view_is
