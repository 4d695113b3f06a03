use Rattle.std.proofs.Common.{sym}
use Rattle.object_pool.proofs.ShelfLemmas.{found_number}
use Rattle.object_pool.proofs.shelf.locate.Goals as goal

pub returns-then-is_at : goal.returns-then-is_at
returns-then-is_at c =
    sym (found_number c.args.kept.now c.args.numbers.now.entries c.requires c.args.number c.args.key.now (c.is_at.ensures c.if-is_at.true))
