use Rattle.std.proofs.Common.{sym, ◌∙◌}
use Rattle.object_pool.proofs.ShelfLemmas.{stays_there, leaves_none}
use Rattle.object_pool.proofs.shelf.forget_if_emptied.Goals as goal

pub returns-then-not-exists_at : goal.returns-then-not-exists_at
returns-then-not-exists_at c =
    leaves_none c.args.kept.now c.try_remove.new.self c.args.number (sym c.exists_at.ensures ∙ c.if-not-exists_at.true) c.try_remove.ensures.updates

pub returns-else-not-exists_at : goal.returns-else-not-exists_at
returns-else-not-exists_at c =
    stays_there c.args.kept.now c.args.number (sym c.exists_at.ensures ∙ c.if-not-exists_at.false)
