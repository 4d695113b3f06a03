use Rattle.std.proofs.Common.{None, ap}
use Rattle.object_pool.specs.Objects.{Object}
use Rattle.object_pool.specs.Places.{object_of}
use Rattle.cls_record.proofs.RootLemmas.{row_changed}
use Rattle.cls_record.proofs.owned.take_row.Goals as goal

pub returns-clause-root : goal.returns-clause-root
returns-clause-root c r owns is =
    let change = c.take_row.ensures.change.object in
    row_changed (object_of c.args.root.now) (object_of c.take_row.new.self) r owns c.args.name.now None is c.requires tt (ap (λ (o : Object). o.bytes) change) (ap (λ (o : Object). o.attrs) change)
    c.take_row.ensures.at_key c.take_row.ensures.others
