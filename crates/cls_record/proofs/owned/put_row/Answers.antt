use Rattle.std.proofs.Common.{Some, ap, ◌∙◌, sym}
use Rattle.omap_pages.specs.Rows.{value_at}
use Rattle.object_pool.specs.Objects.{Object}
use Rattle.object_pool.specs.Places.{object_of, rows_of}
use Rattle.cls_record.proofs.RootLemmas.{row_changed}
use Rattle.cls_record.proofs.owned.put_row.Goals as goal

pub returns-in-Ok-clause-ok : goal.returns-in-Ok-clause-ok
returns-in-Ok-clause-ok c r owns b is fits row =
    let change = c.in-Ok.ensures.change.object in
    let key = c.in_ok-key.ensures in
    row_changed (object_of c.args.root.now) (object_of c.put_row.new.self) r owns c.args.name.now (Some b) is c.requires fits (ap (λ (o : Object). o.bytes) change) (ap (λ (o : Object). o.attrs) change)
    (ap (value_at (rows_of c.put_row.new.self).rows) (sym key) ∙ c.in-Ok.ensures.at_key ∙ ap Some row) (λ q apart. c.in-Ok.ensures.others q (λ e. apart (e ∙ key)))
