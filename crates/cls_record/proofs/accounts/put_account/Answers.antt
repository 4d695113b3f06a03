use Rattle.std.proofs.Common.{Some, true, sym, ap, ◌∙◌}
use Rattle.omap_pages.specs.Rows.{value_at}
use Rattle.object_pool.specs.Objects.{Object}
use Rattle.object_pool.specs.Places.{object_of, rows_of}
use Rattle.cls_record.proofs.RootLemmas.{account_changed}
use Rattle.cls_record.proofs.accounts.put_account.Goals as goal

pub returns-in-Ok-clause-ok : goal.returns-in-Ok-clause-ok
returns-in-Ok-clause-ok c r owns account name is fits key =
    let change = c.in-Ok.ensures.change.object in
    let copy = c.in_ok-copy.ensures ∙ key in
    account_changed (object_of c.args.root.now) (object_of c.put_row.new.self) r owns account name true is fits (ap (λ (o : Object). o.bytes) change) (ap (λ (o : Object). o.attrs) change)
    (ap (value_at (rows_of c.put_row.new.self).rows) (sym copy) ∙ c.in-Ok.ensures.at_key ∙ ap Some c.new.ensures) (λ q apart. c.in-Ok.ensures.others q (λ e. apart (e ∙ copy)))
