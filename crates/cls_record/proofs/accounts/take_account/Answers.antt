use Rattle.std.proofs.Common.{false, sym, ap, ◌∙◌}
use Rattle.omap_pages.specs.Rows.{value_at}
use Rattle.object_pool.specs.Objects.{Object}
use Rattle.object_pool.specs.Places.{object_of, rows_of}
use Rattle.cls_record.proofs.RootLemmas.{account_changed}
use Rattle.cls_record.proofs.accounts.take_account.Goals as goal

pub returns-clause-root : goal.returns-clause-root
returns-clause-root c r owns account name is fits key =
    let change = c.take_row.ensures.change.object in
    account_changed (object_of c.args.root.now) (object_of c.take_row.new.self) r owns account name false is fits (ap (λ (o : Object). o.bytes) change) (ap (λ (o : Object). o.attrs) change)
    (ap (value_at (rows_of c.take_row.new.self).rows) (sym key) ∙ c.take_row.ensures.at_key) (λ q apart. c.take_row.ensures.others q (λ e. apart (e ∙ key)))
