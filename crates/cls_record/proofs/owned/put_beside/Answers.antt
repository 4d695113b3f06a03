use Rattle.std.proofs.Common.{true, false}
use Rattle.object_pool.specs.Places.{object_of}
use Rattle.class_words.proofs.WorksLemmas.{works_then}
use Rattle.cls_record.specs.RootObjects.{with_owner}
use Rattle.cls_record.proofs.PieceLemmas.{err_holds}
use Rattle.cls_record.proofs.RootLemmas.{owners_as}
use Rattle.cls_record.proofs.OwnerLemmas.{owners_undone}
use Rattle.cls_record.proofs.owned.put_beside.Goals as goal

pub returns-in_err-put_account-clause-err : goal.returns-in_err-put_account-clause-err
returns-in_err-put_account-clause-err c = err_holds c.from_residual.result _ (λ r owns owner is fits key none. c.in_err-put_account.ensures.err r owns is)

pub returns-in_default-clause-works : goal.returns-in_default-clause-works
returns-in_default-clause-works c =
    works_then c.args.root.now c.put_row.new.root c.take_account.new.root
    (works_then c.args.root.now c.put_account.new.root c.put_row.new.root c.put_account.ensures.works c.put_row.ensures.works) c.take_account.ensures.works

pub returns-in_default-clause-err : goal.returns-in_default-clause-err
returns-in_default-clause-err c r owns owner is fits key none =
    let name = c.args.name.now in
    let more = with_owner owns owner name true in
    let put = c.in_default.ensures.err r more (c.in_ok-put_account.ensures.ok r owns owner name is fits key) in
    owners_as (object_of c.take_account.new.root) r (with_owner more owner name false) owns (owners_undone owns owner name none) (c.take_account.ensures.root r more owner name put fits key)

pub returns-clause-ok : goal.returns-clause-ok
returns-clause-ok c r owns b owner is bucket row fits key =
    c.in-Ok.ensures.ok r (with_owner owns owner c.args.name.now true) b (c.in_ok-put_account.ensures.ok r owns owner c.args.name.now is fits key) bucket row
