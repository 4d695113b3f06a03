use Rattle.std.proofs.Common.{◌≡◌, ◌≢◌, Some, true, false, true≢false, sym, ap, ◌∙◌}
use Rattle.std.proofs.lemmas.Bool.{false_from_ne_true}
use Rattle.std.proofs.lemmas.Result.{on_err_weaker, on_ok_weaker}
use Rattle.std.proofs.lemmas.Slice.Eq.{bytes_eq-Decides}
use Rattle.object_pool.specs.Places.{object_of}
use Rattle.object_words.specs.Names.{at}
use Rattle.object_words.specs.Roots.{with_bucket}
use Rattle.class_words.proofs.WorksLemmas.{works_then}
use Rattle.cls_record.specs.RootObjects.{account_key, is_owner, owned, with_owner, with_row}
use Rattle.cls_record.proofs.PieceLemmas.{err_holds}
use Rattle.cls_record.proofs.RootLemmas.{owners_as}
use Rattle.cls_record.proofs.OwnerLemmas.{kept_none, kept_some, owner_fits, owners_kept, owners_made, owners_moved, same_owner}
use Rattle.cls_record.proofs.owned.put_owned.Goals as goal

pub returns-in_default-clause-ok : goal.returns-in_default-clause-ok
returns-in_default-clause-ok c =
    on_ok_weaker c.put_beside.result (λ ok r b is bucket row owner.
    let name = c.args.name.now in
    let none = kept_none (at r.buckets name) name (sym (c.in_ok-kept.ensures r is) ∙ c.in_default.is) in
    owners_as (object_of c.put_beside.new.root) (with_row r name (Some b)) (with_owner (owned r.buckets) b.owner name true) (owned (with_bucket r.buckets name (Some b))) (owners_made r.buckets name b none)
    (ok r (owned r.buckets) b b.owner is bucket row bucket.shared_part.owner.1 (c.as_slice.ensures ∙ c.in_ok-account.ensures.form ∙ ap (λ o. account_key o name) owner))) c.put_beside.ensures.ok

pub returns-in_default-clause-err : goal.returns-in_default-clause-err
returns-in_default-clause-err c =
    on_err_weaker c.put_beside.result (λ err r is.
    let none = kept_none (at r.buckets c.args.name.now) c.args.name.now (sym (c.in_ok-kept.ensures r is) ∙ c.in_default.is) in
    err r (owned r.buckets) c.args.owner.now is c.in_ok-account.ensures.fits (c.as_slice.ensures ∙ c.in_ok-account.ensures.form) (ap (is_owner c.args.owner.now) none)) c.put_beside.ensures.err

pub returns-then-eq-clause-ok : goal.returns-then-eq-clause-ok
returns-then-eq-clause-ok c =
    on_ok_weaker c.put_row.result (λ ok r b is bucket row owner.
    let name = c.args.name.now in
    let k = kept_some (at r.buckets name) name c.in-Some.kept (sym (c.in_ok-kept.ensures r is) ∙ c.in-Some.is) in
    let alike = (bytes_eq-Decides c.as_slice-2.result.now c.as_slice-3.result.now).0 (sym c.eq.ensures ∙ c.if-eq.true) in
    let keys : account_key k.old.owner name ≡ account_key c.args.owner.now name = sym k.key_is ∙ sym c.as_slice-2.ensures ∙ alike ∙ c.as_slice-3.ensures ∙ c.in_ok-account.ensures.form in
    let same = same_owner k.old.owner c.args.owner.now name (owner_fits (at r.buckets name) k.old (is.bucket name) k.here) c.in_ok-account.ensures.fits keys in
    owners_as (object_of c.put_row.new.root) (with_row r name (Some b)) (owned r.buckets) (owned (with_bucket r.buckets name (Some b))) (owners_kept r.buckets name k.old b k.here (same ∙ owner))
    (ok r (owned r.buckets) b is bucket row)) c.put_row.ensures.ok

pub returns-then-eq-clause-err : goal.returns-then-eq-clause-err
returns-then-eq-clause-err c = on_err_weaker c.put_row.result (λ err r is. err r (owned r.buckets) is) c.put_row.ensures.err

pub returns-in_err-put_beside-clause-err : goal.returns-in_err-put_beside-clause-err
returns-in_err-put_beside-clause-err c =
    err_holds c.from_residual-in_err-put_beside.result _ (λ r is.
    let name = c.args.name.now in
    let k = kept_some (at r.buckets name) name c.in-Some.kept (sym (c.in_ok-kept.ensures r is) ∙ c.in-Some.is) in
    let form = c.in_ok-account.ensures.form in
    let apart : k.old.owner ≢ c.args.owner.now = λ same. true≢false (sym ((bytes_eq-Decides c.as_slice-2.result.now c.as_slice-3.result.now).1 (c.as_slice-2.ensures ∙ k.key_is ∙ ap (λ o. account_key o name) same ∙ sym (c.as_slice-3.ensures ∙ form))) ∙ sym c.eq.ensures ∙ c.if-eq.false) in
    c.in_err-put_beside.ensures.err r (owned r.buckets) c.args.owner.now is c.in_ok-account.ensures.fits (c.as_slice-4.ensures ∙ form)
    (ap (is_owner c.args.owner.now) k.here ∙ false_from_ne_true _ (λ e. apart ((bytes_eq-Decides k.old.owner c.args.owner.now).0 e))))

pub returns-clause-works : goal.returns-clause-works
returns-clause-works c = works_then c.args.root.now c.put_beside-2.new.root c.take_account.new.root c.in_ok-put_beside.ensures.works c.take_account.ensures.works

pub returns-clause-ok : goal.returns-clause-ok
returns-clause-ok c r b is bucket row owner =
    let name = c.args.name.now in
    let k = kept_some (at r.buckets name) name c.in-Some.kept (sym (c.in_ok-kept.ensures r is) ∙ c.in-Some.is) in
    let form = c.in_ok-account.ensures.form in
    let apart : k.old.owner ≢ b.owner = λ same. true≢false (sym ((bytes_eq-Decides c.as_slice-2.result.now c.as_slice-3.result.now).1 (c.as_slice-2.ensures ∙ k.key_is ∙ ap (λ o. account_key o name) (same ∙ sym owner) ∙ sym (c.as_slice-3.ensures ∙ form))) ∙ sym c.eq.ensures ∙ c.if-eq.false) in
    let made = with_owner (owned r.buckets) b.owner name true in
    let put = c.in_ok-put_beside.ensures.ok r (owned r.buckets) b b.owner is bucket row bucket.shared_part.owner.1 (c.as_slice-4.ensures ∙ form ∙ ap (λ o. account_key o name) owner) in
    owners_as (object_of c.take_account.new.root) (with_row r name (Some b)) (with_owner made k.old.owner name false) (owned (with_bucket r.buckets name (Some b))) (owners_moved r.buckets name k.old b k.here apart)
    (c.take_account.ensures.root (with_row r name (Some b)) made k.old.owner name put (owner_fits (at r.buckets name) k.old (is.bucket name) k.here) (c.as_slice-5.ensures ∙ k.key_is))
