use Rattle.std.proofs.Common.{None, false, sym, ◌∙◌}
use Rattle.object_pool.specs.Places.{object_of}
use Rattle.object_words.specs.Names.{at}
use Rattle.object_words.specs.Roots.{with_bucket}
use Rattle.cls_record.specs.RootObjects.{owned, with_owner, with_row}
use Rattle.cls_record.proofs.RootLemmas.{owners_as}
use Rattle.cls_record.proofs.OwnerLemmas.{kept_none, kept_some, owner_fits, owners_none, owners_taken}
use Rattle.cls_record.proofs.owned.take_owned.Goals as goal

pub returns-in-Some-clause-ok : goal.returns-in-Some-clause-ok
returns-in-Some-clause-ok c r is =
    let name = c.args.name.now in
    let k = kept_some (at r.buckets name) name c.in-Some.kept (sym (c.in_ok-kept.ensures r is) ∙ c.in-Some.is) in
    owners_as (object_of c.take_account.new.root) (with_row r name None) (with_owner (owned r.buckets) k.old.owner name false) (owned (with_bucket r.buckets name None)) (owners_taken r.buckets name k.old k.here)
    (c.take_account.ensures.root (with_row r name None) (owned r.buckets) k.old.owner name (c.take_row.ensures.root r (owned r.buckets) is)
    (owner_fits (at r.buckets name) k.old (is.bucket name) k.here) (c.as_slice.ensures ∙ k.key_is))

pub returns-in_default-clause-ok : goal.returns-in_default-clause-ok
returns-in_default-clause-ok c r is =
    let name = c.args.name.now in
    let none = kept_none (at r.buckets name) name (sym (c.in_ok-kept.ensures r is) ∙ c.in_default.is) in
    owners_as (object_of c.take_row.new.root) (with_row r name None) (owned r.buckets) (owned (with_bucket r.buckets name None)) (owners_none r.buckets name none)
    (c.take_row.ensures.root r (owned r.buckets) is)
