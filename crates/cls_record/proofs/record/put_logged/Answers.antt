use Rattle.std.proofs.Common.{Some, subst}
use Rattle.object_pool.specs.Places.{object_of}
use Rattle.class_words.proofs.WorksLemmas.{works, works_then}
use Rattle.cls_record.specs.RootObjects.{IsRoot, with_log_row, with_row}
use Rattle.cls_record.proofs.RootLemmas.{readied}
use Rattle.cls_record.proofs.record.put_logged.Goals as goal

pub put_owned-requires-clause-root : goal.put_owned-requires-clause-root
put_owned-requires-clause-root c = let q = c.requires in (q.0, readied c.args.root.now c.ready_log.new.root q.0 c.in_ok-next.ensures.readied q.2)

pub add_log_row-requires-clause-root : goal.add_log_row-requires-clause-root
add_log_row-requires-clause-root c =
    let q = c.requires in
    let next = c.in_ok-next.ensures.next q.0 q.2 q.3 in (
      with_row q.0 c.key_of.result.now (Some q.1),
      c.in_ok-put_owned.ensures.ok q.0 q.1 (readied c.args.root.now c.ready_log.new.root q.0 c.in_ok-next.ensures.readied q.2) q.4 q.5 q.6,
      q.3,
      next.0,
      next.1,
    )

pub returns-clause-works : goal.returns-clause-works
returns-clause-works c =
    works_then c.args.root.now c.put_owned.new.root c.add_log_row.new.root
    (works_then c.args.root.now c.ready_log.new.root c.put_owned.new.root (works c.args.root.now c.ready_log.new.root _ c.in_ok-next.ensures.readied.change) c.in_ok-put_owned.ensures.works)
    c.add_log_row.ensures.works

pub returns-clause-ok : goal.returns-clause-ok
returns-clause-ok c r b is small fits row owner =
    let key = c.key_of.result.now in
    let next = c.in_ok-next.ensures.next r is small in
    let put = c.in_ok-put_owned.ensures.ok r b (readied c.args.root.now c.ready_log.new.root r c.in_ok-next.ensures.readied is) fits row owner in
    let done = c.add_log_row.ensures.root (with_row r key (Some b)) put small next.0 next.1 in
    subst (λ k. IsRoot (object_of c.add_log_row.new.root) (with_log_row (with_row r k (Some b)) c.args.name.now)) c.key_of.ensures.key done
