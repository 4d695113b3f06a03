use Rattle.std.proofs.Common.{◌≡◌, ◌&&◌, None, true, false, is_some, sym, ap, ◌∙◌, subst}
use Rattle.object_pool.specs.Places.{object_of}
use Rattle.object_words.specs.Names.{at}
use Rattle.class_words.proofs.WorksLemmas.{works, works_then}
use Rattle.cls_record.specs.BucketRows.{bucket_bytes}
use Rattle.cls_record.specs.RootObjects.{IsRoot, with_log_row, with_row}
use Rattle.cls_record.proofs.RootLemmas.{readied, row_under}
use Rattle.cls_record.proofs.SwapLemmas.{both_true, first_false, logs_it, logs_nothing, second_false, some_mapped}
use Rattle.cls_record.proofs.record.take_bucket.Goals as goal
use Rattle.cls_record.proofs.record.take_bucket.Goals.{else-master-via-then-master+else-is_some, else-master-via-else-master}

pub take_owned-requires-clause-root : goal.take_owned-requires-clause-root
take_owned-requires-clause-root c = let q = c.requires in (q.0, readied c.args.root.now c.ready_log.new.root q.0 c.in_ok-next.ensures.readied q.1)

pub add_log_row-requires-clause-root : goal.add_log_row-requires-clause-root
add_log_row-requires-clause-root c =
    let q = c.requires in
    let next = c.in_ok-next.ensures.next q.0 q.1 q.2 in
    (with_row q.0 c.key_of-key.result.now None, c.in_ok-take_owned.ensures.ok q.0 (readied c.args.root.now c.ready_log.new.root q.0 c.in_ok-next.ensures.readied q.1), q.2, next.0, next.1)

pub returns-in_ok-take_owned-clause-works : goal.returns-in_ok-take_owned-clause-works
returns-in_ok-take_owned-clause-works c =
    works_then c.args.root.now c.take_owned.new.root c.add_log_row.new.root
    (works_then c.args.root.now c.ready_log.new.root c.take_owned.new.root (works c.args.root.now c.ready_log.new.root _ c.in_ok-next.ensures.readied.change) c.take_owned.ensures.works)
    c.add_log_row.ensures.works

pub returns-in_ok-take_owned-clause-ok : goal.returns-in_ok-take_owned-clause-ok
returns-in_ok-take_owned-clause-ok c number r is small =
    let o = object_of c.args.root.now in
    let key = c.key_of-key.result.now in
    let name = c.args.name.now in
    let next = c.in_ok-next.ensures.next r is small in
    let taken = c.in_ok-take_owned.ensures.ok r (readied c.args.root.now c.ready_log.new.root r c.in_ok-next.ensures.readied is) in
    let done = c.add_log_row.ensures.root (with_row r key None) taken small next.0 next.1 in
    let there : is_some (at r.buckets key) ≡ true =
    sym (some_mapped (at r.buckets key) bucket_bytes) ∙ ap is_some (sym (row_under o r key is c.key_of-key.ensures.named) ∙ sym c.row.ensures.value)
    ∙ some_mapped c.row.result (λ v. v.now) ∙ sym c.is_some.ensures ∙ c.if-is_some.true in
    let there_too : is_some (at r.buckets name) ≡ true = ap (λ k. is_some (at r.buckets k)) (sym c.key_of-key.ensures.key) ∙ there in
    subst (IsRoot (object_of c.add_log_row.new.root)) (logs_it r name None c.args.master number (both_true c.args.master _ c.if-master.true there_too))
    (subst (λ k. IsRoot (object_of c.add_log_row.new.root) (with_log_row (with_row r k None) name)) c.key_of-key.ensures.key done)

pub returns-in_ok-take_owned-2-clause-ok : goal.returns-in_ok-take_owned-2-clause-ok
returns-in_ok-take_owned-2-clause-ok c number r is small =
    let key = c.key_of-key.result.now in
    let name = c.args.name.now in
    let logs : (c.args.master && is_some (at r.buckets name)) ≡ false = elim c.else-master.branch [
      | else-master-via-then-master+else-is_some w ↦
          second_false c.args.master _ (ap (λ k. is_some (at r.buckets k)) (sym c.key_of-key.ensures.key) ∙ sym (some_mapped (at r.buckets key) bucket_bytes)
          ∙ ap is_some (sym (row_under (object_of c.args.root.now) r key is c.key_of-key.ensures.named) ∙ sym w.row.ensures.value)
          ∙ some_mapped w.row.result (λ v. v.now) ∙ sym w.is_some.ensures ∙ w.if-is_some.false)
      | else-master-via-else-master w ↦ first_false c.args.master _ w.if-master.false
    ] in
    subst (IsRoot (object_of c.take_owned-else-master.new.root)) (logs_nothing r name None c.args.master number logs)
    (subst (λ k. IsRoot (object_of c.take_owned-else-master.new.root) (with_row r k None)) c.key_of-key.ensures.key (c.in_ok-take_owned-2.ensures.ok r is))
