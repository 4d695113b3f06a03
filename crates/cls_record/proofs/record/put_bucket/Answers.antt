use Rattle.std.proofs.Common.{◌≡◌, ◌&&◌, Some, false, is_some, sym, ap, ◌∙◌, subst}
use Rattle.object_pool.specs.Places.{object_of}
use Rattle.object_words.specs.Names.{at}
use Rattle.object_words.specs.Roots.{is_logged, stored}
use Rattle.std.proofs.lemmas.Result.{on_ok_weaker}
use Rattle.cls_record.specs.RootObjects.{IsRoot, same_shared, with_row}
use Rattle.cls_record.proofs.SwapLemmas.{both_true, first_false, is_new, logs_it, logs_nothing, second_false, stored_so}
use Rattle.cls_record.proofs.record.put_bucket.Goals as goal
use Rattle.cls_record.proofs.record.put_bucket.Goals.{else-master-via-then-master+else-is_none, else-master-via-else-master}

pub put_logged-requires : goal.put_logged-requires
put_logged-requires c =
    let q = c.requires in
    let new = c.args.new.now in
    let key = c.key_of-key.result.now in
    let part = c.as_slice.ensures ∙ c.in_ok-part.ensures.form in
    let found = c.kept_shared-kept.ensures q.0 new q.1 c.in_ok-part.ensures.bounds part in
    let s = stored_so (at q.0.buckets key) new c.args.master c.args.number c.kept_shared-kept.result c.next_shared-shared.result c.as_slice-2.result.now c.in_ok-row.row
    found c.next_shared-shared.ensures (c.as_slice-2.ensures ∙ c.in_ok-part.ensures.form) c.in_ok-part.ensures.bounds c.in_ok-row.ensures.form c.in_ok-row.ensures.bounds in
    (q.0, stored (at q.0.buckets key) new c.args.master c.args.number, q.1, q.2, s.is, s.bytes, c.as_str-owner.ensures)

pub returns-then-is_none : goal.returns-then-is_none
returns-then-is_none c = record {
  works = c.put_logged.ensures.works;
  ok =
      on_ok_weaker c.put_logged.result (λ ok r is small.
      let new = c.args.new.now in
      let name = c.args.name.now in
      let part = c.as_slice.ensures ∙ c.in_ok-part.ensures.form in
      let found : c.kept_shared-kept.result ≡ same_shared (at r.buckets name) new =
      c.kept_shared-kept.ensures r new is c.in_ok-part.ensures.bounds part ∙ ap (λ k. same_shared (at r.buckets k) new) c.key_of-key.ensures.key in
      let s = stored_so (at r.buckets name) new c.args.master c.args.number c.kept_shared-kept.result c.next_shared-shared.result c.as_slice-2.result.now c.in_ok-row.row
      found c.next_shared-shared.ensures (c.as_slice-2.ensures ∙ c.in_ok-part.ensures.form) c.in_ok-part.ensures.bounds c.in_ok-row.ensures.form c.in_ok-row.ensures.bounds in
      let changed = is_new (at r.buckets name) new c.is_none.result (sym (ap is_some found) ∙ c.is_none.ensures) in
      let logs = both_true c.args.master _ c.if-master.true (sym changed ∙ c.if-is_none.true) in
      subst (IsRoot (object_of c.put_logged.new.root)) (logs_it r name (Some new) c.args.master c.args.number logs)
      (ok r (stored (at r.buckets name) new c.args.master c.args.number) is small s.is s.bytes c.as_str-owner.ensures)) c.put_logged.ensures.ok;
  err = c.put_logged.ensures.err;
}

pub returns : goal.returns
returns c = record {
  works = c.put_owned.ensures.works;
  ok =
      on_ok_weaker c.put_owned.result (λ ok r is small.
      let new = c.args.new.now in
      let name = c.args.name.now in
      let part = c.as_slice.ensures ∙ c.in_ok-part.ensures.form in
      let found : c.kept_shared-kept.result ≡ same_shared (at r.buckets name) new =
      c.kept_shared-kept.ensures r new is c.in_ok-part.ensures.bounds part ∙ ap (λ k. same_shared (at r.buckets k) new) c.key_of-key.ensures.key in
      let s = stored_so (at r.buckets name) new c.args.master c.args.number c.kept_shared-kept.result c.next_shared-shared.result c.as_slice-2.result.now c.in_ok-row.row
      found c.next_shared-shared.ensures (c.as_slice-2.ensures ∙ c.in_ok-part.ensures.form) c.in_ok-part.ensures.bounds c.in_ok-row.ensures.form c.in_ok-row.ensures.bounds in
      let logs : (c.args.master && is_logged (at r.buckets name) (Some new)) ≡ false = elim c.else-master.branch [
        | else-master-via-then-master+else-is_none w ↦
            second_false c.args.master _ (sym (is_new (at r.buckets name) new w.is_none.result (sym (ap is_some found) ∙ w.is_none.ensures)) ∙ w.if-is_none.false)
        | else-master-via-else-master w ↦ first_false c.args.master _ w.if-master.false
      ] in
      subst (IsRoot (object_of c.put_owned.new.root)) (logs_nothing r name (Some new) c.args.master c.args.number logs)
      (subst (λ k. IsRoot (object_of c.put_owned.new.root) (with_row r k (Some (stored (at r.buckets name) new c.args.master c.args.number)))) c.key_of-key.ensures.key
      (ok r (stored (at r.buckets name) new c.args.master c.args.number) is s.is s.bytes c.as_str-owner.ensures))) c.put_owned.ensures.ok;
  err = c.put_owned.ensures.err;
}
