use Rattle.std.proofs.Common.{◌≡◌, ◌+◌, None, Some, take, sym, ap, ◌∙◌, subst}
use Rattle.std.proofs.lemmas.List.{take_at}
use Rattle.omap_pages.specs.Rows.{Rows, value_at}
use Rattle.object_pool.specs.Objects.{Object}
use Rattle.object_pool.specs.Places.{object_of, rows_of}
use Rattle.object_words.specs.declared.log.LogWhat.TheVariants.{Bucket as bucket_row}
use Rattle.index_entry.specs.LogRows.{log_key, what_bytes}
use Rattle.cls_record.proofs.RootLemmas.{log_grown, no_next_row}
use Rattle.cls_record.proofs.log_rows.add_log_row.Goals as goal

pub put_spare-requires-clause-absent : goal.put_spare-requires-clause-absent
put_spare-requires-clause-absent c =
    let q = c.requires.root in
    subst (λ k. value_at (rows_of c.args.root.now).rows k ≡ None) (sym c.log_key.ensures) (no_next_row (object_of c.args.root.now) q.0 c.args.next.position q.1 q.2 q.3)

pub returns-clause-root : goal.returns-clause-root
returns-clause-root c r is small at attrs =
    let name = c.args.name.now in
    let put = c.put_spare.ensures.change.object in
    let set = c.set_attrs.ensures.object in
    let rows : (object_of c.set_attrs.new.self).rows.rows ≡ (rows_of c.put_spare.new.self).rows = ap (λ (o : Object). o.rows.rows) set in
    let key : c.log_key.result ≡ log_key (r.log.last + 1) = c.log_key.ensures ∙ ap log_key at in
    let what = what_bytes (bucket_row name) in
    let value = ap (λ z. take c.write_bucket_row-len.result z) c.write_bucket_row-len.ensures.written ∙ take_at what _ c.write_bucket_row-len.result (sym c.write_bucket_row-len.ensures.len) in
    log_grown (object_of c.args.root.now) (object_of c.set_attrs.new.self) r name is c.write_bucket_row-len.ensures.bounds small
    (ap (λ (o : Object). o.bytes) set ∙ ap (λ (o : Object). o.bytes) put) (ap (λ (o : Object). o.attrs) set ∙ attrs)
    (ap (λ (z : Rows). value_at z (log_key (r.log.last + 1))) rows ∙ ap (value_at (rows_of c.put_spare.new.self).rows) (sym key) ∙ c.put_spare.ensures.at_key ∙ ap Some value)
    (λ q apart. ap (λ (z : Rows). value_at z q) rows ∙ c.put_spare.ensures.others q (λ e. apart (e ∙ key)))
