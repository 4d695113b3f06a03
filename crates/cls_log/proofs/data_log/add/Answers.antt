use Rattle.std.proofs.Common.{◌≡◌, ◌+◌, ◌^◌, ◌<◌, take, sym, ap, ap₂, ◌∙◌, arith}
use Rattle.std.proofs.lemmas.List.{take_at}
use Rattle.omap_pages.specs.Rows.{with_row}
use Rattle.object_pool.specs.Objects.{Object}
use Rattle.index_entry.specs.Numbers.{number_bytes}
use Rattle.index_entry.specs.LogRows.{log_key, what_bytes}
use Rattle.class_words.specs.LogRows.{log_rows}
use Rattle.class_words.proofs.LogLemmas.{grown_log, next_plain}
use Rattle.cls_log.proofs.RowLemmas.{grown_attrs, grown_rows}
use Rattle.cls_log.proofs.data_log.add.Goals as goal

pub returns-clause-answers : goal.returns-clause-answers
unfolding number_bytes
returns-clause-answers c l is small =
    let what = c.args.what.now in
    let fits : l.last + 1 < 2 ^ 64 = omega (arith, small) in
    let position : c.last_of-position.result + 1 ≡ l.last + 1 = ap (λ n. n + 1) (c.last_of-position.ensures l is) in
    let key : c.in_ok-key.key ≡ log_key (l.last + 1) = c.in_ok-key.ensures ∙ c.log_key.ensures ∙ ap log_key position in
    let value : c.in_ok-value.value ≡ what_bytes what = c.in_ok-value.ensures ∙ ap (take c.write_what-len.result) c.write_what-len.ensures.written ∙ take_at (what_bytes what) _ _ (sym c.write_what-len.ensures.len) in
    let last : c.in_ok-last.last ≡ number_bytes (l.last + 1) = c.in_ok-last.ensures ∙ c.to_be_bytes.ensures ∙ ap number_bytes position in
    let put = c.in_ok-put_row.ensures in
    let set = c.set_attrs.ensures.object in (
      position ∙ sym (next_plain l.last fits),
      record {
        bytes = ap (λ (o : Object). o.bytes) set ∙ ap (λ (o : Object). o.bytes) put.change.object ∙ is.bytes;
        attrs = ap (λ (o : Object). o.attrs) set ∙ last ∙ grown_attrs l what fits;
        rows = ap (λ (o : Object). o.rows.rows) set ∙ put.rows ∙ ap (λ z. with_row z c.in_ok-key.key c.in_ok-value.value) is.rows ∙ ap₂ (with_row (log_rows l.rows)) key value ∙ grown_rows l what is.is_log fits;
        is_log = grown_log l what is.is_log c.write_what-len.ensures.bounds fits;
      },
    )
