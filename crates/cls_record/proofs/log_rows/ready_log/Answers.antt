use Rattle.std.proofs.Common.{◌+◌, ap, ◌∙◌}
use Rattle.index_entry.specs.Numbers.{number_bytes}
use Rattle.cls_record.proofs.log_rows.ready_log.Goals as goal

pub returns-clause-next : goal.returns-clause-next
unfolding number_bytes
returns-clause-next c r is small =
    let last = c.last_position-position.ensures r.log small (c.attrs.ensures ∙ is.attrs) in
    (ap (λ n. n + 1) last, c.in_ok-attrs.ensures ∙ c.to_be_bytes.ensures ∙ ap (λ n. number_bytes (n + 1)) last)
