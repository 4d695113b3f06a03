use Rattle.http_model.proofs.FormLemmas.{front_in_lower_case}
use Rattle.swift_requests.proofs.metadata.is_meta.Goals as goal

pub returns : goal.returns
returns c =
    rw (c.eq_ignore_case.ensures, c.as_bytes.ensures.value, c.min.ensures, c.as_bytes-name.ensures)
    (front_in_lower_case c.args.field.now.name)
