use Rattle.swift_requests.proofs.Fronts.{front_in_lower_case}
use Rattle.swift_requests.proofs.changes.has_front.Goals as goal

pub returns : goal.returns
returns c =
    rw (c.eq_ignore_case.ensures, c.as_bytes.ensures.value, c.min.ensures, c.as_bytes-name.ensures)
    (front_in_lower_case c.args.prefix.now c.args.field.now.name c.requires)
