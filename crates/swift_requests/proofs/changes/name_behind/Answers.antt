use Rattle.std.proofs.Common.{◌≡◌, rules}
use Rattle.swift_requests.specs.Metadata.{lower_name}
use Rattle.swift_requests.proofs.PairLemmas.{found}
use Rattle.swift_requests.proofs.Fronts.{has_text}
use Rattle.swift_requests.proofs.changes.name_behind.Goals as goal

pub unwrap-requires : goal.unwrap-requires
unwrap-requires c =
    let same : c.deref.result.now ≡ lower_name c.args.field.now = search rules in
    found _ c.strip_prefix.result (λ lacks. has_text c.args.prefix.now c.args.field.now c.deref.result.now c.requires same lacks) c.strip_prefix.ensures.cases
