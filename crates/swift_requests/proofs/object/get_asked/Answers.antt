use Rattle.std.proofs.Common.{◌≡◌, rules, None}
use Rattle.swift_requests.specs.Refusals.{get_refusal}
use Rattle.swift_requests.proofs.Refusals.{get_passed}
use Rattle.swift_requests.proofs.object.get_asked.Goals as goal

pub conditions-requires : goal.conditions-requires
conditions-requires c =
    let none : get_refusal c.args.largest c.args.head.now ≡ None = search rules in (get_passed c.args.largest c.args.head.now none).0
