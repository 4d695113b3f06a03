use Rattle.std.proofs.Common.{◌≡◌, rules, None}
use Rattle.swift_requests.specs.Refusals.{change_refusal}
use Rattle.swift_requests.proofs.Passing.{change_texts}
use Rattle.swift_requests.proofs.container.change_asked.Goals as goal

pub container_changes-requires-clause-texts : goal.container_changes-requires-clause-texts
container_changes-requires-clause-texts c =
    let none : change_refusal c.args.largest c.args.head.now c.args.asker ≡ None = search rules in
    change_texts c.args.largest c.args.head.now c.args.asker none
