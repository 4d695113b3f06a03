use Rattle.swift_requests.proofs.ListLaws.{same_elements}
use Rattle.swift_requests.proofs.laws.lists_are_those_of_the_standard.Goals as goal

pub returns : goal.returns
returns c value is = same_elements value is
