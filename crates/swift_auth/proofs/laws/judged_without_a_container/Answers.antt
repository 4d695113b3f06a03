use Rattle.swift_auth.proofs.GrantLemmas.{own_by_account, nobody_changes}
use Rattle.swift_auth.proofs.laws.judged_without_a_container.Goals as goal

pub returns : goal.returns
returns c = record {
  accounts = own_by_account;
  changes = nobody_changes;
}
