use Rattle.std.proofs.Common.{subst}
use Rattle.swift_requests.specs.Methods.{is_look}
use Rattle.swift_requests.proofs.Rights.{HasRights, rights}
use Rattle.swift_requests.proofs.laws.only_users_of_the_account_may.Goals as goal

pub returns : goal.returns
returns c = record {
  accounts = λ largest users head asker command form is. subst (HasRights (is_look head)) is (rights largest users head);
  changes = λ largest users head asker command is other. subst (HasRights (is_look head)) is (rights largest users head) other;
}
