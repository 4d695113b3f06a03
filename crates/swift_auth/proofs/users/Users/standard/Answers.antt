use Rattle.std.proofs.Common.{◌≡◌, ◌∷◌, [], Some, sym, ◌∙◌}
use Rattle.std.proofs.lemmas.Result.{IfOk-weaker}
use Rattle.swift_auth.specs.Users.{standard_user}
use Rattle.swift_auth.proofs.KnownUsers.{one, just_one}
use Rattle.swift_auth.proofs.users.Users.standard.Goals as goal

pub returns : goal.returns
returns c = record {
  ok = IfOk-weaker c.read.result _ _ (λ users is. let same : Some users ≡ Some (standard_user ∷ []) = sym is.listed ∙ one in cc) c.read.ensures.ok;
  memory = λ bad. c.read.ensures.bad bad (standard_user ∷ []) (record { listed = one; may_be = just_one });
}
