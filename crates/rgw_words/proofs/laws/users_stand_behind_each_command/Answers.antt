use Rattle.std.proofs.Common.{refl}
use Rattle.swift_auth.proofs.OnLiterals.{swift_auth_on_literals}
use Rattle.rgw_words.proofs.laws.users_stand_behind_each_command.Goals as goal

pub returns : goal.returns
unfolding swift_auth_on_literals
returns c = record { once = refl; joined = refl; serve = refl; standard = refl; nobody = refl; repeated = refl }
