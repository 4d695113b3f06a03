-- Read and write lists that were read by hand.
use Rattle.std.proofs.Common.{◌≡◌, [], true, false, codes, refl}
use Rattle.swift_auth.specs.Users.{UserView}
use Rattle.swift_auth.specs.Lists.{names, is_public, is_listed}
use Rattle.swift_auth.proofs.OnLiterals.{swift_auth_on_literals}

abbrev bob : UserView
bob = record { full_name = codes "beta:bob"; key = codes "hush"; token = codes "AUTH_tk2" }

by_account : names (codes "acme:ann, beta ,gamma") bob ≡ true
unfolding swift_auth_on_literals
by_account = refl

by_name : names (codes "\tbeta:bob") bob ≡ true
unfolding swift_auth_on_literals
by_name = refl

in_part : names (codes "beta:bo,beta:bobby,bet,betas,bob,beta bob,be ta,.r:*") bob ≡ false
unfolding swift_auth_on_literals
in_part = refl

nobody : names [] bob ≡ false
unfolding swift_auth_on_literals
nobody = refl

public : is_public (codes "beta, .r:* ") ≡ true
unfolding swift_auth_on_literals
public = refl

not_public : is_public (codes ".r:*.rlistings,.r:,.rlistings,.r: *") ≡ false
unfolding swift_auth_on_literals
not_public = refl

listed : is_listed (codes ".rlistings,.r:*") ≡ true
unfolding swift_auth_on_literals
listed = refl

not_listed : is_listed (codes ".r:*") ≡ false
unfolding swift_auth_on_literals
not_listed = refl

not_public_not_listed : is_listed (codes ".rlistings") ≡ false
unfolding swift_auth_on_literals
not_public_not_listed = refl
