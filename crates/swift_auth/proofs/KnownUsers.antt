-- Users texts that were read by hand.
use Rattle.std.proofs.Common.{◌≡◌, [], ◌∷◌, Some, None, codes, lit≤, refl}
use Rattle.std.specs.List.{IsDistinct}
use Rattle.swift_auth.specs.Users.{UserView, AreUsers, standard_user, account_of, logged_in, owner_of}
use Rattle.swift_auth.specs.UsersTexts.{users_in}
use Rattle.swift_auth.proofs.OnLiterals.{swift_auth_on_literals}

abbrev ann : UserView
ann = standard_user

abbrev bob : UserView
bob = record { full_name = codes "b.e-t_a:7"; key = codes "!~"; token = codes "t,\"" }

pub one : users_in (codes "[{\"user\":\"acme:ann\",\"key\":\"secret\",\"token\":\"AUTH_tk1\"}]") ≡ Some (ann ∷ [])
unfolding swift_auth_on_literals
one = refl

-- one user has nobody to be told apart from
pub just_one : AreUsers (standard_user ∷ [])
unfolding IsDistinct
just_one = record { some = lit≤ tt; most = lit≤ tt; names_differ = (tt, tt); tokens_differ = (tt, tt) }

two : users_in (codes " [{\"key\":\"!~\",\"user\":\"b.e-t_a:7\",\"x\":{},\"token\":\"t\\u002c\\\"\"} , {\"user\":2,\"user\":\"acme:ann\",\"key\":\"secret\",\"token\":\"AUTH_tk1\"}]\n") ≡ Some (bob ∷ ann ∷ [])
unfolding swift_auth_on_literals
two = refl

nobody : users_in (codes "[]") ≡ Some []
unfolding swift_auth_on_literals
nobody = refl

empty : users_in [] ≡ None
unfolding swift_auth_on_literals
empty = refl

no_array : users_in (codes "{\"user\":\"acme:ann\",\"key\":\"secret\",\"token\":\"AUTH_tk1\"}") ≡ None
unfolding swift_auth_on_literals
no_array = refl

no_key : users_in (codes "[{\"user\":\"acme:ann\",\"token\":\"AUTH_tk1\"}]") ≡ None
unfolding swift_auth_on_literals
no_key = refl

no_text : users_in (codes "[{\"user\":\"acme:ann\",\"key\":1,\"token\":\"AUTH_tk1\"}]") ≡ None
unfolding swift_auth_on_literals
no_text = refl

no_colon : users_in (codes "[{\"user\":\"acme\",\"key\":\"secret\",\"token\":\"AUTH_tk1\"}]") ≡ None
unfolding swift_auth_on_literals
no_colon = refl

two_colons : users_in (codes "[{\"user\":\"acme:ann:x\",\"key\":\"secret\",\"token\":\"AUTH_tk1\"}]") ≡ None
unfolding swift_auth_on_literals
two_colons = refl

no_account : users_in (codes "[{\"user\":\":ann\",\"key\":\"secret\",\"token\":\"AUTH_tk1\"}]") ≡ None
unfolding swift_auth_on_literals
no_account = refl

blank_in_key : users_in (codes "[{\"user\":\"acme:ann\",\"key\":\"a b\",\"token\":\"AUTH_tk1\"}]") ≡ None
unfolding swift_auth_on_literals
blank_in_key = refl

left_over : users_in (codes "[{\"user\":\"acme:ann\",\"key\":\"secret\",\"token\":\"AUTH_tk1\"}] x") ≡ None
unfolding swift_auth_on_literals
left_over = refl

account : account_of bob ≡ codes "b.e-t_a"
account = refl

login : logged_in (bob ∷ ann ∷ []) (codes "acme:ann") (codes "secret") ≡ Some ann
login = refl

wrong_key : logged_in (bob ∷ ann ∷ []) (codes "acme:ann") (codes "!~") ≡ None
wrong_key = refl

who : owner_of (bob ∷ ann ∷ []) (codes "AUTH_tk1") ≡ Some ann
who = refl

unknown : owner_of (bob ∷ ann ∷ []) (codes "AUTH_tk") ≡ None
unknown = refl
