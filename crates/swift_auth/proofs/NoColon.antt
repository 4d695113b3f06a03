-- A text without a colon is no full name.
use Rattle.std.proofs.Common.{◌≡◌, ◌+◌, ◌&&◌, [], length, Bool, true, false, None, eqb, refl, ap, ◌∙◌, arith}
use Rattle.std.specs.List.{position_or_len}
use Rattle.std.proofs.lemmas.List.{drop_all}
use Rattle.swift_auth.specs.Users.{UserView, account_in, name_in, is_name, is_secret, is_user}
use Rattle.swift_auth.specs.UsersTexts.{if_user}

no_name : is_name [] ≡ false
unfolding is_name
no_name = refl

and_false : (a b : Bool) → (a && (false && b)) ≡ false
and_false true b = refl
and_false false b = refl

no_user : (u : UserView) → is_user u ≡ false → if_user u ≡ None
no_user u h = rw h

pub no_user_without_colon : (u : UserView) → position_or_len (λ b. eqb b 58) u.full_name ≡ length u.full_name → if_user u ≡ None
no_user_without_colon u h =
    let empty : name_in u.full_name ≡ [] = drop_all (position_or_len (λ b. eqb b 58) u.full_name + 1) u.full_name (omega arith) in
    let rest = is_secret u.key && is_secret u.token in
    no_user u (ap (λ text. is_name (account_in u.full_name) && (is_name text && rest)) empty
    ∙ ap (λ b. is_name (account_in u.full_name) && (b && rest)) no_name ∙ and_false (is_name (account_in u.full_name)) rest)
