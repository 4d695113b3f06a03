-- The users that words name.
use Rattle.std.specs.Prelude.{ℕ, Bool, not, ◌&&◌, true, nat_le, List, [], ◌∷◌, map, length, Option, Some, None, option_and_then, if◌then◌else◌, bytes_eq}
use Rattle.std.specs.List.{list_any}
use Rattle.swift_auth.specs.Users.{UserView, most_users, standard_user}
use Rattle.swift_auth.specs.UsersTexts.{users_in}

-- no two of the texts are the same
abbrev pub differ : List (List ℕ) → Bool
differ [] = true
differ (text ∷ texts) = not (list_any (bytes_eq text) texts) && differ texts

-- they may be the users of a gateway: 1 to 1000, no two with one full name, no two with one token
abbrev pub may_be_users : List UserView → Bool
may_be_users users =
    (nat_le 1 (length users) && nat_le (length users) most_users)
    && (differ (map (λ u. u.full_name) users) && differ (map (λ u. u.token) users))

abbrev pub if_users : List UserView → Option (List UserView)
if_users users = if may_be_users users then Some users else None

-- the users that a users text lists, if it is one
abbrev pub listed_users : List ℕ → Option (List UserView)
listed_users text = option_and_then if_users (users_in text)

-- the users that the value of `--users` lists; the one standard user where that option is not there
abbrev pub named_users : Option (List ℕ) → Option (List UserView)
named_users None = Some (standard_user ∷ [])
named_users (Some text) = listed_users text
