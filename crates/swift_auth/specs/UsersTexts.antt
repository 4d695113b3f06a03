-- The text that lists the users: a JSON array of objects (RFC 8259).
use Rattle.std.specs.Prelude.{◌≡◌, ℕ, List, [], ◌∷◌, Option, Some, None, option_map, option_and_then, codes, if◌then◌else◌}
use Rattle.serde_json.specs.Data.{Data, Items, no_items, item}
use Rattle.serde_json.specs.Find.{get, as_str, as_array}
use Rattle.serde_json.specs.Read.{read}
use Rattle.swift_auth.specs.Users.{UserView, is_user, AreUsers}

-- the text that stands in an object under this name
abbrev pub text_at : List ℕ → Data → Option (List ℕ)
text_at name value = option_and_then as_str (get name value)

-- the three texts of an object
abbrev pub texts_of : Data → Option UserView
texts_of value =
    option_and_then (λ full_name. option_and_then (λ key. option_map (λ token.
    record { full_name = full_name; key = key; token = token })
    (text_at (codes "token") value)) (text_at (codes "key") value)) (text_at (codes "user") value)

-- the texts, where they make a user
abbrev pub if_user : UserView → Option UserView
if_user user = if is_user user then Some user else None

-- the user that an object is
abbrev pub user_of : Data → Option UserView
user_of value = option_and_then if_user (texts_of value)

-- the users that the items of an array are, where each of them is one
abbrev pub users_of : Items → Option (List UserView)
users_of no_items = Some []
users_of (item value values) = option_and_then (λ user. option_map (λ users. user ∷ users) (users_of values)) (user_of value)

-- the users that a text says: it is JSON, an array, and each item is a user
abbrev pub users_in : List ℕ → Option (List UserView)
users_in text = option_and_then users_of (option_and_then as_array (read text))

-- the text lists these users, and they may be the users of a gateway
pub record IsUsersText (text : List ℕ) (users : List UserView) : Type 0 where
  pub listed : users_in text ≡ Some users
  pub may_be : AreUsers users
