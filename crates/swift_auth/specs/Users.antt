-- The users of the gateway. What an account, a name, a key and a token may be is own.
use Rattle.std.specs.Prelude.{◌≡◌, ◌≤◌, ℕ, Bool, ◌&&◌, ◌||◌, ◌==◌, List, map, length, codes, nat_le, nat_lt, bytes_eq, All, Contains, find, Option, Some, None}
use Rattle.std.specs.Char.{is_ascii_alphanumeric, is_ascii_graphic}
use Rattle.std.specs.List.{list_all, before_first, after_first, IsDistinct}

-- ---- one user

-- a user: the full name, which is the account, a colon and a name in it; the key to log in with; the token
pub record UserView : Type 0 where
  pub full_name : List ℕ
  pub key : List ℕ
  pub token : List ℕ

-- the account stands before the first colon, the name in it behind that colon
abbrev pub account_in : List ℕ → List ℕ
account_in full_name = before_first (λ b. b == 58) full_name

abbrev pub name_in : List ℕ → List ℕ
name_in full_name = after_first (λ b. b == 58) full_name

abbrev pub account_of : UserView → List ℕ
account_of user = account_in user.full_name

-- 1 to so many bytes, each of which passes
abbrev pub is_text : ℕ → (ℕ → Bool) → List ℕ → Bool
is_text most passes text = nat_lt 0 (length text) && (nat_le (length text) most && list_all passes text)

-- a letter, a digit, `_`, `.` or `-`
abbrev pub is_name_byte : ℕ → Bool
is_name_byte b = is_ascii_alphanumeric b || (b == 95 || (b == 46 || b == 45))

-- an account, or a name in one
unfoldable pub is_name : List ℕ → Bool
is_name text = is_text 64 is_name_byte text

-- a key or a token: visible ASCII characters
unfoldable pub is_secret : List ℕ → Bool
is_secret text = is_text 128 is_ascii_graphic text

-- the texts make a user
abbrev pub is_user : UserView → Bool
is_user user = is_name (account_of user) && (is_name (name_in user.full_name) && (is_secret user.key && is_secret user.token))

-- ---- all of them

-- the most users
abbrev pub most_users : ℕ
most_users = 1000

-- 1 to 1000 users, no two with one full name, no two with one token
pub record AreUsers (users : List UserView) : Type 0 where
  pub some : 1 ≤ length users
  pub most : length users ≤ most_users
  pub names_differ : IsDistinct bytes_eq (map (λ u. u.full_name) users)
  pub tokens_differ : IsDistinct bytes_eq (map (λ u. u.token) users)

-- the one user of a gateway to which no users are given
abbrev pub standard_user : UserView
standard_user = record { full_name = codes "acme:ann"; key = codes "secret"; token = codes "AUTH_tk1" }

-- the user with this full name and this key
abbrev pub logged_in : List UserView → List ℕ → List ℕ → Option UserView
logged_in users full_name key = find (λ u. bytes_eq u.full_name full_name && bytes_eq u.key key) users

-- the user with this token
abbrev pub owner_of : List UserView → List ℕ → Option UserView
owner_of users token = find (λ u. bytes_eq u.token token) users

-- the one among the users of whom this holds, or none where it holds of nobody
abbrev pub IsTheOne : (UserView → Type 0) → List UserView → Option UserView → Type 0
IsTheOne Holds users None = All (λ u. ¬ (Holds u)) users
IsTheOne Holds users (Some user) = Contains users user × Holds user × ((other : UserView) → Contains users other → Holds other → other ≡ user)
