-- The read and write lists of a container (the OpenStack Object Storage API v1, container access control lists).
use Rattle.std.specs.Prelude.{ℕ, ◌-◌, Bool, ◌&&◌, ◌||◌, not, ◌==◌, List, length, take, drop, codes, bytes_eq}
use Rattle.std.specs.Char.{is_ascii_whitespace}
use Rattle.std.specs.List.{list_any, slice_split, prefix_len, suffix_len}
use Rattle.swift_auth.specs.Users.{UserView, account_of}

-- the parts of a list between its commas
abbrev pub parts_of : List ℕ → List (List ℕ)
parts_of list = slice_split (λ b. b == 44) list

-- a text without the blanks before it, and without those behind it
abbrev pub without_front : List ℕ → List ℕ
without_front text = drop (prefix_len is_ascii_whitespace text) text

abbrev pub without_back : List ℕ → List ℕ
without_back text = take (length text - suffix_len is_ascii_whitespace text) text

-- the member that a part is: its text without the blanks round it
abbrev pub member_in : List ℕ → List ℕ
member_in part = without_back (without_front part)

-- this word is a member
unfoldable pub has_word : List ℕ → List ℕ → Bool
has_word list word = list_any (λ part. bytes_eq (member_in part) word) (parts_of list)

-- a member names the user by the full name, or by the account; the word `.rlistings` is no account
abbrev pub is_named_by : List ℕ → UserView → Bool
is_named_by member user =
    bytes_eq member user.full_name || (bytes_eq member (account_of user) && not (bytes_eq member (codes ".rlistings")))

-- some member names the user
unfoldable pub names : List ℕ → UserView → Bool
names list user = list_any (λ part. is_named_by (member_in part) user) (parts_of list)

-- anybody may read the objects
abbrev pub is_public : List ℕ → Bool
is_public list = has_word list (codes ".r:*")

-- anybody may list the names too
abbrev pub is_listed : List ℕ → Bool
is_listed list = is_public list && has_word list (codes ".rlistings")
