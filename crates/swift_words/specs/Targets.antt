-- The targets of requests (RFC 9112, section 3.2.1; the OpenStack Object Storage API v1).
use Rattle.std.specs.Prelude.{ℕ, zero, suc, Bool, true, false, ◌&&◌, ◌||◌, ◌==◌, List, [], ◌∷◌, ◌++◌, length, map, drop, Option, Some, None, option_map, if◌then◌else◌, nat_eq, codes, bytes_eq}
use Rattle.std.specs.List.{starts_with}
use Rattle.std.specs.Option.{option_or}
use Rattle.percent_encoding.specs.Percent.{percent_decode}
use Rattle.swift_words.specs.declared.fault.WordFault.{WordFault}
use Rattle.swift_words.specs.declared.fault.WordFault.TheVariants.{NotPath}
use Rattle.swift_words.specs.declared.query.Query.{Query}
use Rattle.swift_words.specs.declared.target.Target.{Target}
use Rattle.swift_words.specs.declared.target.Target.TheVariants.{Auth, Account, Container, Thing, Unknown}
use Rattle.swift_words.specs.Parts.{has_mark, before_mark, after_mark, word_fault, name_fault, is_name, container_limit, object_limit}
use Rattle.swift_words.specs.Queries.{query_fault, query_of}

-- ---- the parts of a path, as they were sent

-- the last part; a slash at the end begins none
abbrev pub last_part : List ℕ → List (List ℕ)
last_part [] = []
last_part (b ∷ bytes) = (b ∷ bytes) ∷ []

-- the parts between the slashes, so many of which end a part; the last part is all the rest
unfoldable pub parts_within : ℕ → List ℕ → List (List ℕ)
parts_within zero path = last_part path
parts_within (suc slashes) path =
    if has_mark 47 path then before_mark 47 path ∷ parts_within slashes (after_mark 47 path) else last_part path

-- the path begins behind the first slash of a target, and ends at the first `?`
abbrev pub path_part : List ℕ → List ℕ
path_part target = before_mark 63 (drop 1 target)

abbrev pub query_part : List ℕ → List ℕ
query_part target = after_mark 63 (drop 1 target)

-- API, version, account and container end with a slash, and the object has the rest
abbrev pub parts_of : List ℕ → List (List ℕ)
parts_of target = parts_within 4 (path_part target)

-- ---- what the words of a path name

-- `swift`, `v1` and `AUTH_` with an account
abbrev pub is_account : List ℕ → List ℕ → List ℕ → Bool
is_account api version account =
    bytes_eq api (codes "swift") && (bytes_eq version (codes "v1") && starts_with nat_eq account (codes "AUTH_"))

-- the account, where the words begin with one
abbrev pub account_of : List (List ℕ) → Option (List ℕ)
account_of (api ∷ version ∷ account ∷ words) = if is_account api version account then Some (drop 5 account) else None
account_of words = None

-- `auth`, alone or with one of two versions
abbrev pub is_auth : List (List ℕ) → Bool
is_auth (path ∷ []) = bytes_eq path (codes "auth")
is_auth (path ∷ version ∷ []) =
    bytes_eq path (codes "auth") && (bytes_eq version (codes "1.0") || bytes_eq version (codes "v1.0"))
is_auth words = false

-- what stands below an account
abbrev pub below_account : List ℕ → List (List ℕ) → Target
below_account account [] = Account account
below_account account (container ∷ []) = Container account container
below_account account (container ∷ object ∷ words) = Thing account container object

abbrev pub without_account : List (List ℕ) → Target
without_account words = if is_auth words then Auth else Unknown

abbrev pub named_with : Option (List ℕ) → List (List ℕ) → Target
named_with None words = without_account words
named_with (Some account) words = below_account account (drop 3 words)

unfoldable pub named_by : List (List ℕ) → Target
named_by words = named_with (account_of words) words

-- the names that stand there have their sizes
abbrev pub has_names : Target → Bool
has_names Auth = true
has_names (Account account) = true
has_names (Container account container) = is_name container_limit container
has_names (Thing account container object) = is_name container_limit container && is_name object_limit object
has_names Unknown = true

-- ---- faults

-- the most bytes of the part after these words, where a name stands there: the container's after the account's word,
-- then the object's
abbrev pub limit_after : List (List ℕ) → Option ℕ
limit_after words = option_map (λ account. if length words == 3 then container_limit else object_limit) (account_of words)

abbrev pub part_fault : Option ℕ → List ℕ → Option WordFault
part_fault None part = word_fault part
part_fault (Some most) part = name_fault most part

-- the first fault among the parts, in order, after these words
unfoldable pub parts_fault : List (List ℕ) → List (List ℕ) → Option WordFault
parts_fault words [] = None
parts_fault words (part ∷ parts) =
    option_or (part_fault (limit_after words) part) (parts_fault (words ++ percent_decode part ∷ []) parts)

abbrev pub is_path : List ℕ → Bool
is_path [] = false
is_path (b ∷ bytes) = b == 47

-- the first fault of a target: what is no path, then the path, then the query
unfoldable pub target_fault : List ℕ → Option WordFault
target_fault target =
    if is_path target then option_or (parts_fault [] (parts_of target)) (query_fault (query_part target)) else Some NotPath

-- what a target without a fault names, and what it asks for
unfoldable pub target_of : List ℕ → Target
target_of target = named_by (map percent_decode (parts_of target))

unfoldable pub asked_by : List ℕ → Query
asked_by target = query_of (query_part target)
