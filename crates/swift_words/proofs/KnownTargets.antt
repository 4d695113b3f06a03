-- Targets and places read by hand from the grammar, so that a wrong rule in the specs does not check.
use Rattle.std.proofs.Common.{◌≡◌, ℕ, List, [], ◌∷◌, Some, None, true, false, codes, refl}
use Rattle.swift_words.specs.declared.fault.WordFault.TheVariants.{BadEscape, BadUtf8, BadName, BadLimit, BadFormat, NotPath}
use Rattle.swift_words.specs.declared.query.Query.{Query}
use Rattle.swift_words.specs.declared.target.Target.TheVariants.{Auth, Account, Container, Thing, Unknown}
use Rattle.swift_words.specs.Parts.{has_whole_escapes, is_name}
use Rattle.swift_words.specs.Targets.{target_fault, target_of, asked_by}
use Rattle.swift_words.specs.Places.{place_fault, place_of}
use Rattle.swift_words.proofs.OnLiterals.{swift_words_on_literals}

-- ---- escapes

pub record Escapes : Type 0 where
  none : has_whole_escapes (codes "ab") ≡ true
  whole : has_whole_escapes (codes "%2F%61") ≡ true
  letters : has_whole_escapes (codes "%aF") ≡ true
  no_digit : has_whole_escapes (codes "%G1") ≡ false
  no_second_digit : has_whole_escapes (codes "%1G") ≡ false
  cut : has_whole_escapes (codes "a%1") ≡ false
  last : has_whole_escapes (codes "a%") ≡ false
  twice : has_whole_escapes (codes "%%41") ≡ false
  escaped_mark : has_whole_escapes (codes "%25") ≡ true

pub escapes : Escapes
unfolding swift_words_on_literals
escapes = record {
  none = refl;
  whole = refl;
  letters = refl;
  no_digit = refl;
  no_second_digit = refl;
  cut = refl;
  last = refl;
  twice = refl;
  escaped_mark = refl;
}

-- ---- names

pub record Names : Type 0 where
  one : is_name 3 (codes "a") ≡ true
  most : is_name 3 (codes "abc") ≡ true
  empty : is_name 3 [] ≡ false
  longer : is_name 3 (codes "abcd") ≡ false
  zero_byte : is_name 3 (97 ∷ 0 ∷ []) ≡ false
  any_other : is_name 5 (95 ∷ 47 ∷ 1 ∷ 195 ∷ 164 ∷ []) ≡ true

pub names : Names
unfolding swift_words_on_literals
names = record { one = refl; most = refl; empty = refl; longer = refl; zero_byte = refl; any_other = refl }

-- ---- what paths name

pub record Paths : Type 0 where
  auth : target_of (codes "/auth") ≡ Auth
  auth_version : target_of (codes "/auth/1.0") ≡ Auth
  auth_v_version : target_of (codes "/auth/v1.0") ≡ Auth
  auth_slash : target_of (codes "/auth/") ≡ Auth
  auth_version_slash : target_of (codes "/auth/1.0/") ≡ Auth
  auth_escaped : target_of (codes "/%61uth") ≡ Auth
  auth_two_slashes : target_of (codes "/auth//") ≡ Unknown
  auth_more : target_of (codes "/auth/1.0/x") ≡ Unknown
  auth_escaped_slash : target_of (codes "/auth%2F1.0") ≡ Unknown
  root : target_of (codes "/") ≡ Unknown
  no_account : target_of (codes "/swift/v1/") ≡ Unknown
  other_account : target_of (codes "/swift/v1/acme") ≡ Unknown
  account : target_of (codes "/swift/v1/AUTH_acme") ≡ Account (codes "acme")
  account_slash : target_of (codes "/swift/v1/AUTH_acme/") ≡ Account (codes "acme")
  account_empty : target_of (codes "/swift/v1/AUTH_") ≡ Account []
  container : target_of (codes "/swift/v1/AUTH_acme/box") ≡ Container (codes "acme") (codes "box")
  container_slash : target_of (codes "/swift/v1/AUTH_acme/box/") ≡ Container (codes "acme") (codes "box")
  container_query : target_of (codes "/swift/v1/AUTH_acme/box?a/b") ≡ Container (codes "acme") (codes "box")
  container_escaped_slash : target_of (codes "/swift/v1/AUTH_acme/b%2fx") ≡ Container (codes "acme") (codes "b/x")
  object : target_of (codes "/swift/v1/AUTH_acme/box/k") ≡ Thing (codes "acme") (codes "box") (codes "k")
  object_slash : target_of (codes "/swift/v1/AUTH_acme/box/k/") ≡ Thing (codes "acme") (codes "box") (codes "k/")
  object_is_slash : target_of (codes "/swift/v1/AUTH_acme/box//") ≡ Thing (codes "acme") (codes "box") (codes "/")
  object_slashes : target_of (codes "/swift/v1/AUTH_acme/box/a/b//c") ≡ Thing (codes "acme") (codes "box") (codes "a/b//c")
  object_escaped_slash : target_of (codes "/swift/v1/AUTH_acme/box/a%2Fb") ≡ Thing (codes "acme") (codes "box") (codes "a/b")
  object_text : target_of (codes "/swift/v1/AUTH_acme/box/%C3%a4") ≡ Thing (codes "acme") (codes "box") (195 ∷ 164 ∷ [])
  object_plus : target_of (codes "/swift/v1/AUTH_acme/box/a+b") ≡ Thing (codes "acme") (codes "box") (codes "a+b")
  object_question : target_of (codes "/swift/v1/AUTH_acme/box/a%3Fb") ≡ Thing (codes "acme") (codes "box") (codes "a?b")
  other_case : target_of (codes "/Swift/v1/AUTH_acme") ≡ Unknown

pub paths : Paths
unfolding swift_words_on_literals
paths = record {
  auth = refl;
  auth_version = refl;
  auth_v_version = refl;
  auth_slash = refl;
  auth_version_slash = refl;
  auth_escaped = refl;
  auth_two_slashes = refl;
  auth_more = refl;
  auth_escaped_slash = refl;
  root = refl;
  no_account = refl;
  other_account = refl;
  account = refl;
  account_slash = refl;
  account_empty = refl;
  container = refl;
  container_slash = refl;
  container_query = refl;
  container_escaped_slash = refl;
  object = refl;
  object_slash = refl;
  object_is_slash = refl;
  object_slashes = refl;
  object_escaped_slash = refl;
  object_text = refl;
  object_plus = refl;
  object_question = refl;
  other_case = refl;
}

-- ---- which fault comes

pub record Faults : Type 0 where
  none : target_fault (codes "/swift/v1/AUTH_acme/box/k?limit=5&format=json") ≡ None
  no_slash : target_fault (codes "swift/%G1") ≡ Some NotPath
  empty : target_fault [] ≡ Some NotPath
  escape : target_fault (codes "/swift/v1/AUTH_acme/box/%G1") ≡ Some BadEscape
  escape_of_unknown : target_fault (codes "/x/%G1") ≡ Some BadEscape
  utf8 : target_fault (codes "/swift/v1/AUTH_acme/box/%FF") ≡ Some BadUtf8
  utf8_whole : target_fault (codes "/swift/v1/AUTH_acme/box/%C3%A4") ≡ None
  utf8_of_unknown : target_fault (codes "/x/%FF") ≡ Some BadUtf8
  name_empty : target_fault (codes "/swift/v1/AUTH_acme//x") ≡ Some BadName
  name_empty_slash : target_fault (codes "/swift/v1/AUTH_acme//") ≡ Some BadName
  name_zero : target_fault (codes "/swift/v1/AUTH_acme/b%00x") ≡ Some BadName
  name_of_unknown : target_fault (codes "/x/y/z//w%00") ≡ None
  limit : target_fault (codes "/auth?limit=x") ≡ Some BadLimit
  limit_empty : target_fault (codes "/auth?limit=") ≡ Some BadLimit
  limit_without_value : target_fault (codes "/auth?limit") ≡ Some BadLimit
  limit_nine : target_fault (codes "/auth?limit=123456789") ≡ None
  limit_ten : target_fault (codes "/auth?limit=0123456789") ≡ Some BadLimit
  limit_signed : target_fault (codes "/auth?limit=+5") ≡ Some BadLimit
  limit_last_counts : target_fault (codes "/auth?limit=x&limit=5") ≡ None
  format : target_fault (codes "/auth?format=xml") ≡ Some BadFormat
  format_empty : target_fault (codes "/auth?format=") ≡ Some BadFormat
  format_case : target_fault (codes "/auth?format=JSON") ≡ Some BadFormat
  query_escape : target_fault (codes "/auth?limit=x&unknown=%4") ≡ Some BadEscape
  query_utf8 : target_fault (codes "/auth?%FF=1&a=%G1") ≡ Some BadUtf8
  query_of_unknown : target_fault (codes "/x?limit=x") ≡ Some BadLimit
  escape_before_utf8 : target_fault (codes "/swift/v1/AUTH_acme/%FF%G1") ≡ Some BadEscape
  utf8_before_name : target_fault (codes "/swift/v1/AUTH_acme/%00%FF") ≡ Some BadUtf8
  container_before_object : target_fault (codes "/swift/v1/AUTH_acme/%00/%G1") ≡ Some BadName
  path_before_query : target_fault (codes "/swift/v1/AUTH_acme/%00?a=%G1") ≡ Some BadName
  name_before_value : target_fault (codes "/auth?%FF=%G1") ≡ Some BadUtf8
  limit_before_format : target_fault (codes "/auth?format=xml&limit=x") ≡ Some BadLimit

pub faults : Faults
unfolding swift_words_on_literals
faults = record {
  none = refl;
  no_slash = refl;
  empty = refl;
  escape = refl;
  escape_of_unknown = refl;
  utf8 = refl;
  utf8_whole = refl;
  utf8_of_unknown = refl;
  name_empty = refl;
  name_empty_slash = refl;
  name_zero = refl;
  name_of_unknown = refl;
  limit = refl;
  limit_empty = refl;
  limit_without_value = refl;
  limit_nine = refl;
  limit_ten = refl;
  limit_signed = refl;
  limit_last_counts = refl;
  format = refl;
  format_empty = refl;
  format_case = refl;
  query_escape = refl;
  query_utf8 = refl;
  query_of_unknown = refl;
  escape_before_utf8 = refl;
  utf8_before_name = refl;
  container_before_object = refl;
  path_before_query = refl;
  name_before_value = refl;
  limit_before_format = refl;
}

-- ---- queries

abbrev plain : ℕ → List ℕ → List ℕ → List ℕ → List ℕ → Query
plain most marker end_marker prefix delimiter = record {
  limit = most;
  marker = marker;
  end_marker = end_marker;
  prefix = prefix;
  delimiter = delimiter;
  json = false;
}

pub record Queries : Type 0 where
  none : asked_by (codes "/auth") ≡ plain 10000 [] [] [] []
  empty : asked_by (codes "/auth?") ≡ plain 10000 [] [] [] []
  all : asked_by (codes "/?limit=7&marker=a&end_marker=b&prefix=c&delimiter=d&format=plain") ≡ plain 7 (codes "a") (codes "b") (codes "c") (codes "d")
  json : (asked_by (codes "/?format=json")).json ≡ true
  zero_rows : (asked_by (codes "/?limit=0")).limit ≡ 0
  most_rows : (asked_by (codes "/?limit=10000")).limit ≡ 10000
  more_rows : (asked_by (codes "/?limit=10001")).limit ≡ 10000
  leading_zeros : (asked_by (codes "/?limit=000000005")).limit ≡ 5
  plus : (asked_by (codes "/?prefix=a+b%2B")).prefix ≡ codes "a b+"
  equals : (asked_by (codes "/?prefix=a=b")).prefix ≡ codes "a=b"
  question : (asked_by (codes "/?prefix=a?b")).prefix ≡ codes "a?b"
  last_counts : (asked_by (codes "/?prefix=a&prefix=b")).prefix ≡ codes "b"
  empty_counts : (asked_by (codes "/?prefix=a&prefix")).prefix ≡ []
  unknown : asked_by (codes "/?a&&=c&Prefix=d&path=e") ≡ plain 10000 [] [] [] []
  escaped_name : (asked_by (codes "/?p%72efix=a")).prefix ≡ codes "a"
  escaped_and : (asked_by (codes "/?prefix=a%26marker=b")).prefix ≡ codes "a&marker=b"
  semicolon : (asked_by (codes "/?prefix=a;marker=b")).prefix ≡ codes "a;marker=b"

pub queries : Queries
unfolding swift_words_on_literals
queries = record {
  none = refl;
  empty = refl;
  all = refl;
  json = refl;
  zero_rows = refl;
  most_rows = refl;
  more_rows = refl;
  leading_zeros = refl;
  plus = refl;
  equals = refl;
  question = refl;
  last_counts = refl;
  empty_counts = refl;
  unknown = refl;
  escaped_name = refl;
  escaped_and = refl;
  semicolon = refl;
}

-- ---- places

pub record Places : Type 0 where
  with_slash : place_of (codes "/box/k") ≡ (codes "box", codes "k")
  without_slash : place_of (codes "box/k") ≡ (codes "box", codes "k")
  slashes : place_of (codes "box/a/b%2F") ≡ (codes "box", codes "a/b/")
  container_escaped_slash : place_of (codes "b%2Fx/k") ≡ (codes "b/x", codes "k")
  question : place_of (codes "box/a?b+c") ≡ (codes "box", codes "a?b+c")
  whole : place_fault (codes "/box/k") ≡ None
  no_object : place_fault (codes "/box") ≡ Some NotPath
  nothing : place_fault [] ≡ Some NotPath
  empty_object : place_fault (codes "/box/") ≡ Some BadName
  empty_container : place_fault (codes "//k") ≡ Some BadName
  two_slashes : place_fault (codes "///") ≡ Some BadName
  escape : place_fault (codes "box/%4") ≡ Some BadEscape
  utf8 : place_fault (codes "%C3/k") ≡ Some BadUtf8
  zero_byte : place_fault (codes "box/%00") ≡ Some BadName
  container_before_object : place_fault (codes "%C3/%4") ≡ Some BadUtf8
  no_path_before_escape : place_fault (codes "%4") ≡ Some NotPath

pub places : Places
unfolding swift_words_on_literals
places = record {
  with_slash = refl;
  without_slash = refl;
  slashes = refl;
  container_escaped_slash = refl;
  question = refl;
  whole = refl;
  no_object = refl;
  nothing = refl;
  empty_object = refl;
  empty_container = refl;
  two_slashes = refl;
  escape = refl;
  utf8 = refl;
  zero_byte = refl;
  container_before_object = refl;
  no_path_before_escape = refl;
}
