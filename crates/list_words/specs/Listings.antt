-- What a listing of a container must be (OpenStack Object Storage API v1, show container details and list objects).
use Rattle.std.specs.Prelude.{◌≡◌, ℕ, ◌==◌, ◌||◌, ◌&&◌, not, min, bytes_eq, nat_eq, Bool, false, List, [], ◌∷◌, ◌++◌, map, take, drop, length, Option, Some, None, option_map, unwrap_or, if◌then◌else◌}
use Rattle.std.specs.List.{starts_with, filter, dedup}
use Rattle.std.specs.Ordering.{is_lt}
use Rattle.object_words.specs.Names.{name_cmp}
use Rattle.object_words.specs.Rows.{RowView}
use Rattle.list_words.specs.declared.command.ListCommand.{ListCommand}
use Rattle.list_words.specs.declared.key.Key.{Key}
use Rattle.list_words.specs.declared.key.Key.TheVariants.{Whole, Subdir as folded}
use Rattle.list_words.specs.declared.row.ListedRow.{ListedRow}
use Rattle.list_words.specs.declared.row.ListedRow.TheVariants.{Thing, Subdir}
use Rattle.list_words.specs.declared.row.ListedThing.{ListedThing}

-- the first text stands before the second, byte by byte
abbrev pub is_before : List ℕ → List ℕ → Bool
is_before x y = is_lt (name_cmp x y)

-- the text begins with that one
abbrev pub begins_with : List ℕ → List ℕ → Bool
begins_with text front = starts_with nat_eq text front

-- a text up to and with the first place at which the delimiter stands in it
abbrev pub up_to : List ℕ → List ℕ → Option (List ℕ)
up_to delimiter [] = None
up_to delimiter (x ∷ xs) =
    if begins_with (x ∷ xs) delimiter then Some delimiter else option_map (λ front. x ∷ front) (up_to delimiter xs)

-- the subdir under which a name that begins with the prefix is listed, if it is listed under one: the name up to and with
-- the first delimiter behind the prefix. An empty delimiter makes no subdirs
abbrev pub subdir_of : ListCommand → List ℕ → Option (List ℕ)
subdir_of c name =
    if length c.delimiter == 0
    then None
    else option_map (λ front. c.prefix ++ front) (up_to c.delimiter (drop (length c.prefix) name))

-- what a name is listed under: a subdir, or the name itself
abbrev pub key_of : ListCommand → List ℕ → List ℕ
key_of c name = unwrap_or (subdir_of c name) name

-- no end marker was sent, or the key is before it
abbrev pub is_before_end : ListCommand → List ℕ → Bool
is_before_end c key = length c.end_marker == 0 || is_before key c.end_marker

-- the name is one that the listing asks for
abbrev pub in_scope : ListCommand → List ℕ → Bool
in_scope c name =
    let key = key_of c name in begins_with name c.prefix && (is_before c.marker key && is_before_end c key)

-- neither the name nor any above it is in scope
abbrev pub is_past : ListCommand → List ℕ → Bool
is_past c name =
    if begins_with name c.prefix then not (is_before_end c (key_of c name)) else is_before c.prefix name

-- what a listing shows of a row of the index
abbrev pub thing_of : RowView → ListedThing
thing_of row = record { size = row.size; stamp = row.stamp; etag = row.etag; kind = row.kind }

-- the row under which a name is listed
abbrev pub row_under : Option (List ℕ) → List ℕ → ListedThing → ListedRow
row_under None name thing = Thing name thing
row_under (Some subdir) name thing = Subdir subdir

abbrev pub listed_row : ListCommand → List ℕ × RowView → ListedRow
listed_row c e = row_under (subdir_of c e.0) e.0 (thing_of e.1)

-- both rows are of one subdir
abbrev pub is_same_subdir : ListedRow → ListedRow → Bool
is_same_subdir (Subdir one) (Subdir other) = bytes_eq one other
is_same_subdir one other = false

-- the greatest number of rows in one listing
abbrev pub row_limit : ℕ
row_limit = 10000

-- how many rows are listed at most
abbrev pub most_rows : ListCommand → ℕ
most_rows c = min c.limit row_limit

-- all rows of the live names, which come by rising name: each subdir once
abbrev pub all_rows : ListCommand → List (List ℕ × RowView) → List ListedRow
all_rows c live = dedup is_same_subdir (map (listed_row c) (filter (λ e. in_scope c e.0) live))

-- the rows of a listing: the first ones of the live names
abbrev pub rows_of : ListCommand → List (List ℕ × RowView) → List ListedRow
rows_of c live = take (most_rows c) (all_rows c live)

-- the key of a row
abbrev pub row_key : ListedRow → List ℕ
row_key (Thing name row) = name
row_key (Subdir subdir) = subdir

-- the subdir, or that there is none, is the key's
abbrev pub IsKey : Option (List ℕ) → Key → Type 0
IsKey subdir Whole = subdir ≡ None
IsKey subdir (folded text) = subdir ≡ Some text.now

-- the text under which a name with this key is listed
abbrev pub text_under : Key → List ℕ → List ℕ
text_under Whole name = name
text_under (folded text) name = text.now

-- ---- row by row

-- the last of the rows is of the same subdir
abbrev pub ends_with_subdir : List ListedRow → ListedRow → Bool
ends_with_subdir [] row = false
ends_with_subdir (last ∷ []) row = is_same_subdir row last
ends_with_subdir (first ∷ next ∷ rows) row = ends_with_subdir (next ∷ rows) row

-- the rows with one more, where it is no further name of the last one's subdir
abbrev pub with_row : List ListedRow → ListedRow → List ListedRow
with_row rows row = if ends_with_subdir rows row then rows else rows ++ row ∷ []
