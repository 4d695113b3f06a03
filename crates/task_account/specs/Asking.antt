-- What a request for an account asks of the names of its containers, and what they add to its reply (OpenStack Object
-- Storage API v1, accounts).
use Rattle.std.specs.Prelude.{◌≡◌, ℕ, ◌+◌, ◌-◌, ◌&&◌, min, nat_lt, nat_le, bytes_eq, codes, Bool, true, false, List, [], ◌∷◌, ◌++◌, length, slice_get, Option, Some, None, if◌then◌else◌}
use Rattle.object_words.specs.Numbers.{greatest}
use Rattle.realm_model.specs.Allowed.{page_limit}
use Rattle.list_words.specs.declared.command.ListCommand.{ListCommand}
use Rattle.list_words.specs.declared.row.AccountRow.{AccountRow}
use Rattle.list_words.specs.Listings.{is_before, in_scope, is_past, subdir_of, most_rows}
use Rattle.task_account.specs.declared.asked.Asked.{Asked}
use Rattle.task_account.specs.declared.asked.Asked.TheVariants.{Counts, Rows}
use Rattle.task_account.specs.declared.asked.Place.{Place}
use Rattle.task_account.specs.declared.asked.Place.TheVariants.{Past, Elsewhere, Due}
use Rattle.task_account.specs.declared.reply.AccountReply.{AccountReply}
use Rattle.task_account.specs.declared.reply.AccountReply.TheVariants.{Counted, Listed}
use Rattle.task_account.specs.declared.request.AccountListing.{AccountListing}
use Rattle.task_account.specs.declared.request.AccountCommand.{AccountCommand}
use Rattle.task_account.specs.declared.request.AccountCommand.TheVariants.{Head, List as list}

-- ---- what is asked

-- the listing of objects that asks the same of their names; its container plays no part
abbrev pub as_objects : AccountListing → ListCommand
as_objects l = record {
  container = codes "-";
  limit = l.limit;
  marker = l.marker;
  end_marker = l.end_marker;
  prefix = l.prefix;
  delimiter = l.delimiter;
}

abbrev pub asked_of : AccountCommand → Asked
asked_of Head = Counts
asked_of (list l) = Rows (as_objects l)

-- the command that asks so
abbrev pub command_of : Asked → AccountCommand
command_of Counts = Head
command_of (Rows c) = list (record {
  limit = c.limit;
  marker = c.marker;
  end_marker = c.end_marker;
  prefix = c.prefix;
  delimiter = c.delimiter;
})

-- a text below each name that is asked for; nothing stands below all names but the empty text
abbrev pub IsStart : Asked → List ℕ → Type 0
IsStart Counts start = start ≡ []
IsStart (Rows c) start = (name : List ℕ) → in_scope c name ≡ true → is_before start name ≡ true

-- so many rows are there as are listed at most
abbrev pub is_full : Asked → AccountReply → Bool
is_full (Rows c) (Listed rows) = nat_le (most_rows c) (length rows)
is_full asked reply = false

-- ---- rows

-- no row was made, and nothing was counted
abbrev pub empty_reply : Asked → AccountReply
empty_reply Counts = Counted 0 0 0
empty_reply (Rows c) = Listed []

-- a container with its sums
abbrev pub container_row : List ℕ → ℕ → ℕ → AccountRow
container_row name objects bytes = record { name = name; count = objects; bytes = bytes; subdir = false }

-- the names below a subdir
abbrev pub subdir_row : List ℕ → AccountRow
subdir_row subdir = record { name = subdir; count = 0; bytes = 0; subdir = true }

-- with one container more
abbrev pub with_container : AccountReply → List ℕ → ℕ → ℕ → AccountReply
with_container (Counted containers all_objects all_bytes) name objects bytes =
    Counted (min (containers + 1) greatest) (min (all_objects + objects) greatest) (min (all_bytes + bytes) greatest)
with_container (Listed rows) name objects bytes = Listed (rows ++ container_row name objects bytes ∷ [])

-- with one subdir more
abbrev pub with_subdir : AccountReply → List ℕ → AccountReply
with_subdir (Counted containers all_objects all_bytes) subdir = Counted containers all_objects all_bytes
with_subdir (Listed rows) subdir = Listed (rows ++ subdir_row subdir ∷ [])

-- the row is of this subdir
abbrev pub is_of_subdir : List ℕ → AccountRow → Bool
is_of_subdir subdir row = row.subdir && bytes_eq subdir row.name

abbrev pub is_last_of : List ℕ → Option AccountRow → Bool
is_last_of subdir None = false
is_last_of subdir (Some row) = is_of_subdir subdir row

-- the last row is of this subdir
abbrev pub has_subdir : AccountReply → List ℕ → Bool
has_subdir (Counted containers objects bytes) subdir = false
has_subdir (Listed rows) subdir = is_last_of subdir (slice_get rows (length rows - 1))

-- ---- names

-- a name that is asked for is due, but for one of the last row's subdir
abbrev pub place_under : AccountReply → Option (List ℕ) → Place
place_under reply None = Due None
place_under reply (Some subdir) = if has_subdir reply subdir then Elsewhere else Due (Some subdir)

abbrev pub listed_place : ListCommand → AccountReply → List ℕ → Place
listed_place c reply name =
    if in_scope c name then place_under reply (subdir_of c name) else if is_past c name then Past else Elsewhere

-- what a name is to the request, behind these rows
abbrev pub place_of : Asked → AccountReply → List ℕ → Place
place_of Counts reply name = Due None
place_of (Rows c) reply name = listed_place c reply name

-- ---- pages

-- the names of a page that are left, and whether there is none behind them
pub record LeftView : Type 0 where
  pub rest : List (List ℕ)
  pub is_last : Bool

-- a page that is not full is the last
abbrev pub is_short : List (List ℕ) → Bool
is_short names = nat_lt (length names) page_limit

abbrev pub page_of : List (List ℕ) → LeftView
page_of names = record { rest = names; is_last = is_short names }

abbrev pub first_of : List (List ℕ) → Option (List ℕ)
first_of [] = None
first_of (name ∷ names) = Some name

abbrev pub rest_of : List (List ℕ) → List (List ℕ)
rest_of [] = []
rest_of (name ∷ names) = names

-- without the first name
abbrev pub behind_first : LeftView → LeftView
behind_first left = record { rest = rest_of left.rest; is_last = left.is_last }
