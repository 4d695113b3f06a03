-- The rows that requests for containers make (OpenStack Object Storage API v1, container metadata).
use Rattle.std.specs.Prelude.{ℕ, ◌==◌, List, [], ◌∷◌, ◌++◌, length, bytes_eq, Option, Some, None, if◌then◌else◌}
use Rattle.rgw_types.specs.Pairs.{is_before}
use Rattle.object_words.specs.declared.bucket.Bucket.{Bucket}
use Rattle.task_container.specs.declared.request.ContainerChanges.{ContainerChanges}
use Rattle.task_container.specs.declared.request.ContainerRequest.{ContainerRequest}
use Rattle.task_container.specs.Requests.{changes_of}

-- ---- metadata

-- the first pairs, as far as their names are before this one
abbrev pub lower : List ℕ → List (List ℕ × List ℕ) → List (List ℕ × List ℕ)
lower name [] = []
lower name (p ∷ ps) = if is_before p.0 name then p ∷ lower name ps else []

-- those behind them whose names are not this one
abbrev pub higher : List ℕ → List (List ℕ × List ℕ) → List (List ℕ × List ℕ)
higher name [] = []
higher name (p ∷ ps) =
    if is_before p.0 name then higher name ps else (if bytes_eq p.0 name then ps else p ∷ ps)

-- a sent pair sets its name, or with an empty value removes it
abbrev pub given : List ℕ × List ℕ → List (List ℕ × List ℕ)
given p = if length p.1 == 0 then [] else p ∷ []

-- the kept pairs with those that were sent, by rising name: around each sent one the kept ones stay that have other names
abbrev pub merged : List (List ℕ × List ℕ) → List (List ℕ × List ℕ) → List (List ℕ × List ℕ)
merged kept [] = kept
merged kept (p ∷ sent) = lower p.0 kept ++ (given p ++ merged (higher p.0 kept) sent)

-- what a name has after a merge, by what it had and what was sent of it: what was sent, where that has a byte
abbrev pub value_after : Option (List ℕ) → Option (List ℕ) → Option (List ℕ)
value_after kept None = kept
value_after kept (Some value) = if length value == 0 then None else Some value

-- ---- rows

-- the list that was sent, else the kept one
abbrev pub list_after : List ℕ → Option (List ℕ) → List ℕ
list_after kept None = kept
list_after kept (Some sent) = sent

-- metadata and lists with what was sent, and nothing else changed
abbrev pub changed : Bucket → Option ContainerChanges → Bucket
changed row None = row
changed row (Some c) = record row {
  meta = merged row.meta c.meta;
  readers = list_after row.readers c.readers;
  writers = list_after row.writers c.writers;
}

-- the row of a new container of so many shards without metadata and lists
abbrev pub bare_row : List ℕ → ℕ → ℕ → Bucket
bare_row owner shards id = record {
  id = id;
  owner = owner;
  version = 0;
  shared = 0;
  number = 0;
  busy = None;
  instance = id;
  shards = shards;
  meta = [];
  readers = [];
  writers = [];
}

-- the row of a new container, with what was sent
abbrev pub new_row : ContainerRequest → ℕ → ℕ → Bucket
new_row r shards id = changed (bare_row r.asker.account shards id) (changes_of r.command)
