-- The names of a zone's containers, page by page (OpenStack Object Storage API v1, accounts).
use Rattle.std.specs.Prelude.{ℕ, List, map, filter, take, bytes_eq}
use Rattle.std.specs.Ordering.{is_lt}
use Rattle.object_words.specs.declared.bucket.Bucket.{Bucket}
use Rattle.object_words.specs.Names.{name_cmp, entries, where_name}
use Rattle.object_words.specs.Roots.{Root}

-- the rows above a name, by rising name
abbrev pub rows_after : Root → List ℕ → List (List ℕ × Bucket)
rows_after root after = entries (where_name (λ name. is_lt (name_cmp after name)) root.buckets)

-- the first names above a name
abbrev pub bucket_names : Root → List ℕ → ℕ → List (List ℕ)
bucket_names root after limit = take limit (map (λ e. e.0) (rows_after root after))

-- the first names above a name, of containers of this account
abbrev pub account_names : Root → List ℕ → List ℕ → ℕ → List (List ℕ)
account_names root account after limit =
    take limit (map (λ e. e.0) (filter (λ e. bytes_eq (e.1).owner account) (rows_after root after)))
