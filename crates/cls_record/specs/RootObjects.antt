-- When an object of a pool is the root of a zone.
use Rattle.std.specs.Prelude.{◌≡◌, ℕ, ◌^◌, ◌<◌, List, [], ◌∷◌, ◌++◌, length, bytes_eq, Option, Some, None, IfSome, option_map, if◌then◌else◌, ◌&&◌, Bool, true, false}
use Rattle.std.specs.Ordering.{eq_by_cmp, is_lt}
use Rattle.omap_pages.specs.Rows.{key_cmp, value_at}
use Rattle.object_pool.specs.Objects.{Object}
use Rattle.object_words.specs.declared.bucket.Bucket.{Bucket}
use Rattle.object_words.specs.declared.log.LogWhat.TheVariants.{Bucket as bucket_row}
use Rattle.object_words.specs.Names.{Named, at, name_cmp}
use Rattle.object_words.specs.Logs.{logged}
use Rattle.object_words.specs.Roots.{Root, is_logged, shares_all, stored_or_none, with_bucket}
use Rattle.index_entry.specs.LogRows.{IsNameText}
use Rattle.class_words.specs.LogRows.{IsLog, log_attrs, logged_at, or_logged}
use Rattle.cls_record.specs.BucketRows.{IsBucket, bucket_bytes, text_bytes}

-- a text that is a name of a container
abbrev pub IsBucketName : List ℕ → Type 0
IsBucketName name = IsNameText 256 name

-- what the keys of an account's rows begin with: byte 255, which no text has, then the account after its length
abbrev pub account_front : List ℕ → List ℕ
account_front account = 255 ∷ text_bytes account

-- the key of the account row of a container
abbrev pub account_key : List ℕ → List ℕ → List ℕ
account_key account name = account_front account ++ name

-- the keys of all account rows are above this, and all other keys are below
abbrev pub accounts_start : List ℕ
accounts_start = 255 ∷ []

-- there is a container, and it is the account's
abbrev pub is_owner : List ℕ → Option Bucket → Bool
is_owner account None = false
is_owner account (Some b) = bytes_eq b.owner account

-- the account has a container of this name
abbrev pub owned : Named Bucket → List ℕ → List ℕ → Bool
owned buckets account name = is_owner account (at buckets name)

-- the account has a container of this name, or has none, and all others are as they were
abbrev pub with_owner : (List ℕ → List ℕ → Bool) → List ℕ → List ℕ → Bool → List ℕ → List ℕ → Bool
with_owner owns account name there a n = if bytes_eq account a && eq_by_cmp name_cmp n name then there else owns a n

-- the object is that root, but for its account rows, which are those of the containers that the accounts own here: its rows
-- are those of the containers, each under its name, those of the accounts, which are empty, and those of the log, and its
-- attributes are the last position of the log
pub record IsRootWith (o : Object) (r : Root) (owns : List ℕ → List ℕ → Bool) : Type 0 where
  pub bytes : o.bytes ≡ []
  pub attrs : o.attrs ≡ log_attrs r.log
  pub rows : (key : List ℕ) → is_lt (key_cmp key accounts_start) ≡ true → value_at o.rows.rows key ≡ or_logged (option_map bucket_bytes (at r.buckets key)) (logged_at r.log key)
  pub accounts : (account name : List ℕ) → length account < 2 ^ 64 → value_at o.rows.rows (account_key account name) ≡ (if owns account name then Some [] else None)
  pub named : (name : List ℕ) → IfSome (at r.buckets name) (λ _. IsBucketName name)
  pub bucket : (name : List ℕ) → IfSome (at r.buckets name) IsBucket
  pub log : IsLog r.log

-- the object is that root, and has the account rows of its containers
abbrev pub IsRoot : Object → Root → Type 0
IsRoot o r = IsRootWith o r (owned r.buckets)

-- the root with this row under the name, or none
abbrev pub with_row : Root → List ℕ → Option Bucket → Root
with_row r name row = record r { buckets = with_bucket r.buckets name row }

-- the root with one row more in the log, which names the container
abbrev pub with_log_row : Root → List ℕ → Root
with_log_row r name = record r { log = logged r.log (bucket_row name) }

-- the number under which the kept row's shared part is known, where the new row has the same
abbrev pub same_shared : Option Bucket → Bucket → Option ℕ
same_shared None new = None
same_shared (Some old) new = if shares_all old new then Some old.shared else None

-- the root with the row swapped: for the new one with its numbers, or for none; zone 1 logs it
abbrev pub renewed : Root → List ℕ → Option Bucket → Bool → ℕ → Root
renewed r name new master number =
    let kept = at r.buckets name in
    let swapped = with_row r name (stored_or_none kept new master number) in
    if master && is_logged kept new then with_log_row swapped name else swapped
