-- The root of a zone: the rows of its containers by name, and the log of their changes (Ceph manual, Multisite: metadata
-- log).
use Rattle.std.specs.Prelude.{ℕ, ◌==◌, ◌&&◌, not, Bool, true, List, bytes_eq, Option, Some, None, is_some, if◌then◌else◌}
use Rattle.std.specs.Cmp.Lexicographic.{pointwise}
use Rattle.object_words.specs.declared.bucket.Bucket.{Bucket}
use Rattle.object_words.specs.declared.why.Why.{Why}
use Rattle.object_words.specs.declared.why.Why.TheVariants.{Raced}
use Rattle.object_words.specs.declared.log.LogWhat.TheVariants.{Bucket as bucket_row}
use Rattle.object_words.specs.Names.{Named, none, at, with_name, without_name}
use Rattle.object_words.specs.Logs.{Log, no_log, logged}
use Rattle.object_words.specs.Refusals.{unless_refused}

-- the rows of a zone's containers by name, and the log of their changes
pub record Root : Type 0 where
  pub buckets : Named Bucket
  pub log : Log

-- a zone that has no container yet
abbrev pub no_root : Root
no_root = record { buckets = none; log = no_log }

-- the version of the row that is kept; 0 where there is none
abbrev pub version_of : Option Bucket → ℕ
version_of None = 0
version_of (Some row) = row.version

-- the same name and the same value
abbrev pub is_same_pair : List ℕ × List ℕ → List ℕ × List ℕ → Bool
is_same_pair p q = bytes_eq p.0 q.0 && bytes_eq p.1 q.1

-- both rows have the same id, owner, metadata and lists: the part that zones share
abbrev pub shares_all : Bucket → Bucket → Bool
shares_all a b =
    a.id == b.id
    && (bytes_eq a.owner b.owner
    && (pointwise is_same_pair a.meta b.meta
    && (bytes_eq a.readers b.readers && bytes_eq a.writers b.writers)))

-- whether the swap makes or changes the shared part
abbrev pub changes_shared : Option Bucket → Bucket → Bool
changes_shared None new = true
changes_shared (Some old) new = not (shares_all old new)

-- the number under which the shared part of the kept row is known
abbrev pub kept_shared : Option Bucket → ℕ
kept_shared None = 0
kept_shared (Some old) = old.shared

-- the number under which the shared part is known: zone 1 gives the event's number to a new one, the others take it over
abbrev pub shared_after : Option Bucket → Bucket → Bool → ℕ → ℕ
shared_after kept new master number =
    if master then (if changes_shared kept new then number else kept_shared kept) else new.shared

-- the new row, with its numbers
abbrev pub stored : Option Bucket → Bucket → Bool → ℕ → Bucket
stored kept new master number = record new { version = number; shared = shared_after kept new master number }

-- whether zone 1 logs the swap: it makes or changes the shared part, or takes a row away
abbrev pub is_logged : Option Bucket → Option Bucket → Bool
is_logged kept (Some new) = changes_shared kept new
is_logged kept None = is_some kept

-- the row under the name, or none
abbrev pub with_bucket : Named Bucket → List ℕ → Option Bucket → Named Bucket
with_bucket buckets name (Some row) = with_name buckets name row
with_bucket buckets name None = without_name buckets name

-- what the swap leaves of the row: the new one with its numbers, or none
abbrev pub stored_or_none : Option Bucket → Option Bucket → Bool → ℕ → Option Bucket
stored_or_none kept (Some new) master number = Some (stored kept new master number)
stored_or_none kept None master number = None

-- ---- swap

-- the row changed since it was read
abbrev pub swap_refusal : Root → List ℕ → ℕ → Option Why
swap_refusal root name expected =
    let version = version_of (at root.buckets name) in if version == expected then None else Some (Raced version)

-- the row is swapped for the new one, and zone 1 logs it
abbrev pub swapped : Root → List ℕ → ℕ → Option Bucket → Bool → ℕ → Root
swapped root name expected new master number =
    let kept = at root.buckets name in
    unless_refused (swap_refusal root name expected) root
    (record {
      buckets = with_bucket root.buckets name (stored_or_none kept new master number);
      log = if master && is_logged kept new then logged root.log (bucket_row name) else root.log;
    })
