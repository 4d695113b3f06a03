-- Names and entries as rows, and where a page of them begins.
use Rattle.std.specs.Prelude.{◌≡◌, ℕ, ◌-◌, ◌^◌, true, List}
use Rattle.std.specs.Ordering.{is_lt}
use Rattle.omap_pages.specs.Rows.{key_cmp}
use Rattle.object_words.specs.Entries.{EntryView}
use Rattle.index_entry.specs.Layouts.{entry_bytes}
use Rattle.index_entry.specs.LogRows.{log_key}
use Rattle.class_words.specs.Shards.{IsObjectName}

-- an entry under its name, written
abbrev pub written : List ℕ × EntryView → List ℕ × List ℕ
written e = (e.0, entry_bytes e.1)

-- the greatest key of a log
abbrev pub top : List ℕ
top = log_key (2 ^ 64 - 1)

-- the rows above the start are, of the names, those above the text, and none of the log
pub record StartsAt (after start : List ℕ) : Type 0 where
  pub low : (name : List ℕ) → IsObjectName name → is_lt (key_cmp start name) ≡ is_lt (key_cmp after name)
  pub log : (q : List ℕ) → is_lt (key_cmp start q) ≡ true → is_lt (key_cmp top q) ≡ true
