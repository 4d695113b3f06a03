-- How a log stands in the rows of an object: each row of the log under its own key, below the keys of all names.
use Rattle.std.specs.Prelude.{◌≡◌, ℕ, ◌^◌, ◌<◌, ◌≤◌, ◌==◌, ◌&&◌, Bool, true, nat_lt, if◌then◌else◌, List, [], ◌∷◌, map, Option, Some, None}
use Rattle.std.specs.List.{AllByRecursion}
use Rattle.std.specs.FinMap.Entries.{find}
use Rattle.omap_pages.specs.Rows.{Rows, key_cmp}
use Rattle.object_words.specs.declared.log.LogRow.{LogRow}
use Rattle.object_words.specs.Logs.{Log}
use Rattle.index_entry.specs.Numbers.{number_bytes}
use Rattle.index_entry.specs.LogRows.{IsWhat, log_key, what_bytes}

-- each row of a log, written
abbrev pub log_rows : List LogRow → Rows
log_rows rows = map (λ row. (log_key row.position, what_bytes row.what)) rows

-- what a log has under a key
abbrev pub logged_at : Log → List ℕ → Option (List ℕ)
logged_at log key = find key_cmp key (log_rows log.rows)

-- what stands under a key: a row of one family, or else of the log
abbrev pub or_logged : Option (List ℕ) → Option (List ℕ) → Option (List ℕ)
or_logged (Some value) logged = Some value
or_logged None logged = logged

-- each position is below the next
abbrev pub positions_rise : List LogRow → Bool
positions_rise [] = true
positions_rise (a ∷ []) = true
positions_rise (a ∷ b ∷ rows) = nat_lt a.position b.position && positions_rise (b ∷ rows)

-- a row that has the first position or a later one, and the last or an earlier one
abbrev pub IsLogRow : ℕ → LogRow → Type 0
IsLogRow last row = (1 ≤ row.position) × (row.position ≤ last) × IsWhat row.what

-- a log that can be kept: its positions rise up to the last, and what it names is within the limits
pub record IsLog (log : Log) : Type 0 where
  pub rows : AllByRecursion (IsLogRow log.last) log.rows
  pub rise : positions_rise log.rows ≡ true
  pub last_fits : log.last < 2 ^ 64

-- the attributes of an object that has nothing but a log and rows: the last position that was ever given, none before the
-- first
abbrev pub log_attrs : Log → List ℕ
log_attrs log = if log.last == 0 then [] else number_bytes log.last
