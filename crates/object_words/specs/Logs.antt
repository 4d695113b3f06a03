-- The log of a shard, of a zone's data, of a zone's containers (Ceph manual, Multisite: data log, metadata log, bucket
-- index log).
use Rattle.std.specs.Prelude.{ℕ, ◌+◌, nat_lt, nat_le, if◌then◌else◌, List, [], ◌∷◌, ◌++◌, length, take, filter, Option, Some, None}
use Rattle.object_words.specs.declared.why.Why.{Why}
use Rattle.object_words.specs.declared.why.Why.TheVariants.{Trimmed}
use Rattle.object_words.specs.declared.log.LogPage.{LogPage}
use Rattle.object_words.specs.declared.log.LogRow.{LogRow}
use Rattle.object_words.specs.declared.log.LogWhat.{LogWhat}
use Rattle.object_words.specs.Numbers.{next}

-- the rows that are kept, and the last position that was ever given
pub record Log : Type 0 where
  pub rows : List LogRow
  pub last : ℕ

-- a log that has no row yet
abbrev pub no_log : Log
no_log = record { rows = []; last = 0 }

-- one row more, at the next position
abbrev pub logged : Log → LogWhat → Log
logged log what = record { rows = log.rows ++ (record { position = next log.last; what = what }) ∷ []; last = next log.last }

-- the lowest position that is kept, or the next one where none is
abbrev pub first_position : List LogRow → ℕ → ℕ
first_position [] last = next last
first_position (row ∷ rows) last = row.position

-- the rows above a position
abbrev pub rows_above : List LogRow → ℕ → List LogRow
rows_above rows position = filter (λ row. nat_lt position row.position) rows

-- the first rows above a position, at most so many, and whether no further row follows; with the number of tags beside
abbrev pub log_page : Log → ℕ → ℕ → ℕ → LogPage
log_page log tags position limit = record {
  rows = take limit (rows_above log.rows position);
  last = log.last;
  first = first_position log.rows log.last;
  tags = tags;
  end = nat_le (length (rows_above log.rows position)) limit;
}

-- rows above the position are no longer kept
abbrev pub trimmed_refusal : Log → ℕ → Option Why
trimmed_refusal log position =
    if nat_lt (position + 1) (first_position log.rows log.last) then Some (Trimmed (first_position log.rows log.last)) else None
