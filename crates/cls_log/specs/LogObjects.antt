-- When an object of a pool is a log that has the object to itself, as that of a zone's data.
use Rattle.std.specs.Prelude.{◌≡◌, ◌^◌, ◌<◌, []}
use Rattle.object_pool.specs.Objects.{Object}
use Rattle.object_words.specs.declared.log.LogRow.{LogRow}
use Rattle.object_words.specs.Logs.{Log}
use Rattle.index_entry.specs.LogRows.{IsWhat}
use Rattle.class_words.specs.LogRows.{IsLog, log_attrs, log_rows}

-- the object is that log: its rows are the rows of the log, in their order, and its attributes are the last position
pub record IsLogObject (o : Object) (log : Log) : Type 0 where
  pub bytes : o.bytes ≡ []
  pub attrs : o.attrs ≡ log_attrs log
  pub rows : o.rows.rows ≡ log_rows log.rows
  pub is_log : IsLog log

-- a row that can be written: its position fits, and what it names is within the limits
abbrev pub IsFit : LogRow → Type 0
IsFit row = (row.position < 2 ^ 64) × IsWhat row.what
