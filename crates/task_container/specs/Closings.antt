-- Closings of containers: the number that is set in the row, and what is known of it.
use Rattle.std.specs.Prelude.{ℕ, ◌+◌, ◌==◌, ◌&&◌, Bool, true, false, nat_lt, min, Option, Some, None, if◌then◌else◌}
use Rattle.object_words.specs.declared.bucket.Bucket.{Bucket}
use Rattle.object_words.specs.declared.bucket.Busy.{Busy}
use Rattle.object_words.specs.Keys.{shard_key}
use Rattle.object_words.specs.Numbers.{greatest}
use Rattle.realm_model.specs.Needs.{has_ended}
use Rattle.realm_model.specs.Tests.{is_so}
use Rattle.task_container.specs.declared.closing.Closing.{Closing}
use Rattle.task_container.specs.declared.closing.OwnClosing.{OwnClosing}

-- the next number up to a limit
abbrev pub next_below : ℕ → ℕ → ℕ
next_below n most = if nat_lt n most then n + 1 else n

-- the number after a row's last one
abbrev pub next_number : Bucket → ℕ
next_number row = min (row.number + 1) greatest

abbrev pub with_number : Bucket → ℕ → Option Busy → Bucket
with_number row number busy = record row { number = number; busy = busy }

-- the row with the next number, for a closing
abbrev pub closing_row : Bucket → Bucket
closing_row row = record row { number = next_number row; busy = Some (record { number = next_number row; closing = true }) }

-- the row without the number that is set
abbrev pub cleared_row : Bucket → Bucket
cleared_row row = record row { busy = None }

-- a closing that was begun by the event of this number
abbrev pub begun_closing : Bucket → ℕ → Closing
begun_closing row version = record { row = record (closing_row row) { version = version }; number = next_number row; closed = 0 }

-- the number that was set
abbrev pub own_number : Closing → OwnClosing
own_number c = record { container = c.row.id; instance = c.row.instance; number = c.number }

-- it is the number that is set in the row
abbrev pub owns : Option OwnClosing → Bucket → Busy → Bool
owns None row busy = false
owns (Some own) row busy =
    busy.closing && (own.number == busy.number && (own.container == row.id && own.instance == row.instance))

-- one shard more was closed
abbrev pub with_closed : Closing → Closing
with_closed c = record c { closed = next_below c.closed c.row.shards }

-- the row was read again
abbrev pub with_row : Closing → Bucket → Closing
with_row c row = record c { row = row }

-- the number is still set in the row, which names the same shards
abbrev pub is_still : Closing → Bucket → Bool
is_still c row = row.shards == c.row.shards && is_so row.busy (owns (Some (own_number c)) row)

-- the row names the same instance, gave the number, and it is not in progress there
abbrev pub has_ended_by : Closing → Bucket → Bool
has_ended_by c row = has_ended (shard_key c.row.id c.row.instance 0) c.number row
