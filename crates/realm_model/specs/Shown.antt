-- What an answer shows.
use Rattle.std.specs.Prelude.{Option, Some, None}
use Rattle.object_words.specs.declared.bucket.Bucket.{Bucket}
use Rattle.object_words.specs.declared.entry.EntryPage.{EntryPage}
use Rattle.object_words.specs.declared.shard.ShardStats.{ShardStats}
use Rattle.realm_model.specs.declared.event.Reply.{Reply}
use Rattle.realm_model.specs.declared.event.Reply.TheVariants.{Row, Entries, Stats}

-- the row of a container
abbrev pub row_shown : Reply → Option Bucket
row_shown (Row row) = Some row
row_shown reply = None

-- a page of a shard's entries
abbrev pub page_shown : Reply → Option EntryPage
page_shown (Entries page) = Some page
page_shown reply = None

-- a shard's header
abbrev pub header_shown : Reply → Option ShardStats
header_shown (Stats stats) = Some stats
header_shown reply = None
