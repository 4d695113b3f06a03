-- A check reads an entry and its head; before it suggests what it read, another writer changes the name. The suggestion is
-- refused by the entry's revision, and a later check takes the old tag away.
use Rattle.std.specs.Prelude.{List, [], ◌∷◌, ◌++◌, None}
use Rattle.object_words.specs.declared.why.Why.TheVariants.{Stale}
use Rattle.object_words.specs.Rows.{no_row}
use Rattle.realm_model.specs.declared.op.Op.TheVariants.{Prepare, Announce, HeadWrite, Complete, Page, HeadRead, Suggest, Stats as stats_op}
use Rattle.realm_model.specs.declared.event.Reply.TheVariants.{Done, No, Prepared, Position, Changed, Entries, Head as head_reply, Stats}
use Rattle.realm_model.specs.declared.event.Event.{Event}
use Rattle.realm_model.specs.KnownWords.{by, hello_at_head, reads, shard, box, k, guard, tag, change, hello, hello_row, empty, empty_row, no_conditions, one_entry, shows, stats}

abbrev pub history : List Event
history =
    hello_at_head 0
    ++ reads 3 120000000 1
    ∷ by 3 120000000 (Page 1 shard [] 1000) (Entries (one_entry k 0 1 no_row (tag 5 120000000 ∷ []) 120000000))
    ∷ by 3 120000000 (HeadRead 1 1 k) (head_reply (shows 7 (hello 4) 0) 120000000)
    ∷ reads 4 120000000 1
    ∷ by 4 120000000 (Prepare 1 shard k) (Prepared (guard 12 240000000))
    ∷ by 4 120000000 (Announce 1 1 1 0 box) (Position 2)
    ∷ by 4 120000000 (HeadWrite 1 1 k (guard 12 240000000) (empty 11) no_conditions)
    (Changed (change 14 120000000 (empty_row 120000000) None))
    ∷ by 4 120000000 (Complete 1 shard k 12 14 (empty_row 120000000)) Done
    ∷ by 3 120000000 (Suggest 1 shard k 1 120000000 7 (hello_row 0)) (No (Stale 3))
    ∷ reads 5 120000000 1
    ∷ by 5 120000000 (stats_op 1 shard) (Stats (stats 1 0 1))
    ∷ reads 6 120000000 1
    ∷ by 6 120000000 (Page 1 shard [] 1000) (Entries (one_entry k 14 3 (empty_row 120000000) (tag 5 120000000 ∷ []) 120000000))
    ∷ by 6 120000000 (HeadRead 1 1 k) (head_reply (shows 14 (empty 11) 120000000) 120000000)
    ∷ by 6 120000000 (Suggest 1 shard k 3 120000000 14 (empty_row 120000000)) Done
    ∷ []
