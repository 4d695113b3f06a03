-- A writer stops between the change of the head and the completion of the entry. A listing reads the head; a check at the
-- tag's deadline puts the entry right.
use Rattle.std.specs.Prelude.{List, [], ◌∷◌, ◌++◌}
use Rattle.object_words.specs.Rows.{no_row}
use Rattle.realm_model.specs.declared.op.Op.TheVariants.{Page, HeadRead, Suggest, Stats as stats_op}
use Rattle.realm_model.specs.declared.event.Reply.TheVariants.{Done, Entries, Head as head_reply, Stats}
use Rattle.realm_model.specs.declared.event.Event.{Event}
use Rattle.realm_model.specs.KnownWords.{by, hello_at_head, reads, shard, k, tag, hello, hello_row, one_entry, shows, stats}

abbrev pub history : List Event
history =
    hello_at_head 1000000
    ++ reads 3 1000000 1
    ∷ by 3 1000000 (Page 1 shard [] 1000) (Entries (one_entry k 0 1 no_row (tag 5 121000000 ∷ []) 1000000))
    ∷ by 3 1000000 (HeadRead 1 1 k) (head_reply (shows 7 (hello 4) 1000000) 1000000)
    ∷ reads 4 1000000 1
    ∷ by 4 1000000 (stats_op 1 shard) (Stats (stats 0 0 1))
    ∷ reads 5 121000000 1
    ∷ by 5 121000000 (Page 1 shard [] 1000) (Entries (one_entry k 0 1 no_row (tag 5 121000000 ∷ []) 121000000))
    ∷ by 5 121000000 (HeadRead 1 1 k) (head_reply (shows 7 (hello 4) 1000000) 121000000)
    ∷ by 5 121000000 (Suggest 1 shard k 1 121000000 7 (hello_row 1000000)) Done
    ∷ reads 6 121000000 1
    ∷ by 6 121000000 (stats_op 1 shard) (Stats (stats 1 5 0))
    ∷ []
