-- Two writers of one name: the one that completes last was changed first, and its row is not stored.
use Rattle.std.specs.Prelude.{List, [], ◌∷◌, ◌++◌, None}
use Rattle.realm_model.specs.declared.op.Op.TheVariants.{Prepare, Announce, HeadWrite, Complete, Stats as stats_op}
use Rattle.realm_model.specs.declared.event.Reply.TheVariants.{Done, Prepared, Position, Changed, Stats}
use Rattle.realm_model.specs.declared.event.Event.{Event}
use Rattle.realm_model.specs.KnownWords.{by, hello_at_head, reads, shard, box, k, guard, change, hello_row, empty, empty_row, no_conditions, stats}

abbrev pub history : List Event
history =
    hello_at_head 0
    ++ reads 3 0 1
    ∷ by 3 0 (Prepare 1 shard k) (Prepared (guard 9 120000000))
    ∷ by 3 0 (Announce 1 1 1 0 box) (Position 2)
    ∷ by 3 0 (HeadWrite 1 1 k (guard 9 120000000) (empty 8) no_conditions) (Changed (change 11 1 (empty_row 1) None))
    ∷ by 3 0 (Complete 1 shard k 9 11 (empty_row 1)) Done
    ∷ by 2 0 (Complete 1 shard k 5 7 (hello_row 0)) Done
    ∷ reads 4 0 1
    ∷ by 4 0 (stats_op 1 shard) (Stats (stats 1 0 0))
    ∷ []
