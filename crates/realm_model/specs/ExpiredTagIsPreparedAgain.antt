-- A writer comes to the head when its tag's deadline has passed. It cancels the tag, prepares another and goes on.
use Rattle.std.specs.Prelude.{List, [], ◌∷◌, ◌++◌, None}
use Rattle.object_words.specs.declared.why.Why.TheVariants.{Expired}
use Rattle.realm_model.specs.declared.op.Op.TheVariants.{Prepare, Announce, HeadWrite, Complete, Cancel}
use Rattle.realm_model.specs.declared.event.Reply.TheVariants.{Done, No, Prepared, Position, Changed}
use Rattle.realm_model.specs.declared.event.Event.{Event}
use Rattle.realm_model.specs.KnownWords.{by, made, reads, shard, box, k, guard, change, hello, hello_row, no_conditions}

abbrev pub history : List Event
history =
    made 1 0 1
    ++ reads 2 0 1
    ∷ by 2 0 (Prepare 1 shard k) (Prepared (guard 5 120000000))
    ∷ by 2 0 (Announce 1 1 1 0 box) (Position 1)
    ∷ by 2 120000000 (HeadWrite 1 1 k (guard 5 120000000) (hello 4) no_conditions) (No (Expired 120000000 120000000))
    ∷ by 2 120000000 (Cancel 1 shard k 5) Done
    ∷ reads 2 120000000 1
    ∷ by 2 120000000 (Prepare 1 shard k) (Prepared (guard 10 240000000))
    ∷ by 2 120000000 (Announce 1 1 1 0 box) (Position 2)
    ∷ by 2 120000000 (HeadWrite 1 1 k (guard 10 240000000) (hello 4) no_conditions)
    (Changed (change 12 120000000 (hello_row 120000000) None))
    ∷ by 2 120000000 (Complete 1 shard k 10 12 (hello_row 120000000)) Done
    ∷ []
