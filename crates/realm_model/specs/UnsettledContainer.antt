-- A container that is not empty is not removed: its closing is cleared, and a writer goes on.
use Rattle.std.specs.Prelude.{codes, true, false, List, [], ◌∷◌, Some, None}
use Rattle.object_words.specs.declared.why.Why.TheVariants.{Absent, NotEmpty}
use Rattle.object_words.specs.Keys.{shard_key}
use Rattle.realm_model.specs.declared.op.Op.TheVariants.{BucketRead, BucketSwap, ShardMake, Prepare, Complete, CloseShard, HeadWrite, Announce}
use Rattle.realm_model.specs.declared.event.Reply.TheVariants.{Done, No, Row, Prepared, Position, Changed as changed_reply}
use Rattle.realm_model.specs.declared.event.Event.{Event}
use Rattle.realm_model.specs.KnownWords.{by, box, k, bucket, guard, stamped_row, content, change, no_conditions, hex}

abbrev pub history : List Event
history =
    by 1 0 (BucketRead 1 box) (No Absent)
    ∷ by 1 0 (ShardMake 1 (shard_key 1 1 0)) Done
    ∷ by 1 0 (BucketSwap 1 box 0 (Some (bucket 1 0 1))) Done
    ∷ by 2 0 (BucketRead 1 box) (Row (bucket 1 3 1))
    ∷ by 2 0 (Prepare 1 (shard_key 1 1 0) k) (Prepared (guard 5 120000000))
    ∷ by 2 0 (Announce 1 1 1 0 box) (Position 1)
    ∷ by 2 0 (HeadWrite 1 1 k (guard 5 120000000) (content 4 4194304 5 (codes "hello") (hex (codes "5d41402abc4b2a76b9719d911017c592"))) no_conditions) (changed_reply (change 7 0 (stamped_row 5 0 (hex (codes "5d41402abc4b2a76b9719d911017c592"))) None))
    ∷ by 2 0 (Complete 1 (shard_key 1 1 0) k 5 7 (stamped_row 5 0 (hex (codes "5d41402abc4b2a76b9719d911017c592")))) Done
    ∷ by 3 0 (BucketRead 1 box) (Row (bucket 1 3 1))
    ∷ by 3 0 (BucketSwap 1 box 3 (Some (record (bucket 1 3 1) { number = 1; busy = Some (record { number = 1; closing = true }) }))) Done
    ∷ by 3 0 (CloseShard 1 (shard_key 1 1 0) 1 false) (No (NotEmpty k))
    ∷ by 3 0 (BucketSwap 1 box 10 (Some (record (bucket 1 10 1) { shared = 3; number = 1 }))) Done
    ∷ by 4 0 (BucketRead 1 box) (Row (record (bucket 1 12 1) { shared = 3; number = 1 }))
    ∷ by 4 0 (Prepare 1 (shard_key 1 1 0) k) (Prepared (guard 14 120000000))
    ∷ by 4 0 (Announce 1 1 1 0 box) (Position 2)
    ∷ []
