-- A closing is cancelled, its container is written to, and the closing begins anew and finds it not empty.
use Rattle.std.specs.Prelude.{codes, true, false, List, [], ◌∷◌, Some, None}
use Rattle.object_words.specs.declared.why.Why.TheVariants.{Absent, NotEmpty, Raced}
use Rattle.object_words.specs.Keys.{shard_key}
use Rattle.realm_model.specs.declared.op.Op.TheVariants.{BucketRead, BucketSwap, ShardMake, Prepare, Complete, CloseShard, Release, HeadWrite, Announce}
use Rattle.realm_model.specs.declared.event.Reply.TheVariants.{Done, No, Row, Prepared, Position, Changed as changed_reply}
use Rattle.realm_model.specs.declared.event.Event.{Event}
use Rattle.realm_model.specs.KnownWords.{by, box, k, bucket, guard, stamped_row, content, change, no_conditions, hex}

abbrev pub history : List Event
history =
    by 1 0 (BucketRead 1 box) (No Absent)
    ∷ by 1 0 (ShardMake 1 (shard_key 1 1 0)) Done
    ∷ by 1 0 (ShardMake 1 (shard_key 1 1 1)) Done
    ∷ by 1 0 (BucketSwap 1 box 0 (Some (bucket 1 0 2))) Done
    ∷ by 2 0 (BucketRead 1 (codes "e")) (No Absent)
    ∷ by 2 0 (ShardMake 1 (shard_key 5 5 0)) Done
    ∷ by 2 0 (ShardMake 1 (shard_key 5 5 1)) Done
    ∷ by 2 0 (BucketSwap 1 (codes "e") 0 (Some (bucket 5 0 2))) Done
    ∷ by 3 0 (BucketRead 1 (codes "e")) (Row (bucket 5 8 2))
    ∷ by 3 0 (BucketSwap 1 (codes "e") 8 (Some (record (bucket 5 8 2) { number = 1; busy = Some (record { number = 1; closing = true }) }))) Done
    ∷ by 3 0 (CloseShard 1 (shard_key 5 5 0) 1 false) Done
    ∷ by 3 0 (CloseShard 1 (shard_key 5 5 1) 1 false) Done
    ∷ by 4 0 (BucketRead 1 (codes "e")) (Row (record (bucket 5 10 2) { shared = 8; number = 1; busy = Some (record { number = 1; closing = true }) }))
    ∷ by 4 0 (BucketSwap 1 (codes "e") 10 (Some (record (bucket 5 10 2) { shared = 8; number = 1 }))) Done
    ∷ by 4 0 (Release 1 (shard_key 5 5 0) 1) Done
    ∷ by 4 0 (Release 1 (shard_key 5 5 1) 1) Done
    ∷ by 5 0 (BucketRead 1 (codes "e")) (Row (record (bucket 5 14 2) { shared = 8; number = 1 }))
    ∷ by 5 0 (Prepare 1 (shard_key 5 5 1) k) (Prepared (guard 18 120000000))
    ∷ by 5 0 (Announce 1 5 5 1 (codes "e")) (Position 1)
    ∷ by 5 0 (HeadWrite 1 5 k (guard 18 120000000) (content 17 4194304 0 [] (hex (codes "d41d8cd98f00b204e9800998ecf8427e"))) no_conditions) (changed_reply (change 20 0 (stamped_row 0 0 (hex (codes "d41d8cd98f00b204e9800998ecf8427e"))) None))
    ∷ by 5 0 (Complete 1 (shard_key 5 5 1) k 18 20 (stamped_row 0 0 (hex (codes "d41d8cd98f00b204e9800998ecf8427e")))) Done
    ∷ by 3 0 (BucketSwap 1 (codes "e") 10 None) (No (Raced 14))
    ∷ by 3 0 (BucketRead 1 (codes "e")) (Row (record (bucket 5 14 2) { shared = 8; number = 1 }))
    ∷ by 3 0 (BucketSwap 1 (codes "e") 14 (Some (record (bucket 5 14 2) { shared = 8; number = 2; busy = Some (record { number = 2; closing = true }) }))) Done
    ∷ by 3 0 (CloseShard 1 (shard_key 5 5 0) 2 false) Done
    ∷ by 3 0 (CloseShard 1 (shard_key 5 5 1) 2 false) (No (NotEmpty k))
    ∷ by 3 0 (BucketSwap 1 (codes "e") 24 (Some (record (bucket 5 24 2) { shared = 8; number = 2 }))) Done
    ∷ by 3 0 (Release 1 (shard_key 5 5 0) 2) Done
    ∷ []
