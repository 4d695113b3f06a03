-- A container that is made, listed under its account and removed; another that is not empty is not removed.
use Rattle.std.specs.Prelude.{codes, true, false, List, [], ◌∷◌, Some, None}
use Rattle.object_words.specs.declared.why.Why.TheVariants.{Absent, Held, NotEmpty}
use Rattle.object_words.specs.Keys.{shard_key}
use Rattle.realm_model.specs.declared.op.Op.TheVariants.{BucketRead, BucketSwap, AccountPage, ShardMake, Prepare, Complete, Page, Stats, CloseShard, Release, Shut, HeadWrite, Announce}
use Rattle.realm_model.specs.declared.event.Reply.TheVariants.{Done, No, Row, Names, Prepared, Entries, Position, Stats as stats_reply, Changed as changed_reply}
use Rattle.realm_model.specs.declared.event.Event.{Event}
use Rattle.realm_model.specs.KnownWords.{by, box, k, bucket, guard, stamped_row, content, change, stats, no_conditions, hex, no_entries}

abbrev pub history : List Event
history =
    by 1 0 (BucketRead 1 box) (No Absent)
    ∷ by 1 0 (ShardMake 1 (shard_key 1 1 0)) Done
    ∷ by 1 0 (ShardMake 1 (shard_key 1 1 1)) Done
    ∷ by 1 0 (BucketSwap 1 box 0 (Some (bucket 1 0 2))) Done
    ∷ by 2 0 (BucketRead 1 box) (Row (bucket 1 4 2))
    ∷ by 2 0 (Prepare 1 (shard_key 1 1 1) k) (Prepared (guard 6 120000000))
    ∷ by 2 0 (Announce 1 1 1 1 box) (Position 1)
    ∷ by 2 0 (HeadWrite 1 1 k (guard 6 120000000) (content 5 4194304 5 (codes "hello") (hex (codes "5d41402abc4b2a76b9719d911017c592"))) no_conditions) (changed_reply (change 8 0 (stamped_row 5 0 (hex (codes "5d41402abc4b2a76b9719d911017c592"))) None))
    ∷ by 2 0 (Complete 1 (shard_key 1 1 1) k 6 8 (stamped_row 5 0 (hex (codes "5d41402abc4b2a76b9719d911017c592")))) Done
    ∷ by 3 0 (BucketRead 1 box) (Row (bucket 1 4 2))
    ∷ by 3 0 (BucketSwap 1 box 4 (Some (record (bucket 1 4 2) { number = 1; busy = Some (record { number = 1; closing = true }) }))) Done
    ∷ by 3 0 (CloseShard 1 (shard_key 1 1 0) 1 false) Done
    ∷ by 3 0 (CloseShard 1 (shard_key 1 1 1) 1 false) (No (NotEmpty k))
    ∷ by 3 0 (BucketSwap 1 box 11 (Some (record (bucket 1 11 2) { shared = 4; number = 1 }))) Done
    ∷ by 3 0 (Release 1 (shard_key 1 1 0) 1) Done
    ∷ by 4 0 (BucketRead 1 (codes "e")) (No Absent)
    ∷ by 4 0 (ShardMake 1 (shard_key 16 16 0)) Done
    ∷ by 4 0 (ShardMake 1 (shard_key 16 16 1)) Done
    ∷ by 4 0 (BucketSwap 1 (codes "e") 0 (Some (bucket 16 0 2))) Done
    ∷ by 5 0 (BucketRead 1 (codes "e")) (Row (bucket 16 19 2))
    ∷ by 6 0 (AccountPage 1 (codes "acme") [] 1000) (Names (box ∷ (codes "e") ∷ []))
    ∷ by 6 0 (BucketRead 1 box) (Row (record (bucket 1 14 2) { shared = 4; number = 1 }))
    ∷ by 6 0 (Stats 1 (shard_key 1 1 0)) (stats_reply (record (stats 0 0 0) { fence = 1 }))
    ∷ by 6 0 (Stats 1 (shard_key 1 1 1)) (stats_reply (stats 1 5 0))
    ∷ by 6 0 (BucketRead 1 (codes "e")) (Row (bucket 16 19 2))
    ∷ by 6 0 (Stats 1 (shard_key 16 16 0)) (stats_reply (stats 0 0 0))
    ∷ by 6 0 (Stats 1 (shard_key 16 16 1)) (stats_reply (stats 0 0 0))
    ∷ by 7 0 (BucketRead 1 (codes "e")) (Row (bucket 16 19 2))
    ∷ by 7 0 (BucketSwap 1 (codes "e") 19 (Some (record (bucket 16 19 2) { number = 1; busy = Some (record { number = 1; closing = true }) }))) Done
    ∷ by 7 0 (CloseShard 1 (shard_key 16 16 0) 1 false) Done
    ∷ by 8 0 (BucketRead 1 (codes "e")) (Row (record (bucket 16 29 2) { shared = 19; number = 1; busy = Some (record { number = 1; closing = true }) }))
    ∷ by 8 0 (Prepare 1 (shard_key 16 16 0) (codes "q")) (No (Held 1))
    ∷ by 9 0 (BucketRead 1 (codes "e")) (Row (record (bucket 16 29 2) { shared = 19; number = 1; busy = Some (record { number = 1; closing = true }) }))
    ∷ by 9 0 (Page 1 (shard_key 16 16 0) [] 1000) (Entries (no_entries 0))
    ∷ by 9 0 (Page 1 (shard_key 16 16 1) [] 1000) (Entries (no_entries 0))
    ∷ by 7 0 (CloseShard 1 (shard_key 16 16 1) 1 false) Done
    ∷ by 7 0 (BucketSwap 1 (codes "e") 29 None) Done
    ∷ by 7 0 (Shut 1 (shard_key 16 16 0)) Done
    ∷ by 7 0 (Shut 1 (shard_key 16 16 1)) Done
    ∷ by 10 0 (BucketRead 1 (codes "e")) (No Absent)
    ∷ []
