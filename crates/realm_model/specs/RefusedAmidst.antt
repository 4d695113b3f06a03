-- Changes, suggestions and reads that are refused amidst those of containers, each after events that are legal.
use Rattle.std.specs.Prelude.{codes, true, false, List, [], ◌∷◌, ◌++◌, Some, None}
use Rattle.object_words.specs.declared.why.Why.TheVariants.{Absent, Expired, NoSpace, Unsettled}
use Rattle.object_words.specs.Keys.{shard_key}
use Rattle.object_words.specs.Rows.{no_row}
use Rattle.realm_model.specs.declared.op.Op.TheVariants.{BucketRead, BucketSwap, AccountPage, ShardMake, Prepare, Complete, Cancel, Page, Suggest, Stats, CloseShard, HeadRead, HeadWrite, TailMake, TailRead, Announce}
use Rattle.realm_model.specs.declared.event.Reply.TheVariants.{Done, No, Row, Names, Prepared, Entries, Position, Stats as stats_reply, Head as head_reply, Changed as changed_reply}
use Rattle.realm_model.specs.declared.event.Event.{Event}
use Rattle.realm_model.specs.KnownWords.{by, box, k, bucket, guard, tag, stamped_row, content, change, manifest, stats, no_conditions, letters, hex, one_entry, no_entries, shows, shows_nothing}

-- announce with another bucket name
abbrev pub announced_otherwise : List Event
announced_otherwise =
    by 17 0 (BucketRead 1 box) (No Absent)
    ∷ by 17 0 (ShardMake 1 (shard_key 1 1 0)) Done
    ∷ by 17 0 (ShardMake 1 (shard_key 1 1 1)) Done
    ∷ by 17 0 (BucketSwap 1 box 0 (Some (bucket 1 0 2))) Done
    ∷ by 18 0 (BucketRead 1 box) (Row (bucket 1 4 2))
    ∷ by 18 0 (TailMake 1 5 1 (codes "qrstuvwxyz")) Done
    ∷ by 18 0 (Prepare 1 (shard_key 1 1 0) (codes "a/2")) (Prepared (guard 7 5000000))
    ∷ by 18 0 (Announce 1 1 1 0 (codes "boxx")) Done
    ∷ []

-- suggest with another moment
abbrev pub suggested_at_other_moment : List Event
suggested_at_other_moment =
    by 40 5 (BucketRead 1 box) (No Absent)
    ∷ by 40 5 (ShardMake 1 (shard_key 1 1 0)) Done
    ∷ by 40 5 (BucketSwap 1 box 0 (Some (bucket 1 0 1))) Done
    ∷ by 41 5 (BucketRead 1 box) (Row (bucket 1 3 1))
    ∷ by 41 5 (Prepare 1 (shard_key 1 1 0) (codes "a/1")) (Prepared (guard 5 1000005))
    ∷ by 42 1000000 (BucketRead 1 box) (Row (bucket 1 3 1))
    ∷ by 42 1000000 (BucketSwap 1 box 3 (Some (record (bucket 1 3 1) { number = 1; busy = Some (record { number = 1; closing = true }) }))) Done
    ∷ by 42 1000000 (CloseShard 1 (shard_key 1 1 0) 1 false) (No (Unsettled (codes "a/1")))
    ∷ by 42 1000000 (BucketSwap 1 box 7 (Some (record (bucket 1 7 1) { shared = 3; number = 1 }))) Done
    ∷ by 44 2500001 (BucketRead 1 box) (Row (record (bucket 1 9 1) { shared = 3; number = 1 }))
    ∷ by 44 2500001 (Page 1 (shard_key 1 1 0) [] 2) (Entries (one_entry (codes "a/1") 0 1 no_row (tag 5 1000005 ∷ []) 2500001))
    ∷ by 44 2500001 (HeadRead 1 1 (codes "a/1")) (head_reply (shows_nothing 12) 2500001)
    ∷ by 44 2500001 (Suggest 1 (shard_key 1 1 0) (codes "a/1") 1 2500002 12 no_row) Done
    ∷ []

-- tail read of the first bytes
abbrev pub first_bytes_read : List Event
first_bytes_read =
    by 17 5 (BucketRead 1 box) (No Absent)
    ∷ by 17 5 (ShardMake 1 (shard_key 1 1 0)) Done
    ∷ by 17 5 (ShardMake 1 (shard_key 1 1 1)) Done
    ∷ by 17 5 (BucketSwap 1 box 0 (Some (bucket 1 0 2))) Done
    ∷ by 18 5 (BucketRead 1 box) (Row (bucket 1 4 2))
    ∷ by 18 5 (TailMake 1 5 1 (letters 16)) Done
    ∷ by 18 5 (Prepare 1 (shard_key 1 1 1) k) (Prepared (guard 7 1000005))
    ∷ by 18 5 (Announce 1 1 1 1 box) (Position 1)
    ∷ by 18 5 (HeadWrite 1 1 k (guard 7 1000005) (content 5 16 32 (letters 16) (hex (codes "dc8fe1d6497ebd23f5975d8d2a1c5e81"))) no_conditions) (changed_reply (change 9 5 (stamped_row 32 5 (hex (codes "dc8fe1d6497ebd23f5975d8d2a1c5e81"))) None))
    ∷ by 18 5 (Complete 1 (shard_key 1 1 1) k 7 9 (stamped_row 32 5 (hex (codes "dc8fe1d6497ebd23f5975d8d2a1c5e81")))) Done
    ∷ by 19 1000000 (BucketRead 1 box) (Row (bucket 1 4 2))
    ∷ by 20 2000001 (BucketRead 1 box) (Row (bucket 1 4 2))
    ∷ by 20 2000001 (HeadRead 1 1 k) (head_reply (shows 9 (content 5 16 32 (letters 16) (hex (codes "dc8fe1d6497ebd23f5975d8d2a1c5e81"))) 5) 2000001)
    ∷ by 20 2000001 (TailRead 1 5 0 0 1) Done
    ∷ []

-- complete after the cancel
abbrev pub completed_when_cancelled : List Event
completed_when_cancelled =
    by 12 0 (BucketRead 1 box) (No Absent)
    ∷ by 12 0 (ShardMake 1 (shard_key 1 1 0)) Done
    ∷ by 12 0 (ShardMake 1 (shard_key 1 1 1)) Done
    ∷ by 12 0 (ShardMake 1 (shard_key 1 1 2)) Done
    ∷ by 12 0 (BucketSwap 1 box 0 (Some (bucket 1 0 3))) Done
    ∷ by 13 0 (BucketRead 1 box) (Row (bucket 1 5 3))
    ∷ by 13 1000000 (TailMake 1 6 1 (letters 16)) Done
    ∷ by 13 1000000 (TailMake 1 6 2 (letters 8)) Done
    ∷ by 14 1000000 (BucketRead 1 box) (Row (bucket 1 5 3))
    ∷ by 14 1000000 (Page 1 (shard_key 1 1 0) [] 1000) (Entries (no_entries 1000000))
    ∷ by 14 1000000 (Page 1 (shard_key 1 1 1) [] 1000) (Entries (no_entries 1000000))
    ∷ by 14 1000000 (Page 1 (shard_key 1 1 2) [] 1000) (Entries (no_entries 1000000))
    ∷ by 13 2000000 (Prepare 1 (shard_key 1 1 2) (codes "a")) (Prepared (guard 13 3000000))
    ∷ by 13 3000000 (Announce 1 1 1 2 box) (Position 1)
    ∷ by 13 3000000 (HeadWrite 1 1 (codes "a") (guard 13 3000000) (content 6 16 40 (letters 16) (hex (codes "2e5a5df30ebd8539445ba6e0f638b6f9"))) no_conditions) (No (Expired 3000000 3000000))
    ∷ by 13 4000000 (Cancel 1 (shard_key 1 1 2) (codes "a") 13) Done
    ∷ by 13 4000000 (Complete 1 (shard_key 1 1 2) (codes "a") 13 15 no_row) Done
    ∷ []

-- suggest with another row
abbrev pub suggested_other_row : List Event
suggested_other_row =
    by 31 0 (BucketRead 1 box) (No Absent)
    ∷ by 31 0 (ShardMake 1 (shard_key 1 1 0)) Done
    ∷ by 31 0 (ShardMake 1 (shard_key 1 1 1)) Done
    ∷ by 31 0 (BucketSwap 1 box 0 (Some (bucket 1 0 2))) Done
    ∷ by 32 0 (BucketRead 1 box) (Row (bucket 1 4 2))
    ∷ by 32 0 (TailMake 1 5 1 (letters 16)) Done
    ∷ by 32 0 (TailMake 1 5 2 (letters 16)) Done
    ∷ by 32 0 (TailMake 1 5 3 (letters 16)) Done
    ∷ by 32 0 (Prepare 1 (shard_key 1 1 1) k) (Prepared (guard 9 1000000))
    ∷ by 32 0 (Announce 1 1 1 1 box) (Position 1)
    ∷ by 32 0 (HeadWrite 1 1 k (guard 9 1000000) (content 5 16 64 (letters 16) (hex (codes "c1bb4f81d892b2d57947682aeb252456"))) no_conditions) (changed_reply (change 11 0 (stamped_row 64 0 (hex (codes "c1bb4f81d892b2d57947682aeb252456"))) None))
    ∷ by 32 0 (Complete 1 (shard_key 1 1 1) k 9 11 (stamped_row 64 0 (hex (codes "c1bb4f81d892b2d57947682aeb252456")))) Done
    ∷ by 33 1000001 (BucketRead 1 box) (Row (bucket 1 4 2))
    ∷ by 33 1000001 (Prepare 1 (shard_key 1 1 1) k) (Prepared (guard 14 2000001))
    ∷ by 35 2000002 (BucketRead 1 box) (Row (bucket 1 4 2))
    ∷ by 35 2000002 (Page 1 (shard_key 1 1 0) [] 1000) (Entries (no_entries 2000002))
    ∷ by 35 2000002 (Page 1 (shard_key 1 1 1) [] 1000) (Entries (one_entry k 11 3 (stamped_row 64 0 (hex (codes "c1bb4f81d892b2d57947682aeb252456"))) (tag 14 2000001 ∷ []) 2000002))
    ∷ by 35 2000002 (HeadRead 1 1 k) (head_reply (shows 11 (content 5 16 64 (letters 16) (hex (codes "c1bb4f81d892b2d57947682aeb252456"))) 0) 2000002)
    ∷ by 35 2000002 (Suggest 1 (shard_key 1 1 1) k 3 2000002 11 no_row) Done
    ∷ []

-- tails named a second time
abbrev pub named_twice : List Event
named_twice =
    by 5 0 (BucketRead 1 box) (No Absent)
    ∷ by 5 0 (ShardMake 1 (shard_key 1 1 0)) Done
    ∷ by 5 0 (ShardMake 1 (shard_key 1 1 1)) Done
    ∷ by 5 0 (ShardMake 1 (shard_key 1 1 2)) Done
    ∷ by 5 0 (BucketSwap 1 box 0 (Some (bucket 1 0 3))) Done
    ∷ by 6 0 (BucketRead 1 (codes "e")) (No Absent)
    ∷ by 6 0 (ShardMake 1 (shard_key 6 6 0)) Done
    ∷ by 6 0 (ShardMake 1 (shard_key 6 6 1)) Done
    ∷ by 6 0 (ShardMake 1 (shard_key 6 6 2)) Done
    ∷ by 6 0 (BucketSwap 1 (codes "e") 0 (Some (bucket 6 0 3))) Done
    ∷ by 7 0 (BucketRead 1 box) (Row (bucket 1 5 3))
    ∷ by 7 0 (Stats 1 (shard_key 1 1 0)) (stats_reply (stats 0 0 0))
    ∷ by 8 7260000000 (BucketRead 1 (codes "e")) (Row (bucket 6 10 3))
    ∷ by 8 7260000000 (TailMake 1 13 1 (codes "qrstuvwxyz")) Done
    ∷ by 8 7260000000 (Prepare 1 (shard_key 6 6 0) k) (Prepared (guard 15 7380000000))
    ∷ by 8 7260000000 (Announce 1 6 6 0 (codes "e")) (Position 1)
    ∷ by 8 7260000000 (HeadWrite 1 6 k (guard 15 7380000000) (content 13 16 26 (codes "abcdefghijklmnop") (hex (codes "c3fcd3d76192e4007dfb496cca67e13b"))) no_conditions) (changed_reply (change 17 7260000000 (stamped_row 26 7260000000 (hex (codes "c3fcd3d76192e4007dfb496cca67e13b"))) None))
    ∷ by 8 7260000000 (Complete 1 (shard_key 6 6 0) k 15 17 (stamped_row 26 7260000000 (hex (codes "c3fcd3d76192e4007dfb496cca67e13b")))) Done
    ∷ by 8 7260000000 (Prepare 1 (shard_key 6 6 0) k) (Prepared (guard 19 7380000000))
    ∷ by 8 7260000000 (Announce 1 6 6 0 (codes "e")) (Position 2)
    ∷ by 8 7260000000 (HeadWrite 1 6 k (guard 19 7380000000) (content 13 16 26 (codes "abcdefghijklmnop") (hex (codes "c3fcd3d76192e4007dfb496cca67e13b"))) no_conditions) Done
    ∷ []

-- tail read by an actor that made no event
abbrev pub read_by_another : List Event
read_by_another =
    by 19 0 (BucketRead 1 box) (No Absent)
    ∷ by 19 0 (ShardMake 1 (shard_key 1 1 0)) Done
    ∷ by 19 0 (BucketSwap 1 box 0 (Some (bucket 1 0 1))) Done
    ∷ by 20 0 (AccountPage 1 (codes "acme") [] 2) (Names (box ∷ []))
    ∷ by 20 0 (BucketRead 1 box) (Row (bucket 1 3 1))
    ∷ by 20 0 (Stats 1 (shard_key 1 1 0)) (stats_reply (stats 0 0 0))
    ∷ by 21 0 (BucketRead 1 box) (Row (bucket 1 3 1))
    ∷ by 21 0 (TailMake 1 7 1 (codes "x")) Done
    ∷ by 21 0 (Prepare 1 (shard_key 1 1 0) k) (Prepared (guard 9 5000000))
    ∷ by 21 0 (Announce 1 1 1 0 box) (Position 1)
    ∷ by 21 0 (HeadWrite 1 1 k (guard 9 5000000) (content 7 16 17 (letters 16) (hex (codes "3ef82839679f05ef260e3ac982de93cd"))) no_conditions) (changed_reply (change 11 0 (stamped_row 17 0 (hex (codes "3ef82839679f05ef260e3ac982de93cd"))) None))
    ∷ by 21 0 (Complete 1 (shard_key 1 1 0) k 9 11 (stamped_row 17 0 (hex (codes "3ef82839679f05ef260e3ac982de93cd")))) Done
    ∷ by 23 12499999 (BucketRead 1 box) (Row (bucket 1 3 1))
    ∷ by 23 12499999 (Prepare 1 (shard_key 1 1 0) k) (Prepared (guard 14 17499999))
    ∷ by 23 12499999 (Announce 1 1 1 0 box) (Position 2)
    ∷ by 23 12499999 (HeadWrite 1 1 k (guard 14 17499999) (content 13 16 1 (codes "x") (hex (codes "9dd4e461268c8034f5c8564e155c67a6"))) no_conditions) (No (NoSpace 0 1))
    ∷ by 23 12499999 (Cancel 1 (shard_key 1 1 0) k 14) Done
    ∷ by 24 12499999 (BucketRead 1 box) (Row (bucket 1 3 1))
    ∷ by 24 12499999 (Stats 1 (shard_key 1 1 0)) (stats_reply (stats 1 17 0))
    ∷ by 22 12499999 (BucketRead 1 box) (Row (bucket 1 3 1))
    ∷ by 22 12499999 (HeadRead 1 1 k) (head_reply (shows 11 (content 7 16 17 (letters 16) (hex (codes "3ef82839679f05ef260e3ac982de93cd"))) 0) 12499999)
    ∷ by 37 12499999 (TailRead 1 7 1 0 1) Done
    ∷ []

-- head change after the cancel
abbrev pub changed_when_cancelled : List Event
changed_when_cancelled =
    by 25 5 (BucketRead 1 box) (No Absent)
    ∷ by 25 5 (ShardMake 1 (shard_key 1 1 0)) Done
    ∷ by 25 5 (ShardMake 1 (shard_key 1 1 1)) Done
    ∷ by 25 5 (BucketSwap 1 box 0 (Some (bucket 1 0 2))) Done
    ∷ by 26 5 (BucketRead 1 (codes "e")) (No Absent)
    ∷ by 26 5 (ShardMake 1 (shard_key 5 5 0)) Done
    ∷ by 26 5 (ShardMake 1 (shard_key 5 5 1)) Done
    ∷ by 26 5 (BucketSwap 1 (codes "e") 0 (Some (bucket 5 0 2))) Done
    ∷ by 27 5 (BucketRead 1 (codes "e")) (Row (bucket 5 8 2))
    ∷ by 27 5 (HeadRead 1 5 k) (head_reply (shows_nothing 10) 5)
    ∷ by 28 5 (BucketRead 1 box) (Row (bucket 1 4 2))
    ∷ by 28 5 (HeadRead 1 1 k) (head_reply (shows_nothing 12) 5)
    ∷ by 29 5 (BucketRead 1 (codes "e")) (Row (bucket 5 8 2))
    ∷ by 29 5 (Prepare 1 (shard_key 5 5 1) k) (Prepared (guard 14 1000005))
    ∷ by 29 5 (Announce 1 5 5 1 (codes "e")) (Position 1)
    ∷ by 29 5 (HeadWrite 1 5 k (guard 14 1000005) (content 13 16 0 [] (hex (codes "d41d8cd98f00b204e9800998ecf8427e"))) no_conditions) (changed_reply (change 16 5 (stamped_row 0 5 (hex (codes "d41d8cd98f00b204e9800998ecf8427e"))) None))
    ∷ by 29 5 (Complete 1 (shard_key 5 5 1) k 14 16 (stamped_row 0 5 (hex (codes "d41d8cd98f00b204e9800998ecf8427e")))) Done
    ∷ by 30 1000001 (BucketRead 1 box) (Row (bucket 1 4 2))
    ∷ by 30 1000001 (Page 1 (shard_key 1 1 0) [] 1000) (Entries (no_entries 1000001))
    ∷ by 30 1000001 (Page 1 (shard_key 1 1 1) [] 1000) (Entries (no_entries 1000001))
    ∷ by 31 1000001 (BucketRead 1 (codes "e")) (Row (bucket 5 8 2))
    ∷ by 31 1000001 (HeadRead 1 5 k) (head_reply (shows 16 (content 13 16 0 [] (hex (codes "d41d8cd98f00b204e9800998ecf8427e"))) 5) 1000001)
    ∷ by 32 2000002 (BucketRead 1 box) (Row (bucket 1 4 2))
    ∷ by 32 2000002 (TailMake 1 23 1 (letters 16)) Done
    ∷ by 32 2000002 (Prepare 1 (shard_key 1 1 1) k) (Prepared (guard 25 3000002))
    ∷ by 32 2000002 (Announce 1 1 1 1 box) (Position 2)
    ∷ by 32 2000002 (HeadWrite 1 1 k (guard 25 3000002) (content 23 16 32 (letters 16) (hex (codes "dc8fe1d6497ebd23f5975d8d2a1c5e81"))) no_conditions) (No (NoSpace 0 1))
    ∷ by 32 2000002 (Cancel 1 (shard_key 1 1 1) k 25) Done
    ∷ by 32 2000002 (HeadWrite 1 1 k (guard 25 3000002) (content 23 16 32 (letters 16) (hex (codes "dc8fe1d6497ebd23f5975d8d2a1c5e81"))) no_conditions) Done
    ∷ []

-- suggest for an entry without a tag due
abbrev pub suggested_untagged : List Event
suggested_untagged =
    by 30 1700000000000000 (BucketRead 1 box) (No Absent)
    ∷ by 30 1700000000000000 (ShardMake 1 (shard_key 1 1 0)) Done
    ∷ by 30 1700000000000000 (BucketSwap 1 box 0 (Some (bucket 1 0 1))) Done
    ∷ by 31 1700000000000000 (BucketRead 1 box) (Row (bucket 1 3 1))
    ∷ by 31 1700000000000000 (HeadRead 1 1 k) (head_reply (shows_nothing 5) 1700000000000000)
    ∷ by 32 1700000000000000 (BucketRead 1 box) (Row (bucket 1 3 1))
    ∷ by 32 1700000000000000 (HeadRead 1 1 (codes "b")) (head_reply (shows_nothing 7) 1700000000000000)
    ∷ by 33 1700000000000000 (BucketRead 1 box) (Row (bucket 1 3 1))
    ∷ by 33 1700000000000000 (Prepare 1 (shard_key 1 1 0) (codes "a")) (Prepared (guard 9 1700000120000000))
    ∷ by 35 1700000000000000 (BucketRead 1 box) (Row (bucket 1 3 1))
    ∷ by 36 1700000000000000 (BucketRead 1 box) (Row (bucket 1 3 1))
    ∷ by 36 1700000000000000 (TailMake 1 11 1 (codes "qrstuvwxyz")) Done
    ∷ by 36 1700000000000000 (Prepare 1 (shard_key 1 1 0) (codes "m-long-name")) (Prepared (guard 13 1700000120000000))
    ∷ by 36 1700000000000000 (Announce 1 1 1 0 box) (Position 1)
    ∷ by 36 1700000000000000 (HeadWrite 1 1 (codes "m-long-name") (guard 13 1700000120000000) (content 11 16 26 (codes "abcdefghijklmnop") (hex (codes "c3fcd3d76192e4007dfb496cca67e13b"))) no_conditions) (changed_reply (change 15 1700000000000000 (stamped_row 26 1700000000000000 (hex (codes "c3fcd3d76192e4007dfb496cca67e13b"))) None))
    ∷ by 36 1700000000000000 (Complete 1 (shard_key 1 1 0) (codes "m-long-name") 13 15 (stamped_row 26 1700000000000000 (hex (codes "c3fcd3d76192e4007dfb496cca67e13b")))) Done
    ∷ by 35 1700000000000000 (Page 1 (shard_key 1 1 0) [] 1000) (Entries (record { rows = ((codes "a"), record { version = 0; revision = 1; row = no_row; tags = (tag 9 1700000120000000 ∷ []) }) ∷ ((codes "m-long-name"), record { version = 15; revision = 2; row = (stamped_row 26 1700000000000000 (hex (codes "c3fcd3d76192e4007dfb496cca67e13b"))); tags = [] }) ∷ []; end = true; clock = 1700000000000000 }))
    ∷ by 37 1700000000000000 (BucketRead 1 box) (Row (bucket 1 3 1))
    ∷ by 37 1700000000000000 (Prepare 1 (shard_key 1 1 0) k) (Prepared (guard 19 1700000120000000))
    ∷ by 37 1700000000000000 (Announce 1 1 1 0 box) (Position 2)
    ∷ by 37 1700000000000000 (HeadWrite 1 1 k (guard 19 1700000120000000) (content 18 16 0 [] (hex (codes "d41d8cd98f00b204e9800998ecf8427e"))) no_conditions) (changed_reply (change 21 1700000000000000 (stamped_row 0 1700000000000000 (hex (codes "d41d8cd98f00b204e9800998ecf8427e"))) None))
    ∷ by 37 1700000000000000 (Complete 1 (shard_key 1 1 0) k 19 21 (stamped_row 0 1700000000000000 (hex (codes "d41d8cd98f00b204e9800998ecf8427e")))) Done
    ∷ by 38 1700000000000000 (BucketRead 1 box) (Row (bucket 1 3 1))
    ∷ by 38 1700000000000000 (Prepare 1 (shard_key 1 1 0) (codes "a")) (Prepared (guard 24 1700000120000000))
    ∷ by 38 1700000000000000 (Announce 1 1 1 0 box) (Position 3)
    ∷ by 38 1700000000000000 (HeadWrite 1 1 (codes "a") (guard 24 1700000120000000) (content 23 16 0 [] (hex (codes "d41d8cd98f00b204e9800998ecf8427e"))) no_conditions) (changed_reply (change 26 1700000000000000 (stamped_row 0 1700000000000000 (hex (codes "d41d8cd98f00b204e9800998ecf8427e"))) None))
    ∷ by 38 1700000000000000 (Complete 1 (shard_key 1 1 0) (codes "a") 24 26 (stamped_row 0 1700000000000000 (hex (codes "d41d8cd98f00b204e9800998ecf8427e")))) Done
    ∷ by 35 1700000000000000 (HeadRead 1 1 (codes "a")) (head_reply (shows 26 (content 23 16 0 [] (hex (codes "d41d8cd98f00b204e9800998ecf8427e"))) 1700000000000000) 1700000000000000)
    ∷ by 35 1700000000000000 (Suggest 1 (shard_key 1 1 0) (codes "a") 1 1700000000000000 26 (stamped_row 0 1700000000000000 (hex (codes "d41d8cd98f00b204e9800998ecf8427e")))) Done
    ∷ []

-- suggest with a head read before its page
abbrev pub suggested_head_first : List Event
suggested_head_first =
    by 66 0 (BucketRead 1 box) (No Absent)
    ∷ by 66 0 (ShardMake 1 (shard_key 1 1 0)) Done
    ∷ by 66 0 (BucketSwap 1 box 0 (Some (bucket 1 0 1))) Done
    ∷ by 67 0 (BucketRead 1 (codes "e")) (No Absent)
    ∷ by 67 0 (ShardMake 1 (shard_key 4 4 0)) Done
    ∷ by 67 0 (BucketSwap 1 (codes "e") 0 (Some (bucket 4 0 1))) Done
    ∷ by 68 0 (BucketRead 1 (codes "e")) (Row (bucket 4 6 1))
    ∷ by 68 0 (Prepare 1 (shard_key 4 4 0) k) (Prepared (guard 8 120000000))
    ∷ by 68 0 (Announce 1 4 4 0 (codes "e")) (Position 1)
    ∷ by 68 0 (HeadWrite 1 4 k (guard 8 120000000) (content 7 4194304 40 (letters 40) (hex (codes "2e5a5df30ebd8539445ba6e0f638b6f9"))) no_conditions) (changed_reply (change 10 0 (stamped_row 40 0 (hex (codes "2e5a5df30ebd8539445ba6e0f638b6f9"))) None))
    ∷ by 68 0 (Complete 1 (shard_key 4 4 0) k 8 10 (stamped_row 40 0 (hex (codes "2e5a5df30ebd8539445ba6e0f638b6f9")))) Done
    ∷ by 69 0 (BucketRead 1 box) (Row (bucket 1 3 1))
    ∷ by 69 0 (Prepare 1 (shard_key 1 1 0) (codes "a/2")) (Prepared (guard 13 120000000))
    ∷ by 69 0 (Announce 1 1 1 0 box) (Position 2)
    ∷ by 69 0 (HeadWrite 1 1 (codes "a/2") (guard 13 120000000) (content 12 4194304 31 (letters 31) (hex (codes "48e95c91781dcf2c5eb90da6e8dcc14d"))) no_conditions) (changed_reply (change 15 0 (stamped_row 31 0 (hex (codes "48e95c91781dcf2c5eb90da6e8dcc14d"))) None))
    ∷ by 69 0 (Complete 1 (shard_key 1 1 0) (codes "a/2") 13 15 (stamped_row 31 0 (hex (codes "48e95c91781dcf2c5eb90da6e8dcc14d")))) Done
    ∷ by 70 0 (BucketRead 1 box) (Row (bucket 1 3 1))
    ∷ by 70 0 (Prepare 1 (shard_key 1 1 0) (codes "a/1")) (Prepared (guard 18 120000000))
    ∷ by 70 0 (Announce 1 1 1 0 box) (Position 3)
    ∷ by 70 0 (HeadWrite 1 1 (codes "a/1") (guard 18 120000000) (content 17 4194304 48 (letters 48) (hex (codes "2d33a131ad6c60def5542825a7514aff"))) no_conditions) (changed_reply (change 20 0 (stamped_row 48 0 (hex (codes "2d33a131ad6c60def5542825a7514aff"))) None))
    ∷ by 70 0 (Complete 1 (shard_key 1 1 0) (codes "a/1") 18 20 (stamped_row 48 0 (hex (codes "2d33a131ad6c60def5542825a7514aff")))) Done
    ∷ by 71 1001 (BucketRead 1 (codes "e")) (Row (bucket 4 6 1))
    ∷ by 71 1001 (Prepare 1 (shard_key 4 4 0) (codes "zz")) (Prepared (guard 23 120001001))
    ∷ by 71 1001 (Announce 1 4 4 0 (codes "e")) (Position 4)
    ∷ by 71 1001 (HeadWrite 1 4 (codes "zz") (guard 23 120001001) (content 22 4194304 0 [] (hex (codes "d41d8cd98f00b204e9800998ecf8427e"))) no_conditions) (changed_reply (change 25 1001 (stamped_row 0 1001 (hex (codes "d41d8cd98f00b204e9800998ecf8427e"))) None))
    ∷ by 72 60001001 (AccountPage 1 (codes "acme") [] 1000) (Names (box ∷ (codes "e") ∷ []))
    ∷ by 72 60001001 (BucketRead 1 box) (Row (bucket 1 3 1))
    ∷ by 72 60001001 (Stats 1 (shard_key 1 1 0)) (stats_reply (stats 2 79 0))
    ∷ by 72 60001001 (BucketRead 1 (codes "e")) (Row (bucket 4 6 1))
    ∷ by 72 60001001 (Stats 1 (shard_key 4 4 0)) (stats_reply (stats 1 40 1))
    ∷ by 73 180001002 (BucketRead 1 (codes "e")) (Row (bucket 4 6 1))
    ∷ by 74 180001002 (BucketRead 1 (codes "e")) (Row (bucket 4 6 1))
    ∷ by 74 180001002 (HeadRead 1 4 (codes "zz")) (head_reply (shows 25 (content 22 4194304 0 [] (hex (codes "d41d8cd98f00b204e9800998ecf8427e"))) 1001) 180001002)
    ∷ by 74 180001002 (Page 1 (shard_key 4 4 0) [] 1000) (Entries (record { rows = (k, record { version = 10; revision = 2; row = (stamped_row 40 0 (hex (codes "2e5a5df30ebd8539445ba6e0f638b6f9"))); tags = [] }) ∷ ((codes "zz"), record { version = 0; revision = 1; row = no_row; tags = (tag 23 120001001 ∷ []) }) ∷ []; end = true; clock = 180001002 }))
    ∷ by 74 180001002 (Suggest 1 (shard_key 4 4 0) (codes "zz") 1 180001002 25 (stamped_row 0 1001 (hex (codes "d41d8cd98f00b204e9800998ecf8427e")))) Done
    ∷ []

-- suggest without a head read
abbrev pub suggested_without_head : List Event
suggested_without_head =
    by 34 0 (BucketRead 1 box) (No Absent)
    ∷ by 34 0 (ShardMake 1 (shard_key 1 1 0)) Done
    ∷ by 34 0 (ShardMake 1 (shard_key 1 1 1)) Done
    ∷ by 34 0 (BucketSwap 1 box 0 (Some (bucket 1 0 2))) Done
    ∷ by 35 0 (BucketRead 1 box) (Row (bucket 1 4 2))
    ∷ by 35 0 (Prepare 1 (shard_key 1 1 1) k) (Prepared (guard 6 120000000))
    ∷ by 35 0 (Announce 1 1 1 1 box) (Position 1)
    ∷ by 35 0 (HeadWrite 1 1 k (guard 6 120000000) (content 5 4194304 0 [] (hex (codes "d41d8cd98f00b204e9800998ecf8427e"))) no_conditions) (changed_reply (change 8 0 (stamped_row 0 0 (hex (codes "d41d8cd98f00b204e9800998ecf8427e"))) None))
    ∷ by 35 0 (Complete 1 (shard_key 1 1 1) k 6 8 (stamped_row 0 0 (hex (codes "d41d8cd98f00b204e9800998ecf8427e")))) Done
    ∷ by 36 0 (BucketRead 1 box) (Row (bucket 1 4 2))
    ∷ by 36 0 (Prepare 1 (shard_key 1 1 0) (codes "q")) (Prepared (guard 11 120000000))
    ∷ by 36 0 (Announce 1 1 1 0 box) (Position 2)
    ∷ by 36 0 (HeadWrite 1 1 (codes "q") (guard 11 120000000) (content 10 4194304 48 (letters 48) (hex (codes "2d33a131ad6c60def5542825a7514aff"))) no_conditions) (changed_reply (change 13 0 (stamped_row 48 0 (hex (codes "2d33a131ad6c60def5542825a7514aff"))) None))
    ∷ by 36 0 (Complete 1 (shard_key 1 1 0) (codes "q") 11 13 (stamped_row 48 0 (hex (codes "2d33a131ad6c60def5542825a7514aff")))) Done
    ∷ by 37 0 (BucketRead 1 box) (Row (bucket 1 4 2))
    ∷ by 37 0 (Page 1 (shard_key 1 1 0) [] 1000) (Entries (one_entry (codes "q") 13 2 (stamped_row 48 0 (hex (codes "2d33a131ad6c60def5542825a7514aff"))) [] 0))
    ∷ by 38 120000000 (BucketRead 1 box) (Row (bucket 1 4 2))
    ∷ by 38 120000000 (HeadRead 1 1 k) (head_reply (shows 8 (content 5 4194304 0 [] (hex (codes "d41d8cd98f00b204e9800998ecf8427e"))) 0) 120000000)
    ∷ by 39 240000000 (BucketRead 1 box) (Row (bucket 1 4 2))
    ∷ by 39 240000000 (Prepare 1 (shard_key 1 1 1) k) (Prepared (guard 20 360000000))
    ∷ by 39 240000000 (Announce 1 1 1 1 box) (Position 3)
    ∷ by 39 240000000 (HeadWrite 1 1 k (guard 20 360000000) (content 19 4194304 64 (letters 64) (hex (codes "c1bb4f81d892b2d57947682aeb252456"))) no_conditions) (changed_reply (change 22 240000000 (stamped_row 64 240000000 (hex (codes "c1bb4f81d892b2d57947682aeb252456"))) None))
    ∷ by 39 240000000 (Complete 1 (shard_key 1 1 1) k 20 22 (stamped_row 64 240000000 (hex (codes "c1bb4f81d892b2d57947682aeb252456")))) Done
    ∷ by 42 240000000 (BucketRead 1 box) (Row (bucket 1 4 2))
    ∷ by 41 240000000 (BucketRead 1 box) (Row (bucket 1 4 2))
    ∷ by 41 240000000 (BucketSwap 1 box 4 (Some (record (bucket 1 4 2) { number = 1; busy = Some (record { number = 1; closing = true }) }))) Done
    ∷ by 43 240000000 (BucketRead 1 box) (Row (record (bucket 1 26 2) { shared = 4; number = 1; busy = Some (record { number = 1; closing = true }) }))
    ∷ by 43 240000000 (Prepare 1 (shard_key 1 1 1) (codes "a")) (Prepared (guard 28 360000000))
    ∷ by 43 240000000 (Announce 1 1 1 1 box) (Position 4)
    ∷ by 43 240000000 (HeadWrite 1 1 (codes "a") (guard 28 360000000) (content 27 4194304 33 (letters 33) (hex (codes "b7b82191a246d3563ed060e298add91d"))) no_conditions) (changed_reply (change 30 240000000 (stamped_row 33 240000000 (hex (codes "b7b82191a246d3563ed060e298add91d"))) None))
    ∷ by 44 359999999 (BucketRead 1 box) (Row (record (bucket 1 26 2) { shared = 4; number = 1; busy = Some (record { number = 1; closing = true }) }))
    ∷ by 45 359999999 (BucketRead 1 box) (Row (record (bucket 1 26 2) { shared = 4; number = 1; busy = Some (record { number = 1; closing = true }) }))
    ∷ by 45 359999999 (Prepare 1 (shard_key 1 1 1) (codes "a")) (Prepared (guard 33 479999999))
    ∷ by 45 359999999 (Announce 1 1 1 1 box) (Position 5)
    ∷ by 45 359999999 (HeadWrite 1 1 (codes "a") (guard 33 479999999) (content 32 4194304 1 (codes "x") (hex (codes "9dd4e461268c8034f5c8564e155c67a6"))) no_conditions) (changed_reply (change 35 359999999 (stamped_row 1 359999999 (hex (codes "9dd4e461268c8034f5c8564e155c67a6"))) None))
    ∷ by 45 359999999 (Complete 1 (shard_key 1 1 1) (codes "a") 33 35 (stamped_row 1 359999999 (hex (codes "9dd4e461268c8034f5c8564e155c67a6")))) Done
    ∷ by 46 599999998 (BucketRead 1 box) (Row (record (bucket 1 26 2) { shared = 4; number = 1; busy = Some (record { number = 1; closing = true }) }))
    ∷ by 46 599999998 (Page 1 (shard_key 1 1 0) [] 1000) (Entries (one_entry (codes "q") 13 2 (stamped_row 48 0 (hex (codes "2d33a131ad6c60def5542825a7514aff"))) [] 599999998))
    ∷ by 46 599999998 (Page 1 (shard_key 1 1 1) [] 1000) (Entries (record { rows = ((codes "a"), record { version = 35; revision = 3; row = (stamped_row 1 359999999 (hex (codes "9dd4e461268c8034f5c8564e155c67a6"))); tags = (tag 28 360000000 ∷ []) }) ∷ (k, record { version = 22; revision = 4; row = (stamped_row 64 240000000 (hex (codes "c1bb4f81d892b2d57947682aeb252456"))); tags = [] }) ∷ []; end = true; clock = 599999998 }))
    ∷ by 46 599999998 (Suggest 1 (shard_key 1 1 1) (codes "a") 3 599999998 35 (stamped_row 1 359999999 (hex (codes "9dd4e461268c8034f5c8564e155c67a6")))) Done
    ∷ []

-- Suggest by an actor that made no event
abbrev pub suggested_by_another : List Event
suggested_by_another =
    by 24 0 (BucketRead 1 box) (No Absent)
    ∷ by 24 0 (ShardMake 1 (shard_key 1 1 0)) Done
    ∷ by 24 0 (ShardMake 1 (shard_key 1 1 1)) Done
    ∷ by 24 0 (BucketSwap 1 box 0 (Some (bucket 1 0 2))) Done
    ∷ by 25 0 (BucketRead 1 box) (Row (bucket 1 4 2))
    ∷ by 25 0 (Page 1 (shard_key 1 1 0) [] 2) (Entries (no_entries 0))
    ∷ by 25 0 (Page 1 (shard_key 1 1 1) [] 2) (Entries (no_entries 0))
    ∷ by 26 0 (BucketRead 1 box) (Row (bucket 1 4 2))
    ∷ by 26 0 (Page 1 (shard_key 1 1 0) [] 2) (Entries (no_entries 0))
    ∷ by 26 0 (Page 1 (shard_key 1 1 1) [] 2) (Entries (no_entries 0))
    ∷ by 27 0 (BucketRead 1 box) (Row (bucket 1 4 2))
    ∷ by 27 0 (Page 1 (shard_key 1 1 0) [] 2) (Entries (no_entries 0))
    ∷ by 27 0 (Page 1 (shard_key 1 1 1) [] 2) (Entries (no_entries 0))
    ∷ by 28 0 (BucketRead 1 box) (Row (bucket 1 4 2))
    ∷ by 28 0 (Page 1 (shard_key 1 1 0) [] 2) (Entries (no_entries 0))
    ∷ by 28 0 (Page 1 (shard_key 1 1 1) [] 2) (Entries (no_entries 0))
    ∷ by 29 1 (BucketRead 1 box) (Row (bucket 1 4 2))
    ∷ by 29 1 (Prepare 1 (shard_key 1 1 0) (codes "a/2")) (Prepared (guard 18 120000001))
    ∷ by 29 1 (Announce 1 1 1 0 box) (Position 1)
    ∷ by 30 2 (BucketRead 1 box) (Row (bucket 1 4 2))
    ∷ by 31 1000002 (BucketRead 1 box) (Row (bucket 1 4 2))
    ∷ by 31 1000002 (Page 1 (shard_key 1 1 0) [] 2) (Entries (one_entry (codes "a/2") 0 1 no_row (tag 18 120000001 ∷ []) 1000002))
    ∷ by 31 1000002 (HeadRead 1 1 (codes "a/2")) (head_reply (shows_nothing 23) 1000002)
    ∷ by 31 1000002 (Page 1 (shard_key 1 1 1) [] 2) (Entries (no_entries 1000002))
    ∷ by 32 1000002 (BucketRead 1 box) (Row (bucket 1 4 2))
    ∷ by 33 1000002 (BucketRead 1 box) (Row (bucket 1 4 2))
    ∷ by 33 1000002 (Prepare 1 (shard_key 1 1 1) (codes "b")) (Prepared (guard 27 121000002))
    ∷ by 34 1000002 (BucketRead 1 box) (Row (bucket 1 4 2))
    ∷ by 34 1000002 (Page 1 (shard_key 1 1 0) [] 2) (Entries (one_entry (codes "a/2") 0 1 no_row (tag 18 120000001 ∷ []) 1000002))
    ∷ by 34 1000002 (Page 1 (shard_key 1 1 1) [] 2) (Entries (one_entry (codes "b") 0 1 no_row (tag 27 121000002 ∷ []) 1000002))
    ∷ by 34 1000002 (HeadRead 1 1 (codes "a/2")) (head_reply (shows_nothing 31) 1000002)
    ∷ by 34 1000002 (HeadRead 1 1 (codes "b")) (head_reply (shows_nothing 32) 1000002)
    ∷ by 33 1000002 (Announce 1 1 1 1 box) (Position 2)
    ∷ by 33 1000002 (HeadWrite 1 1 (codes "b") (guard 27 121000002) (content 26 4194304 1 (codes "x") (hex (codes "9dd4e461268c8034f5c8564e155c67a6"))) no_conditions) (changed_reply (change 34 1000002 (stamped_row 1 1000002 (hex (codes "9dd4e461268c8034f5c8564e155c67a6"))) None))
    ∷ by 33 1000002 (Complete 1 (shard_key 1 1 1) (codes "b") 27 34 (stamped_row 1 1000002 (hex (codes "9dd4e461268c8034f5c8564e155c67a6")))) Done
    ∷ by 30 241000002 (Prepare 1 (shard_key 1 1 1) k) (Prepared (guard 36 361000002))
    ∷ by 29 241000002 (HeadWrite 1 1 (codes "a/2") (guard 18 120000001) (content 17 4194304 0 [] (hex (codes "d41d8cd98f00b204e9800998ecf8427e"))) no_conditions) (No (Expired 120000001 241000002))
    ∷ by 29 241000002 (Cancel 1 (shard_key 1 1 0) (codes "a/2") 18) Done
    ∷ by 29 241000002 (BucketRead 1 box) (Row (bucket 1 4 2))
    ∷ by 29 241000002 (Prepare 1 (shard_key 1 1 0) (codes "a/2")) (Prepared (guard 40 361000002))
    ∷ by 29 241000002 (Announce 1 1 1 0 box) (Position 3)
    ∷ by 29 241000002 (HeadWrite 1 1 (codes "a/2") (guard 40 361000002) (content 17 4194304 0 [] (hex (codes "d41d8cd98f00b204e9800998ecf8427e"))) no_conditions) (changed_reply (change 42 241000002 (stamped_row 0 241000002 (hex (codes "d41d8cd98f00b204e9800998ecf8427e"))) None))
    ∷ by 29 241000002 (Complete 1 (shard_key 1 1 0) (codes "a/2") 40 42 (stamped_row 0 241000002 (hex (codes "d41d8cd98f00b204e9800998ecf8427e")))) Done
    ∷ by 35 700241001002 (BucketRead 1 box) (Row (bucket 1 4 2))
    ∷ by 35 700241001002 (Page 1 (shard_key 1 1 0) [] 2) (Entries (one_entry (codes "a/2") 42 2 (stamped_row 0 241000002 (hex (codes "d41d8cd98f00b204e9800998ecf8427e"))) [] 700241001002))
    ∷ by 35 700241001002 (Page 1 (shard_key 1 1 1) [] 2) (Entries (record { rows = ((codes "b"), record { version = 34; revision = 2; row = (stamped_row 1 1000002 (hex (codes "9dd4e461268c8034f5c8564e155c67a6"))); tags = [] }) ∷ (k, record { version = 0; revision = 1; row = no_row; tags = (tag 36 361000002 ∷ []) }) ∷ []; end = true; clock = 700241001002 }))
    ∷ by 35 700241001002 (HeadRead 1 1 k) (head_reply (shows_nothing 47) 700241001002)
    ∷ by 47 700241001002 (Suggest 1 (shard_key 1 1 1) k 1 700241001002 47 no_row) Done
    ∷ []

-- cancel a second time
abbrev pub cancelled_twice : List Event
cancelled_twice =
    by 52 0 (BucketRead 1 box) (No Absent)
    ∷ by 52 0 (ShardMake 1 (shard_key 1 1 0)) Done
    ∷ by 52 0 (ShardMake 1 (shard_key 1 1 1)) Done
    ∷ by 52 0 (ShardMake 1 (shard_key 1 1 2)) Done
    ∷ by 52 0 (ShardMake 1 (shard_key 1 1 3)) Done
    ∷ by 52 0 (BucketSwap 1 box 0 (Some (bucket 1 0 4))) Done
    ∷ by 53 0 (BucketRead 1 (codes "e")) (No Absent)
    ∷ by 53 0 (ShardMake 1 (shard_key 7 7 0)) Done
    ∷ by 53 0 (ShardMake 1 (shard_key 7 7 1)) Done
    ∷ by 53 0 (ShardMake 1 (shard_key 7 7 2)) Done
    ∷ by 53 0 (ShardMake 1 (shard_key 7 7 3)) Done
    ∷ by 53 0 (BucketSwap 1 (codes "e") 0 (Some (bucket 7 0 4))) Done
    ∷ by 54 0 (BucketRead 1 (codes "e")) (Row (bucket 7 12 4))
    ∷ by 54 0 (TailMake 1 13 1 (letters 16)) Done
    ∷ by 54 0 (TailMake 1 13 2 (letters 16)) Done
    ∷ by 54 0 (TailMake 1 13 3 (codes "x")) Done
    ∷ by 54 0 (Prepare 1 (shard_key 7 7 2) (codes "a/2")) (Prepared (guard 17 120000000))
    ∷ by 54 0 (Announce 1 7 7 2 (codes "e")) (Position 1)
    ∷ by 54 0 (HeadWrite 1 7 (codes "a/2") (guard 17 120000000) (content 13 16 49 (letters 16) (hex (codes "e63ffeafed9575b4b379cec27a771474"))) no_conditions) (No (NoSpace 0 1))
    ∷ by 54 0 (Cancel 1 (shard_key 7 7 2) (codes "a/2") 17) Done
    ∷ by 55 0 (BucketRead 1 box) (Row (bucket 1 6 4))
    ∷ by 55 0 (Page 1 (shard_key 1 1 0) [] 1000) (Entries (no_entries 0))
    ∷ by 55 0 (Page 1 (shard_key 1 1 1) [] 1000) (Entries (no_entries 0))
    ∷ by 55 0 (Page 1 (shard_key 1 1 2) [] 1000) (Entries (no_entries 0))
    ∷ by 55 0 (Page 1 (shard_key 1 1 3) [] 1000) (Entries (no_entries 0))
    ∷ by 58 119999999 (BucketRead 1 box) (Row (bucket 1 6 4))
    ∷ by 58 119999999 (Prepare 1 (shard_key 1 1 2) (codes "a/2")) (Prepared (guard 27 239999999))
    ∷ by 58 119999999 (Announce 1 1 1 2 box) (Position 2)
    ∷ by 58 119999999 (HeadWrite 1 1 (codes "a/2") (guard 27 239999999) (content 26 16 1 (codes "x") (hex (codes "9dd4e461268c8034f5c8564e155c67a6"))) no_conditions) (No (NoSpace 0 1))
    ∷ by 58 119999999 (Cancel 1 (shard_key 1 1 2) (codes "a/2") 27) Done
    ∷ by 59 119999999 (BucketRead 1 (codes "e")) (Row (bucket 7 12 4))
    ∷ by 57 119999999 (BucketRead 1 box) (Row (bucket 1 6 4))
    ∷ by 57 119999999 (Stats 1 (shard_key 1 1 0)) (stats_reply (stats 0 0 0))
    ∷ by 57 119999999 (Stats 1 (shard_key 1 1 1)) (stats_reply (stats 0 0 0))
    ∷ by 57 119999999 (Stats 1 (shard_key 1 1 2)) (stats_reply (stats 0 0 0))
    ∷ by 57 119999999 (Stats 1 (shard_key 1 1 3)) (stats_reply (stats 0 0 0))
    ∷ by 60 119999999 (BucketRead 1 box) (Row (bucket 1 6 4))
    ∷ by 60 119999999 (Page 1 (shard_key 1 1 0) [] 1000) (Entries (no_entries 119999999))
    ∷ by 60 119999999 (Page 1 (shard_key 1 1 1) [] 1000) (Entries (no_entries 119999999))
    ∷ by 60 119999999 (Page 1 (shard_key 1 1 2) [] 1000) (Entries (no_entries 119999999))
    ∷ by 60 119999999 (Page 1 (shard_key 1 1 3) [] 1000) (Entries (no_entries 119999999))
    ∷ by 61 239999999 (BucketRead 1 box) (Row (bucket 1 6 4))
    ∷ by 62 239999999 (BucketRead 1 (codes "e")) (Row (bucket 7 12 4))
    ∷ by 62 239999999 (Prepare 1 (shard_key 7 7 1) k) (Prepared (guard 44 359999999))
    ∷ by 62 239999999 (Announce 1 7 7 1 (codes "e")) (Position 3)
    ∷ by 62 239999999 (HeadWrite 1 7 k (guard 44 359999999) (content 43 16 0 [] (hex (codes "d41d8cd98f00b204e9800998ecf8427e"))) no_conditions) (changed_reply (change 46 239999999 (stamped_row 0 239999999 (hex (codes "d41d8cd98f00b204e9800998ecf8427e"))) None))
    ∷ by 62 239999999 (Complete 1 (shard_key 7 7 1) k 44 46 (stamped_row 0 239999999 (hex (codes "d41d8cd98f00b204e9800998ecf8427e")))) Done
    ∷ by 61 239999999 (Page 1 (shard_key 1 1 0) [] 1000) (Entries (no_entries 239999999))
    ∷ by 63 239999999 (BucketRead 1 (codes "e")) (Row (bucket 7 12 4))
    ∷ by 63 239999999 (Prepare 1 (shard_key 7 7 3) (codes "a/1")) (Prepared (guard 50 359999999))
    ∷ by 63 239999999 (Announce 1 7 7 3 (codes "e")) (Position 4)
    ∷ by 63 239999999 (HeadWrite 1 7 (codes "a/1") (guard 50 359999999) (content 49 16 3 (codes "abc") (hex (codes "900150983cd24fb0d6963f7d28e17f72"))) no_conditions) (No (NoSpace 0 1))
    ∷ by 63 239999999 (Cancel 1 (shard_key 7 7 3) (codes "a/1") 50) Done
    ∷ by 63 239999999 (Cancel 1 (shard_key 7 7 3) (codes "a/1") 50) Done
    ∷ []

-- head change with another size of the last tail
abbrev pub other_size : List Event
other_size =
    by 19 0 (BucketRead 1 box) (No Absent)
    ∷ by 19 0 (ShardMake 1 (shard_key 1 1 0)) Done
    ∷ by 19 0 (BucketSwap 1 box 0 (Some (bucket 1 0 1))) Done
    ∷ by 20 0 (BucketRead 1 box) (Row (bucket 1 3 1))
    ∷ by 20 0 (Page 1 (shard_key 1 1 0) [] 2) (Entries (no_entries 0))
    ∷ by 21 0 (BucketRead 1 box) (Row (bucket 1 3 1))
    ∷ by 21 0 (TailMake 1 6 1 (letters 16)) Done
    ∷ by 21 0 (TailMake 1 6 2 (letters 8)) Done
    ∷ by 21 0 (Prepare 1 (shard_key 1 1 0) k) (Prepared (guard 9 1000000))
    ∷ by 21 0 (Announce 1 1 1 0 box) (Position 1)
    ∷ by 21 0 (HeadWrite 1 1 k (guard 9 1000000) (content 6 16 39 (letters 16) (hex (codes "2e5a5df30ebd8539445ba6e0f638b6f9"))) no_conditions) Done
    ∷ []

-- tail read beyond the part
abbrev pub read_past_the_part : List Event
read_past_the_part =
    by 1 1700000000000000 (BucketRead 1 box) (No Absent)
    ∷ by 1 1700000000000000 (ShardMake 1 (shard_key 1 1 0)) Done
    ∷ by 1 1700000000000000 (BucketSwap 1 box 0 (Some (bucket 1 0 1))) Done
    ∷ by 2 1700000000000000 (BucketRead 1 (codes "docs")) (No Absent)
    ∷ by 2 1700000000000000 (ShardMake 1 (shard_key 4 4 0)) Done
    ∷ by 2 1700000000000000 (BucketSwap 1 (codes "docs") 0 (Some (bucket 4 0 1))) Done
    ∷ by 3 1700000000000000 (BucketRead 1 box) (Row (bucket 1 3 1))
    ∷ by 3 1700000000000000 (TailMake 1 7 1 (letters 16)) Done
    ∷ by 3 1700000000000000 (TailMake 1 7 2 (letters 16)) Done
    ∷ by 3 1700000000000000 (Prepare 1 (shard_key 1 1 0) (codes "_x")) (Prepared (guard 10 1700000120000000))
    ∷ by 3 1700000000000000 (Announce 1 1 1 0 box) (Position 1)
    ∷ by 3 1700000000000000 (HeadWrite 1 1 (codes "_x") (guard 10 1700000120000000) (content 7 16 48 (letters 16) (hex (codes "2d33a131ad6c60def5542825a7514aff"))) no_conditions) (changed_reply (change 12 1700000000000000 (stamped_row 48 1700000000000000 (hex (codes "2d33a131ad6c60def5542825a7514aff"))) None))
    ∷ by 3 1700000000000000 (Complete 1 (shard_key 1 1 0) (codes "_x") 10 12 (stamped_row 48 1700000000000000 (hex (codes "2d33a131ad6c60def5542825a7514aff")))) Done
    ∷ by 4 1700000000000000 (BucketRead 1 box) (Row (bucket 1 3 1))
    ∷ by 4 1700000000000000 (TailMake 1 14 1 (codes "qrstuvwxyz")) Done
    ∷ by 4 1700000000000000 (Prepare 1 (shard_key 1 1 0) (codes "tab" ++ 9 ∷ [])) (Prepared (guard 16 1700000120000000))
    ∷ by 4 1700000000000000 (Announce 1 1 1 0 box) (Position 2)
    ∷ by 4 1700000000000000 (HeadWrite 1 1 (codes "tab" ++ 9 ∷ []) (guard 16 1700000120000000) (content 14 16 26 (codes "abcdefghijklmnop") (hex (codes "c3fcd3d76192e4007dfb496cca67e13b"))) no_conditions) (changed_reply (change 18 1700000000000000 (stamped_row 26 1700000000000000 (hex (codes "c3fcd3d76192e4007dfb496cca67e13b"))) None))
    ∷ by 4 1700000000000000 (Complete 1 (shard_key 1 1 0) (codes "tab" ++ 9 ∷ []) 16 18 (stamped_row 26 1700000000000000 (hex (codes "c3fcd3d76192e4007dfb496cca67e13b")))) Done
    ∷ by 5 1700000000000000 (BucketRead 1 (codes "docs")) (Row (bucket 4 6 1))
    ∷ by 5 1700000000000000 (TailMake 1 20 1 (letters 16)) Done
    ∷ by 5 1700000000000000 (TailMake 1 20 2 (letters 16)) Done
    ∷ by 5 1700000000000000 (Prepare 1 (shard_key 4 4 0) (codes "c" ++ 10 ∷ codes "d")) (Prepared (guard 23 1700000120000000))
    ∷ by 5 1700000000000000 (Announce 1 4 4 0 (codes "docs")) (Position 3)
    ∷ by 5 1700000000000000 (HeadWrite 1 4 (codes "c" ++ 10 ∷ codes "d") (guard 23 1700000120000000) (content 20 16 48 (letters 16) (hex (codes "2d33a131ad6c60def5542825a7514aff"))) no_conditions) (changed_reply (change 25 1700000000000000 (stamped_row 48 1700000000000000 (hex (codes "2d33a131ad6c60def5542825a7514aff"))) None))
    ∷ by 5 1700000000000000 (Complete 1 (shard_key 4 4 0) (codes "c" ++ 10 ∷ codes "d") 23 25 (stamped_row 48 1700000000000000 (hex (codes "2d33a131ad6c60def5542825a7514aff")))) Done
    ∷ by 6 1700000000000000 (BucketRead 1 box) (Row (bucket 1 3 1))
    ∷ by 6 1700000000000000 (Prepare 1 (shard_key 1 1 0) (codes "a/1")) (Prepared (guard 28 1700000120000000))
    ∷ by 6 1700000000000000 (Announce 1 1 1 0 box) (Position 4)
    ∷ by 6 1700000000000000 (HeadWrite 1 1 (codes "a/1") (guard 28 1700000120000000) (content 27 16 5 (codes "hello") (hex (codes "5d41402abc4b2a76b9719d911017c592"))) no_conditions) (changed_reply (change 30 1700000000000000 (stamped_row 5 1700000000000000 (hex (codes "5d41402abc4b2a76b9719d911017c592"))) None))
    ∷ by 6 1700000000000000 (Complete 1 (shard_key 1 1 0) (codes "a/1") 28 30 (stamped_row 5 1700000000000000 (hex (codes "5d41402abc4b2a76b9719d911017c592")))) Done
    ∷ by 7 1700000000000000 (BucketRead 1 box) (Row (bucket 1 3 1))
    ∷ by 7 1700000000000000 (Prepare 1 (shard_key 1 1 0) (codes "_x")) (Prepared (guard 33 1700000120000000))
    ∷ by 7 1700000000000000 (Announce 1 1 1 0 box) (Position 5)
    ∷ by 7 1700000000000000 (HeadWrite 1 1 (codes "_x") (guard 33 1700000120000000) (content 32 16 5 (codes "hello") (hex (codes "5d41402abc4b2a76b9719d911017c592"))) no_conditions) (changed_reply (change 35 1700000000000001 (stamped_row 5 1700000000000001 (hex (codes "5d41402abc4b2a76b9719d911017c592"))) (Some (manifest 7 16 48))))
    ∷ by 7 1700000000000000 (Complete 1 (shard_key 1 1 0) (codes "_x") 33 35 (stamped_row 5 1700000000000001 (hex (codes "5d41402abc4b2a76b9719d911017c592")))) Done
    ∷ by 8 1700000000000000 (BucketRead 1 box) (Row (bucket 1 3 1))
    ∷ by 8 1700000000000000 (Prepare 1 (shard_key 1 1 0) (codes "é")) (Prepared (guard 38 1700000120000000))
    ∷ by 8 1700000000000000 (Announce 1 1 1 0 box) (Position 6)
    ∷ by 8 1700000000000000 (HeadWrite 1 1 (codes "é") (guard 38 1700000120000000) (content 37 16 0 [] (hex (codes "d41d8cd98f00b204e9800998ecf8427e"))) no_conditions) (changed_reply (change 40 1700000000000000 (stamped_row 0 1700000000000000 (hex (codes "d41d8cd98f00b204e9800998ecf8427e"))) None))
    ∷ by 8 1700000000000000 (Complete 1 (shard_key 1 1 0) (codes "é") 38 40 (stamped_row 0 1700000000000000 (hex (codes "d41d8cd98f00b204e9800998ecf8427e")))) Done
    ∷ by 9 1700000000000000 (BucketRead 1 (codes "docs")) (Row (bucket 4 6 1))
    ∷ by 9 1700000000000000 (Prepare 1 (shard_key 4 4 0) (codes "é")) (Prepared (guard 43 1700000120000000))
    ∷ by 9 1700000000000000 (Announce 1 4 4 0 (codes "docs")) (Position 7)
    ∷ by 9 1700000000000000 (HeadWrite 1 4 (codes "é") (guard 43 1700000120000000) (content 42 16 0 [] (hex (codes "d41d8cd98f00b204e9800998ecf8427e"))) no_conditions) (changed_reply (change 45 1700000000000000 (stamped_row 0 1700000000000000 (hex (codes "d41d8cd98f00b204e9800998ecf8427e"))) None))
    ∷ by 9 1700000000000000 (Complete 1 (shard_key 4 4 0) (codes "é") 43 45 (stamped_row 0 1700000000000000 (hex (codes "d41d8cd98f00b204e9800998ecf8427e")))) Done
    ∷ by 10 1700000000000000 (BucketRead 1 box) (Row (bucket 1 3 1))
    ∷ by 10 1700000000000000 (HeadRead 1 1 (codes "tab" ++ 9 ∷ [])) (head_reply (shows 18 (content 14 16 26 (codes "abcdefghijklmnop") (hex (codes "c3fcd3d76192e4007dfb496cca67e13b"))) 1700000000000000) 1700000000000000)
    ∷ by 10 1700000000000000 (TailRead 1 14 1 0 17) Done
    ∷ []
