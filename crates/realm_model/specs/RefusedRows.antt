-- Makes and changes of rows that are refused, each after events that are legal.
use Rattle.std.specs.Prelude.{codes, ℕ, false, List, [], ◌∷◌, Some, None}
use Rattle.object_words.specs.declared.why.Why.TheVariants.{Absent}
use Rattle.object_words.specs.Keys.{shard_key}
use Rattle.realm_model.specs.declared.op.Op.TheVariants.{BucketRead, BucketSwap, ShardMake, Prepare, Complete, HeadWrite, Announce}
use Rattle.realm_model.specs.declared.event.Reply.TheVariants.{Done, No, Row, Prepared, Position, Changed as changed_reply}
use Rattle.realm_model.specs.declared.event.Event.{Event}
use Rattle.realm_model.specs.KnownWords.{by, box, bucket, guard, stamped_row, content, change, no_conditions, letters, hex}

-- a new shard with a number left out
abbrev pub number_left_out : List Event
number_left_out =
    by 14 0 (BucketRead 1 box) (No Absent)
    ∷ by 14 0 (ShardMake 1 (shard_key 1 1 1)) Done
    ∷ []

-- a new shard in an instance of another
abbrev pub shard_in_another_instance : List Event
shard_in_another_instance =
    by 19 0 (BucketRead 1 box) (No Absent)
    ∷ by 19 0 (ShardMake 1 (shard_key 1 1099511627777 0)) Done
    ∷ []

-- make before every shard is made
abbrev pub made_too_early : List Event
made_too_early =
    by 18 0 (BucketRead 1 box) (No Absent)
    ∷ by 18 0 (BucketSwap 1 box 0 (Some (bucket 1 0 1))) Done
    ∷ []

-- make with more shards than were made
abbrev pub made_with_more : List Event
made_with_more =
    by 1 1699999999999999 (BucketRead 1 box) (No Absent)
    ∷ by 1 1699999999999999 (ShardMake 1 (shard_key 1 1 0)) Done
    ∷ by 1 1699999999999999 (BucketSwap 1 box 0 (Some (bucket 1 0 2))) Done
    ∷ []

-- make of no shard
abbrev pub made_of_none : List Event
made_of_none =
    by 1 0 (BucketRead 1 box) (No Absent)
    ∷ by 1 0 (BucketSwap 1 box 0 (Some (bucket 1 0 0))) Done
    ∷ []

-- make of a row that is busy
abbrev pub made_busy : List Event
made_busy =
    by 71 0 (BucketRead 1 box) (No Absent)
    ∷ by 71 0 (ShardMake 1 (shard_key 1 1 0)) Done
    ∷ by 71 0 (BucketSwap 1 box 0 (Some (record (bucket 1 0 1) { busy = Some (record { number = 1; closing = false }) }))) Done
    ∷ []

-- a new shard made twice
abbrev pub shard_made_twice : List Event
shard_made_twice =
    by 20 0 (BucketRead 1 box) (No Absent)
    ∷ by 20 0 (ShardMake 1 (shard_key 1 1 0)) Done
    ∷ by 20 0 (ShardMake 1 (shard_key 1 1 0)) Done
    ∷ []

-- make with a number
abbrev pub made_with_number : List Event
made_with_number =
    by 27 0 (BucketRead 1 box) (No Absent)
    ∷ by 27 0 (ShardMake 1 (shard_key 1 1 0)) Done
    ∷ by 27 0 (BucketSwap 1 box 0 (Some (record (bucket 1 0 1) { number = 1 }))) Done
    ∷ []

-- swap with another version
abbrev pub other_version : List Event
other_version =
    by 3 253402300799999999 (BucketRead 1 box) (No Absent)
    ∷ by 3 253402300799999999 (ShardMake 1 (shard_key 1 1 0)) Done
    ∷ by 3 253402300799999999 (BucketSwap 1 box 1 (Some (bucket 1 0 1))) Done
    ∷ []

-- make in zone 1 with another id
abbrev pub made_with_other_id : List Event
made_with_other_id =
    by 12 0 (BucketRead 1 box) (No Absent)
    ∷ by 12 0 (ShardMake 1 (shard_key 1 1 0)) Done
    ∷ by 12 0 (ShardMake 1 (shard_key 1099511627777 1 0)) Done
    ∷ by 12 0 (BucketSwap 1 box 0 (Some (record (bucket 1099511627777 0 1) { instance = 1 }))) Done
    ∷ []

-- change of the instance
abbrev pub other_instance_read : List Event
other_instance_read =
    by 5 0 (BucketRead 1 box) (No Absent)
    ∷ by 5 0 (ShardMake 1 (shard_key 1 1 0)) Done
    ∷ by 5 0 (BucketSwap 1 box 0 (Some (bucket 1 0 1))) Done
    ∷ by 6 0 (BucketRead 1 box) (Row (bucket 1 3 1))
    ∷ by 9 0 (BucketRead 1 box) (Row (bucket 1 3 1))
    ∷ by 9 0 (BucketSwap 1 box 3 (Some (record (bucket 1 3 1) { instance = 1099511627777 }))) Done
    ∷ []

-- change of the owner
abbrev pub owner_changed : List Event
owner_changed =
    by 5 1700000000000000 (BucketRead 1 box) (No Absent)
    ∷ by 5 1700000000000000 (ShardMake 1 (shard_key 1 1 0)) Done
    ∷ by 5 1700000000000000 (ShardMake 1 (shard_key 1 1 1)) Done
    ∷ by 5 1700000000000000 (BucketSwap 1 box 0 (Some (bucket 1 0 2))) Done
    ∷ by 6 1700000000000000 (BucketRead 1 box) (Row (bucket 1 4 2))
    ∷ by 9 1700000000000000 (BucketRead 1 box) (Row (bucket 1 4 2))
    ∷ by 9 1700000000000000 (BucketSwap 1 box 4 (Some (record (bucket 1 4 2) { owner = codes "other" }))) Done
    ∷ []

-- change of the count of shards
abbrev pub count_changed : List Event
count_changed =
    by 1 253402300799999999 (BucketRead 1 box) (No Absent)
    ∷ by 1 253402300799999999 (ShardMake 1 (shard_key 1 1 0)) Done
    ∷ by 1 253402300799999999 (ShardMake 1 (shard_key 1 1 1)) Done
    ∷ by 1 253402300799999999 (BucketSwap 1 box 0 (Some (bucket 1 0 2))) Done
    ∷ by 2 253402300799999999 (BucketRead 1 box) (Row (bucket 1 4 2))
    ∷ by 3 253402300799999999 (BucketRead 1 box) (Row (bucket 1 4 2))
    ∷ by 3 253402300799999999 (BucketSwap 1 box 4 (Some (bucket 1 4 3))) Done
    ∷ []

-- change of the number
abbrev pub number_changed : List Event
number_changed =
    by 12 0 (BucketRead 1 box) (No Absent)
    ∷ by 12 0 (ShardMake 1 (shard_key 1 1 0)) Done
    ∷ by 12 0 (BucketSwap 1 box 0 (Some (bucket 1 0 1))) Done
    ∷ by 13 1 (BucketRead 1 box) (Row (bucket 1 3 1))
    ∷ by 13 1 (Prepare 1 (shard_key 1 1 0) (codes "a")) (Prepared (guard 5 120000001))
    ∷ by 13 1 (Announce 1 1 1 0 box) (Position 1)
    ∷ by 13 1 (HeadWrite 1 1 (codes "a") (guard 5 120000001) (content 4 16 5 (codes "hello") (hex (codes "5d41402abc4b2a76b9719d911017c592"))) no_conditions) (changed_reply (change 7 1 (stamped_row 5 1 (hex (codes "5d41402abc4b2a76b9719d911017c592"))) None))
    ∷ by 13 1 (Complete 1 (shard_key 1 1 0) (codes "a") 5 7 (stamped_row 5 1 (hex (codes "5d41402abc4b2a76b9719d911017c592")))) Done
    ∷ by 14 2 (BucketRead 1 box) (Row (bucket 1 3 1))
    ∷ by 23 2 (BucketRead 1 box) (Row (bucket 1 3 1))
    ∷ by 23 2 (BucketSwap 1 box 3 (Some (record (bucket 1 3 1) { number = 1 }))) Done
    ∷ []

-- make under the empty name, under one that is too long, and under one with a byte 0
abbrev pub makes_under : List ℕ → List Event
makes_under name =
    by 1 0 (BucketRead 1 name) (No Absent)
    ∷ by 1 0 (ShardMake 1 (shard_key 1 1 0)) Done
    ∷ by 1 0 (BucketSwap 1 name 0 (Some (bucket 1 0 1))) Done
    ∷ []

abbrev pub made_without_name : List Event
made_without_name = makes_under []

abbrev pub made_with_long_name : List Event
made_with_long_name = makes_under (letters 257)

abbrev pub made_with_zero : List Event
made_with_zero = makes_under (0 ∷ [])
