-- Numbers in rows, closings and removals that are refused, each after events that are legal.
use Rattle.std.specs.Prelude.{codes, true, false, List, [], ◌∷◌, Some, None}
use Rattle.object_words.specs.declared.why.Why.TheVariants.{Absent, Expired, NotEmpty, Raced, Unsettled}
use Rattle.object_words.specs.Keys.{shard_key}
use Rattle.realm_model.specs.declared.op.Op.TheVariants.{BucketRead, BucketSwap, AccountPage, ShardMake, Prepare, Complete, Cancel, Page, Stats, CloseShard, Release, Shut, HeadRead, HeadWrite, TailMake, Announce}
use Rattle.realm_model.specs.declared.event.Reply.TheVariants.{Done, No, Row, Names, Prepared, Entries, Position, Stats as stats_reply, Head as head_reply, Changed as changed_reply}
use Rattle.realm_model.specs.declared.event.Event.{Event}
use Rattle.realm_model.specs.KnownWords.{by, box, k, bucket, guard, stamped_row, content, change, stats, no_conditions, letters, hex, one_entry, no_entries, shows_nothing}

-- begin with a number left out
abbrev pub begun_beyond : List Event
begun_beyond =
    by 6 0 (BucketRead 1 box) (No Absent)
    ∷ by 6 0 (ShardMake 1 (shard_key 1 1 0)) Done
    ∷ by 6 0 (BucketSwap 1 box 0 (Some (bucket 1 0 1))) Done
    ∷ by 7 0 (BucketRead 1 box) (Row (bucket 1 3 1))
    ∷ by 7 0 (BucketSwap 1 box 3 (Some (record (bucket 1 3 1) { number = 2; busy = Some (record { number = 2; closing = true }) }))) Done
    ∷ []

-- closing by a number that was not begun
abbrev pub closed_unbegun : List Event
closed_unbegun =
    by 8 0 (BucketRead 1 box) (No Absent)
    ∷ by 8 0 (ShardMake 1 (shard_key 1 1 0)) Done
    ∷ by 8 0 (BucketSwap 1 box 0 (Some (bucket 1 0 1))) Done
    ∷ by 9 0 (BucketRead 1 box) (Row (bucket 1 3 1))
    ∷ by 9 0 (HeadRead 1 1 (codes "q")) (head_reply (shows_nothing 5) 0)
    ∷ by 11 0 (BucketRead 1 box) (Row (bucket 1 3 1))
    ∷ by 11 0 (BucketSwap 1 box 3 (Some (record (bucket 1 3 1) { number = 1; busy = Some (record { number = 1; closing = true }) }))) Done
    ∷ by 11 0 (CloseShard 1 (shard_key 1 1 0) 2 false) Done
    ∷ []

-- begin while another number is in progress
abbrev pub begun_while_busy : List Event
begun_while_busy =
    by 13 0 (BucketRead 1 box) (No Absent)
    ∷ by 13 0 (ShardMake 1 (shard_key 1 1 0)) Done
    ∷ by 13 0 (BucketSwap 1 box 0 (Some (bucket 1 0 1))) Done
    ∷ by 14 0 (BucketRead 1 box) (Row (bucket 1 3 1))
    ∷ by 14 0 (Stats 1 (shard_key 1 1 0)) (stats_reply (stats 0 0 0))
    ∷ by 15 12001000 (BucketRead 1 box) (Row (bucket 1 3 1))
    ∷ by 16 12001000 (BucketRead 1 box) (Row (bucket 1 3 1))
    ∷ by 16 12001000 (BucketSwap 1 box 3 (Some (record (bucket 1 3 1) { number = 1; busy = Some (record { number = 1; closing = true }) }))) Done
    ∷ by 25 12001000 (BucketRead 1 box) (Row (record (bucket 1 8 1) { shared = 3; number = 1; busy = Some (record { number = 1; closing = true }) }))
    ∷ by 25 12001000 (BucketSwap 1 box 8 (Some (record (bucket 1 8 1) { shared = 3; number = 2; busy = Some (record { number = 2; closing = false }) }))) Done
    ∷ []

-- remove or switch by an actor that only read the row
abbrev pub removed_by_reader : List Event
removed_by_reader =
    by 12 0 (BucketRead 1 box) (No Absent)
    ∷ by 12 0 (ShardMake 1 (shard_key 1 1 0)) Done
    ∷ by 12 0 (BucketSwap 1 box 0 (Some (bucket 1 0 1))) Done
    ∷ by 13 1000000 (BucketRead 1 box) (Row (bucket 1 3 1))
    ∷ by 13 1000000 (Page 1 (shard_key 1 1 0) [] 2) (Entries (no_entries 1000000))
    ∷ by 14 1000000 (BucketRead 1 box) (Row (bucket 1 3 1))
    ∷ by 14 1000000 (BucketSwap 1 box 3 (Some (record (bucket 1 3 1) { number = 1; busy = Some (record { number = 1; closing = true }) }))) Done
    ∷ by 14 1000000 (CloseShard 1 (shard_key 1 1 0) 1 false) Done
    ∷ by 23 1000000 (BucketRead 1 box) (Row (record (bucket 1 7 1) { shared = 3; number = 1; busy = Some (record { number = 1; closing = true }) }))
    ∷ by 23 1000000 (BucketSwap 1 box 7 None) Done
    ∷ []

-- Shut by an actor that made no event
abbrev pub shut_by_another : List Event
shut_by_another =
    by 10 0 (BucketRead 1 box) (No Absent)
    ∷ by 10 0 (ShardMake 1 (shard_key 1 1 0)) Done
    ∷ by 10 0 (ShardMake 1 (shard_key 1 1 1)) Done
    ∷ by 10 0 (BucketSwap 1 box 0 (Some (bucket 1 0 2))) Done
    ∷ by 11 0 (BucketRead 1 box) (Row (bucket 1 4 2))
    ∷ by 11 0 (BucketSwap 1 box 4 (Some (record (bucket 1 4 2) { number = 1; busy = Some (record { number = 1; closing = true }) }))) Done
    ∷ by 11 0 (CloseShard 1 (shard_key 1 1 0) 1 false) Done
    ∷ by 11 0 (CloseShard 1 (shard_key 1 1 1) 1 false) Done
    ∷ by 11 0 (BucketSwap 1 box 6 None) Done
    ∷ by 11 0 (Shut 1 (shard_key 1 1 0)) Done
    ∷ by 19 0 (Shut 1 (shard_key 1 1 1)) Done
    ∷ []

-- closing by force in zone 1
abbrev pub forced : List Event
forced =
    by 5 1700000000000000 (BucketRead 1 box) (No Absent)
    ∷ by 5 1700000000000000 (ShardMake 1 (shard_key 1 1 0)) Done
    ∷ by 5 1700000000000000 (BucketSwap 1 box 0 (Some (bucket 1 0 1))) Done
    ∷ by 6 1700000000000000 (BucketRead 1 box) (Row (bucket 1 3 1))
    ∷ by 6 1700000000000000 (TailMake 1 4 1 (letters 16)) Done
    ∷ by 6 1700000000000000 (Prepare 1 (shard_key 1 1 0) (codes "b")) (Prepared (guard 6 1700000001000000))
    ∷ by 6 1700000000000000 (Announce 1 1 1 0 box) (Position 1)
    ∷ by 6 1700000000000000 (HeadWrite 1 1 (codes "b") (guard 6 1700000001000000) (content 4 16 32 (letters 16) (hex (codes "dc8fe1d6497ebd23f5975d8d2a1c5e81"))) no_conditions) (changed_reply (change 8 1700000000000000 (stamped_row 32 1700000000000000 (hex (codes "dc8fe1d6497ebd23f5975d8d2a1c5e81"))) None))
    ∷ by 6 1700000000000000 (Complete 1 (shard_key 1 1 0) (codes "b") 6 8 (stamped_row 32 1700000000000000 (hex (codes "dc8fe1d6497ebd23f5975d8d2a1c5e81")))) Done
    ∷ by 7 1700000000000000 (BucketRead 1 box) (Row (bucket 1 3 1))
    ∷ by 7 1700000000000000 (BucketSwap 1 box 3 (Some (record (bucket 1 3 1) { number = 1; busy = Some (record { number = 1; closing = true }) }))) Done
    ∷ by 7 1700000000000000 (CloseShard 1 (shard_key 1 1 0) 1 true) Done
    ∷ []

-- remove before every shard is closed
abbrev pub removed_too_early : List Event
removed_too_early =
    by 37 0 (BucketRead 1 box) (No Absent)
    ∷ by 37 0 (ShardMake 1 (shard_key 1 1 0)) Done
    ∷ by 37 0 (BucketSwap 1 box 0 (Some (bucket 1 0 1))) Done
    ∷ by 38 0 (BucketRead 1 (codes "e")) (No Absent)
    ∷ by 38 0 (ShardMake 1 (shard_key 4 4 0)) Done
    ∷ by 38 0 (BucketSwap 1 (codes "e") 0 (Some (bucket 4 0 1))) Done
    ∷ by 39 0 (BucketRead 1 box) (Row (bucket 1 3 1))
    ∷ by 40 0 (BucketRead 1 box) (Row (bucket 1 3 1))
    ∷ by 40 0 (HeadRead 1 1 (codes "a")) (head_reply (shows_nothing 9) 0)
    ∷ by 41 0 (BucketRead 1 (codes "e")) (Row (bucket 4 6 1))
    ∷ by 41 0 (BucketSwap 1 (codes "e") 6 (Some (record (bucket 4 6 1) { number = 1; busy = Some (record { number = 1; closing = true }) }))) Done
    ∷ by 41 0 (BucketSwap 1 (codes "e") 11 None) Done
    ∷ []

-- closing by an actor that made no event
abbrev pub closed_by_another : List Event
closed_by_another =
    by 26 0 (BucketRead 1 box) (No Absent)
    ∷ by 26 0 (ShardMake 1 (shard_key 1 1 0)) Done
    ∷ by 26 0 (ShardMake 1 (shard_key 1 1 1)) Done
    ∷ by 26 0 (BucketSwap 1 box 0 (Some (bucket 1 0 2))) Done
    ∷ by 27 0 (BucketRead 1 box) (Row (bucket 1 4 2))
    ∷ by 27 0 (HeadRead 1 1 k) (head_reply (shows_nothing 6) 0)
    ∷ by 28 5000000 (BucketRead 1 box) (Row (bucket 1 4 2))
    ∷ by 28 5000000 (Page 1 (shard_key 1 1 0) [] 2) (Entries (no_entries 5000000))
    ∷ by 28 5000000 (Page 1 (shard_key 1 1 1) [] 2) (Entries (no_entries 5000000))
    ∷ by 29 5000000 (BucketRead 1 box) (Row (bucket 1 4 2))
    ∷ by 29 5000000 (BucketSwap 1 box 4 (Some (record (bucket 1 4 2) { number = 1; busy = Some (record { number = 1; closing = true }) }))) Done
    ∷ by 51 5000000 (CloseShard 1 (shard_key 1 1 0) 1 false) Done
    ∷ []

-- begin that changes the metadata
abbrev pub begun_with_metadata : List Event
begun_with_metadata =
    by 5 0 (BucketRead 1 box) (No Absent)
    ∷ by 5 0 (ShardMake 1 (shard_key 1 1 0)) Done
    ∷ by 5 0 (BucketSwap 1 box 0 (Some (bucket 1 0 1))) Done
    ∷ by 6 0 (BucketRead 1 (codes "e")) (No Absent)
    ∷ by 6 0 (ShardMake 1 (shard_key 4 4 0)) Done
    ∷ by 6 0 (BucketSwap 1 (codes "e") 0 (Some (bucket 4 0 1))) Done
    ∷ by 7 1 (AccountPage 1 (codes "acme") [] 1000) (Names (box ∷ (codes "e") ∷ []))
    ∷ by 7 1 (BucketRead 1 box) (Row (bucket 1 3 1))
    ∷ by 7 1 (Stats 1 (shard_key 1 1 0)) (stats_reply (stats 0 0 0))
    ∷ by 7 1 (BucketRead 1 (codes "e")) (Row (bucket 4 6 1))
    ∷ by 7 1 (Stats 1 (shard_key 4 4 0)) (stats_reply (stats 0 0 0))
    ∷ by 8 1000001 (BucketRead 1 (codes "e")) (Row (bucket 4 6 1))
    ∷ by 8 1000001 (BucketSwap 1 (codes "e") 6 (Some (record (bucket 4 6 1) { number = 1; meta = (codes "a", codes "b") ∷ []; busy = Some (record { number = 1; closing = true }) }))) Done
    ∷ []

-- Shut of a shard that was not removed
abbrev pub shut_beyond : List Event
shut_beyond =
    by 34 1700000000000000 (BucketRead 1 box) (No Absent)
    ∷ by 34 1700000000000000 (ShardMake 1 (shard_key 1 1 0)) Done
    ∷ by 34 1700000000000000 (BucketSwap 1 box 0 (Some (bucket 1 0 1))) Done
    ∷ by 35 1700000000000000 (BucketRead 1 (codes "e")) (No Absent)
    ∷ by 35 1700000000000000 (ShardMake 1 (shard_key 4 4 0)) Done
    ∷ by 35 1700000000000000 (BucketSwap 1 (codes "e") 0 (Some (bucket 4 0 1))) Done
    ∷ by 36 1700000000000000 (BucketRead 1 box) (Row (bucket 1 3 1))
    ∷ by 36 1700000000000000 (Page 1 (shard_key 1 1 0) [] 1000) (Entries (no_entries 1700000000000000))
    ∷ by 37 1700000000000000 (BucketRead 1 box) (Row (bucket 1 3 1))
    ∷ by 37 1700000000000000 (BucketSwap 1 box 3 (Some (record (bucket 1 3 1) { number = 1; busy = Some (record { number = 1; closing = true }) }))) Done
    ∷ by 37 1700000000000000 (CloseShard 1 (shard_key 1 1 0) 1 false) Done
    ∷ by 37 1700000000000000 (BucketSwap 1 box 10 None) Done
    ∷ by 37 1700000000000000 (Shut 1 (shard_key 1 1 2000)) Done
    ∷ []

-- remove or switch after the number was cleared
abbrev pub removed_when_cleared : List Event
removed_when_cleared =
    by 42 5 (BucketRead 1 box) (No Absent)
    ∷ by 42 5 (ShardMake 1 (shard_key 1 1 0)) Done
    ∷ by 42 5 (ShardMake 1 (shard_key 1 1 1)) Done
    ∷ by 42 5 (ShardMake 1 (shard_key 1 1 2)) Done
    ∷ by 42 5 (BucketSwap 1 box 0 (Some (bucket 1 0 3))) Done
    ∷ by 43 5 (BucketRead 1 box) (Row (bucket 1 5 3))
    ∷ by 43 5 (BucketSwap 1 box 5 (Some (record (bucket 1 5 3) { number = 1; busy = Some (record { number = 1; closing = true }) }))) Done
    ∷ by 43 5 (CloseShard 1 (shard_key 1 1 0) 1 false) Done
    ∷ by 43 5 (CloseShard 1 (shard_key 1 1 1) 1 false) Done
    ∷ by 43 5 (CloseShard 1 (shard_key 1 1 2) 1 false) Done
    ∷ by 83 5 (BucketRead 1 box) (Row (record (bucket 1 7 3) { shared = 5; number = 1; busy = Some (record { number = 1; closing = true }) }))
    ∷ by 83 5 (BucketSwap 1 box 7 (Some (record (bucket 1 7 3) { shared = 5; number = 1 }))) Done
    ∷ by 43 5 (BucketRead 1 box) (Row (record (bucket 1 12 3) { shared = 5; number = 1 }))
    ∷ by 43 5 (BucketSwap 1 box 12 None) Done
    ∷ []

-- clear that raises the number
abbrev pub cleared_higher : List Event
cleared_higher =
    by 23 0 (BucketRead 1 box) (No Absent)
    ∷ by 23 0 (ShardMake 1 (shard_key 1 1 0)) Done
    ∷ by 23 0 (BucketSwap 1 box 0 (Some (bucket 1 0 1))) Done
    ∷ by 24 0 (BucketRead 1 box) (Row (bucket 1 3 1))
    ∷ by 24 0 (Prepare 1 (shard_key 1 1 0) (codes "a")) (Prepared (guard 5 5000000))
    ∷ by 24 0 (Announce 1 1 1 0 box) (Position 1)
    ∷ by 24 0 (HeadWrite 1 1 (codes "a") (guard 5 5000000) (content 4 16 0 [] (hex (codes "d41d8cd98f00b204e9800998ecf8427e"))) no_conditions) (changed_reply (change 7 0 (stamped_row 0 0 (hex (codes "d41d8cd98f00b204e9800998ecf8427e"))) None))
    ∷ by 24 0 (Complete 1 (shard_key 1 1 0) (codes "a") 5 7 (stamped_row 0 0 (hex (codes "d41d8cd98f00b204e9800998ecf8427e")))) Done
    ∷ by 25 0 (BucketRead 1 box) (Row (bucket 1 3 1))
    ∷ by 26 0 (BucketRead 1 box) (Row (bucket 1 3 1))
    ∷ by 26 0 (Page 1 (shard_key 1 1 0) [] 1000) (Entries (one_entry (codes "a") 7 2 (stamped_row 0 0 (hex (codes "d41d8cd98f00b204e9800998ecf8427e"))) [] 0))
    ∷ by 27 0 (BucketRead 1 box) (Row (bucket 1 3 1))
    ∷ by 27 0 (BucketSwap 1 box 3 (Some (record (bucket 1 3 1) { number = 1; busy = Some (record { number = 1; closing = true }) }))) Done
    ∷ by 27 0 (CloseShard 1 (shard_key 1 1 0) 1 false) (No (NotEmpty (codes "a")))
    ∷ by 27 0 (BucketSwap 1 box 13 (Some (record (bucket 1 13 1) { shared = 3; number = 2 }))) Done
    ∷ []

-- release of a live number
abbrev pub released_live : List Event
released_live =
    by 30 0 (BucketRead 1 box) (No Absent)
    ∷ by 30 0 (ShardMake 1 (shard_key 1 1 0)) Done
    ∷ by 30 0 (ShardMake 1 (shard_key 1 1 1)) Done
    ∷ by 30 0 (ShardMake 1 (shard_key 1 1 2)) Done
    ∷ by 30 0 (ShardMake 1 (shard_key 1 1 3)) Done
    ∷ by 30 0 (BucketSwap 1 box 0 (Some (bucket 1 0 4))) Done
    ∷ by 31 0 (BucketRead 1 (codes "e")) (No Absent)
    ∷ by 31 0 (ShardMake 1 (shard_key 7 7 0)) Done
    ∷ by 31 0 (ShardMake 1 (shard_key 7 7 1)) Done
    ∷ by 31 0 (ShardMake 1 (shard_key 7 7 2)) Done
    ∷ by 31 0 (ShardMake 1 (shard_key 7 7 3)) Done
    ∷ by 31 0 (BucketSwap 1 (codes "e") 0 (Some (bucket 7 0 4))) Done
    ∷ by 32 0 (BucketRead 1 box) (Row (bucket 1 6 4))
    ∷ by 32 0 (HeadRead 1 1 (codes "m-long-name")) (head_reply (shows_nothing 14) 0)
    ∷ by 34 0 (BucketRead 1 box) (Row (bucket 1 6 4))
    ∷ by 33 0 (BucketRead 1 box) (Row (bucket 1 6 4))
    ∷ by 33 0 (BucketSwap 1 box 6 (Some (record (bucket 1 6 4) { number = 1; busy = Some (record { number = 1; closing = true }) }))) Done
    ∷ by 59 0 (BucketRead 1 box) (Row (record (bucket 1 17 4) { shared = 6; number = 1; busy = Some (record { number = 1; closing = true }) }))
    ∷ by 59 0 (Release 1 (shard_key 1 1 0) 1) Done
    ∷ []

-- Release by an actor that made no event
abbrev pub released_by_another : List Event
released_by_another =
    by 33 0 (BucketRead 1 box) (No Absent)
    ∷ by 33 0 (ShardMake 1 (shard_key 1 1 0)) Done
    ∷ by 33 0 (ShardMake 1 (shard_key 1 1 1)) Done
    ∷ by 33 0 (BucketSwap 1 box 0 (Some (bucket 1 0 2))) Done
    ∷ by 34 0 (BucketRead 1 box) (Row (bucket 1 4 2))
    ∷ by 34 0 (Prepare 1 (shard_key 1 1 1) (codes "b")) (Prepared (guard 6 5000000))
    ∷ by 34 0 (Announce 1 1 1 1 box) (Position 1)
    ∷ by 34 0 (HeadWrite 1 1 (codes "b") (guard 6 5000000) (content 5 16 5 (codes "hello") (hex (codes "5d41402abc4b2a76b9719d911017c592"))) no_conditions) (changed_reply (change 8 0 (stamped_row 5 0 (hex (codes "5d41402abc4b2a76b9719d911017c592"))) None))
    ∷ by 34 0 (Complete 1 (shard_key 1 1 1) (codes "b") 6 8 (stamped_row 5 0 (hex (codes "5d41402abc4b2a76b9719d911017c592")))) Done
    ∷ by 35 0 (BucketRead 1 box) (Row (bucket 1 4 2))
    ∷ by 35 0 (Prepare 1 (shard_key 1 1 1) k) (Prepared (guard 11 5000000))
    ∷ by 35 0 (Announce 1 1 1 1 box) (Position 2)
    ∷ by 35 0 (HeadWrite 1 1 k (guard 11 5000000) (content 10 16 5 (codes "hello") (hex (codes "5d41402abc4b2a76b9719d911017c592"))) no_conditions) (changed_reply (change 13 0 (stamped_row 5 0 (hex (codes "5d41402abc4b2a76b9719d911017c592"))) None))
    ∷ by 35 0 (Complete 1 (shard_key 1 1 1) k 11 13 (stamped_row 5 0 (hex (codes "5d41402abc4b2a76b9719d911017c592")))) Done
    ∷ by 36 0 (BucketRead 1 box) (Row (bucket 1 4 2))
    ∷ by 36 0 (BucketSwap 1 box 4 (Some (record (bucket 1 4 2) { number = 1; busy = Some (record { number = 1; closing = true }) }))) Done
    ∷ by 36 0 (CloseShard 1 (shard_key 1 1 0) 1 false) Done
    ∷ by 36 0 (CloseShard 1 (shard_key 1 1 1) 1 false) (No (NotEmpty (codes "b")))
    ∷ by 38 0 (BucketRead 1 box) (Row (record (bucket 1 16 2) { shared = 4; number = 1; busy = Some (record { number = 1; closing = true }) }))
    ∷ by 38 0 (Prepare 1 (shard_key 1 1 1) (codes "a")) (Prepared (guard 20 5000000))
    ∷ by 38 0 (Announce 1 1 1 1 box) (Position 3)
    ∷ by 38 0 (HeadWrite 1 1 (codes "a") (guard 20 5000000) (content 19 16 5 (codes "hello") (hex (codes "5d41402abc4b2a76b9719d911017c592"))) no_conditions) (changed_reply (change 22 0 (stamped_row 5 0 (hex (codes "5d41402abc4b2a76b9719d911017c592"))) None))
    ∷ by 38 0 (Complete 1 (shard_key 1 1 1) (codes "a") 20 22 (stamped_row 5 0 (hex (codes "5d41402abc4b2a76b9719d911017c592")))) Done
    ∷ by 37 0 (BucketRead 1 box) (Row (record (bucket 1 16 2) { shared = 4; number = 1; busy = Some (record { number = 1; closing = true }) }))
    ∷ by 36 0 (BucketSwap 1 box 16 (Some (record (bucket 1 16 2) { shared = 4; number = 1 }))) Done
    ∷ by 65 0 (Release 1 (shard_key 1 1 0) 1) Done
    ∷ []

-- release of a number above the one read
abbrev pub released_above : List Event
released_above =
    by 61 0 (BucketRead 1 box) (No Absent)
    ∷ by 61 0 (ShardMake 1 (shard_key 1 1 0)) Done
    ∷ by 61 0 (ShardMake 1 (shard_key 1 1 1)) Done
    ∷ by 61 0 (BucketSwap 1 box 0 (Some (bucket 1 0 2))) Done
    ∷ by 62 0 (BucketRead 1 (codes "e")) (No Absent)
    ∷ by 62 0 (ShardMake 1 (shard_key 5 5 0)) Done
    ∷ by 62 0 (ShardMake 1 (shard_key 5 5 1)) Done
    ∷ by 62 0 (BucketSwap 1 (codes "e") 0 (Some (bucket 5 0 2))) Done
    ∷ by 63 1441000000 (BucketRead 1 (codes "e")) (Row (bucket 5 8 2))
    ∷ by 63 1441000000 (HeadRead 1 5 (codes "m-long-name")) (head_reply (shows_nothing 10) 1441000000)
    ∷ by 64 1441000000 (BucketRead 1 (codes "e")) (Row (bucket 5 8 2))
    ∷ by 64 1441000000 (HeadRead 1 5 k) (head_reply (shows_nothing 12) 1441000000)
    ∷ by 65 1441000001 (BucketRead 1 (codes "e")) (Row (bucket 5 8 2))
    ∷ by 65 1441000001 (HeadRead 1 5 (codes "q")) (head_reply (shows_nothing 14) 1441000001)
    ∷ by 68 1621000001 (BucketRead 1 (codes "e")) (Row (bucket 5 8 2))
    ∷ by 68 1621000001 (Prepare 1 (shard_key 5 5 1) (codes "a/1")) (Prepared (guard 16 1741000001))
    ∷ by 67 1621000001 (BucketRead 1 (codes "e")) (Row (bucket 5 8 2))
    ∷ by 66 1621000001 (BucketRead 1 (codes "e")) (Row (bucket 5 8 2))
    ∷ by 68 1621000001 (Announce 1 5 5 1 (codes "e")) (Position 1)
    ∷ by 66 1621000001 (BucketSwap 1 (codes "e") 8 (Some (record (bucket 5 8 2) { number = 1; busy = Some (record { number = 1; closing = true }) }))) Done
    ∷ by 66 1621000001 (CloseShard 1 (shard_key 5 5 0) 1 false) Done
    ∷ by 66 1741000002 (CloseShard 1 (shard_key 5 5 1) 1 false) (No (Unsettled (codes "a/1")))
    ∷ by 68 1741000002 (HeadWrite 1 5 (codes "a/1") (guard 16 1741000001) (content 15 16 1 (codes "a") (hex (codes "0cc175b9c0f1b6a831c399e269772661"))) no_conditions) (No (Expired 1741000001 1741000002))
    ∷ by 68 1741000002 (Cancel 1 (shard_key 5 5 1) (codes "a/1") 16) Done
    ∷ by 68 1741000002 (BucketRead 1 (codes "e")) (Row (record (bucket 5 20 2) { shared = 8; number = 1; busy = Some (record { number = 1; closing = true }) }))
    ∷ by 68 1741000002 (Prepare 1 (shard_key 5 5 1) (codes "a/1")) (Prepared (guard 26 1861000002))
    ∷ by 68 1741000002 (Announce 1 5 5 1 (codes "e")) (Position 2)
    ∷ by 66 1741000002 (BucketSwap 1 (codes "e") 20 (Some (record (bucket 5 20 2) { shared = 8; number = 1 }))) Done
    ∷ by 66 1741000002 (Release 1 (shard_key 5 5 0) 1) Done
    ∷ by 68 1741000002 (HeadWrite 1 5 (codes "a/1") (guard 26 1861000002) (content 15 16 1 (codes "a") (hex (codes "0cc175b9c0f1b6a831c399e269772661"))) no_conditions) (changed_reply (change 30 1741000002 (stamped_row 1 1741000002 (hex (codes "0cc175b9c0f1b6a831c399e269772661"))) None))
    ∷ by 68 1741000002 (Complete 1 (shard_key 5 5 1) (codes "a/1") 26 30 (stamped_row 1 1741000002 (hex (codes "0cc175b9c0f1b6a831c399e269772661")))) Done
    ∷ by 67 1741000002 (BucketSwap 1 (codes "e") 8 (Some (record (bucket 5 8 2) { number = 1; busy = Some (record { number = 1; closing = true }) }))) (No (Raced 28))
    ∷ by 67 1741000002 (BucketRead 1 (codes "e")) (Row (record (bucket 5 28 2) { shared = 8; number = 1 }))
    ∷ by 67 1741000002 (BucketSwap 1 (codes "e") 28 (Some (record (bucket 5 28 2) { shared = 8; number = 2; busy = Some (record { number = 2; closing = true }) }))) Done
    ∷ by 69 1741000002 (BucketRead 1 box) (Row (bucket 1 4 2))
    ∷ by 67 1741000002 (CloseShard 1 (shard_key 5 5 0) 2 false) Done
    ∷ by 67 1741000002 (CloseShard 1 (shard_key 5 5 1) 2 false) (No (NotEmpty (codes "a/1")))
    ∷ by 70 1741000002 (BucketRead 1 (codes "e")) (Row (record (bucket 5 34 2) { shared = 8; number = 2; busy = Some (record { number = 2; closing = true }) }))
    ∷ by 70 1741000002 (TailMake 1 38 1 (letters 16)) Done
    ∷ by 70 1741000002 (TailMake 1 38 2 (codes "x")) Done
    ∷ by 70 1741000002 (Prepare 1 (shard_key 5 5 1) (codes "a/1")) (Prepared (guard 41 1861000002))
    ∷ by 70 1741000002 (Announce 1 5 5 1 (codes "e")) (Position 3)
    ∷ by 70 1741000002 (HeadWrite 1 5 (codes "a/1") (guard 41 1861000002) (content 38 16 33 (letters 16) (hex (codes "b7b82191a246d3563ed060e298add91d"))) no_conditions) (changed_reply (change 43 1741000003 (stamped_row 33 1741000003 (hex (codes "b7b82191a246d3563ed060e298add91d"))) None))
    ∷ by 70 1741000002 (Complete 1 (shard_key 5 5 1) (codes "a/1") 41 43 (stamped_row 33 1741000003 (hex (codes "b7b82191a246d3563ed060e298add91d")))) Done
    ∷ by 67 1741000002 (BucketSwap 1 (codes "e") 34 (Some (record (bucket 5 34 2) { shared = 8; number = 2 }))) Done
    ∷ by 67 1741000002 (Release 1 (shard_key 5 5 0) 1099511627778) Done
    ∷ []
