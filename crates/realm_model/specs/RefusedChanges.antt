-- Changes of a name that an actor may not make, each after events that are legal.
use Rattle.std.specs.Prelude.{codes, ℕ, true, false, List, [], ◌∷◌, ◌++◌, Some, None}
use Rattle.object_words.specs.declared.bucket.Bucket.{Bucket}
use Rattle.object_words.specs.declared.head.SeenSlot.TheVariants.{Live}
use Rattle.object_words.specs.declared.why.Why.TheVariants.{Absent, Closed, Expired}
use Rattle.object_words.specs.Keys.{shard_key}
use Rattle.object_words.specs.Rows.{RowView, no_row}
use Rattle.realm_model.specs.declared.op.Op.TheVariants.{BucketRead, BucketSwap, ShardMake, Prepare, Complete, Cancel, Page, Suggest, CloseShard, Shut, HeadRead, HeadWrite, TailMake, Announce, Stats as stats_op}
use Rattle.realm_model.specs.declared.event.Reply.TheVariants.{Done, No, Row, Prepared, Entries, Stats, Changed, Position, Head as head_reply}
use Rattle.realm_model.specs.declared.event.Event.{Event}
use Rattle.realm_model.specs.KnownWords.{by, made, reads, shard, box, k, guard, tag, bucket, change, stats, no_conditions, letters, no_entries, one_entry, shows_nothing, xs, xs_row}

-- changes the head before the change is announced
abbrev pub unannounced : List Event
unannounced =
    made 10 0 1
    ++ reads 11 0 1
    ∷ by 11 0 (HeadRead 1 1 k) (head_reply (shows_nothing 5) 0)
    ∷ reads 12 0 1
    ∷ by 12 0 (Page 1 shard [] 2) (Entries (no_entries 0))
    ∷ reads 13 0 1
    ∷ by 13 0 (Page 1 shard [] 2) (Entries (no_entries 0))
    ∷ reads 14 0 1
    ∷ by 14 0 (Page 1 shard [] 2) (Entries (no_entries 0))
    ∷ reads 15 0 1
    ∷ by 15 0 (TailMake 1 12 1 (letters 1)) Done
    ∷ by 15 0 (Prepare 1 shard k) (Prepared (guard 14 1000000))
    ∷ by 15 0 (HeadWrite 1 1 k (guard 14 1000000) (xs 12 16 17) no_conditions) Done
    ∷ []

-- changes the head twice under one tag
abbrev pub changed_twice : List Event
changed_twice =
    made 12 253402300799999999 1
    ++ reads 13 253402300799999999 1
    ∷ by 13 253402300799999999 (TailMake 1 4 1 (letters 16)) Done
    ∷ by 13 253402300799999999 (TailMake 1 4 2 (letters 8)) Done
    ∷ by 13 253402300799999999 (Prepare 1 shard (codes "b")) (Prepared (guard 7 253402300800999999))
    ∷ by 13 253402300799999999 (Announce 1 1 1 0 box) (Position 1)
    ∷ by 13 253402300799999999 (HeadWrite 1 1 (codes "b") (guard 7 253402300800999999) (xs 4 16 40) no_conditions) (Changed (change 9 253402300799999999 (xs_row 40 253402300799999999) None))
    ∷ by 13 253402300799999999 (Complete 1 shard (codes "b") 7 9 (xs_row 40 253402300799999999)) Done
    ∷ reads 14 253402300799999999 1
    ∷ by 14 253402300799999999 (Page 1 shard [] 1000) (Entries (one_entry (codes "b") 9 2 (xs_row 40 253402300799999999) [] 253402300799999999))
    ∷ reads 15 253402300799999999 1
    ∷ by 15 253402300799999999 (Prepare 1 shard (codes "a")) (Prepared (guard 14 253402300800999999))
    ∷ by 15 253402300799999999 (Announce 1 1 1 0 box) (Position 2)
    ∷ by 15 253402300799999999 (HeadWrite 1 1 (codes "a") (guard 14 253402300800999999) (xs 13 16 0) no_conditions) (Changed (change 16 253402300799999999 (xs_row 0 253402300799999999) None))
    ∷ by 15 253402300799999999 (HeadWrite 1 1 (codes "a") (guard 14 253402300800999999) (xs 13 16 0) no_conditions) Done
    ∷ []

-- changes the head under a later deadline than its tag has
abbrev pub later_deadline : List Event
later_deadline =
    made 5 0 3
    ++ reads 6 0 3
    ∷ by 6 0 (stats_op 1 shard) (Stats (stats 0 0 0))
    ∷ by 6 0 (stats_op 1 (shard_key 1 1 1)) (Stats (stats 0 0 0))
    ∷ by 6 0 (stats_op 1 (shard_key 1 1 2)) (Stats (stats 0 0 0))
    ∷ reads 7 10000000 3
    ∷ by 7 10000000 (TailMake 1 10 1 (letters 16)) Done
    ∷ by 7 10000000 (TailMake 1 10 2 (letters 16)) Done
    ∷ by 7 10000000 (Prepare 1 shard k) (Prepared (guard 13 11000000))
    ∷ by 7 10000000 (Announce 1 1 1 0 box) (Position 1)
    ∷ by 7 10000000 (HeadWrite 1 1 k (guard 13 11000000) (xs 10 16 48) no_conditions) (Changed (change 15 10000000 (xs_row 48 10000000) None))
    ∷ reads 8 10000000 3
    ∷ by 8 10000000 (Prepare 1 (shard_key 1 1 1) (codes "b")) (Prepared (guard 17 11000000))
    ∷ by 8 10000000 (Announce 1 1 1 1 box) (Position 2)
    ∷ by 8 10000000 (HeadWrite 1 1 (codes "b") (guard 17 11000001) (xs 16 16 16) no_conditions) Done
    ∷ []

-- changes the head under a number that is not its tag's
abbrev pub other_guard : List Event
other_guard =
    made 4 0 2
    ++ reads 5 0 2
    ∷ by 5 0 (Page 1 shard [] 2) (Entries (no_entries 0))
    ∷ by 5 0 (Page 1 (shard_key 1 1 1) [] 2) (Entries (no_entries 0))
    ∷ reads 6 999999 2
    ∷ by 6 999999 (Prepare 1 (shard_key 1 1 1) (codes "a")) (Prepared (guard 9 1999999))
    ∷ by 6 999999 (Announce 1 1 1 1 box) (Position 1)
    ∷ by 6 999999 (HeadWrite 1 1 (codes "a") (guard 8 1999999) (xs 8 4194304 40) no_conditions) Done
    ∷ []

-- changes the head of another name than it prepared
abbrev pub other_name : List Event
other_name =
    made 18 5 1
    ++ reads 19 5 1
    ∷ by 19 5 (Prepare 1 shard k) (Prepared (guard 5 120000005))
    ∷ reads 20 5 1
    ∷ by 20 5 (Prepare 1 shard k) (Prepared (guard 7 120000005))
    ∷ by 20 5 (Announce 1 1 1 0 box) (Position 1)
    ∷ by 20 5 (HeadWrite 1 1 (codes "kx") (guard 7 120000005) (xs 6 16 1) no_conditions) Done
    ∷ []

-- completes before the head changed
abbrev pub completed_unchanged : List Event
completed_unchanged =
    made 8 0 1
    ++ reads 9 0 1
    ∷ by 9 0 (Prepare 1 shard k) (Prepared (guard 5 1000000))
    ∷ by 9 0 (Announce 1 1 1 0 box) (Position 1)
    ∷ by 9 0 (Complete 1 shard k 5 7 no_row) Done
    ∷ []

-- completes with another version than its change has
abbrev pub other_version : List Event
other_version =
    made 9 0 1
    ++ reads 10 0 1
    ∷ by 10 0 (stats_op 1 shard) (Stats (stats 0 0 0))
    ∷ reads 11 0 1
    ∷ by 11 0 (HeadRead 1 1 k) (head_reply (shows_nothing 7) 0)
    ∷ reads 12 0 1
    ∷ by 12 0 (Page 1 shard [] 1000) (Entries (no_entries 0))
    ∷ reads 13 0 1
    ∷ by 13 0 (HeadRead 1 1 k) (head_reply (shows_nothing 11) 0)
    ∷ reads 14 0 1
    ∷ by 14 0 (Page 1 shard [] 1000) (Entries (no_entries 0))
    ∷ reads 16 0 1
    ∷ by 16 0 (Prepare 1 shard k) (Prepared (guard 15 120000000))
    ∷ by 16 0 (Announce 1 1 1 0 box) (Position 1)
    ∷ by 16 0 (HeadWrite 1 1 k (guard 15 120000000) (xs 14 4194304 31) no_conditions) (Changed (change 17 0 (xs_row 31 0) None))
    ∷ by 16 0 (Complete 1 shard k 15 18 (xs_row 31 0)) Done
    ∷ []

-- completes with another row than its change has
abbrev pub other_row : List Event
other_row =
    made 9 0 4
    ++ reads 10 0 4
    ∷ by 10 0 (Prepare 1 (shard_key 1 1 3) (codes "a/1")) (Prepared (guard 8 1000000))
    ∷ by 10 0 (Announce 1 1 1 3 box) (Position 1)
    ∷ by 10 0 (HeadWrite 1 1 (codes "a/1") (guard 8 1000000) (xs 7 16 5) no_conditions) (Changed (change 10 0 (xs_row 5 0) None))
    ∷ by 10 0 (Complete 1 (shard_key 1 1 3) (codes "a/1") 8 10 no_row) Done
    ∷ []

-- completes a tag twice
abbrev pub completed_twice : List Event
completed_twice =
    made 15 0 1
    ++ reads 16 240000002 1
    ∷ by 16 240000002 (Prepare 1 shard k) (Prepared (guard 5 360000002))
    ∷ by 16 240000002 (Announce 1 1 1 0 box) (Position 1)
    ∷ by 16 240000002 (HeadWrite 1 1 k (guard 5 360000002) (xs 4 4194304 31) no_conditions) (Changed (change 7 240000002 (xs_row 31 240000002) None))
    ∷ by 16 240000002 (Complete 1 shard k 5 7 (xs_row 31 240000002)) Done
    ∷ by 16 240000002 (Complete 1 shard k 5 7 (xs_row 31 240000002)) Done
    ∷ []

-- completes a tag that is not its own
abbrev pub other_tag : List Event
other_tag =
    made 22 253402300799999999 2
    ++ reads 23 253402300799999999 2
    ∷ by 23 253402300799999999 (Page 1 shard [] 1000) (Entries (no_entries 253402300799999999))
    ∷ by 23 253402300799999999 (Page 1 (shard_key 1 1 1) [] 1000) (Entries (no_entries 253402300799999999))
    ∷ reads 24 253402300799999999 2
    ∷ by 24 253402300799999999 (Page 1 shard [] 1000) (Entries (no_entries 253402300799999999))
    ∷ by 24 253402300799999999 (Page 1 (shard_key 1 1 1) [] 1000) (Entries (no_entries 253402300799999999))
    ∷ reads 25 253402300799999999 2
    ∷ by 25 253402300799999999 (TailMake 1 11 1 (letters 16)) Done
    ∷ by 25 253402300799999999 (Prepare 1 (shard_key 1 1 1) k) (Prepared (guard 13 253402300804999999))
    ∷ by 25 253402300799999999 (Announce 1 1 1 1 box) (Position 1)
    ∷ by 25 253402300799999999 (HeadWrite 1 1 k (guard 13 253402300804999999) (xs 11 16 32) no_conditions) (Changed (change 15 253402300799999999 (xs_row 32 253402300799999999) None))
    ∷ by 25 253402300799999999 (Complete 1 (shard_key 1 1 1) k 12 15 (xs_row 32 253402300799999999)) Done
    ∷ []

-- completes in a shard that is not the tag's
abbrev pub other_shard : List Event
other_shard =
    made 26 1700000000000000 2
    ++ reads 27 1700000000000000 2
    ∷ by 27 1700000000000000 (Prepare 1 (shard_key 1 1 1) (codes "a")) (Prepared (guard 6 1700000005000000))
    ∷ by 27 1700000000000000 (Announce 1 1 1 1 box) (Position 1)
    ∷ by 27 1700000000000000 (HeadWrite 1 1 (codes "a") (guard 6 1700000005000000) (xs 5 16 16) no_conditions) (Changed (change 8 1700000000000000 (xs_row 16 1700000000000000) None))
    ∷ by 27 1700000000000000 (Complete 1 (shard_key 1 1 2) (codes "a") 6 8 (xs_row 16 1700000000000000)) Done
    ∷ []

-- cancels after the head changed
abbrev pub cancelled_changed : List Event
cancelled_changed =
    made 13 0 1
    ++ reads 14 0 1
    ∷ by 14 0 (Prepare 1 shard (codes "b")) (Prepared (guard 5 1000000))
    ∷ by 14 0 (Announce 1 1 1 0 box) (Position 1)
    ∷ by 14 0 (HeadWrite 1 1 (codes "b") (guard 5 1000000) (xs 4 16 0) no_conditions) (Changed (change 7 0 (xs_row 0 0) None))
    ∷ by 14 0 (Cancel 1 shard (codes "b") 5) Done
    ∷ []

-- cancels in another shard than the tag's
abbrev pub cancelled_elsewhere : List Event
cancelled_elsewhere =
    made 4 0 2
    ++ reads 5 0 2
    ∷ by 5 0 (TailMake 1 5 1 (letters 16)) Done
    ∷ reads 6 0 2
    ∷ by 6 0 (Page 1 shard [] 2) (Entries (no_entries 0))
    ∷ by 6 0 (Page 1 (shard_key 1 1 1) [] 2) (Entries (no_entries 0))
    ∷ by 5 5000000 (TailMake 1 5 2 (letters 8)) Done
    ∷ by 5 10000000 (Prepare 1 (shard_key 1 1 1) (codes "a")) (Prepared (guard 11 15000000))
    ∷ by 5 10000000 (Announce 1 1 1 1 box) (Position 1)
    ∷ by 5 15000000 (HeadWrite 1 1 (codes "a") (guard 11 15000000) (xs 5 16 40) no_conditions) (No (Expired 15000000 15000000))
    ∷ by 5 15000000 (Cancel 1 (shard_key 1 1 2) (codes "a") 11) Done
    ∷ []

-- the row of box in zone 2, which has an instance of its own there
abbrev pub row_there : ℕ → ℕ → Bucket
row_there version instance = record (bucket 1 version 1) { shared = 3; instance = instance }

-- a change that was made in zone 2, and its row
abbrev pub row_of_change : RowView
row_of_change = record (xs_row 5 0) { stamp = record { micros = 0; zone = 2 } }

-- in zone 2 a change of k is made and not completed, and put right by another; box is removed, first in zone 1; then the
-- completion finds its shard closed
abbrev pub closed_first : List Event
closed_first =
    made 1 0 1
    ++ reads 2 0 1
    ∷ by 2 0 (BucketRead 2 box) (No Absent)
    ∷ by 2 0 (ShardMake 2 (shard_key 1 4 0)) Done
    ∷ by 2 0 (BucketSwap 2 box 0 (Some (row_there 0 4))) Done
    ∷ reads 3 0 1
    ∷ by 4 0 (BucketRead 2 box) (Row (row_there 7 4))
    ∷ by 4 0 (Prepare 2 (shard_key 1 4 0) k) (Prepared (guard 10 1000000))
    ∷ by 4 0 (Announce 2 1 4 0 box) (Position 1)
    ∷ by 4 0 (HeadWrite 2 1 k (guard 10 1000000) (xs 9 16 5) no_conditions) (Changed (record (change 12 0 row_of_change None) { stamp = row_of_change.stamp }))
    ∷ by 5 1000000 (BucketRead 2 box) (Row (row_there 7 4))
    ∷ by 5 1000000 (Page 2 (shard_key 1 4 0) [] 2) (Entries (one_entry k 0 1 no_row (tag 10 1000000 ∷ []) 1000000))
    ∷ by 5 1000000 (HeadRead 2 1 k) (head_reply (record { version = 12; slot = Live (xs 9 16 5) row_of_change.stamp }) 1000000)
    ∷ by 5 1000000 (Suggest 2 (shard_key 1 4 0) k 1 1000000 12 row_of_change) Done
    ∷ reads 6 1000000 1
    ∷ by 6 1000000 (BucketSwap 1 box 3 (Some (record (bucket 1 3 1) { number = 1; busy = Some (record { number = 1; closing = true }) }))) Done
    ∷ by 6 1000000 (CloseShard 1 shard 1 false) Done
    ∷ by 6 1000000 (BucketSwap 1 box 18 None) Done
    ∷ by 7 1000000 (BucketRead 2 box) (Row (row_there 7 4))
    ∷ by 7 1000000 (BucketRead 1 box) (No Absent)
    ∷ by 7 1000000 (BucketSwap 2 box 7 (Some (record (row_there 7 4) { number = 1; busy = Some (record { number = 1; closing = true }) }))) Done
    ∷ by 7 1000000 (CloseShard 2 (shard_key 1 4 0) 1 true) Done
    ∷ by 7 1000000 (BucketSwap 2 box 23 None) Done
    ∷ by 7 1000000 (Shut 2 (shard_key 1 4 0)) Done
    ∷ by 4 1000000 (Complete 2 (shard_key 1 4 0) k 10 12 row_of_change) (No Closed)
    ∷ []

-- announces a tag whose completion was answered Closed
abbrev pub announced_when_closed : List Event
announced_when_closed = closed_first ++ by 4 1000000 (Announce 2 1 4 0 box) Done ∷ []

-- completes once more in the tag's shard, and then in the shard of a row that was made and read after the answer Closed
abbrev pub completed_elsewhere : List Event
completed_elsewhere =
    closed_first
    ++ by 4 1000000 (Complete 2 (shard_key 1 4 0) k 10 12 row_of_change) (No Closed)
    ∷ by 3 1000000 (BucketRead 2 box) (No Absent)
    ∷ by 3 1000000 (ShardMake 2 (shard_key 1 8 0)) Done
    ∷ by 3 1000000 (BucketSwap 2 box 0 (Some (row_there 0 8))) Done
    ∷ by 4 1000000 (BucketRead 2 box) (Row (row_there 31 8))
    ∷ by 4 1000000 (Complete 2 (shard_key 1 8 0) k 10 12 row_of_change) Done
    ∷ []
