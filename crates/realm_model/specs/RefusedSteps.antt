-- First steps that an actor may not make, each after events that are legal.
use Rattle.std.specs.Prelude.{codes, ℕ, List, take, [], ◌∷◌, ◌++◌, true, Option, Some, None}
use Rattle.object_words.specs.declared.bucket.Bucket.{Bucket}
use Rattle.object_words.specs.declared.why.Why.TheVariants.{Absent, NoSpace}
use Rattle.object_words.specs.Keys.{shard_key}
use Rattle.object_words.specs.Rows.{no_row}
use Rattle.realm_model.specs.declared.op.Op.TheVariants.{BucketRead, BucketSwap, AccountPage, BucketPage, ShardMake, Prepare, Complete, Cancel, Page, Suggest, HeadRead, HeadWrite, TailMake, Announce}
use Rattle.realm_model.specs.declared.event.Reply.TheVariants.{Done, No, Names, Prepared, Entries, Changed, Position, Head as head_reply}
use Rattle.realm_model.specs.declared.event.Event.{Event}
use Rattle.realm_model.specs.StoppedWriterIsRepaired as stopped
use Rattle.realm_model.specs.KnownWords.{by, then, made, reads, shard, box, k, guard, tag, bucket, change, no_conditions, letters, no_entries, one_entry, shows, shows_nothing, xs, xs_row, hello, hello_row}

-- makes a shard of an instance that is not its own
abbrev pub shard_of_another : List Event
shard_of_another =
    by 42 0 (BucketRead 1 box) (No Absent)
    ∷ by 83 0 (ShardMake 1 shard) Done
    ∷ []

-- swaps a row that it did not read
abbrev pub swapped_unread : List Event
swapped_unread =
    by 19 0 (BucketRead 1 box) (No Absent)
    ∷ by 19 0 (ShardMake 1 shard) Done
    ∷ by 37 0 (BucketSwap 1 box 0 (Some (bucket 1 0 1))) Done
    ∷ []

-- prepares in an instance that it did not see
abbrev pub unseen_instance : List Event
unseen_instance =
    made 20 0 1
    ++ reads 21 0 1
    ∷ by 21 0 (Prepare 1 (shard_key 1 1099511627777 0) k) Done
    ∷ []

-- prepares in a shard that the row does not name for the name
abbrev pub unnamed_shard : List Event
unnamed_shard =
    made 15 0 4
    ++ reads 16 0 4
    ∷ by 16 0 (Prepare 1 (shard_key 1 1 1) (codes "a")) (Prepared (guard 8 1000000))
    ∷ reads 17 1000000 4
    ∷ by 17 1000000 (Prepare 1 (shard_key 1 1 3) (codes "a/2")) Done
    ∷ []

-- prepares with no read of a row
abbrev pub prepared_unread : List Event
prepared_unread =
    made 4 0 1
    ++ reads 5 0 1
    ∷ by 5 0 (HeadRead 1 1 (codes "a")) (head_reply (shows_nothing 5) 0)
    ∷ reads 6 0 1
    ∷ by 7 0 (Prepare 1 shard (codes "m-long-name")) Done
    ∷ []

-- prepares a change of the empty name, of one that is too long, and of one with a byte 0
abbrev pub prepares_name : List ℕ → List Event
prepares_name name = made 1 0 1 ++ reads 2 0 1 ∷ by 2 0 (Prepare 1 shard name) Done ∷ []

abbrev pub prepared_without_name : List Event
prepared_without_name = prepares_name []

abbrev pub prepared_with_long_name : List Event
prepared_with_long_name = prepares_name (letters 1025)

abbrev pub prepared_with_zero : List Event
prepared_with_zero = prepares_name (0 ∷ [])

-- prepares while its tag is open
abbrev pub prepared_twice : List Event
prepared_twice =
    made 4 253402300799999999 4
    ++ reads 5 253402300799999999 4
    ∷ by 5 253402300799999999 (Prepare 1 (shard_key 1 1 1) k) (Prepared (guard 8 253402300919999999))
    ∷ by 5 253402300799999999 (Announce 1 1 1 1 box) (Position 1)
    ∷ by 5 253402300799999999 (HeadWrite 1 1 k (guard 8 253402300919999999) (xs 7 4194304 64) no_conditions) (Changed (change 10 253402300799999999 (xs_row 64 253402300799999999) None))
    ∷ by 5 253402300799999999 (Complete 1 (shard_key 1 1 1) k 8 10 (xs_row 64 253402300799999999)) Done
    ∷ reads 6 253402300799999999 4
    ∷ by 6 253402300799999999 (Prepare 1 (shard_key 1 1 1) k) (Prepared (guard 13 253402300919999999))
    ∷ by 6 253402300799999999 (Prepare 1 (shard_key 1 1 1) k) Done
    ∷ []

-- announces another shard than its tag's
abbrev pub announced_elsewhere : List Event
announced_elsewhere =
    made 13 0 1
    ++ reads 14 1000000 1
    ∷ by 14 1000000 (Prepare 1 shard k) (Prepared (guard 5 2000000))
    ∷ by 14 1000000 (Announce 1 1 1 1 box) Done
    ∷ []

-- announces when its tag is over
abbrev pub announced_late : List Event
announced_late =
    made 11 0 4
    ++ reads 12 0 4
    ∷ by 12 0 (TailMake 1 7 1 (letters 16)) Done
    ∷ by 12 0 (TailMake 1 7 2 (letters 16)) Done
    ∷ by 12 0 (TailMake 1 7 3 (letters 1)) Done
    ∷ by 12 0 (Prepare 1 (shard_key 1 1 1) k) (Prepared (guard 11 5000000))
    ∷ by 12 0 (Announce 1 1 1 1 box) (Position 1)
    ∷ by 12 0 (HeadWrite 1 1 k (guard 11 5000000) (xs 7 16 49) no_conditions) (No (NoSpace 0 1))
    ∷ by 12 0 (Cancel 1 (shard_key 1 1 1) k 11) Done
    ∷ by 12 0 (Announce 1 1 1 1 box) Done
    ∷ []

-- suggests at another revision than it saw
abbrev pub other_revision : List Event
other_revision =
    made 8 0 2
    ++ reads 9 0 2
    ∷ by 9 0 (Page 1 shard [] 1000) (Entries (no_entries 0))
    ∷ by 9 0 (Page 1 (shard_key 1 1 1) [] 1000) (Entries (no_entries 0))
    ∷ reads 10 0 2
    ∷ by 10 0 (Prepare 1 (shard_key 1 1 1) k) (Prepared (guard 9 120000000))
    ∷ by 10 0 (Announce 1 1 1 1 box) (Position 1)
    ∷ reads 11 700000000000 2
    ∷ by 11 700000000000 (Page 1 shard [] 1000) (Entries (no_entries 700000000000))
    ∷ by 11 700000000000 (Page 1 (shard_key 1 1 1) [] 1000) (Entries (one_entry k 0 1 no_row (tag 9 120000000 ∷ []) 700000000000))
    ∷ by 11 700000000000 (HeadRead 1 1 k) (head_reply (shows_nothing 14) 700000000000)
    ∷ by 11 700000000000 (Suggest 1 (shard_key 1 1 1) k 2 700000000000 14 no_row) Done
    ∷ []

-- reads more than 1000 rows at once
abbrev pub long_page : List Event
long_page =
    made 3 0 2
    ++ reads 4 1 2
    ∷ by 4 1 (Page 1 shard [] 1001) Done
    ∷ []

-- reads no row
abbrev pub empty_page : List Event
empty_page =
    made 10 0 2
    ++ reads 12 700000000000 2
    ∷ by 12 700000000000 (Page 1 shard [] 2) (Entries (no_entries 700000000000))
    ∷ by 12 700000000000 (Page 1 (shard_key 1 1 1) [] 0) Done
    ∷ []

-- reads in a zone that the realm does not have
abbrev pub no_zone : List Event
no_zone =
    by 9 0 (BucketRead 2 box) Done
    ∷ []

-- makes a container under a number that is not its own
abbrev pub other_id : List Event
other_id =
    by 1 0 (BucketRead 1 box) (No Absent)
    ∷ by 1 0 (ShardMake 1 (shard_key 2 1 0)) Done
    ∷ by 1 0 (BucketSwap 1 box 0 (Some (record (bucket 1 0 1) { id = 2 }))) Done
    ∷ []

-- makes a container with more shards than it made
abbrev pub more_shards : List Event
more_shards =
    by 1 0 (BucketRead 1 box) (No Absent)
    ∷ by 1 0 (ShardMake 1 shard) Done
    ∷ by 1 0 (BucketSwap 1 box 0 (Some (bucket 1 0 2))) Done
    ∷ []

-- makes a container over one that is there
abbrev pub made_over : List Event
made_over =
    made 1 0 1
    ++ reads 2 0 1
    ∷ by 2 0 (ShardMake 1 (shard_key 4 4 0)) Done
    ∷ by 2 0 (BucketSwap 1 box 3 (Some (bucket 4 3 1))) Done
    ∷ []

-- swaps the row that it read for another
abbrev pub swapped_for : Option Bucket → List Event
swapped_for new = made 1 0 1 ++ reads 2 0 1 ∷ by 2 0 (BucketSwap 1 box 3 new) Done ∷ []

-- the row with another owner, another instance, more shards, a number that none was, a closing, or none
abbrev pub other_owner : List Event
other_owner = swapped_for (Some (record (bucket 1 3 1) { owner = codes "b" }))

abbrev pub other_instance : List Event
other_instance = swapped_for (Some (record (bucket 1 3 1) { instance = 4 }))

abbrev pub other_shards : List Event
other_shards = swapped_for (Some (bucket 1 3 2))

abbrev pub other_number : List Event
other_number = swapped_for (Some (record (bucket 1 3 1) { number = 1 }))

abbrev pub number_in_progress : List Event
number_in_progress = swapped_for (Some (record (bucket 1 3 1) { number = 1; busy = Some (record { number = 2; closing = true }) }))

abbrev pub taken_away : List Event
taken_away = swapped_for None

-- asks for more names than a page has, and for none
abbrev pub many_names : List Event
many_names = by 1 0 (AccountPage 1 (codes "acme") [] 1001) (Names []) ∷ []

abbrev pub no_names : List Event
no_names = by 1 0 (BucketPage 1 [] 0) (Names []) ∷ []

-- puts its shards into a second row
abbrev pub made_again : List Event
made_again =
    made 1 0 1
    ++ by 1 0 (BucketRead 1 (codes "crate")) (No Absent)
    ∷ by 1 0 (BucketSwap 1 (codes "crate") 0 (Some (bucket 1 0 1))) Done
    ∷ []

-- suggests what a read of the head showed that came before the page
abbrev pub head_first : List Event
head_first =
    take 12 stopped.history
    ++ reads 5 121000000 1
    ∷ by 5 121000000 (HeadRead 1 1 k) (head_reply (shows 7 (hello 4) 1000000) 121000000)
    ∷ by 5 121000000 (Page 1 shard [] 1000) (Entries (one_entry k 0 1 no_row (tag 5 121000000 ∷ []) 121000000))
    ∷ by 5 121000000 (Suggest 1 shard k 1 121000000 7 (hello_row 1000000)) Done
    ∷ []

-- suggests what it saw on a page that came before the row was read
abbrev pub page_first : List Event
page_first =
    take 12 stopped.history
    ++ by 5 121000000 (Page 1 shard [] 1000) (Entries (one_entry k 0 1 no_row (tag 5 121000000 ∷ []) 121000000))
    ∷ reads 5 121000000 1
    ∷ by 5 121000000 (HeadRead 1 1 k) (head_reply (shows 7 (hello 4) 1000000) 121000000)
    ∷ by 5 121000000 (Suggest 1 shard k 1 121000000 7 (hello_row 1000000)) Done
    ∷ []

-- suggests where the entry showed no tag due
abbrev pub suggested_early : List Event
suggested_early = then 10 stopped.history (by 3 1000000 (Suggest 1 shard k 1 1000000 7 (hello_row 1000000)) Done)

-- suggests with no read of the head after the page
abbrev pub suggested_unread : List Event
suggested_unread = then 14 stopped.history (by 5 121000000 (Suggest 1 shard k 1 121000000 7 (hello_row 1000000)) Done)

-- suggests another version than the head showed
abbrev pub suggested_newer : List Event
suggested_newer = then 15 stopped.history (by 5 121000000 (Suggest 1 shard k 1 121000000 8 (hello_row 1000000)) Done)

-- suggests another row than the head showed
abbrev pub suggested_otherwise : List Event
suggested_otherwise = then 15 stopped.history (by 5 121000000 (Suggest 1 shard k 1 121000000 7 no_row) Done)
