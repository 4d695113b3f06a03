-- Tails that an actor may not make or name, each after events that are legal.
use Rattle.std.specs.Prelude.{codes, List, [], ◌∷◌, ◌++◌, None}
use Rattle.object_words.specs.Keys.{shard_key}
use Rattle.realm_model.specs.declared.op.Op.TheVariants.{Prepare, Complete, Page, HeadRead, HeadWrite, TailMake, TailRead, Announce, Stats as stats_op}
use Rattle.realm_model.specs.declared.event.Reply.TheVariants.{Done, Prepared, Entries, Stats, Changed, Bytes, Position, Head as head_reply}
use Rattle.realm_model.specs.declared.event.Event.{Event}
use Rattle.realm_model.specs.TailsAreRead as tails
use Rattle.realm_model.specs.KnownWords.{by, then, made, reads, shard, box, k, guard, change, stats, no_conditions, letters, no_entries, shows_nothing, xs, xs_row}

-- makes a tail of a write that is not its own
abbrev pub other_write : List Event
other_write =
    made 17 0 1
    ++ reads 18 0 1
    ∷ by 18 0 (TailMake 1 1099511627780 1 (letters 16)) Done
    ∷ []

-- makes a tail and leaves out the part before it
abbrev pub part_skipped : List Event
part_skipped =
    made 12 0 2
    ++ reads 13 8000001 2
    ∷ by 13 8000001 (TailMake 1 5 2 (letters 16)) Done
    ∷ []

-- makes one tail twice
abbrev pub made_twice : List Event
made_twice =
    made 7 0 2
    ++ reads 8 1 2
    ∷ by 8 1 (TailMake 1 5 1 (letters 16)) Done
    ∷ by 8 1 (TailMake 1 5 1 (letters 16)) Done
    ∷ []

-- makes a tail of more bytes than a stripe has
abbrev pub too_long : List Event
too_long =
    made 9 0 3
    ++ reads 10 0 3
    ∷ by 10 0 (Page 1 shard [] 1000) (Entries (no_entries 0))
    ∷ by 10 0 (Page 1 (shard_key 1 1 1) [] 1000) (Entries (no_entries 0))
    ∷ by 10 0 (Page 1 (shard_key 1 1 2) [] 1000) (Entries (no_entries 0))
    ∷ reads 11 0 3
    ∷ by 11 0 (TailMake 1 10 1 (letters 17)) Done
    ∷ []

-- makes a tail of no bytes
abbrev pub without_bytes : List Event
without_bytes =
    made 32 0 4
    ++ reads 33 0 4
    ∷ by 33 0 (Prepare 1 (shard_key 1 1 1) k) (Prepared (guard 8 5000000))
    ∷ by 33 0 (Announce 1 1 1 1 box) (Position 1)
    ∷ by 33 0 (HeadWrite 1 1 k (guard 8 5000000) (xs 7 16 5) no_conditions) (Changed (change 10 0 (xs_row 5 0) None))
    ∷ by 33 0 (Complete 1 (shard_key 1 1 1) k 8 10 (xs_row 5 0)) Done
    ∷ reads 34 0 4
    ∷ by 34 0 (TailMake 1 12 1 []) Done
    ∷ []

-- names fewer tails than it made
abbrev pub part_left_out : List Event
part_left_out =
    made 8 0 1
    ++ reads 9 0 1
    ∷ by 9 0 (stats_op 1 shard) (Stats (stats 0 0 0))
    ∷ reads 10 0 1
    ∷ by 10 0 (stats_op 1 shard) (Stats (stats 0 0 0))
    ∷ reads 11 0 1
    ∷ by 11 0 (HeadRead 1 1 k) (head_reply (shows_nothing 9) 0)
    ∷ reads 12 0 1
    ∷ by 12 0 (TailMake 1 10 1 (letters 16)) Done
    ∷ by 12 0 (TailMake 1 10 2 (letters 16)) Done
    ∷ by 12 0 (Prepare 1 shard k) (Prepared (guard 13 1000000))
    ∷ by 12 0 (Announce 1 1 1 0 box) (Position 1)
    ∷ by 12 0 (HeadWrite 1 1 k (guard 13 1000000) (xs 10 16 32) no_conditions) Done
    ∷ []

-- names more tails than it made
abbrev pub part_not_made : List Event
part_not_made =
    made 20 5 3
    ++ reads 21 5 3
    ∷ by 21 5 (TailMake 1 6 1 (letters 16)) Done
    ∷ by 21 5 (TailMake 1 6 2 (letters 8)) Done
    ∷ by 21 5 (Prepare 1 (shard_key 1 1 2) (codes "a")) (Prepared (guard 9 120000005))
    ∷ by 21 5 (Announce 1 1 1 2 box) (Position 1)
    ∷ by 21 5 (HeadWrite 1 1 (codes "a") (guard 9 120000005) (xs 6 16 56) no_conditions) Done
    ∷ []

-- writes content without tails while a tail that it made of the same write is open
abbrev pub tail_left_open : List Event
tail_left_open =
    made 1 0 1
    ++ reads 2 0 1
    ∷ by 2 0 (TailMake 1 4 1 (letters 16)) Done
    ∷ by 2 0 (Prepare 1 shard k) (Prepared (guard 6 120000000))
    ∷ by 2 0 (Announce 1 1 1 0 box) (Position 1)
    ∷ by 2 0 (HeadWrite 1 1 k (guard 6 120000000) (xs 4 16 5) no_conditions) Done
    ∷ []

-- names tails of a write that is not its own
abbrev pub tails_of_another : List Event
tails_of_another =
    made 23 1700000000000000 1
    ++ reads 24 1700000000000000 1
    ∷ by 24 1700000000000000 (TailMake 1 4 1 (letters 16)) Done
    ∷ by 24 1700000000000000 (TailMake 1 4 2 (letters 16)) Done
    ∷ by 24 1700000000000000 (Prepare 1 shard k) (Prepared (guard 7 1700000120000000))
    ∷ by 24 1700000000000000 (Announce 1 1 1 0 box) (Position 1)
    ∷ by 24 1700000000000000 (HeadWrite 1 1 k (guard 7 1700000120000000) (xs 1099511627780 16 48) no_conditions) Done
    ∷ []

-- makes a tail anew that its head names
abbrev pub made_anew : List Event
made_anew =
    made 13 253402300799999999 2
    ++ reads 14 253402300799999999 2
    ∷ by 14 253402300799999999 (Page 1 shard [] 1000) (Entries (no_entries 253402300799999999))
    ∷ by 14 253402300799999999 (Page 1 (shard_key 1 1 1) [] 1000) (Entries (no_entries 253402300799999999))
    ∷ reads 15 253402300799999999 2
    ∷ by 15 253402300799999999 (Page 1 shard [] 1000) (Entries (no_entries 253402300799999999))
    ∷ by 15 253402300799999999 (Page 1 (shard_key 1 1 1) [] 1000) (Entries (no_entries 253402300799999999))
    ∷ reads 16 253402300799999999 2
    ∷ by 16 253402300799999999 (TailMake 1 11 1 (codes "qrstuvwxyz")) Done
    ∷ by 16 253402300799999999 (Prepare 1 (shard_key 1 1 1) (codes "a")) (Prepared (guard 13 253402300919999999))
    ∷ by 16 253402300799999999 (Announce 1 1 1 1 box) (Position 1)
    ∷ by 16 253402300799999999 (HeadWrite 1 1 (codes "a") (guard 13 253402300919999999) (xs 11 16 26) no_conditions) (Changed (change 15 253402300799999999 (xs_row 26 253402300799999999) None))
    ∷ by 16 253402300799999999 (TailMake 1 11 1 (codes "y")) Done
    ∷ []

-- reads a tail of an object that it did not see
abbrev pub read_unseen : List Event
read_unseen = then 11 tails.history (by 4 0 (TailRead 1 4 1 0 1) (Bytes (codes "q")))

-- reads beyond the bytes that the manifest gives the tail
abbrev pub read_beyond : List Event
read_beyond = then 11 tails.history (by 3 0 (TailRead 1 4 1 3 8) (Bytes (codes "tuvwxyz")))

-- reads a tail that the object does not have
abbrev pub read_further : List Event
read_further = then 11 tails.history (by 3 0 (TailRead 1 4 2 0 1) (Bytes []))
