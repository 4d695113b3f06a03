-- A reader sees the head of an object of two stripes. Before it reads the tail, another actor replaces the object.
use Rattle.std.specs.Prelude.{codes, List, [], ◌∷◌, ◌++◌, Some}
use Rattle.realm_model.specs.declared.op.Op.TheVariants.{Prepare, Announce, HeadRead, HeadWrite, TailRead}
use Rattle.realm_model.specs.declared.event.Reply.TheVariants.{Prepared, Position, Bytes, Head as head_reply, Changed as changed_reply}
use Rattle.realm_model.specs.declared.event.Event.{Event}
use Rattle.realm_model.specs.KnownWords.{by, alphabet_put, reads, shard, box, k, guard, alphabet, manifest, hello, hello_row, change, no_conditions, shows}

abbrev pub before : List Event
before = alphabet_put ++ reads 3 0 1 ∷ []

abbrev pub read : Event
read = by 3 0 (HeadRead 1 1 k) (head_reply (shows 8 (alphabet 4) 0) 0)

-- up to the read of the tail
abbrev pub between : List Event
between =
    reads 4 0 1
    ∷ by 4 0 (Prepare 1 shard k) (Prepared (guard 13 120000000))
    ∷ by 4 0 (Announce 1 1 1 0 box) (Position 2)
    ∷ by 4 0 (HeadWrite 1 1 k (guard 13 120000000) (hello 12) no_conditions)
    (changed_reply (change 15 1 (hello_row 1) (Some (manifest 4 16 26))))
    ∷ []

abbrev pub tail : Event
tail = by 3 0 (TailRead 1 4 1 0 10) (Bytes (codes "qrstuvwxyz"))

abbrev pub later : List Event
later = between ++ tail ∷ []

abbrev pub history : List Event
history = before ++ read ∷ later
