-- Frames run out: of one frame at the head, when the tail has it; of two at the next object's head.
use Rattle.std.specs.Prelude.{codes, List, [], ◌∷◌, ◌++◌}
use Rattle.object_words.specs.declared.why.Why.TheVariants.{NoSpace}
use Rattle.realm_model.specs.declared.op.Op.TheVariants.{Prepare, Announce, HeadWrite, Cancel, TailMake}
use Rattle.realm_model.specs.declared.event.Reply.TheVariants.{Done, No, Prepared, Position}
use Rattle.realm_model.specs.declared.event.Event.{Event}
use Rattle.realm_model.specs.KnownWords.{by, made, alphabet_put, reads, shard, box, k, guard, hex, content, alphabet, no_conditions}

-- one letter, in stripes of 16 bytes
abbrev pub letter : Event
letter = by 3 0 (HeadWrite 1 1 (codes "a") (guard 11 120000000) (content 10 16 1 (codes "a") (hex (codes "0cc175b9c0f1b6a831c399e269772661"))) no_conditions) (No (NoSpace 0 1))

-- with one frame
abbrev pub at_the_head : List Event
at_the_head =
    made 1 0 1
    ++ reads 2 0 1
    ∷ by 2 0 (TailMake 1 4 1 (codes "qrstuvwxyz")) Done
    ∷ by 2 0 (Prepare 1 shard k) (Prepared (guard 6 120000000))
    ∷ by 2 0 (Announce 1 1 1 0 box) (Position 1)
    ∷ by 2 0 (HeadWrite 1 1 k (guard 6 120000000) (alphabet 4) no_conditions) (No (NoSpace 0 1))
    ∷ by 2 0 (Cancel 1 shard k 6) Done
    ∷ []

-- with two frames
abbrev pub at_the_next : List Event
at_the_next =
    alphabet_put
    ++ reads 3 0 1
    ∷ by 3 0 (Prepare 1 shard (codes "a")) (Prepared (guard 11 120000000))
    ∷ by 3 0 (Announce 1 1 1 0 box) (Position 2)
    ∷ letter
    ∷ by 3 0 (Cancel 1 shard (codes "a") 11) Done
    ∷ []
