-- An object of two stripes is read: its head, and a range of its tail. A second one that may only be made anew is refused.
use Rattle.std.specs.Prelude.{codes, List, [], ◌∷◌, ◌++◌, Some}
use Rattle.object_words.specs.declared.why.Why.TheVariants.{NotMet}
use Rattle.object_words.specs.declared.head.EtagRule.TheVariants.{Any}
use Rattle.realm_model.specs.declared.op.Op.TheVariants.{Prepare, Announce, HeadWrite, Cancel, HeadRead, TailMake, TailRead}
use Rattle.realm_model.specs.declared.event.Reply.TheVariants.{Done, No, Prepared, Position, Bytes, Head as head_reply}
use Rattle.realm_model.specs.declared.event.Event.{Event}
use Rattle.realm_model.specs.KnownWords.{by, alphabet_put, reads, shard, box, k, guard, stamp, alphabet, no_conditions, shows}

abbrev pub history : List Event
history =
    alphabet_put
    ++ reads 3 0 1
    ∷ by 3 0 (HeadRead 1 1 k) (head_reply (shows 8 (alphabet 4) 0) 0)
    ∷ by 3 0 (TailRead 1 4 1 3 4) (Bytes (codes "tuvw"))
    ∷ by 3 0 (TailRead 1 4 1 0 10) (Bytes (codes "qrstuvwxyz"))
    ∷ reads 4 0 1
    ∷ by 4 0 (TailMake 1 14 1 (codes "qrstuvwxyz")) Done
    ∷ by 4 0 (Prepare 1 shard k) (Prepared (guard 16 120000000))
    ∷ by 4 0 (Announce 1 1 1 0 box) (Position 2)
    ∷ by 4 0 (HeadWrite 1 1 k (guard 16 120000000) (alphabet 14) (record no_conditions { none = Some Any }))
    (No (NotMet (Some (stamp 0))))
    ∷ by 4 0 (Cancel 1 shard k 16) Done
    ∷ []
