-- Events that come in the order of a PUT are such as a PUT makes.
use Rattle.std.proofs.Common.{◌≡◌, ◌⊎◌, inl, inr, true, List, [], ◌∷◌, refl}
use Rattle.realm_model.specs.Owns.{OwnEvent}
use Rattle.realm_model.specs.declared.op.Op.{Op}
use Rattle.realm_model.specs.declared.op.Op.TheVariants.{BucketRead, Prepare, Complete, Cancel, HeadWrite, TailMake, Announce}
use Rattle.realm_model.specs.declared.event.Reply.{Reply}
use Rattle.index_update.specs.Paths.{turned, ready, prepared, announced, changed, refused, adrift, finished as over, astray as off}
use Rattle.task_put.specs.Orders.{Path, begun, feeding, updating, finished, astray, path_after, path_from, path_of, IsOrdered, IsFinished}
use Rattle.task_put.proofs.Ordering.{finished_ordered}
use Rattle.call_words.specs.Events.{is_of_put, AreOfPut}

-- an event came where it may not, of the body or of an update
abbrev IsAstray : Path → Type 0
IsAstray astray = Unit {0}
IsAstray (updating off) = Unit {0}
IsAstray path = ⊥

-- what went astray stays astray
body_astray : (events : List OwnEvent) → IsOrdered (path_from astray events) → ⊥
body_astray [] is = is
body_astray (e ∷ es) is = body_astray es is

update_astray : (events : List OwnEvent) → IsOrdered (path_from (updating off) events) → ⊥
update_astray [] is = is
update_astray (e ∷ es) is = update_astray es is

still_astray : (path : Path) (events : List OwnEvent) → IsAstray path → IsOrdered (path_from path events) → ⊥
still_astray astray events gone is = body_astray events is
still_astray (updating off) events gone is = update_astray events is
still_astray path events gone is = absurd gone

-- an event of another kind leads astray, wherever it comes
kind_is : (path : Path) (op : Op) (reply : Reply) → (is_of_put op ≡ true) ⊎ IsAstray (path_after path op reply)
kind_is path (BucketRead zone name) reply = inl refl
kind_is path (TailMake zone write part bytes) reply = inl refl
kind_is path (Prepare zone key name) reply = inl refl
kind_is path (Announce zone container instance shard bucket) reply = inl refl
kind_is path (HeadWrite zone container name guard new when) reply = inl refl
kind_is path (Complete zone key name tag version row) reply = inl refl
kind_is path (Cancel zone key name tag) reply = inl refl
kind_is begun op reply = inr tt
kind_is feeding op reply = inr tt
kind_is (updating turned) op reply = inr tt
kind_is (updating ready) op reply = inr tt
kind_is (updating prepared) op reply = inr tt
kind_is (updating announced) op reply = inr tt
kind_is (updating changed) op reply = inr tt
kind_is (updating refused) op reply = inr tt
kind_is (updating adrift) op reply = inr tt
kind_is (updating over) op reply = inr tt
kind_is (updating off) op reply = inr tt
kind_is finished op reply = inr tt
kind_is astray op reply = inr tt

from_path : (path : Path) (events : List OwnEvent) → IsOrdered (path_from path events) → AreOfPut events
from_path path [] ordered = tt
from_path path (e ∷ es) ordered =
    let rest = from_path (path_after path e.op e.reply) es ordered in
    elim (kind_is path e.op e.reply) [
      | inl is ↦ (is, rest)
      | inr gone ↦ absurd (still_astray (path_after path e.op e.reply) es gone ordered)
    ]

pub ordered_put : (events : List OwnEvent) → IsOrdered (path_of events) → AreOfPut events
ordered_put events ordered = from_path begun events ordered

pub of_put : (events : List OwnEvent) → IsFinished (path_of events) → AreOfPut events
of_put events ended = ordered_put events (finished_ordered (path_of events) ended)
