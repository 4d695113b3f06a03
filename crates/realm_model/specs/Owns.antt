-- An actor's own events, each with its number and the clock at it.
use Rattle.std.specs.Prelude.{◌≡◌, ℕ, ◌+◌, false, List, [], ◌∷◌, if◌then◌else◌}
use Rattle.std.specs.List.{AllByRecursion}
use Rattle.realm_model.specs.States.{clock_at}
use Rattle.realm_model.specs.Phases.{ActorId, Phase}
use Rattle.realm_model.specs.Learnt.{learnt}
use Rattle.realm_model.specs.Worlds.{same_actor, actor_of}
use Rattle.realm_model.specs.declared.op.Op.{Op}
use Rattle.realm_model.specs.declared.event.Reply.{Reply}
use Rattle.realm_model.specs.declared.event.Event.{Event}

-- an operation with its answer, its number, and the clock at it
pub record OwnEvent : Type 0 where
  pub op : Op
  pub reply : Reply
  pub number : ℕ
  pub clock : ℕ

-- the clock is the greatest moment that the events brought so far
abbrev pub clock_after : ℕ → List Event → ℕ
clock_after clock [] = clock
clock_after clock (e ∷ es) = clock_after (clock_at clock e.moment) es

-- those of the events that the actor made, after so many others and from this clock on
abbrev pub own_from : ℕ → ℕ → List Event → ActorId → List OwnEvent
own_from count clock [] actor = []
own_from count clock (e ∷ es) actor =
    let now = clock_at clock e.moment in
    let rest = own_from (count + 1) now es actor in
    if same_actor actor (actor_of e)
    then (record { op = e.op; reply = e.reply; number = count + 1; clock = now } ∷ rest)
    else rest

-- the actor's events in a history
abbrev pub own_events : List Event → ActorId → List OwnEvent
own_events history actor = own_from 0 0 history actor

-- what own events teach, one after another
abbrev pub learnt_from : Phase → List OwnEvent → Phase
learnt_from p [] = p
learnt_from p (e ∷ es) = learnt_from (learnt p e.op e.reply e.number e.clock) es

-- none of the events is by the actor
abbrev pub NoneBy : ActorId → List Event → Type 0
NoneBy actor events = AllByRecursion (λ e. same_actor actor (actor_of e) ≡ false) events
