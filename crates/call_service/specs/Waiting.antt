-- A PUT whose client waits for a 100 (RFC 9110, section 10.1.1): the row of the container is read, and then a 100 is written
-- before the body is read; or the body is left.
use Rattle.std.specs.Prelude.{◌≡◌, ◌⊎◌, ℕ, Bool, true, false, List, []}
use Rattle.std.specs.Io.KnownBytes.{Consumes, Appends}
use Rattle.http_model.specs.declared.reply.ReplyForm.{ReplyForm}
use Rattle.realm_model.specs.Doors.{actor_at}
use Rattle.realm_model.specs.Owns.{own_events}
use Rattle.realm_model.specs.declared.event.Event.{Event}
use Rattle.swift_auth.specs.declared.policy.Deed.TheVariants.{ChangeThing}
use Rattle.swift_requests.specs.declared.asked.Asked.TheVariants.{Put}
use Rattle.swift_requests.specs.declared.body.BodyUse.TheVariants.{Fed, Unread}
use Rattle.task_words.specs.declared.asker.Asker.{Asker}
use Rattle.task_words.specs.declared.command.PutCommand.{PutCommand}
use Rattle.call_words.specs.Calls.{ReadsRowAlone, ReadsRowFirst, first_refuses}
use Rattle.call_words.specs.Texts.{continue_text}
use Rattle.call_service.specs.declared.fault.ServeFault.{ServeFault}
use Rattle.call_service.specs.declared.fault.ServeFault.TheVariants as faults
use Rattle.call_service.specs.declared.served.Served.{Served}
use Rattle.call_service.specs.declared.served.Served.TheVariants as services
use Rattle.call_service.specs.Serving.{Site, Side, AppendsFront, BearsOutSoFar, body_of, IsServed, IsStopped}
use Rattle.door_moments.specs.Acts.{Asks}

-- the row of the container grants the PUT, and nothing of the body was read: of a 100 was written what this says
pub record Answers (tells alone : Type 0) (site : Site) (asker : Asker) (c : PutCommand) (x z : Side) (grown : List ℕ → Type 0) : Type 0 where
  pub written : grown continue_text
  pub intake : z.intake ≡ x.intake
  pub unread : Consumes x.ends.left z.ends.left []
  pub asks : Asks tells alone site.settings false x.door z.door x.ends.told z.ends.told
  pub looks : tells → ReadsRowAlone site.zone c.container (own_events z.door.seen (actor_at z.door))
  pub granted : tells → first_refuses asker ChangeThing (own_events z.door.seen (actor_at z.door)) ≡ false
  pub so_far : tells → BearsOutSoFar site (Put asker c) (body_of []) z.door

-- the 100 was written
abbrev pub Continues : Type 0 → Type 0 → Site → Asker → PutCommand → Side → Side → Type 0
Continues tells alone site asker c x z = Answers tells alone site asker c x z (Appends x.ends.taken z.ends.taken)

-- what follows it goes on from there
pub record IsBehindContinue (tells alone : Type 0) (site : Site) (asker : Asker) (c : PutCommand) (x : Side) (Goes : Side → Type 0) : Type 0 where
  pub between : Side
  pub continues : Continues tells alone site asker c x between
  pub goes : Goes between

-- the row of the container was read first, and refuses the PUT
abbrev pub RefusesFirst : Type 0 → Site → Asker → PutCommand → Side → Type 0
RefusesFirst tells site asker c y =
    tells → ReadsRowFirst site.zone c.container (own_events y.door.seen (actor_at y.door))
    × (first_refuses asker ChangeThing (own_events y.door.seen (actor_at y.door)) ≡ true)

-- the body was left and the reply closes the connection; or it was served behind the 100
abbrev pub IsServedWaiting : Type 0 → Type 0 → Site → ReplyForm → Asker → PutCommand → Side → Side → Served → Type 0
IsServedWaiting tells alone site form asker c x y served =
    ((served ≡ services.Closed) × IsServed tells alone site form (Put asker c) Unread x y services.Closed × RefusesFirst tells site asker c y)
    ⊎ IsBehindContinue tells alone site asker c x (λ z. IsServed tells alone site form (Put asker c) Fed z y served)

-- the fault came before the 100 was written, or behind it; or it was not written whole
abbrev pub IsStoppedWaiting : Type 0 → Type 0 → Site → ReplyForm → Asker → PutCommand → List Event → Side → Side → ServeFault → Type 0
IsStoppedWaiting tells alone site form asker c found x y fault =
    IsStopped tells alone site form (Put asker c) Unread found x y fault
    ⊎ (((fault ≡ faults.WriteFault) × Answers tells alone site asker c x y (AppendsFront x.ends.taken y.ends.taken))
    ⊎ IsBehindContinue tells alone site asker c x (λ z. IsStopped tells alone site form (Put asker c) Fed found z y fault))

-- where the client waits, or not
abbrev pub IsPutServed : Bool → Type 0 → Type 0 → Site → ReplyForm → Asker → PutCommand → Side → Side → Served → Type 0
IsPutServed false tells alone site form asker c x y served = IsServed tells alone site form (Put asker c) Fed x y served
IsPutServed true tells alone site form asker c x y served = IsServedWaiting tells alone site form asker c x y served

abbrev pub IsPutStopped : Bool → Type 0 → Type 0 → Site → ReplyForm → Asker → PutCommand → List Event → Side → Side → ServeFault → Type 0
IsPutStopped false tells alone site form asker c found x y fault = IsStopped tells alone site form (Put asker c) Fed found x y fault
IsPutStopped true tells alone site form asker c found x y fault = IsStoppedWaiting tells alone site form asker c found x y fault
