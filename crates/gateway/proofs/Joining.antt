-- A task's request, as what its head asks.
use Rattle.std.proofs.Common.{◌≡◌, List, Result, Ok, Err, sym, subst}
use Rattle.std.specs.Prelude.{IfOk, IfErr}
use Rattle.http_model.specs.declared.head.Head.{Head}
use Rattle.http_model.specs.declared.reply.ReplyForm.{ReplyForm}
use Rattle.realm_model.specs.declared.event.Event.{Event}
use Rattle.swift_requests.specs.declared.asked.Asked.{Asked}
use Rattle.swift_requests.specs.declared.body.BodyUse.{BodyUse}
use Rattle.call_service.specs.Serving.{Site, Side}
use Rattle.call_service.specs.declared.fault.ServeFault.{ServeFault}
use Rattle.call_service.specs.declared.served.Served.{Served}
use Rattle.gateway.specs.Requests.{Serves, Stops}

module _ (tells alone : Type 0) (site : Site) (head : Head) (asked own : Asked) (form : ReplyForm) (z y : Side) (plan : BodyUse) (is_own : asked ≡ own) where
  pub asked_served : (result : Result Served ServeFault) → IfOk result (Serves tells alone site head own plan form z y) → IfOk result (Serves tells alone site head asked plan form z y)
  asked_served (Ok s) x = subst (λ (a : Asked). Serves tells alone site head a plan form z y s) (sym is_own) x
  asked_served (Err fault) x = tt

  pub asked_left : (found : List Event) (result : Result Served ServeFault) → IfErr result (Stops tells alone site form own plan found z y) → IfErr result (Stops tells alone site form asked plan found z y)
  asked_left found (Ok s) x = tt
  asked_left found (Err fault) x = subst (λ (a : Asked). Stops tells alone site form a plan found z y fault) (sym is_own) x
