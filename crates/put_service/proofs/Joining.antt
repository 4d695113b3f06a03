-- The parts of the service of a PUT, one behind the other.
use Rattle.std.proofs.Common.{◌≡◌, ℕ, ◌+◌, ◌-◌, ◌≤◌, List, [], ◌++◌, take, drop, length, refl, sym, ap, ◌∙◌, subst, append_assoc, length-append, length-drop, take-append-drop, arith}
use Rattle.std.proofs.lemmas.List.{take_all, append-nil}
use Rattle.realm_model.specs.Settings.{SettingsView}
use Rattle.realm_model.specs.declared.event.Event.{Event}
use Rattle.realm_door.specs.declared.stepping.Stepping.{Stepping}
use Rattle.task_put.specs.declared.task.PutTask.{PutTask}
use Rattle.task_put.specs.declared.stage.PutRequest.{PutRequest}
use Rattle.task_put.specs.Bodies.{most_bytes}
use Rattle.task_put.specs.Taking.{fed_request}
use Rattle.task_put.specs.Runs.{request_of}
use Rattle.task_put.specs.Tasks.{fed, request_of as stages_request}
use Rattle.call_service.specs.declared.fault.ServeFault.{ServeFault}
use Rattle.call_service.specs.declared.fault.ServeFault.TheVariants as faults
use Rattle.call_service.specs.Replying.{StopsEvent}
use Rattle.put_service.specs.Parts.{Place, IsRefusedStep, StopsBody}

module _ (tells alone : Type 0) (settings : SettingsView) (r : PutRequest) (found : List Event) where
  -- a step was refused behind some of the body
  pub step_stops : (fault : ServeFault) (x y : Place) → StopsEvent tells found fault → IsRefusedStep tells alone settings r x y → StopsBody tells alone settings r found x y fault
  step_stops faults.OutOfMemory x y stops refused = refused
  step_stops faults.Worn x y stops refused = (stops, refused)
  step_stops fault x y stops refused = absurd stops

-- bytes behind bytes
pub fed_behind : (r s t : PutRequest) (first second : List ℕ) → s ≡ fed_request r first → t ≡ fed_request s second → t ≡ fed_request r (first ++ second)
fed_behind r s t first second before behind =
    behind ∙ ap (λ q. fed_request q second) before
    ∙ ap (λ l. record { zone = r.zone; asker = r.asker; command = r.command; bytes = l; end = r.end }) (append_assoc r.bytes first second)

pub request_fed : (t : Stepping PutTask) (u : PutTask) (v : Stepping PutTask) (more : List ℕ) → u ≡ fed t.stages more → request_of v ≡ stages_request u → request_of v ≡ fed_request (request_of t) more
request_fed t u v more is same = same ∙ ap stages_request is

pub fed_none : (r : PutRequest) → fed_request r [] ≡ r
fed_none r = ap (λ l. record { zone = r.zone; asker = r.asker; command = r.command; bytes = l; end = r.end }) (append-nil r.bytes)

-- what is left behind the first bytes
pub seam : (taken xs bytes : List ℕ) (n : ℕ) → taken ++ xs ≡ bytes → (taken ++ take n xs) ++ take (length xs - n) (drop n xs) ≡ bytes
seam taken xs bytes n is =
    append_assoc taken (take n xs) (take (length xs - n) (drop n xs))
    ∙ ap (λ l. taken ++ (take n xs ++ l)) (take_all (length xs - n) (drop n xs) (omega (arith, length-drop n xs)))
    ∙ ap (λ l. taken ++ l) (take-append-drop n xs) ∙ is

pub few_left : (r s : PutRequest) (xs : List ℕ) (n : ℕ) → s ≡ fed_request r (take n xs) → length r.bytes + length xs ≤ most_bytes → length s.bytes + length (take (length xs - n) (drop n xs)) ≤ most_bytes
few_left r s xs n is few =
    let left = take (length xs - n) (drop n xs) in
    let all : length (take n xs ++ left) ≡ length xs = ap length (seam [] xs xs n refl) in
    subst (λ (q : PutRequest). length q.bytes + length left ≤ most_bytes) (sym is)
    (omega (arith, length-append r.bytes (take n xs), length-append (take n xs) left, all, few))
