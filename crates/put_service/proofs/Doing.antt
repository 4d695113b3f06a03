-- What a PUT did so far, by where its task stands.
use Rattle.std.proofs.Common.{◌≡◌, inl, ℕ, List, [], ◌++◌, Option, Some, None, refl, sym, ◌∙◌, ap, subst, subst₂, append_assoc}
use Rattle.realm_model.specs.Accounts.{Account, blank}
use Rattle.realm_model.specs.Doors.{DoorView, actor_at}
use Rattle.realm_model.specs.Histories.{account_of}
use Rattle.realm_model.specs.Owns.{OwnEvent, own_events}
use Rattle.realm_model.specs.Settings.{SettingsView}
use Rattle.task_words.specs.declared.asker.Asker.{Asker}
use Rattle.task_words.specs.declared.command.BodyEnd.{BodyEnd}
use Rattle.task_words.specs.Outcomes.{Body}
use Rattle.realm_door.specs.declared.stepping.Stepping.{Stepping}
use Rattle.task_put.specs.declared.stage.PutRequest.{PutRequest}
use Rattle.task_put.specs.declared.task.PutTask.{PutTask}
use Rattle.swift_requests.specs.declared.asked.Asked.TheVariants.{Put}
use Rattle.task_words.specs.declared.command.PutCommand.{PutCommand}
use Rattle.task_put.specs.Bodies.{first_end}
use Rattle.task_put.specs.SoFar.{IsPutSoFar}
use Rattle.call_words.specs.Events.{AreOfPut}
use Rattle.call_service.specs.Serving.{Site, BearsOutSoFar, body_of}
use Rattle.task_put.specs.Fits.{body_of as taken_of}
use Rattle.task_put.specs.Runs.{request_of, fault_of, fits}
use Rattle.task_put.specs.Taking.{fed_request, ended_request}
use Rattle.task_put.proofs.SoFar.{so_far, widened}
use Rattle.put_service.specs.Parts.{DoesSo, HasDone}
use Rattle.put_service.proofs.Orders.{ordered_put}

-- the events of the door's actor are what the task did
pub has_done : (tells : Type 0) (settings : SettingsView) (t : Stepping PutTask) (d : DoorView) → fault_of t ≡ None → (tells → fits t settings d) → HasDone tells settings (request_of t) d
has_done tells settings t d sound up told =
    let done = so_far t settings d sound (up told) in (done, ordered_put (own_events d.seen (actor_at d)) done.ordered)

-- an event that did not come changes nothing
pub still_done : (tells : Type 0) (settings : SettingsView) (r : PutRequest) (d e : DoorView) → (tells → e ≡ d) → HasDone tells settings r d → HasDone tells settings r e
still_done tells settings r d e same done told = subst (DoesSo settings r (taken_of r)) (sym (same told)) (done told)

module _ (tells : Type 0) (settings : SettingsView) (r s : PutRequest) (d : DoorView) (none : r.bytes ≡ []) (unended : r.end ≡ None) where
  -- the task took these bytes, and the request is the one that it began with
  took : (front : List ℕ) → s ≡ fed_request r front → HasDone tells settings s d → tells → DoesSo settings r (record { bytes = front; end = None }) d
  took front is done told =
      let at_request = subst (λ (q : PutRequest). DoesSo settings q (taken_of q) d) is (done told) in
      subst (λ (w : Body). DoesSo settings r w d) (λ i. record { bytes = none i ++ front; end = unended i }) at_request

  -- of a body of which more came
  pub done_of : (given front rest : List ℕ) (end : Option BodyEnd) → given ≡ front ++ rest → s ≡ fed_request r front → HasDone tells settings s d → tells → DoesSo settings r (record { bytes = given; end = end }) d
  done_of given front rest end parts is done told =
      let done_front = took front is done told in
      let account = account_of settings d.seen (actor_at d) in
      let events = own_events d.seen (actor_at d) in
      subst (λ (l : List ℕ). DoesSo settings r (record { bytes = l; end = end }) d) (sym parts)
      (widened settings.stripe r.zone r.asker r.command front rest end account events done_front.0, done_front.1)

  -- of a body that ended so
  pub done_ended : (given : List ℕ) (end : BodyEnd) → s ≡ ended_request (fed_request r given) end → HasDone tells settings s d → tells → DoesSo settings r (record { bytes = given; end = Some end }) d
  done_ended given end is done told =
      let at_request = subst (λ (q : PutRequest). DoesSo settings q (taken_of q) d) is (done told) in
      subst (λ (w : Body). DoesSo settings r w d) (λ i. record { bytes = none i ++ given; end = first_end (unended i) end }) at_request

-- of a body that has not ended, of which these bytes came, the task took some
pub done_more : (tells : Type 0) (settings : SettingsView) (r s : PutRequest) (d : DoorView) → r.end ≡ None → (bytes front rest : List ℕ) → bytes ≡ front ++ rest → s ≡ fed_request r front
    → HasDone tells settings s d → HasDone tells settings (fed_request r bytes) d
done_more tells settings r s d unended bytes front rest parts is done told =
    let at_request = subst (λ (q : PutRequest). DoesSo settings q (taken_of q) d) is (done told) in
    let open_body = subst (λ (e : Option BodyEnd). DoesSo settings r (record { bytes = r.bytes ++ front; end = e }) d) unended at_request in
    let wider = widened settings.stripe r.zone r.asker r.command (r.bytes ++ front) rest r.end (account_of settings d.seen (actor_at d)) (own_events d.seen (actor_at d)) open_body.0 in
    subst (λ (l : List ℕ). DoesSo settings r (record { bytes = l; end = r.end }) d) (append_assoc r.bytes front rest ∙ ap (λ l. r.bytes ++ l) (sym parts)) (wider, open_body.1)

-- an actor that made no event did nothing of it yet
pub nothing_done : (site : Site) (asker : Asker) (c : PutCommand) (d : DoorView) → account_of site.settings d.seen (actor_at d) ≡ blank → own_events d.seen (actor_at d) ≡ [] → BearsOutSoFar site (Put asker c) (body_of []) d
nothing_done site asker c d account none =
    subst₂ (λ (y : Account) (events : List OwnEvent). IsPutSoFar site.settings.stripe site.zone asker c (body_of []) y events × AreOfPut events) (sym account) (sym none)
    (record { ordered = tt; cut = λ more follows. tt; changes = inl refl }, tt)
