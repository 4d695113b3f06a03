-- Which request a command is.
use Rattle.std.proofs.Common.{◌≡◌, inl, ℕ, ◌≤◌, false, List, [], None, Result, IfOk, IfErr, refl, sym, ap, ◌∙◌, subst}
use Rattle.std.proofs.KnownBytes.{Appends-nil}
use Rattle.http_model.specs.declared.reply.ReplyForm.{ReplyForm}
use Rattle.list_words.specs.declared.command.ListCommand.{ListCommand}
use Rattle.list_words.proofs.Keys.{above_marker}
use Rattle.realm_model.specs.Doors.{actor_at}
use Rattle.realm_model.specs.Owns.{OwnEvent, own_events}
use Rattle.realm_model.specs.Accounts.{blank}
use Rattle.realm_model.specs.Histories.{account_of}
use Rattle.realm_model.specs.Settings.{SettingsView}
use Rattle.realm_model.specs.declared.event.Event.{Event}
use Rattle.realm_door.specs.Turns.{FitsAtFirst}
use Rattle.swift_reply.specs.declared.reply.ListingForm.{ListingForm}
use Rattle.swift_requests.specs.declared.asked.Asked.TheVariants.{Unfed}
use Rattle.swift_requests.specs.declared.asked.UnfedCommand.{UnfedCommand}
use Rattle.swift_requests.specs.declared.asked.UnfedCommand.TheVariants.{Get, Listing, Container, Account as OfAccount}
use Rattle.swift_requests.specs.declared.body.BodyUse.{BodyUse}
use Rattle.task_words.specs.declared.asker.Asker.{Asker}
use Rattle.task_words.specs.declared.command.GetCommand.{GetCommand}
use Rattle.task_get.specs.declared.request.GetRequest.{GetRequest}
use Rattle.task_list.specs.declared.request.ListRequest.{ListRequest}
use Rattle.task_account.specs.declared.asked.Asked.{Asked as AskedOfNames}
use Rattle.task_account.specs.declared.asked.Asked.TheVariants.{Counts, Rows}
use Rattle.task_account.specs.declared.request.AccountCommand.{AccountCommand}
use Rattle.task_account.specs.declared.request.AccountRequest.{AccountRequest}
use Rattle.task_account.specs.Asking.{asked_of, IsStart}
use Rattle.task_account.specs.declared.task.AccountTask.{AccountTask}
use Rattle.task_account.specs.Tasks.{IsAccountSoFar, request_of, fits}
use Rattle.task_container.specs.declared.request.ContainerCommand.{ContainerCommand}
use Rattle.task_container.specs.declared.request.ContainerRequest.{ContainerRequest}
use Rattle.task_container.specs.Orders.{IsContainerSoFar}
use Rattle.call_service.specs.Serving.{Site, Side, BearsOutSoFar, IsNew, IsLeft, IsServed, IsStopped, body_of}
use Rattle.call_service.specs.declared.fault.ServeFault.{ServeFault}
use Rattle.call_service.specs.declared.served.Served.{Served}
use Rattle.call_service.proofs.Passing.{none_come}
use Rattle.door_moments.proofs.Asking.{none_asks}
use Rattle.request_service.specs.GetLaws as get
use Rattle.request_service.specs.ListLaws as list
use Rattle.request_service.specs.ContainerLaws as container
use Rattle.request_service.specs.AccountLaws as account
use Rattle.request_service.specs.Requests.{Question, FitsFirst, site_of}

-- a question was served as the same one
module _ (tells alone : Type 0) (settings : SettingsView) (form : ReplyForm) (plan : BodyUse) (x y : Side) (result : Result Served ServeFault) (q r : Question) (same : q ≡ r) where
  pub served_for : IfOk result (IsServed tells alone (site_of settings q) form q.asked plan x y) → IfOk result (IsServed tells alone (site_of settings r) form r.asked plan x y)
  served_for served = subst (λ (q : Question). IfOk result (IsServed tells alone (site_of settings q) form q.asked plan x y)) same served

  pub stopped_for : (found : List Event) → IfErr result (IsStopped tells alone (site_of settings q) form q.asked plan found x y) → IfErr result (IsStopped tells alone (site_of settings r) form r.asked plan found x y)
  stopped_for found stopped = subst (λ (q : Question). IfErr result (IsStopped tells alone (site_of settings q) form q.asked plan found x y)) same stopped

-- ---- nothing was done

-- a text below each name that is asked for
start_of : (asked : AskedOfNames) → (start : List ℕ) × IsStart asked start
start_of Counts = ([], refl)
start_of (Rows c) = (c.marker, above_marker c)

account_unbegun : (r : AccountRequest) (events : List OwnEvent) → events ≡ [] → IsAccountSoFar r events
account_unbegun r events none =
    let start = start_of (asked_of r.command) in
    subst (IsAccountSoFar r) (sym none) (record { start = start.0; begins = start.1; in_order = tt })

container_unbegun : (r : ContainerRequest) (settings : SettingsView) (events : List OwnEvent) → events ≡ [] → IsContainerSoFar r settings events
container_unbegun r settings events none = subst (IsContainerSoFar r settings) (sym none) tt

module _ (tells alone : Type 0) (site : Site) (form : ReplyForm) (asker : Asker) (plan : BodyUse) (x : Side) (sound : (x.intake).failed ≡ None) (new : tells → IsNew site.settings x.door) where
  unbegun : (u : UnfedCommand) → (tells → BearsOutSoFar site (Unfed asker u) (body_of []) x.door) → IsLeft tells alone site form (Unfed asker u) plan x x
  unbegun u so_far = inl (
    body_of [],
    none_come plan x.intake x.ends.left sound,
    false,
    record {
      unwritten = Appends-nil x.ends.taken;
      asks = none_asks tells alone site.settings x.door x.ends.told (λ is. (new is).legal);
      so_far = so_far;
    },
  )

  -- there was no memory for the task
  pub no_container_task : (u : UnfedCommand) (c : ContainerCommand) → u ≡ Container c → IsLeft tells alone site form (Unfed asker u) plan x x
  no_container_task u c is =
      subst (λ u. IsLeft tells alone site form (Unfed asker u) plan x x) (sym is)
      (unbegun (Container c) (λ is. container_unbegun (record { zone = site.zone; asker = asker; command = c }) site.settings (own_events x.door.seen (actor_at x.door)) (new is).events))

  pub no_account_task : (u : UnfedCommand) (c : AccountCommand) (listing : ListingForm) → u ≡ OfAccount c listing → IsLeft tells alone site form (Unfed asker u) plan x x
  no_account_task u c listing is =
      subst (λ u. IsLeft tells alone site form (Unfed asker u) plan x x) (sym is)
      (unbegun (OfAccount c listing) (λ is. account_unbegun (record { zone = site.zone; account = asker.account; command = c }) (own_events x.door.seen (actor_at x.door)) (new is).events))

-- ---- what is asked

-- a command of this zone, for this asker
abbrev pub asks_command : ℕ → Asker → UnfedCommand → Question
asks_command zone asker u = record { zone = zone; asked = Unfed asker u }

pub asks_get : (r : GetRequest) (zone : ℕ) (asker : Asker) (c : GetCommand) (u : UnfedCommand) → r ≡ record { zone = zone; asker = asker; get = c } → u ≡ Get c → get.asks r ≡ asks_command zone asker u
asks_get r zone asker c u request is = ap get.asks request ∙ ap (asks_command zone asker) (sym is)

pub asks_listing : (c : ListRequest × ListingForm) (zone : ℕ) (asker : Asker) (command : ListCommand) (listing : ListingForm) (u : UnfedCommand) → c ≡ (record { zone = zone; asker = asker; command = command }, listing) → u ≡ Listing command listing
    → list.asks c ≡ asks_command zone asker u
asks_listing c zone asker command listing u request is = ap list.asks request ∙ ap (asks_command zone asker) (sym is)

pub asks_container : (r : ContainerRequest) (zone : ℕ) (asker : Asker) (c : ContainerCommand) (u : UnfedCommand) → r ≡ record { zone = zone; asker = asker; command = c } → u ≡ Container c → container.asks r ≡ asks_command zone asker u
asks_container r zone asker c u request is = ap container.asks request ∙ ap (asks_command zone asker) (sym is)

pub asks_account : (c : AccountRequest × account.BesideIt) (zone : ℕ) (asker : Asker) (command : AccountCommand) (listing : ListingForm) (u : UnfedCommand) → c.0 ≡ record { zone = zone; account = asker.account; command = command } → c.1 ≡ (asker.user, listing)
    → u ≡ OfAccount command listing → account.asks c ≡ asks_command zone asker u
asks_account c zone asker command listing u request beside is = (λ i. account.asks (request i, beside i)) ∙ ap (asks_command zone asker) (sym is)

-- the task of an account fits in the zone that it is asked in
pub fits_there : (t : AccountTask) (r : AccountRequest) (settings : SettingsView) → request_of t ≡ r → FitsAtFirst r.zone (fits t) → FitsFirst settings (request_of t).zone (fits t)
fits_there t r settings is first = λ d. subst (λ (zone : ℕ). 1 ≤ zone → zone ≤ settings.zones → account_of settings d.seen (actor_at d) ≡ blank → own_events d.seen (actor_at d) ≡ [] → fits t settings d) (ap (λ (r : AccountRequest). r.zone) (sym is)) (first settings d)
