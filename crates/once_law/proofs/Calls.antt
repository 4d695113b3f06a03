-- What is so of each call that alone made its events, at one moment, is so of all calls.
use Rattle.std.proofs.Common.{◌≡◌, ℕ, ◌+◌, ◌≤◌, true, List, [], ◌∷◌, ◌++◌, sym, ◌∙◌, ap, subst, arith, append_assoc}
use Rattle.std.specs.List.{AllByRecursion}
use Rattle.std.proofs.lemmas.List.{append-nil}
use Rattle.rgw_model.specs.Stamps.{counted_moment}
use Rattle.object_words.specs.Names.{at}
use Rattle.realm_model.specs.Settings.{SettingsView, IsSettings}
use Rattle.realm_model.specs.Accounts.{blank}
use Rattle.realm_model.specs.Owns.{OwnEvent, own_events, NoneBy}
use Rattle.realm_model.specs.Worlds.{start}
use Rattle.realm_model.specs.Histories.{state_of, account_of, phase_of, Legal}
use Rattle.realm_model.specs.declared.event.Event.{Event}
use Rattle.realm_model.proofs.Others.{account-others, phase-others}
use Rattle.realm_model.proofs.Runs.{legal_front}
use Rattle.realm_door.specs.Steps.{actor_of_pass}
use Rattle.realm_door.proofs.Others.{same_after_others}
use Rattle.swift_requests.specs.declared.asked.Asked.{Asked}
use Rattle.swift_requests.specs.declared.asked.Asked.TheVariants as Asks
use Rattle.swift_requests.specs.declared.asked.UnfedCommand.TheVariants.{Get, Listing, Container, Account as OfAccount}
use Rattle.call_words.specs.Bodies.{Fate}
use Rattle.call_words.specs.Ends.{TaskEnd, on_object}
use Rattle.call_words.specs.Calls.{Ground, alone, task, Call, is_waiting, IsBorneOut, RestsOn, IsLeftByRow, events_for, IsOfNext, actor_after, AreRight}
use Rattle.call_words.specs.Made.{AreBy, AreMadeFor, AreMade}
use Rattle.once_law.specs.Folds.{IsOfObjects, AreOfObjects}
use Rattle.once_law.specs.Maps.{Rows, rows_in}
use Rattle.once_law.specs.Runs.{NoneFrom, IsOpen, AreAt}
use Rattle.once_law.proofs.Calms.{Calm, calm_first, calm_behind}
use Rattle.once_law.proofs.Folding.{none_of_later, OfTasks, gets_of_tasks, puts_of_tasks, lists_of_tasks, keep_rows, first_ops, standing_first, rests_before, unused_behind}
use Rattle.once_law.proofs.Moments.{clock_behind}
use Rattle.once_law.proofs.Open.{keeps_open}
use Rattle.once_law.proofs.Standing.{Standing, stands_behind}

module _ (settings : SettingsView) (good : IsSettings settings) (zone pass moment : ℕ) where
  -- ---- one call

  -- no event before by the actor that a reply rests on
  abbrev IsUnused : Ground → List Event → Type 0
  IsUnused alone before = Unit {0}
  IsUnused (task actor end) before = NoneBy (actor_of_pass pass actor) before

  -- the reply to the call is right, and these events were made for it alone, at the moment
  pub record IsMadeAlone (before first : List Event) (call : Call) (g : Ground) : Type 0 where
    pub of_objects : IsOfObjects call.asked
    pub opened : IsOpen settings before
    pub legal : Legal settings (before ++ first)
    pub low : (state_of settings before).clock ≤ counted_moment moment
    pub at : AreAt moment first
    pub unused : IsUnused g before
    pub made : AreMadeFor pass g first
    pub rests : RestsOn settings zone pass (before ++ first) call.asked call.fate call.request.body call.shown g
    pub left : IsLeftByRow zone call.asked (is_waiting call.asked call.request.head) call.fate (events_for pass (before ++ first) g)

  borne_of_tasks : (asked : Asked) (fate : Fate) (body : List ℕ) (end : TaskEnd) (shown : List ℕ) (y : _) (events : List OwnEvent) → IsOfObjects asked → IsBorneOut settings zone asked fate body end shown y events → OfTasks events
  borne_of_tasks (Asks.Put asker c) fate body (on_object outcome) shown y events of_objects borne = puts_of_tasks events borne.3
  borne_of_tasks (Asks.Unfed asker (Get c)) fate body (on_object outcome) shown y events of_objects borne = gets_of_tasks events borne.0.2
  borne_of_tasks (Asks.Unfed asker (Listing c listing)) fate body (on_object outcome) shown y events of_objects borne = lists_of_tasks events borne.0.2
  borne_of_tasks (Asks.Unfed asker (Container c)) fate body end shown y events of_objects borne = absurd of_objects
  borne_of_tasks (Asks.Unfed asker (OfAccount c listing)) fate body end shown y events of_objects borne = absurd of_objects
  borne_of_tasks (Asks.Unfed asker u) fate body end shown y events of_objects borne = absurd borne.0
  borne_of_tasks asked fate body end shown y events of_objects borne = absurd borne

  -- what holds of the task of such a call
  pub record IsTaskAlone (before first : List Event) (count : ℕ) : Type 0 where
    pub keeps : AllByRecursion (λ e. keeps_open e.op ≡ true) first
    pub at_first : Standing settings before before (account_of settings before (actor_of_pass pass count))
    pub standing : Standing settings before (before ++ first) (account_of settings (before ++ first) (actor_of_pass pass count))
    pub calm : Calm settings good before moment (before ++ first) (account_of settings (before ++ first) (actor_of_pass pass count)) (phase_of settings (before ++ first) (actor_of_pass pass count))

  pub task_alone : (before first : List Event) (call : Call) (count : ℕ) (end : TaskEnd) → IsMadeAlone before first call (task count end) → IsTaskAlone before first count
  task_alone before first call count end m =
      let actor = actor_of_pass pass count in
      let ops = first_ops before first pass count m.unused m.made
      (borne_of_tasks call.asked call.fate call.request.body end call.shown (account_of settings (before ++ first) actor) (own_events (before ++ first) actor) m.of_objects m.rests) in
      let keeps = keep_rows first ops in
      let at_first = standing_first settings before actor m.opened m.unused in
      let account = account-others settings [] before actor m.unused in
      let phase = phase-others settings [] before actor m.unused in
      record {
        keeps = keeps;
        at_first = at_first;
        standing = stands_behind settings before actor before first m.legal m.made keeps at_first;
        calm = calm_behind settings good before moment actor before first m.legal m.made ops m.at at_first
            (subst (λ a. Calm settings good before moment before a (phase_of settings before actor)) (sym account)
            (subst (λ q. Calm settings good before moment before blank q) (sym phase) (calm_first settings good before moment m.low)));
      }

  -- the call left the rows of all zones as they were
  pub rows_kept : (before first : List Event) (call : Call) (g : Ground) → IsMadeAlone before first call g → rows_in settings (before ++ first) ≡ rows_in settings before
  rows_kept before first call alone m = ap (rows_in settings) (ap (λ l. before ++ l) m.made ∙ append-nil before)
  rows_kept before first call (task count end) m =
      let roots = (task_alone before first call count end m).standing.roots in λ i z name. at (roots z i).buckets name

  -- and all containers open
  pub open_kept : (before first : List Event) (call : Call) (g : Ground) → IsMadeAlone before first call g → IsOpen settings (before ++ first)
  open_kept before first call alone m = subst (IsOpen settings) (sym (ap (λ l. before ++ l) m.made ∙ append-nil before)) m.opened
  open_kept before first call (task count end) m = (task_alone before first call count end m).standing.opened

  -- ---- calls

  pub at_both : (xs ys : List Event) → AreAt moment (xs ++ ys) → AreAt moment xs × AreAt moment ys
  at_both [] ys are = (tt, are)
  at_both (x ∷ xs) ys are = let rest = at_both xs ys are.1 in ((are.0, rest.0), rest.1)

  -- what a longer history says of a call, a shorter one says, where those behind made the events in between
  pub alone_before : (before first others : List Event) (next : ℕ) (call : Call) (calls : List Call) (later : List Event) (last : ℕ) (g : Ground) → IsOfObjects call.asked → Legal settings ((before ++ first) ++ others) → NoneFrom pass next before
      → AreRight settings zone pass ((before ++ first) ++ others) (actor_after next g) calls last → IsOfNext next g → AreMadeFor pass g first → AreMade pass calls others later → AreBy pass last later
      → RestsOn settings zone pass ((before ++ first) ++ others) call.asked call.fate call.request.body call.shown g
      → IsLeftByRow zone call.asked (is_waiting call.asked call.request.head) call.fate (events_for pass ((before ++ first) ++ others) g)
      → IsOpen settings before → (state_of settings before).clock ≤ counted_moment moment → AreAt moment first → IsMadeAlone before first call g
  alone_before before first others next call calls later last alone of_objects legal unused right of_next own made by_last rests left opened low at = record {
    of_objects = of_objects;
    opened = opened;
    legal = legal_front settings (start settings) (before ++ first) others legal;
    low = low;
    at = at;
    unused = tt;
    made = own;
    rests = rests;
    left = left;
  }
  alone_before before first others next call calls later last (task actor end) of_objects legal unused right of_next own made by_last rests left opened low at =
      let e : actor ≡ next = of_next in
      let none = none_of_later pass next (next + 1) calls others later last (omega arith) settings zone ((before ++ first) ++ others) right made by_last in
      let none_here = subst (λ a. NoneBy (actor_of_pass pass a) others) (sym e) none in
      record {
        of_objects = of_objects;
        opened = opened;
        legal = legal_front settings (start settings) (before ++ first) others legal;
        low = low;
        at = at;
        unused = unused actor (omega (arith, e));
        made = own;
        rests = rests_before settings zone pass (before ++ first) others next (task actor end) call.asked call.fate call.request.body call.shown of_next none rests;
        left = subst (IsLeftByRow zone call.asked (is_waiting call.asked call.request.head) call.fate) (same_after_others settings (before ++ first) others (actor_of_pass pass actor) none_here).events left;
      }

  module _ (P : (ℕ → Rows) → Call → Type 0) (one : (before first : List Event) (call : Call) → IsMadeAlone before first call call.ground → P (rows_in settings before) call) where
    pub each : (before more : List Event) (next : ℕ) (calls : List Call) (last : ℕ) (later : List Event) → AreOfObjects calls → Legal settings (before ++ more) → NoneFrom pass next before → AreRight settings zone pass (before ++ more) next calls last
        → AreMade pass calls more later → AreBy pass last later → IsOpen settings before → (state_of settings before).clock ≤ counted_moment moment → AreAt moment more → AllByRecursion (P (rows_in settings before)) calls
    each before more next [] last later of_objects legal unused right made by_last opened low at = tt
    each before more next (call ∷ calls) last later of_objects legal unused right (first, others, both, own, made) by_last opened low at =
        let whole_is : before ++ more ≡ (before ++ first) ++ others = ap (λ l. before ++ l) both ∙ sym (append_assoc before first others) in
        let legal' = subst (Legal settings) whole_is legal in
        let right' = subst (λ l. AreRight settings zone pass l next (call ∷ calls) last) whole_is right in
        let ats = at_both first others (subst (AreAt moment) both at) in
        let m = alone_before before first others next call calls later last call.ground of_objects.0 legal' unused right'.2 right'.0 own made by_last right'.1.0 right'.1.1 opened low ats.0 in
        let rest = each (before ++ first) others (actor_after next call.ground) calls last later of_objects.1 legal' (unused_behind settings good zone pass (λ count. 0) next call.ground before first right'.0 own unused) right'.2 made by_last (open_kept before first call call.ground m)
        (clock_behind settings before first moment low ats.0) ats.1 in
        (one before first call m, subst (λ rows. AllByRecursion (P rows) calls) (rows_kept before first call call.ground m) rest)
