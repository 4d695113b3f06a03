-- Calls, one after another.
use Rattle.std.proofs.Common.{◌≡◌, ℕ, ◌+◌, ◌≤◌, ◌<◌, ◌^◌, ◌==◌, Bool, true, false, cond, List, [], ◌∷◌, ◌++◌, length, Some, None, Option, refl, sym, ◌∙◌, ap, subst, arith, append_assoc}
use Rattle.std.specs.List.{AllByRecursion}
use Rattle.std.proofs.lemmas.List.{append-nil}
use Rattle.std.proofs.lemmas.Bool.Decides.{nat_tests}
use Rattle.object_words.specs.Names.{at}
use Rattle.object_words.proofs.KeyLemmas.{number_itself}
use Rattle.realm_model.specs.Settings.{SettingsView, IsSettings}
use Rattle.realm_model.specs.States.{clock_at}
use Rattle.realm_model.specs.Phases.{ActorId}
use Rattle.realm_model.specs.Accounts.{Decided, Account, blank}
use Rattle.realm_model.specs.Owns.{OwnEvent, clock_after, own_from, own_events, NoneBy}
use Rattle.realm_model.specs.Worlds.{start, same_actor, actor_of}
use Rattle.realm_model.specs.Histories.{Doings, state_of, account_of, Legal}
use Rattle.realm_model.specs.declared.op.Op.{Op}
use Rattle.realm_model.specs.declared.op.Op.TheVariants.{BucketRead, Page, Suggest, Prepare, Complete, Cancel, HeadRead, HeadWrite, TailMake, TailRead, Announce}
use Rattle.realm_model.specs.declared.event.Event.{Event}
use Rattle.realm_model.proofs.ObjectLemmas.{actor_itself}
use Rattle.realm_model.proofs.Others.{account-others}
use Rattle.realm_model.proofs.Runs.{legal_front}
use Rattle.realm_door.specs.Steps.{actor_of_pass}
use Rattle.realm_door.proofs.Others.{own-append, same_after_others}
use Rattle.swift_requests.specs.declared.asked.Asked.{Asked}
use Rattle.swift_requests.specs.declared.asked.Asked.TheVariants as Asks
use Rattle.swift_requests.specs.declared.asked.UnfedCommand.TheVariants.{Get, Listing, Container, Account as OfAccount}
use Rattle.task_words.specs.declared.asker.Asker.{Asker}
use Rattle.task_words.specs.Answers.{Command}
use Rattle.call_words.specs.Bodies.{Fate}
use Rattle.call_words.specs.Ends.{TaskEnd, on_object}
use Rattle.call_words.specs.Calls.{Ground, alone, task, Call, IsBorneOut, RestsOn, IsOfNext, actor_after, AreRight}
use Rattle.call_words.specs.Events.{is_of_get, is_of_put, AreOfGet, AreOfPut}
use Rattle.task_list.specs.Listed.{is_of_listing, AreOfListing}
use Rattle.call_words.specs.Made.{AreBy, AreMadeFor, AreMade}
use Rattle.once_law.specs.Maps.{rows_in, slots_in}
use Rattle.once_law.specs.Folds.{IsOfObjects, AreOfObjects, command_in, IsSaidTo, left_behind, AreFolded, slots_behind}
use Rattle.once_law.specs.Runs.{NoneFrom, IsOpen, AreClocks, fixed_by, AreOfMaps}
use Rattle.once_law.proofs.Open.{keeps_open}
use Rattle.once_law.proofs.Standing.{Standing, stands_first, stands_behind}
use Rattle.once_law.proofs.Calm.{is_of_task, task_keeps}
use Rattle.once_law.proofs.Stamps.{found_early}
use Rattle.once_law.proofs.Cutting.{get_told, put_told, list_told}
use Rattle.once_law.proofs.Listing.{AreReads, list_done}

-- ---- operations

get_tasks : (op : Op) → is_of_get op ≡ true → is_of_task op ≡ true
get_tasks (BucketRead zone name) is = refl
get_tasks (HeadRead zone container name) is = refl
get_tasks (TailRead zone write part begin count) is = refl
get_tasks op is = let e : false ≡ true = is in absurd (cc)

put_tasks : (op : Op) → is_of_put op ≡ true → is_of_task op ≡ true
put_tasks (BucketRead zone name) is = refl
put_tasks (TailMake zone write part bytes) is = refl
put_tasks (Prepare zone key name) is = refl
put_tasks (Announce zone container instance shard bucket) is = refl
put_tasks (HeadWrite zone container name guard new when) is = refl
put_tasks (Complete zone key name tag version row) is = refl
put_tasks (Cancel zone key name tag) is = refl
put_tasks op is = let e : false ≡ true = is in absurd (cc)

list_tasks : (op : Op) → is_of_listing op ≡ true → is_of_task op ≡ true
list_tasks (BucketRead zone name) is = refl
list_tasks (Page zone key after limit) is = is
list_tasks (Suggest zone key name revision seen version row) is = refl
list_tasks (HeadRead zone container name) is = refl
list_tasks op is = let e : false ≡ true = is in absurd (cc)

abbrev pub OfTasks : List OwnEvent → Type 0
OfTasks events = AllByRecursion (λ e. is_of_task e.op ≡ true) events

pub gets_of_tasks : (events : List OwnEvent) → AreOfGet events → OfTasks events
gets_of_tasks [] are = tt
gets_of_tasks (e ∷ es) are = (get_tasks e.op are.0, gets_of_tasks es are.1)

pub puts_of_tasks : (events : List OwnEvent) → AreOfPut events → OfTasks events
puts_of_tasks [] are = tt
puts_of_tasks (e ∷ es) are = (put_tasks e.op are.0, puts_of_tasks es are.1)

pub lists_of_tasks : (events : List OwnEvent) → AreOfListing events → OfTasks events
lists_of_tasks [] are = tt
lists_of_tasks (e ∷ es) are = (list_tasks e.op are.0, lists_of_tasks es are.1)

pub keep_rows : (es : List Event) → AllByRecursion (λ e. is_of_task e.op ≡ true) es → AllByRecursion (λ e. keeps_open e.op ≡ true) es
keep_rows [] are = tt
keep_rows (e ∷ es) are = (task_keeps e.op are.0, keep_rows es are.1)

-- ---- actors

different : (a b : ℕ) → (a ≡ b → ⊥) → (a == b) ≡ false
different a b apart = grind (arith, nat_tests)

pub none_of_other : (pass count other : ℕ) (events : List Event) → (count ≡ other → ⊥) → AreBy pass other events → NoneBy (actor_of_pass pass count) events
none_of_other pass count other [] apart by = tt
none_of_other pass count other (e ∷ es) apart by = (
  subst (λ a. same_actor (actor_of_pass pass count) a ≡ false) (sym by.0) (rw (number_itself pass) (different count other apart)),
  none_of_other pass count other es apart by.1,
)

none_both : (actor : ActorId) (xs ys : List Event) → NoneBy actor xs → NoneBy actor ys → NoneBy actor (xs ++ ys)
none_both actor [] ys first second = second
none_both actor (x ∷ xs) ys first second = (first.0, none_both actor xs ys first.1 second)

-- the events of calls from an actor on are none of one before
pub none_of_later : (pass count next : ℕ) (calls : List Call) (events later : List Event) (last : ℕ) → count < next
    → (settings : SettingsView) (zone : ℕ) (history : List Event) → AreRight settings zone pass history next calls last
    → AreMade pass calls events later → AreBy pass last later → NoneBy (actor_of_pass pass count) events
none_of_later pass count next [] events later last low settings zone history right made by =
    let end : next ≡ last = right in
    subst (NoneBy (actor_of_pass pass count)) (sym made) (none_of_other pass count last later (λ same. omega (arith, same, low, end)) by)
none_of_later pass count next (call ∷ calls) events later last low settings zone history right (first, others, both, own, made) by =
    subst (NoneBy (actor_of_pass pass count)) (sym both)
    (none_both (actor_of_pass pass count) first others (by_ground call.ground right.0 own)
    (none_of_later pass count (actor_after next call.ground) calls others later last (further call.ground) settings zone history right.2 made by))
  where
    by_ground : (g : Ground) → IsOfNext next g → AreMadeFor pass g first → NoneBy (actor_of_pass pass count) first
    by_ground alone of_next own = subst (NoneBy (actor_of_pass pass count)) (sym own) tt
    by_ground (task actor end) of_next own =
        let e : actor ≡ next = of_next in none_of_other pass count actor first (λ same. omega (arith, same, low, e)) own

    further : (g : Ground) → count < actor_after next g
    further alone = low
    further (task actor end) = omega (arith, low)

-- ---- own events

module _ (test : Op → Bool) where
  abbrev Pass : List OwnEvent → Type 0
  Pass events = AllByRecursion (λ e. test e.op ≡ true) events

  own_ops : (actor : ActorId) (count clock : ℕ) (es : List Event) → AllByRecursion (λ e. actor_of e ≡ actor) es → Pass (own_from count clock es actor) → AllByRecursion (λ e. test e.op ≡ true) es
  own_ops actor count clock [] by are = tt
  own_ops actor count clock (e ∷ es) by are =
      let now = clock_at clock e.moment in
      let own : OwnEvent = record { op = e.op; reply = e.reply; number = count + 1; clock = now } in
      let itself : same_actor actor (actor_of e) ≡ true = subst (λ a. same_actor actor a ≡ true) (sym by.0) (actor_itself actor) in
      let both = subst (λ b. Pass (cond b (own ∷ own_from (count + 1) now es actor) (own_from (count + 1) now es actor))) itself are in
      (both.0, own_ops actor (count + 1) now es by.1 both.1)

  -- the events of an actor that made none before
  pub first_pass : (before first : List Event) (pass count : ℕ) → NoneBy (actor_of_pass pass count) before → AreBy pass count first → Pass (own_events (before ++ first) (actor_of_pass pass count)) → AllByRecursion (λ e. test e.op ≡ true) first
  first_pass before first pass count unused own are =
      let actor = actor_of_pass pass count in
      let none : own_events before actor ≡ [] = (same_after_others (record { zones = 0; stripe = 0; frame = 0; frames = 0; shards = 0; tag_life = 0; wait = 0; largest = 0; threshold = 0 }) [] before actor unused).events in
      let joined = own-append 0 0 before first actor ∙ ap (λ (l : List OwnEvent). l ++ own_from (0 + length before) (clock_after 0 before) first actor) none in
      own_ops actor (0 + length before) (clock_after 0 before) first own (subst Pass joined are)

pub first_ops : (before first : List Event) (pass count : ℕ) → NoneBy (actor_of_pass pass count) before → AreBy pass count first → OfTasks (own_events (before ++ first) (actor_of_pass pass count)) → AllByRecursion (λ e. is_of_task e.op ≡ true) first
first_ops before first pass count unused own are = first_pass is_of_task before first pass count unused own are

first_reads : (before first : List Event) (pass count : ℕ) → NoneBy (actor_of_pass pass count) before → AreBy pass count first → AreOfListing (own_events (before ++ first) (actor_of_pass pass count)) → AreReads first
first_reads before first pass count unused own are = first_pass is_of_listing before first pass count unused own are

-- an actor without events stands at the first
pub standing_first : (settings : SettingsView) (before : List Event) (actor : ActorId) → IsOpen settings before → NoneBy actor before → Standing settings before before (account_of settings before actor)
standing_first settings before actor opened unused =
    let at_first : account_of settings before actor ≡ blank = account-others settings [] before actor unused in
    subst (Standing settings before before) (sym at_first) (stands_first settings before opened)

-- ---- one call

-- what a longer history says of the actor, a shorter one says, where others alone came in between
pub rests_before : (settings : SettingsView) (zone pass : ℕ) (history more : List Event) (next : ℕ) (g : Ground) (asked : Asked) (fate : Fate) (body shown : List ℕ) → IsOfNext next g → NoneBy (actor_of_pass pass next) more
    → RestsOn settings zone pass (history ++ more) asked fate body shown g → RestsOn settings zone pass history asked fate body shown g
rests_before settings zone pass history more next alone asked fate body shown of_next none rests = rests
rests_before settings zone pass history more next (task actor end) asked fate body shown of_next none rests =
    let e : next ≡ actor = sym of_next in
    let same = same_after_others settings history more (actor_of_pass pass actor) (subst (λ a. NoneBy (actor_of_pass pass a) more) e none) in
    let account = ap (λ (q : Doings). q.account) same.doings in
    let there = subst (λ (y : Account). IsBorneOut settings zone asked fate body end shown y (own_events (history ++ more) (actor_of_pass pass actor))) account rests in
    subst (λ (l : List OwnEvent). IsBorneOut settings zone asked fate body end shown (account_of settings history (actor_of_pass pass actor)) l) same.events there

module _ (settings : SettingsView) (good : IsSettings settings) (zone pass : ℕ) (clocks : ℕ → ℕ) where
  -- what one call leaves: the rows stay, and all containers are open
  record RowsStay (before first : List Event) : Type 0 where
    roots : (z : ℕ) → (state_of settings (before ++ first)).root z ≡ (state_of settings before).root z
    opened : IsOpen settings (before ++ first)

  record Steps (before first : List Event) (call : Call) : Type 0 where
    rows : RowsStay before first
    is_said : IsSaidTo (fixed_by settings before zone clocks) (slots_in settings before zone) call.asked call.fate call.request.body call.ground call.shown
    left : left_behind (fixed_by settings before zone clocks) (slots_in settings before zone) (command_in call.asked call.fate call.request.body) call.ground ≡ slots_in settings (before ++ first) zone

  module _ (before first : List Event) (opened : IsOpen settings before) (legal : Legal settings (before ++ first)) (few : length (before ++ first) ≤ 2 ^ 62) where
    module _ (count : ℕ) (unused : NoneBy (actor_of_pass pass count) before) (own : AreBy pass count first) where
      abbrev actor : ActorId
      actor = actor_of_pass pass count

      abbrev y : Account
      y = account_of settings (before ++ first) actor

      stands : OfTasks (own_events (before ++ first) actor) → Standing settings before (before ++ first) y
      stands are =
          stands_behind settings before actor before first legal own (keep_rows first (first_ops before first pass count unused own are))
          (standing_first settings before actor opened unused)

      -- what the call leaves, by the end of its task
      abbrev Ends : Asked → Fate → List ℕ → TaskEnd → List ℕ → Type 0
      Ends asked fate body end shown =
          RowsStay before first
          × IsSaidTo (fixed_by settings before zone clocks) (slots_in settings before zone) asked fate body (task count end) shown
          × (left_behind (fixed_by settings before zone clocks) (slots_in settings before zone) (command_in asked fate body) (task count end) ≡ slots_in settings (before ++ first) zone)

      one_task : (asked : Asked) (fate : Fate) (body : List ℕ) (end : TaskEnd) (shown : List ℕ) → IsOfObjects asked
          → ((event : Decided) → y.decided ≡ Some event → clocks count ≡ event.clock)
          → IsBorneOut settings zone asked fate body end shown y (own_events (before ++ first) actor) → Ends asked fate body end shown
      one_task (Asks.Put asker c) fate body (on_object outcome) shown of_objects clock borne =
          let standing = stands (puts_of_tasks (own_events (before ++ first) actor) borne.3) in
          let early = λ (d : Decided) (is : y.decided ≡ Some d). found_early settings (before ++ first) actor d legal few is in
          let told = put_told settings before (before ++ first) zone asker clocks count y standing clock c fate body outcome (own_events (before ++ first) actor) shown early borne.0 borne.1 borne.2 in
          (record { roots = standing.roots; opened = standing.opened }, told.is_said, told.left)
      one_task (Asks.Unfed asker (Get c)) fate body (on_object outcome) shown of_objects clock borne =
          let standing = stands (gets_of_tasks (own_events (before ++ first) actor) borne.0.2) in
          let told = get_told settings before (before ++ first) zone asker clocks count y standing clock c fate body outcome (own_events (before ++ first) actor) shown borne.0.0 borne.1 borne.0.1 in
          (record { roots = standing.roots; opened = standing.opened }, told.is_said, told.left)
      one_task (Asks.Unfed asker (Listing c listing)) fate body (on_object outcome) shown of_objects clock borne =
          let standing = stands (lists_of_tasks (own_events (before ++ first) actor) borne.0.2) in
          let reads = first_reads before first pass count unused own borne.0.2 in
          let told =
          list_told settings before (before ++ first) zone asker clocks count y standing clock c listing fate body outcome (own_events (before ++ first) actor) shown
          (list_done settings good before first legal zone asker clocks actor unused reads standing c outcome) borne.0.0 borne.1 borne.0.1 in
          (record { roots = standing.roots; opened = standing.opened }, told.is_said, told.left)
      one_task (Asks.Unfed asker (Container c)) fate body end shown of_objects clock borne = absurd of_objects
      one_task (Asks.Unfed asker (OfAccount c listing)) fate body end shown of_objects clock borne = absurd of_objects
      one_task (Asks.Unfed asker u) fate body end shown of_objects clock borne = absurd borne.0
      one_task asked fate body end shown of_objects clock borne = absurd borne

    -- a call that is answered by its head alone leaves all
    one_alone : (asked : Asked) (fate : Fate) (body : List ℕ) (shown : List ℕ) (history : List Event) → first ≡ [] → RestsOn settings zone pass history asked fate body shown alone
        → RowsStay before first
        × IsSaidTo (fixed_by settings before zone clocks) (slots_in settings before zone) asked fate body alone shown
        × (left_behind (fixed_by settings before zone clocks) (slots_in settings before zone) (command_in asked fate body) alone ≡ slots_in settings (before ++ first) zone)
    one_alone asked fate body shown history none rests =
        let same : before ++ first ≡ before = ap (λ l. before ++ l) none ∙ append-nil before in (
          record { roots = λ z. ap (λ l. (state_of settings l).root z) same; opened = subst (IsOpen settings) (sym same) opened },
          rests,
          by_command (command_in asked fate body) same,
        )
      where
        by_command : (command : Option (Asker × Command)) → before ++ first ≡ before → left_behind (fixed_by settings before zone clocks) (slots_in settings before zone) command alone ≡ slots_in settings (before ++ first) zone
        by_command None same = ap (λ l. slots_in settings l zone) (sym same)
        by_command (Some given) same = ap (λ l. slots_in settings l zone) (sym same)

    -- what the call's own events leave, where the others come behind them
    module _ (next : ℕ) (call : Call) (of_objects : IsOfObjects call.asked) (calls : List Call) (others later : List Event) (last : ℕ) (unused : NoneBy (actor_of_pass pass next) before)
        (right : AreRight settings zone pass ((before ++ first) ++ others) (actor_after next call.ground) calls last)
        (made : AreMade pass calls others later) (by_last : AreBy pass last later)
        (clock : (event : Decided) → (account_of settings ((before ++ first) ++ others) (actor_of_pass pass next)).decided ≡ Some event → clocks next ≡ event.clock) where
      -- the rows, the reply and the slots
      abbrev Leaves : Ground → Type 0
      Leaves g =
          RowsStay before first
          × IsSaidTo (fixed_by settings before zone clocks) (slots_in settings before zone) call.asked call.fate call.request.body g call.shown
          × (left_behind (fixed_by settings before zone clocks) (slots_in settings before zone) (command_in call.asked call.fate call.request.body) g ≡ slots_in settings (before ++ first) zone)

      by_ground : (g : Ground) → AreRight settings zone pass ((before ++ first) ++ others) (actor_after next g) calls last → IsOfNext next g → AreMadeFor pass g first
          → RestsOn settings zone pass ((before ++ first) ++ others) call.asked call.fate call.request.body call.shown g → Leaves g
      by_ground alone right of_next own rests = one_alone call.asked call.fate call.request.body call.shown ((before ++ first) ++ others) own rests
      by_ground (task actor end) right of_next own rests =
          let e : actor ≡ next = of_next in
          let none = none_of_later pass next (next + 1) calls others later last (omega arith) settings zone ((before ++ first) ++ others) right made by_last in
          let same = same_after_others settings (before ++ first) others (actor_of_pass pass next) none in
          let account = ap (λ (q : Doings). q.account) same.doings in
          let borne = rests_before settings zone pass (before ++ first) others next (task actor end) call.asked call.fate call.request.body call.shown of_next none rests in
          let at_next = subst (λ a. RestsOn settings zone pass (before ++ first) call.asked call.fate call.request.body call.shown (task a end)) e borne in
          let own' = subst (λ a. AreBy pass a first) e own in
          let done = one_task next unused own' call.asked call.fate call.request.body end call.shown of_objects (λ event is. clock event (ap (λ (y : Account). y.decided) account ∙ is)) at_next in
          subst (λ a. Leaves (task a end)) (sym e) done

      steps : IsOfNext next call.ground → AreMadeFor pass call.ground first → RestsOn settings zone pass ((before ++ first) ++ others) call.asked call.fate call.request.body call.shown call.ground → Steps before first call
      steps of_next own rests =
          let parts = by_ground call.ground right of_next own rests in
          record { rows = parts.0; is_said = parts.1; left = parts.2 }

  -- ---- calls

  no_more : (before more : List Event) → AreOfMaps settings zone before more [] clocks
  no_more before more = record {
    events = [];
    later = more;
    stands = refl;
    folded = tt;
    slots = ap (λ l. slots_in settings l zone) (sym (append-nil before));
    rows = ap (λ l. rows_in settings l zone) (append-nil before);
  }

  one_more : (before first others more : List Event) (call : Call) (calls : List Call) → more ≡ first ++ others → Steps before first call → AreOfMaps settings zone (before ++ first) others calls clocks
      → AreOfMaps settings zone before more (call ∷ calls) clocks
  one_more before first others more call calls both s rest =
      let rows : rows_in settings (before ++ first) zone ≡ rows_in settings before zone = λ i name. at ((s.rows).roots zone i).buckets name in
      let x = fixed_by settings before zone clocks in
      let x_is : fixed_by settings (before ++ first) zone clocks ≡ x =
      λ i. record { zone = zone; rows = rows i; clocks = clocks } in
      let whole = append_assoc before first rest.events in
      record {
        events = first ++ rest.events;
        later = rest.later;
        stands = both ∙ ap (λ l. first ++ l) rest.stands ∙ sym (append_assoc first rest.events rest.later);
        folded = (
          s.is_said,
          subst (λ l. AreFolded x l calls) (sym s.left) (subst (λ f. AreFolded f (slots_in settings (before ++ first) zone) calls) x_is rest.folded),
        );
        slots =
            ap (λ l. slots_behind x l calls) s.left
            ∙ ap (λ f. slots_behind f (slots_in settings (before ++ first) zone) calls) (sym x_is)
            ∙ rest.slots ∙ ap (λ l. slots_in settings l zone) whole;
        rows = ap (λ l. rows_in settings l zone) (sym whole) ∙ rest.rows ∙ rows;
      }

  -- the actors behind a call have no event up to its own
  pub unused_behind : (next : ℕ) (g : Ground) (before first : List Event) → IsOfNext next g → AreMadeFor pass g first → NoneFrom pass next before → NoneFrom pass (actor_after next g) (before ++ first)
  unused_behind next alone before first of_next own unused count low =
      subst (λ l. NoneBy (actor_of_pass pass count) (before ++ l)) (sym own)
      (subst (NoneBy (actor_of_pass pass count)) (sym (append-nil before)) (unused count low))
  unused_behind next (task actor end) before first of_next own unused count low =
      let e : actor ≡ next = of_next in
      none_both (actor_of_pass pass count) before first (unused count (omega (arith, low))) (none_of_other pass count actor first (λ same. omega (arith, same, low, e)) own)

  clocks_behind : (history : List Event) (next : ℕ) (g : Ground) → AreClocks settings pass history next clocks → AreClocks settings pass history (actor_after next g) clocks
  clocks_behind history next alone are = are
  clocks_behind history next (task actor end) are = λ count event low. are count event (omega (arith, low))

  pub fold : (before more : List Event) (next : ℕ) (calls : List Call) (last : ℕ) (later : List Event) → Legal settings (before ++ more) → length (before ++ more) ≤ 2 ^ 62
      → NoneFrom pass next before → AreRight settings zone pass (before ++ more) next calls last → AreMade pass calls more later → AreBy pass last later
      → IsOpen settings before → AreOfObjects calls → AreClocks settings pass (before ++ more) next clocks → AreOfMaps settings zone before more calls clocks
  fold before more next [] last later legal few unused right made by_last opened of_objects are = no_more before more
  fold before more next (call ∷ calls) last later legal few unused right (first, others, both, own, made) by_last opened of_objects are =
      let whole : before ++ more ≡ (before ++ first) ++ others = ap (λ l. before ++ l) both ∙ sym (append_assoc before first others) in
      let legal' = subst (Legal settings) whole legal in
      let few' = subst (λ l. length l ≤ 2 ^ 62) whole few in
      let right' = subst (λ l. AreRight settings zone pass l next (call ∷ calls) last) whole right in
      let are' = subst (λ l. AreClocks settings pass l next clocks) whole are in
      let fewer = shorter (before ++ first) others in
      let s =
      steps before first opened (legal_front settings (start settings) (before ++ first) others legal') (omega (arith, fewer, few'))
      next call of_objects.0 calls others later last (unused next (omega arith)) right'.2 made by_last (λ event. are' next event (omega arith)) right'.0 own right'.1.0 in
      one_more before first others more call calls both s
      (fold (before ++ first) others (actor_after next call.ground) calls last later legal' few' (unused_behind next call.ground before first right'.0 own unused) right'.2 made by_last (s.rows).opened of_objects.1
      (clocks_behind ((before ++ first) ++ others) next call.ground are'))
    where
      shorter : (xs ys : List Event) → length xs ≤ length (xs ++ ys)
      shorter [] ys = omega arith
      shorter (x ∷ xs) ys = let rest = shorter xs ys in omega (arith, rest)
