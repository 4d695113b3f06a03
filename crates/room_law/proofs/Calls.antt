-- One call after another finds room.
use Rattle.std.proofs.Common.{◌≡◌, ℕ, ◌+◌, ◌≤◌, false, List, [], ◌∷◌, ◌++◌, length, None, refl, sym, ◌∙◌, ap, subst, arith, append_assoc}
use Rattle.std.proofs.lemmas.List.{append-nil}
use Rattle.std.proofs.lemmas.List.Sums.{sum_by-cons}
use Rattle.rgw_model.specs.Stamps.{counted_moment}
use Rattle.realm_model.specs.Settings.{SettingsView, IsSettings}
use Rattle.realm_model.specs.Accounts.{Account}
use Rattle.realm_model.specs.Owns.{OwnEvent, clock_after, own_from, own_events, NoneBy}
use Rattle.realm_model.specs.Phases.{ActorId}
use Rattle.realm_model.specs.Worlds.{World, start}
use Rattle.realm_model.specs.Histories.{run, world_of, state_of, account_of, Legal, LegalFrom}
use Rattle.realm_model.specs.declared.event.Event.{Event}
use Rattle.realm_model.proofs.Others.{account-others}
use Rattle.realm_model.proofs.Runs.{run-append, legal_front, legal_back}
use Rattle.realm_door.specs.Steps.{actor_of_pass}
use Rattle.realm_door.proofs.Others.{own-append, same_after_others}
use Rattle.swift_requests.specs.declared.asked.Asked.{Asked}
use Rattle.swift_requests.specs.declared.asked.Asked.TheVariants as Asks
use Rattle.swift_requests.specs.declared.asked.UnfedCommand.TheVariants.{Get, Listing, Container, Account as OfAccount}
use Rattle.task_words.specs.declared.asker.Asker.{Asker}
use Rattle.task_words.specs.declared.command.PutCommand.{PutCommand}
use Rattle.task_words.specs.declared.command.GetCommand.{GetCommand}
use Rattle.task_words.specs.declared.outcome.Outcome.{Outcome}
use Rattle.task_words.specs.declared.outcome.Outcome.TheVariants.{Done, NoSpace}
use Rattle.task_words.specs.Cuts.{AreCutFrom, AreCut}
use Rattle.task_words.specs.Outcomes.{Body, IsPutOutcome}
use Rattle.task_list.specs.Listed.{AreOfListing}
use Rattle.task_list.specs.declared.request.ListRequest.{ListRequest}
use Rattle.call_words.specs.Bodies.{Fate}
use Rattle.call_words.specs.Ends.{TaskEnd, on_object}
use Rattle.call_words.specs.Calls.{Ground, alone, task, Call, body_at, IsGetEnd, IsListEnd, IsBorneOut, RestsOn, IsOfNext, actor_after, AreRight}
use Rattle.call_words.specs.Events.{AreOfGet}
use Rattle.call_words.specs.Made.{AreBy, AreMadeFor, AreMade}
use Rattle.once_law.specs.Folds.{IsOfObjects, AreOfObjects, IsRepliedOrFull, AreRepliedOrFull, IsReplied, AreReplied}
use Rattle.once_law.specs.Runs.{NoneFrom, AreAlone, AreAt}
use Rattle.once_law.proofs.Folding.{none_of_later, rests_before, unused_behind}
use Rattle.once_law.proofs.Full.{full}
use Rattle.room_law.specs.Rooms.{frames_asked, frames_together}
use Rattle.room_law.proofs.Steps.{left_first}
use Rattle.room_law.proofs.Walks.{walk, gets_free, lists_free}

module _ (settings : SettingsView) (good : IsSettings settings) (zone pass : ℕ) where
  abbrev frames : Asked → List ℕ → ℕ
  frames = frames_asked settings.frame settings.stripe

  -- the call took no more frames than its body needs, and was not told that there is no room
  record Found (before first : List Event) (asked : Asked) (body : List ℕ) (g : Ground) : Type 0 where
    takes : (state_of settings before).free zone ≤ (state_of settings (before ++ first)).free zone + frames asked body
    replied : IsRepliedOrFull g → IsReplied g

  -- ---- one task

  module _ (before first : List Event) (legal : Legal settings (before ++ first)) (count : ℕ) (unused : NoneBy (actor_of_pass pass count) before) (own : AreBy pass count first) where
    abbrev actor : ActorId
    actor = actor_of_pass pass count

    abbrev w : World
    w = world_of settings before

    behind : run settings w first ≡ world_of settings (before ++ first)
    behind = sym (run-append settings (start settings) before first)

    legal_first : LegalFrom settings w first
    legal_first = legal_back settings (start settings) before first legal

    own_is : own_events (before ++ first) actor ≡ own_from (0 + length before) (clock_after 0 before) first actor
    own_is =
        own-append 0 0 before first actor
        ∙ ap (λ (l : List OwnEvent). l ++ own_from (0 + length before) (clock_after 0 before) first actor) (same_after_others settings [] before actor unused).events

    unwanted_before : (w.accounts actor).wanted ≡ None
    unwanted_before = ap (λ (y : Account). y.wanted) (account-others settings [] before actor unused)

    put_found : (asker : Asker) (c : PutCommand) (body : List ℕ) (b : Body) (outcome : Outcome) → IsPutOutcome zone asker c b outcome (account_of settings (before ++ first) actor) (own_events (before ++ first) actor)
        → AreCut zone settings.stripe body (own_events (before ++ first) actor) → frames (Asks.Put asker c) body ≤ (state_of settings before).free zone → Found before first (Asks.Put asker c) body (task count (on_object outcome))
    put_found asker c body b outcome by cut fits =
        let whole = left_first settings.frame settings.stripe body in
        let low = good.stripe.least in
        let walked = walk settings actor zone body (omega (arith, low)) w first (0 + length before) (clock_after 0 before) 0 false legal_first own
        (subst (AreCutFrom zone settings.stripe body 0 false) own_is cut) (omega (arith, whole, fits)) unwanted_before in
        let took = walked.takes in
        let left = ap (λ (v : World). v.state.free zone) behind in
        let unwanted : (account_of settings (before ++ first) actor).wanted ≡ None = ap (λ (v : World). (v.accounts actor).wanted) (sym behind) ∙ walked.unwanted in
        record { takes = omega (arith, whole, took, left); replied = by_outcome outcome by unwanted }
      where
        by_outcome : (o : Outcome) → IsPutOutcome zone asker c b o (account_of settings (before ++ first) actor) (own_events (before ++ first) actor)
            → (account_of settings (before ++ first) actor).wanted ≡ None → IsRepliedOrFull (task count (on_object o)) → IsReplied (task count (on_object o))
        by_outcome (Done reply) by unwanted full = tt
        by_outcome (NoSpace free needed) by unwanted full = let clash = sym unwanted ∙ by.1.is_last in cc
        by_outcome o by unwanted full = full

    -- the events took no frames, and the end is none for want of room
    calm_found : (asked : Asked) (body : List ℕ) (outcome : Outcome) → frames asked body ≡ 0 → (run settings w first).state.free ≡ w.state.free → (IsRepliedOrFull (task count (on_object outcome)) → IsReplied (task count (on_object outcome))) → Found before first asked body (task count (on_object outcome))
    calm_found asked body outcome none same replied =
        let left = ap (λ (v : World). v.state.free zone) behind in
        let free = ap (λ (f : ℕ → ℕ). f zone) same in
        record { takes = omega (arith, left, free, none); replied = replied }

    got : (asker : Asker) (c : GetCommand) (fate : Fate) (o : Outcome) → IsGetEnd zone asker c fate o (account_of settings (before ++ first) actor) (own_events (before ++ first) actor) → IsRepliedOrFull (task count (on_object o)) → IsReplied (task count (on_object o))
    got asker c fate (Done reply) by full = tt
    got asker c fate (NoSpace free needed) by full = absurd by.0
    got asker c fate o by full = full

    listed : (r : ListRequest) (fate : Fate) (o : Outcome) → IsListEnd r fate o (account_of settings (before ++ first) actor) (own_events (before ++ first) actor) → IsRepliedOrFull (task count (on_object o)) → IsReplied (task count (on_object o))
    listed r fate (Done reply) by full = tt
    listed r fate (NoSpace free needed) by full = absurd by.0
    listed r fate o by full = full

    one_found : (asked : Asked) (fate : Fate) (body : List ℕ) (end : TaskEnd) (shown : List ℕ) → IsOfObjects asked
        → IsBorneOut settings zone asked fate body end shown (account_of settings (before ++ first) actor) (own_events (before ++ first) actor)
        → frames asked body ≤ (state_of settings before).free zone → Found before first asked body (task count end)
    one_found (Asks.Put asker c) fate body (on_object outcome) shown of_objects borne fits = put_found asker c body (body_at fate body) outcome borne.0 borne.4 fits
    one_found (Asks.Unfed asker (Get c)) fate body (on_object outcome) shown of_objects borne fits =
        let same = gets_free settings actor w first (0 + length before) (clock_after 0 before) own (subst AreOfGet own_is borne.0.2) in
        calm_found (Asks.Unfed asker (Get c)) body outcome refl same (got asker c fate outcome borne.0.0)
    one_found (Asks.Unfed asker (Listing c listing)) fate body (on_object outcome) shown of_objects borne fits =
        let same = lists_free settings actor w first (0 + length before) (clock_after 0 before) own (subst AreOfListing own_is borne.0.2) in
        calm_found (Asks.Unfed asker (Listing c listing)) body outcome refl same (listed (record { zone = zone; asker = asker; command = c }) fate outcome borne.0.0)
    one_found (Asks.Unfed asker (Container c)) fate body end shown of_objects borne fits = absurd of_objects
    one_found (Asks.Unfed asker (OfAccount c listing)) fate body end shown of_objects borne fits = absurd of_objects
    one_found (Asks.Unfed asker u) fate body end shown of_objects borne fits = absurd borne.0
    one_found asked fate body end shown of_objects borne fits = absurd borne

  -- ---- calls

  found : (before more : List Event) (next : ℕ) (calls : List Call) (last : ℕ) (later : List Event) → AreOfObjects calls → Legal settings (before ++ more) → NoneFrom pass next before → AreRight settings zone pass (before ++ more) next calls last
      → AreMade pass calls more later → AreBy pass last later → frames_together settings.frame settings.stripe calls ≤ (state_of settings before).free zone
      → AreRepliedOrFull calls → AreReplied calls
  found before more next [] last later of_objects legal unused right made by_last fits full = tt
  found before more next (call ∷ calls) last later of_objects legal unused right (first, others, both, own, made) by_last fits full =
      let whole_is : before ++ more ≡ (before ++ first) ++ others = ap (λ l. before ++ l) both ∙ sym (append_assoc before first others) in
      let legal' = subst (Legal settings) whole_is legal in
      let right' = subst (λ l. AreRight settings zone pass l next (call ∷ calls) last) whole_is right in
      let all = sum_by-cons (λ (c : Call). frames c.asked c.request.body) call calls in
      let f = here call.ground right'.2 right'.0 own right'.1.0 (legal_front settings (start settings) (before ++ first) others legal') (omega (arith, all, fits)) in
      let took = f.takes in (
        f.replied full.0,
        found (before ++ first) others (actor_after next call.ground) calls last later of_objects.1 legal' (unused_behind settings good zone pass (λ count. 0) next call.ground before first right'.0 own unused) right'.2 made by_last
            (omega (arith, all, fits, took)) full.1,
      )
    where
      here : (g : Ground) → AreRight settings zone pass ((before ++ first) ++ others) (actor_after next g) calls last → IsOfNext next g → AreMadeFor pass g first
          → RestsOn settings zone pass ((before ++ first) ++ others) call.asked call.fate call.request.body call.shown g → Legal settings (before ++ first)
          → frames call.asked call.request.body ≤ (state_of settings before).free zone → Found before first call.asked call.request.body g
      here alone right of_next own rests front fits =
          let same = ap (λ l. (state_of settings (before ++ l)).free zone) own in
          let nothing = ap (λ l. (state_of settings l).free zone) (append-nil before) in
          record { takes = omega (arith, same, nothing); replied = λ is. tt }
      here (task actor end) right of_next own rests front fits =
          let e : actor ≡ next = of_next in
          let none = none_of_later pass next (next + 1) calls others later last (omega arith) settings zone ((before ++ first) ++ others) right made by_last in
          let borne = rests_before settings zone pass (before ++ first) others next (task actor end) call.asked call.fate call.request.body call.shown of_next none rests in
          one_found before first front actor (unused actor (omega (arith, e))) own call.asked call.fate call.request.body end call.shown of_objects.0 borne fits

pub room_found : (settings : SettingsView) (zone pass : ℕ) (before more : List Event) (next : ℕ) (calls : List Call) (last moment : ℕ) → IsSettings settings → Legal settings (before ++ more)
    → AreAlone settings zone pass before more next calls last → AreOfObjects calls → (state_of settings before).clock ≤ counted_moment moment → AreAt moment more
    → frames_together settings.frame settings.stripe calls ≤ (state_of settings before).free zone → AreReplied calls
room_found settings zone pass before more next calls last moment good legal a of_objects low at fits =
    found settings good zone pass before more next calls last a.later of_objects legal a.unused a.right a.made a.by_last fits
    (full settings good zone pass moment before more next calls last a.later of_objects legal a.unused a.right a.made a.by_last a.opened low at)
