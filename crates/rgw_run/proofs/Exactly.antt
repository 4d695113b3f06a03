-- The calls of a run at one moment are replied by the bucket map of the container, or by none.
use Rattle.std.proofs.Common.{◌≡◌, inl, inr, ℕ, ◌≤◌, ◌<◌, ◌^◌, Bool, true, false, List, [], ◌∷◌, ◌++◌, length, Option, Some, None, Result, Ok, Err, refl, sym, ◌∙◌, ap, subst, arith, append_assoc}
use Rattle.std.specs.Prelude.{IfSome}
use Rattle.std.specs.Io.KnownBytes.{Appends}
use Rattle.std.proofs.KnownBytes.{Appends-nil, Appends-trans}
use Rattle.std.proofs.lemmas.List.Elements.{recursion_from_All}
use Rattle.std.specs.List.{AllByRecursion}
use Rattle.gw_io.specs.Ends.{EndsState}
use Rattle.http_intake.specs.Intake.{IntakeState, fresh}
use Rattle.http_model.specs.declared.reply.ReplyForm.{ReplyForm}
use Rattle.swift_auth.specs.Users.{UserView}
use Rattle.rgw_model.specs.Stamps.{counted_moment}
use Rattle.realm_core.specs.Realms.{RealmView}
use Rattle.realm_model.specs.Doors.{DoorView}
use Rattle.realm_model.specs.Settings.{SettingsView, IsSettings}
use Rattle.realm_model.specs.Owns.{NoneBy}
use Rattle.realm_model.specs.Worlds.{start, same_actor, actor_of}
use Rattle.realm_model.specs.Histories.{Legal}
use Rattle.realm_model.specs.declared.event.Event.{Event}
use Rattle.realm_model.proofs.Runs.{legal_front}
use Rattle.realm_door.specs.Steps.{next_count, IsSame, actor_of_pass}
use Rattle.realm_door.proofs.Others.{same_after_others}
use Rattle.call_words.specs.Calls.{Ground, alone, task, Call, IsOfNext, actor_after, AreRight}
use Rattle.call_words.specs.Made.{AreBy, AreMadeFor, AreMade}
use Rattle.call_words.proofs.Staying.{in_order, stay}
use Rattle.swift_requests.specs.Asks.{asked_of}
use Rattle.swift_requests.specs.declared.asked.Asked.{Asked}
use Rattle.swift_requests.specs.declared.asked.Asked.TheVariants as Asks
use Rattle.swift_requests.specs.declared.body.BodyUse.{BodyUse}
use Rattle.call_words.specs.Streams.{use_of, CallsEnd}
use Rattle.swift_requests.specs.Bodies.{is_awaited}
use Rattle.call_service.specs.Serving.{Site, Side, side}
use Rattle.door_moments.specs.Acts.{Asks as AsksClock}
use Rattle.call_service.specs.declared.fault.ServeFault.{ServeFault}
use Rattle.call_service.specs.declared.fault.ServeFault.TheVariants as faults
use Rattle.gateway.specs.Calls.{Place, place_of, site_in, site_of, AreSettled}
use Rattle.gateway.specs.Moments.{AreTold}
use Rattle.gateway.specs.Requests.{IsIdle, LeavesAsked, LeavesRequest}
use Rattle.gateway.proofs.Turning.{AsksSome, stopped_asks, put_asks}
use Rattle.gateway.specs.Texts.{form_before, place_after}
use Rattle.gateway.specs.Serving.{RepliesTo, LeavesHead, LeavesNext, StopsFrom, LeavesAt, ServesConnection}
use Rattle.gateway.specs.declared.serve.Served.{Served}
use Rattle.once_law.specs.Maps.{rows_in, slots_in}
use Rattle.once_law.specs.Folds.{AreFolded, AreOfObjects}
use Rattle.once_law.specs.Runs.{AreAt}
use Rattle.once_law.proofs.Folding.{none_of_other, fold}
use Rattle.once_law.proofs.Full.{full}
use Rattle.room_law.proofs.Calls.{room_found}
use Rattle.once_law.proofs.Moments.{clocks_at}
use Rattle.rgw_run.specs.declared.once_end.OnceEnd.{OnceEnd}
use Rattle.rgw_run.specs.declared.once_end.OnceEnd.TheVariants.{Unmade, Unbegun, Ended, Stopped}
use Rattle.rgw_words.specs.declared.run_words.RunWords.{RunWords}
use Rattle.rgw_run.specs.Runs.{door_at, making, Prepares, with_clock, Leaves, RunsAt, RunsBy, RunsOnce, RunsAlone}
use Rattle.rgw_run.specs.Exact.{fixed_at, AreExact, AreExactFirst, calls_before, calls_in, IsExactEnd, RunsExactly, RunsExactlyIf}
use Rattle.rgw_run.proofs.Container.{IsPrepared, none_prepared, one_prepared}
use Rattle.rgw_run.proofs.Told.{AreMoment, both_are, calls_at}

-- ---- the events of the calls alone

-- the events behind those of the calls are cut off
record IsCut (pass : ℕ) (calls : List Call) (more later : List Event) : Type 0 where
  events : List Event
  joined : more ≡ events ++ later
  made : AreMade pass calls events []

cut : (pass : ℕ) (calls : List Call) (more later : List Event) → AreMade pass calls more later → IsCut pass calls more later
cut pass [] more later made = record { events = []; joined = made; made = refl }
cut pass (call ∷ calls) more later (first, others, both, own, made) =
    let rest = cut pass calls others later made in
    record {
      events = first ++ rest.events;
      joined = both ∙ ap (λ l. first ++ l) rest.joined ∙ sym (append_assoc first rest.events later);
      made = (first, rest.events, refl, own, rest.made);
    }

shorter : (xs ys : List Event) → length xs ≤ length (xs ++ ys)
shorter [] ys = omega arith
shorter (x ∷ xs) ys = let rest = shorter xs ys in omega (arith, rest)

-- ---- the first of the calls

-- their events, and those of the others
record MadeFirst (pass : ℕ) (front : List Call) (events : List Event) : Type 0 where
  first : List Event
  others : List Event
  joined : events ≡ first ++ others
  made : AreMade pass front first []

made_first : (pass : ℕ) (front rest : List Call) (events later : List Event) → AreMade pass (front ++ rest) events later → MadeFirst pass front events
made_first pass [] rest events later made = record { first = []; others = events; joined = refl; made = refl }
made_first pass (call ∷ front) rest events later (own_events, others, both, own, made) =
    let m = made_first pass front rest others later made in
    record {
      first = own_events ++ m.first;
      others = m.others;
      joined = both ∙ ap (λ l. own_events ++ l) m.joined ∙ sym (append_assoc own_events m.first m.others);
      made = (own_events, m.first, refl, own, m.made);
    }

-- they are right up to the actor behind them, from which the others go on
record RightFirst (settings : SettingsView) (history : List Event) (next : ℕ) (front rest : List Call) (last : ℕ) : Type 0 where
  mid : ℕ
  right : AreRight settings 1 1 history next front mid
  behind : AreRight settings 1 1 history mid rest last

right_first : (settings : SettingsView) (history : List Event) (next : ℕ) (front rest : List Call) (last : ℕ) → AreRight settings 1 1 history next (front ++ rest) last → RightFirst settings history next front rest last
right_first settings history next [] rest last right = record { mid = next; right = refl; behind = right }
right_first settings history next (call ∷ front) rest last right =
    let r = right_first settings history (actor_after next call.ground) front rest last right.2 in
    record { mid = r.mid; right = (right.0, right.1, r.right); behind = r.behind }

all_both : (P : Event → Type 0) (xs ys : List Event) → AllByRecursion P xs → AllByRecursion P ys → AllByRecursion P (xs ++ ys)
all_both P [] ys first second = second
all_both P (x ∷ xs) ys first second = (first.0, all_both P xs ys first.1 second)

all_first : (P : Event → Type 0) (xs ys : List Event) → AllByRecursion P (xs ++ ys) → AllByRecursion P xs
all_first P [] ys all = tt
all_first P (x ∷ xs) ys all = (all.0, all_first P xs ys all.1)

-- no earlier actor made an event of the calls behind
module _ (settings : SettingsView) (history : List Event) (count : ℕ) where
  none_for : (ground : Ground) (mid : ℕ) (events : List Event) → count < mid → IsOfNext mid ground → AreMadeFor 1 ground events → NoneBy (actor_of_pass 1 count) events
  none_for alone mid events low of_next made = subst (NoneBy (actor_of_pass 1 count)) (sym made) tt
  none_for (task actor end) mid events low of_next made =
      let is : actor ≡ mid = of_next in
      none_of_other 1 count actor events (λ same. omega (arith, same, is, low)) made

  later_than : (ground : Ground) (mid : ℕ) → count < mid → count < actor_after mid ground
  later_than alone mid low = low
  later_than (task actor end) mid low = omega (arith, low)

  none_behind : (mid : ℕ) (rest : List Call) (last : ℕ) (events later : List Event) → count < mid → AreRight settings 1 1 history mid rest last → AreMade 1 rest events later → AreBy 1 last later
      → NoneBy (actor_of_pass 1 count) events
  none_behind mid [] last events later low right made by_last =
      let end : mid ≡ last = right in
      subst (NoneBy (actor_of_pass 1 count)) (sym made) (none_of_other 1 count last later (λ same. omega (arith, same, end, low)) by_last)
  none_behind mid (call ∷ rest) last events later low right (own_events, others, both, own, made) by_last =
      subst (NoneBy (actor_of_pass 1 count)) (sym both)
      (all_both (λ e. same_actor (actor_of_pass 1 count) (actor_of e) ≡ false) own_events others (none_for call.ground mid own_events low right.0 own)
      (none_behind (actor_after mid call.ground) rest last others later (later_than call.ground mid low) right.2 made by_last))

-- the events behind the first calls are made for the others, and then later
made_behind : (pass : ℕ) (front rest : List Call) (events later : List Event) (made : AreMade pass (front ++ rest) events later) → AreMade pass rest (made_first pass front rest events later made).others later
unfolding made_first
made_behind pass [] rest events later made = made
made_behind pass (call ∷ front) rest events later (own_events, others, both, own, made) = made_behind pass front rest others later made

-- ---- calls that the history bears out

module _ (settings : SettingsView) (users : List UserView) (good : IsSettings settings) (bucket : Option (List ℕ)) (moment : ℕ) (used : Bool) (before : List Event) (prepared : IsPrepared settings users bucket moment used before)
    (e : DoorView) (front rest : List Call) (last : ℕ) (moments more : List ℕ) (settled : AreSettled (Unit {0}) (site_of settings 1) (door_at used before) e (front ++ rest) last)
    (told : AreTold (Unit {0}) e.seen 1 (front ++ rest) moments more) (are : AreMoment moment moments) (of_objects : AreOfObjects front) where
  abbrev next : ℕ
  next = next_count (door_at used before)

  pub exact_calls : AreExact settings users bucket moment front
  exact_calls =
      let only = settled.only tt in
      let c = cut 1 (front ++ rest) only.more only.later only.made in
      let m = made_first 1 front rest c.events [] c.made in
      let behind = made_behind 1 front rest c.events [] c.made in
      let history = before ++ m.first in
      let tail = m.others ++ only.later in
      let whole : e.seen ≡ before ++ (c.events ++ only.later) = only.grows ∙ ap (λ l. before ++ l) c.joined in
      let split : e.seen ≡ history ++ tail =
      whole ∙ ap (λ l. before ++ (l ++ only.later)) m.joined ∙ ap (λ l. before ++ l) (append_assoc m.first m.others only.later) ∙ sym (append_assoc before m.first tail) in
      let may = settled.advances.may_begin in
      let legal = legal_front settings (start settings) history tail (subst (Legal settings) split may.legal) in
      let room = subst (λ l. length l ≤ 2 ^ 62) split may.counted.room in
      let short = shorter history tail in
      let few : length history ≤ 2 ^ 62 = omega (arith, room, short) in
      let r = right_first settings e.seen next front rest last settled.right in
      let up = in_order settings 1 1 e.seen e.seen r.mid rest last r.behind in
      let same = λ (count : ℕ) (low : next ≤ count) (high : count < r.mid).
      let none : NoneBy (actor_of_pass 1 count) tail =
      all_both (λ x. same_actor (actor_of_pass 1 count) (actor_of x) ≡ false) m.others only.later
      (none_behind settings e.seen count r.mid rest last m.others [] high r.behind behind tt)
      (none_of_other 1 count last only.later (λ is. omega (arith, is, high, up)) only.by_last) in
      let s = same_after_others settings history tail (actor_of_pass 1 count) none in
      let back : IsSame settings (history ++ tail) history (actor_of_pass 1 count) = record { events = sym s.events; doings = sym s.doings } in back in
      let right = stay settings 1 1 (history ++ tail) history next front r.mid same
      (subst (λ l. AreRight settings 1 1 l next front r.mid) split r.right) in
      let at_all = calls_at 1 moment e.seen only.later before c.events (front ++ rest) moments more whole told c.made are in
      let at = all_first (λ x. x.moment ≡ moment) m.first m.others (subst (AreAt moment) m.joined at_all) in
      let clocks = clocks_at settings 1 before m.first next moment prepared.low at prepared.unused in
      let of_maps = fold settings good 1 1 (λ count. counted_moment moment) before m.first next front r.mid [] legal few prepared.unused right m.made tt prepared.opened of_objects clocks in
      let x_is : record { zone = 1; rows = rows_in settings before 1; clocks = λ count. counted_moment moment } ≡ fixed_at settings users bucket moment =
      λ i. record { zone = 1; rows = prepared.rows i; clocks = λ count. counted_moment moment } in
      record {
        folded = subst (λ l. AreFolded (fixed_at settings users bucket moment) l front) prepared.slots
            (subst (λ x. AreFolded x (slots_in settings before 1) front) x_is of_maps.folded);
        full = full settings good 1 1 moment before m.first next front r.mid [] of_objects legal prepared.unused right m.made tt prepared.opened prepared.low at;
        found = λ fits.
            let free = prepared.free in
            room_found settings 1 1 before m.first next front r.mid moment good legal
            (record { opened = prepared.opened; unused = prepared.unused; right = right; later = []; made = m.made; by_last = tt }) of_objects prepared.low at (omega (arith, fits, free));
      }

-- ---- what was told behind them

-- known moments grew
Grew : Option (List ℕ) → Option (List ℕ) → Type 0
Grew old new = (more : List ℕ) × Appends old new more

module _ (site : Site) (form : ReplyForm) where
  asks_grew : (more : Bool) (d e : DoorView) (told told' : Option (List ℕ)) → AsksClock (Unit {0}) (Unit {0}) site.settings more d e told told' → Grew told told'
  unfolding Grew
  asks_grew more d e told told' asks = (asks.clock, asks.asked_clock)

  idle_grew : (z y : Side) → IsIdle z y → Grew z.ends.told y.ends.told
  unfolding Grew
  idle_grew z y idle = ([], idle.untold)

  some_grew : (x y : Side) → AsksSome (Unit {0}) (Unit {0}) site x y → Grew x.ends.told y.ends.told
  some_grew x y (more, asks) = asks_grew more x.door y.door x.ends.told y.ends.told asks

  asked_grew : (asked : Asked) (plan : BodyUse) (found : List Event) (z y : Side) (fault : ServeFault) → LeavesAsked (Unit {0}) (Unit {0}) site form asked plan found z y fault → Grew z.ends.told y.ends.told
  asked_grew (Asks.Put asker c) plan found z y fault (d, begun, left) =
      some_grew (side d z.intake z.ends) y (put_asks (Unit {0}) (Unit {0}) site form found (is_awaited plan) asker c (side d z.intake z.ends) y fault left)
  asked_grew (Asks.Unfed asker u) plan found z y fault (d, begun, left) =
      some_grew (side d z.intake z.ends) y (stopped_asks (Unit {0}) (Unit {0}) site form found (Asks.Unfed asker u) plan (side d z.intake z.ends) y fault left)
  asked_grew asked plan found z y fault left = idle_grew z y left.1

  request_grew : (asked : Asked) (plan : BodyUse) (found : List Event) (z y : Side) (fault : ServeFault) → LeavesRequest (Unit {0}) (Unit {0}) site form asked plan found z y fault → Grew z.ends.told y.ends.told
  unfolding Grew
  request_grew asked plan found z y fault (inl (none, same)) = ([], subst (λ (s : Side). Appends z.ends.told s.ends.told []) (sym same) (Appends-nil z.ends.told))
  request_grew asked plan found z y fault (inr left) = asked_grew asked plan found z y fault left

head_grew : (x y : Side) (fault : ServeFault) → LeavesHead x y fault → Grew x.ends.told y.ends.told
unfolding Grew
head_grew x y faults.OutOfMemory left = ([], left.2.untold)
head_grew x y faults.WriteFault left = ([], left.2.untold)
head_grew x y fault left = absurd left

next_grew : (place : Place) (k : ℕ) (found : List Event) (x y : Side) (fault : ServeFault) → LeavesNext (Unit {0}) (Unit {0}) place k found x y fault → Grew x.ends.told y.ends.told
next_grew place k found x y fault (inl left) = head_grew x y fault left
next_grew place k found x y fault (inr (head, z, reads, left)) =
    subst (λ told. Grew told y.ends.told) reads.told
    (request_grew (site_in place) (form_before place.settings.largest place.users k head) (asked_of place.settings.largest place.users head) (use_of place.settings.largest place.users head) found z y fault left)

-- ---- where the connection begins

-- the door before the connection, where each moment that was told is that one
record IsReadyAt (settings : SettingsView) (users : List UserView) (bucket : Option (List ℕ)) (moment : ℕ) (ready : DoorView) : Type 0 where
  used : Bool
  before : List Event
  is : ready ≡ door_at used before
  prepared : IsPrepared settings users bucket moment used before

ready_at : (settings : SettingsView) (users : List UserView) (bucket : Option (List ℕ)) (moment : ℕ) (firsts : List ℕ) (ready : DoorView) → Prepares settings users bucket firsts ready → AreMoment moment firsts → IsReadyAt settings users bucket moment ready
ready_at settings users None moment firsts ready (none, is) are =
    record { used = false; before = []; is = is; prepared = none_prepared settings users moment }
ready_at settings users (Some name) moment firsts ready (made, one, is) are =
    let all : AreMoment moment (made ∷ []) = subst (AreMoment moment) one are in
    let same : made ≡ moment = all.0 in
    record {
      used = true;
      before = making settings users name moment;
      is = is ∙ ap (λ m. door_at true (making settings users name m)) same;
      prepared = one_prepared settings users name moment;
    }

-- ---- the connection

module _ (settings : SettingsView) (users : List UserView) (good : IsSettings settings) (bucket : Option (List ℕ)) (moment : ℕ) (firsts : List ℕ) (ready : DoorView) (prepares : Prepares settings users bucket firsts ready)
    (told : List ℕ) (each : AreMoment moment told) (old middle : Option (List ℕ)) (none : old ≡ Some []) (first : Appends old middle firsts) where
  -- the container was made at the moment, and the calls were told it
  moments_are : (moments : List ℕ) → Appends middle (Some told) moments → AreMoment moment firsts × AreMoment moment moments
  moments_are moments second =
      let both = subst (λ o. Appends o (Some told) (firsts ++ moments)) none (Appends-trans old middle (Some told) firsts moments first second) in
      both_are moment firsts moments (subst (AreMoment moment) both each)

  calls_exact : (e : DoorView) (calls : List Call) (last : ℕ) (moments rest : List ℕ) → AreSettled (Unit {0}) (site_of settings 1) ready e calls last
      → AreTold (Unit {0}) e.seen ready.pass calls moments rest → AreMoment moment firsts → AreMoment moment moments → AreExactFirst settings users bucket moment calls
  calls_exact e calls last moments rest settled told begun are front others joined of_objects =
      let r = ready_at settings users bucket moment firsts ready prepares begun in
      let at_ready = subst (λ d. AreSettled (Unit {0}) (site_of settings 1) d e calls last) r.is settled in
      let told_ready = subst (λ (d : DoorView). AreTold (Unit {0}) e.seen d.pass calls moments rest) r.is told in
      exact_calls settings users good bucket moment r.used r.before r.prepared e front others last moments rest
      (subst (λ l. AreSettled (Unit {0}) (site_of settings 1) (door_at r.used r.before) e l last) joined at_ready)
      (subst (λ l. AreTold (Unit {0}) e.seen 1 l moments rest) joined told_ready) are of_objects

  stopped_exact : (found : List Event) (e : DoorView) (intake intake' : IntakeState) (old_ends new_ends : EndsState) (fault : ServeFault) → old_ends.told ≡ middle → new_ends.told ≡ Some told
      → (l : StopsFrom (Unit {0}) (Unit {0}) (place_of settings 1 users) 1 found (side ready intake old_ends) (side e intake' new_ends) fault) → AreExactFirst settings users bucket moment l.calls
  unfolding Grew
  stopped_exact found e intake intake' old_ends new_ends fault at_middle at_end l =
      let grew = next_grew (place_of settings 1 users) (place_after 1 l.calls) found l.between (side e intake' new_ends) fault l.left in
      let all : Appends middle (Some told) (l.moments ++ grew.0) = subst (λ o. Appends o (Some told) (l.moments ++ grew.0)) at_middle
      (subst (λ o. Appends old_ends.told o (l.moments ++ grew.0)) at_end (Appends-trans old_ends.told l.between.ends.told new_ends.told l.moments grew.0 l.asked_clock grew.1)) in
      let are = moments_are (l.moments ++ grew.0) all in
      calls_exact e l.calls (next_count l.between.door) l.moments [] (l.settled tt) l.told are.0 (both_are moment l.moments grew.0 are.1).0

  replied_exact : (e : DoorView) (old_ends new_ends : EndsState) (calls : List Call) (end : CallsEnd) → old_ends.told ≡ middle → new_ends.told ≡ Some told
      → RepliesTo (Unit {0}) (Unit {0}) (place_of settings 1 users) 1 [] ready e old_ends new_ends calls end → AreExactFirst settings users bucket moment calls
  replied_exact e old_ends new_ends calls end at_middle at_end r =
      let all = subst (λ o. Appends o (Some told) r.moments) at_middle (subst (λ o. Appends old_ends.told o r.moments) at_end r.asked_clock) in
      let are = moments_are r.moments all in
      calls_exact e calls r.last r.moments r.later (r.settled tt) r.told are.0 are.1

  pub connection_exact : (found : List Event) (e : DoorView) (old_ends new_ends : EndsState) (result : Result Served ServeFault) → old_ends.told ≡ middle → new_ends.told ≡ Some told
      → (s : ServesConnection (Unit {0}) (Unit {0}) (place_of settings 1 users) found ready e old_ends new_ends result)
      → AreExactFirst settings users bucket moment (calls_in settings users found ready e old_ends new_ends result s)
  connection_exact found e old_ends new_ends (Ok served) at_middle at_end s =
      replied_exact e old_ends new_ends s.served.calls s.served.stream_end at_middle at_end s.served.replied
  connection_exact found e old_ends new_ends (Err fault) at_middle at_end s = by_fault fault (s.left fault refl).0 (s.left fault refl).1
    where
      by_fault : (fault : ServeFault) (intake : IntakeState) (l : LeavesAt (Unit {0}) (Unit {0}) (place_of settings 1 users) 1 found (side ready (fresh settings.largest) old_ends) (side e intake new_ends) fault)
          → AreExactFirst settings users bucket moment (calls_before settings users found (side ready (fresh settings.largest) old_ends) (side e intake new_ends) fault l)
      by_fault faults.ReadFault intake l = replied_exact e old_ends new_ends l.calls l.stream_end at_middle at_end l.replied
      by_fault faults.OutOfMemory intake l = stopped_exact found e (fresh settings.largest) intake old_ends new_ends faults.OutOfMemory at_middle at_end l
      by_fault faults.WriteFault intake l = stopped_exact found e (fresh settings.largest) intake old_ends new_ends faults.WriteFault at_middle at_end l
      by_fault faults.Worn intake l = stopped_exact found e (fresh settings.largest) intake old_ends new_ends faults.Worn at_middle at_end l
      by_fault (faults.Late read_at clock) intake l = stopped_exact found e (fresh settings.largest) intake old_ends new_ends (faults.Late read_at clock) at_middle at_end l

-- ---- the run

module _ (settings : SettingsView) (users : List UserView) (bucket : Option (List ℕ)) (moment : ℕ) (old new : EndsState) (realm : Option RealmView) (told : List ℕ) (each : AreMoment moment told) where
  end_exact : (end : OnceEnd) (l : Leaves settings users bucket (with_clock old moment []) (with_clock new moment told) realm end) → IsExactEnd settings users bucket moment (with_clock old moment []) (with_clock new moment told) realm end l
  end_exact Unmade l = tt
  end_exact (Unbegun fault) l = tt
  end_exact (Ended served) l =
      connection_exact settings users l.bounds bucket moment l.moments l.ready l.prepares told each (Some []) (l.middle).told refl l.tells.told l.door.seen l.door l.middle (with_clock new moment told) (Ok served) refl refl l.serves
  end_exact (Stopped fault) l =
      connection_exact settings users l.bounds bucket moment l.moments l.ready l.prepares told each (Some []) (l.middle).told refl l.tells.told l.door.seen l.door l.middle (with_clock new moment told) (Err fault) refl refl l.serves

exactly : (settings : SettingsView) (users : List UserView) (bucket : Option (List ℕ)) (moment : ℕ) (old new : EndsState) (realm : Option RealmView) (status : ℕ) → RunsAt settings users bucket moment old new realm status → RunsExactly settings users bucket moment old new realm status
exactly settings users bucket moment old new realm status runs = record {
  runs = runs;
  exact = end_exact settings users bucket moment old new realm runs.told (recursion_from_All (λ m. m ≡ moment) runs.told runs.each) runs.runs.end runs.runs.leaves;
}

-- where the words say the moment
pub exactly_if : (once : RunWords) (old new : EndsState) (realm : Option RealmView) (status : ℕ) → RunsOnce once old new realm status → IfSome once.now (λ moment. RunsExactly once.settings once.users once.bucket moment old new realm status)
exactly_if once old new realm status = by_now once.now
  where
    by_now : (now : Option ℕ) → RunsBy now once.settings once.users once.bucket old new realm status → IfSome now (λ moment. RunsExactly once.settings once.users once.bucket moment old new realm status)
    by_now None runs = tt
    by_now (Some moment) runs = exactly once.settings once.users once.bucket moment old new realm status runs

pub exactly_of : (words : Option RunWords) (script : Option RunWords) (may_ask : Bool) (old new : EndsState) (realm : Option RealmView) (status : ℕ) → RunsAlone words script may_ask old new realm status → RunsExactlyIf words old new realm status
exactly_of None script may_ask old new realm status runs = tt
exactly_of (Some once) script may_ask old new realm status runs = exactly_if once old new realm status runs.once_runs

pub exactly_said : (words : Option RunWords) (once : RunWords) (old new : EndsState) (realm : Option RealmView) (status : ℕ) → words ≡ Some once → RunsOnce once old new realm status → RunsExactlyIf words old new realm status
exactly_said words once old new realm status said runs =
    subst (λ asked. RunsExactlyIf asked old new realm status) (sym said) (exactly_if once old new realm status runs)
