-- Sayings of one actor, and what the others do between them: from world to world.
use Rattle.std.proofs.Common.{◌≡◌, ⊎_elim, ℕ, ◌+◌, ◌≤◌, ◌<◌, true, false, cond, List, [], ◌∷◌, ◌++◌, map, length, Some, refl, sym, ◌∙◌, ap, subst, arith}
use Rattle.std.specs.List.{AllByRecursion}
use Rattle.object_words.specs.declared.bucket.Bucket.{Bucket}
use Rattle.object_words.specs.Keys.{shard_key}
use Rattle.object_words.specs.Names.{at}
use Rattle.object_words.specs.Shards.{Shard}
use Rattle.object_words.specs.declared.shard.Fate.TheVariants.{Serving}
use Rattle.realm_model.specs.Settings.{SettingsView, IsSettings}
use Rattle.realm_model.specs.States.{at_moment, clock_at}
use Rattle.realm_model.specs.Steps.{touch_of}
use Rattle.realm_model.specs.Phases.{ActorId}
use Rattle.realm_model.specs.Worlds.{World, start, same_actor, actor_of, happens}
use Rattle.realm_model.specs.Histories.{run, world_of, IsNext, LegalFrom, Legal}
use Rattle.realm_model.specs.Owns.{OwnEvent, own_from, own_events, clock_after, NoneBy}
use Rattle.realm_model.specs.declared.event.Event.{Event}
use Rattle.realm_model.proofs.Runs.{run-append, legal_front, legal_back, touched-clock, clock_from}
use Rattle.index_law.specs.Tables.{heads_of, rows_of}
use Rattle.index_law.specs.Invariants.{IndexHolds}
use Rattle.index_law.specs.Stamps.{StampsGiven}
use Rattle.index_law.specs.Serving.{IsServing, ShardsServe}
use Rattle.index_law.proofs.HoldEvents.{holds_in}
use Rattle.index_law.proofs.Keeping.{keeps, holds}
use Rattle.index_law.proofs.Stamping.{given_next, stamps_given}
use Rattle.index_law.proofs.Shards.{serves_next, shards_serve}
use Rattle.task_repair.specs.Repairs.{Saying, said}
use Rattle.repair_law.specs.Repaired.{tags_in, IsOverdue, IsDue, ComeFrom, may_change, IsLeftAlone}
use Rattle.repair_law.proofs.Calm.{is_mild, mild_from, mild_prepares, shard_stays, serving_stays, row_stays, fewer_tags}

module _ (settings : SettingsView) (zone : ℕ) (bucket : List ℕ) (row : Bucket) (clock : ℕ) where
  -- ---- between sayings

  -- events that may not change the container lead from one world to the other
  pub record Waits (w v : World) : Type 0 where
    pub events : List Event
    pub legal : LegalFrom settings w events
    pub alone : AllByRecursion (λ e. may_change zone bucket row e.op ≡ false) events
    pub there : run settings w events ≡ v

  -- and then one with this operation, which is answered so, when the clock has come so far
  pub record Told (s : Saying) (w v : World) : Type 0 where
    pub before : World
    pub waits : Waits w before
    pub e : Event
    pub op_is : e.op ≡ s.0
    pub reply_is : e.reply ≡ s.1
    pub next : IsNext settings before e
    pub late : clock ≤ clock_at before.state.clock e.moment
    pub there : happens settings before e ≡ v

  -- and so one saying after another
  abbrev pub Says : List Saying → World → World → Type 0
  Says [] w v = Waits w v
  Says (s ∷ ss) w v = (u : World) × Told s w u × Says ss u v

  waits_none : (w : World) → Waits w w
  waits_none w = record { events = []; legal = tt; alone = tt; there = refl }

  waits_more : (w v : World) (e : Event) → IsNext settings w e → may_change zone bucket row e.op ≡ false → Waits (happens settings w e) v → Waits w v
  waits_more w v e next calm later = record { events = e ∷ later.events; legal = (next, later.legal); alone = (calm, later.alone); there = later.there }

  pub split_says : (front back : List Saying) (w v : World) → Says (front ++ back) w v → (u : World) × Says front w u × Says back u v
  split_says [] back w v says = (w, waits_none w, says)
  split_says (s ∷ ss) back w v says =
      let rest = split_says ss back says.0 v says.2 in (rest.0, (says.0, says.1, rest.1), rest.2)

  say_later : (sayings : List Saying) (w v : World) (e : Event) → IsNext settings w e → may_change zone bucket row e.op ≡ false → Says sayings (happens settings w e) v → Says sayings w v
  say_later [] w v e next calm says = waits_more w v e next calm says
  say_later (s ∷ ss) w v e next calm says =
      let t = says.1 in (
        says.0,
        record {
          before = t.before;
          waits = waits_more w t.before e next calm t.waits;
          e = t.e;
          op_is = t.op_is;
          reply_is = t.reply_is;
          next = t.next;
          late = t.late;
          there = t.there;
        },
        says.2,
      )

  -- the sayings of an actor whom the others leave alone
  pub says_of : (actor : ActorId) (es : List Event) (w : World) (count now : ℕ) → w.state.clock ≡ now → LegalFrom settings w es → IsLeftAlone actor zone bucket row es → ComeFrom clock (own_from count now es actor)
      → Says (map said (own_from count now es actor)) w (run settings w es)
  says_of actor [] w count now at_now legal alone come = waits_none w
  says_of actor (e ∷ es) w count now at_now legal alone come =
      let next = clock_at now e.moment in
      let rest = own_from (count + 1) next es actor in
      let own : OwnEvent = record { op = e.op; reply = e.reply; number = count + 1; clock = next } in
      let st = at_moment w.state e.moment in
      let moved : (happens settings w e).state.clock ≡ next = touched-clock settings st (touch_of settings st e.op) ∙ ap (λ c. clock_at c e.moment) at_now in
      let later : ComeFrom clock rest → Says (map said rest) (happens settings w e) (run settings (happens settings w e) es) =
      says_of actor es (happens settings w e) (count + 1) next moved legal.1 alone.1 in
      elim (same_actor actor (actor_of e)) as (λ b. same_actor actor (actor_of e) ≡ b → ComeFrom clock (cond b (own ∷ rest) rest) → Says (map said (cond b (own ∷ rest) rest)) w (run settings (happens settings w e) es)) [
        | true ↦ λ mine all. (
          happens settings w e,
          record {
            before = w;
            waits = waits_none w;
            e = e;
            op_is = refl;
            reply_is = refl;
            next = legal.0;
            late = subst (λ c. clock ≤ clock_at c e.moment) (sym at_now) all.0;
            there = refl;
          },
          later all.1,
        )
        | false ↦ λ other all. say_later (map said rest) w (run settings (happens settings w e) es) e legal.0 (alone.0 other) (later all)
      ] refl come

-- ---- who made no event before

pub own_later : (count clock : ℕ) (before during : List Event) (actor : ActorId) → NoneBy actor before → own_from count clock (before ++ during) actor ≡ own_from (count + length before) (clock_after clock before) during actor
own_later count clock [] during actor none = let same : count ≡ count + 0 = omega arith in ap (λ n. own_from n clock during actor) same
own_later count clock (e ∷ es) during actor none =
    let now = clock_at clock e.moment in
    let rest = own_from (count + 1) now (es ++ during) actor in
    let own : OwnEvent = record { op = e.op; reply = e.reply; number = count + 1; clock = now } in
    let numbers : (count + 1) + length es ≡ count + length (e ∷ es) = omega arith in
    ap (λ b. cond b (own ∷ rest) rest) none.0 ∙ own_later (count + 1) now es during actor none.1 ∙ ap (λ n. own_from n (clock_after now es) during actor) numbers

-- its events come at no earlier clock
come_from : (count clock now : ℕ) (es : List Event) (actor : ActorId) → clock ≤ now → ComeFrom clock (own_from count now es actor)
come_from count clock now [] actor upto = tt
come_from count clock now (e ∷ es) actor upto =
    let next = clock_at now e.moment in
    let rest = own_from (count + 1) next es actor in
    let own : OwnEvent = record { op = e.op; reply = e.reply; number = count + 1; clock = next } in
    let rises : now ≤ next = omega arith in
    let later = come_from (count + 1) clock next es actor (omega (arith, upto, rises)) in
    elim (same_actor actor (actor_of e)) as (λ b. ComeFrom clock (cond b (own ∷ rest) rest)) [
      | true ↦ (omega (arith, upto, rises), later)
      | false ↦ later
    ]

pub come_later : (settings : SettingsView) (before during : List Event) (actor : ActorId) → NoneBy actor before → ComeFrom (world_of settings before).state.clock (own_events (before ++ during) actor)
come_later settings before during actor none =
    subst (ComeFrom (world_of settings before).state.clock) (sym (own_later 0 0 before during actor none))
    (let now = clock_from settings (start settings) before in come_from (0 + length before) (world_of settings before).state.clock (clock_after 0 before) during actor (omega (arith, now)))

-- ---- what stays of a container all the while

module _ (settings : SettingsView) (good : IsSettings settings) (zone : ℕ) (bucket : List ℕ) (row : Bucket) (clock : ℕ) where
  -- what holds in every legal history; and the zone has the row, and each change under way is overdue at this clock
  pub record Kept (w : World) : Type 0 where
    pub index : IndexHolds w
    pub stamps : StampsGiven (heads_of w.state.heads) w.stamps.slots
    pub serve : ShardsServe w.state.shards (rows_of w.state.root) w.phases
    pub row_is : at (w.state.root zone).buckets bucket ≡ Some row
    pub overdue : (number : ℕ) (name : List ℕ) → number < row.shards → AllByRecursion (IsOverdue clock) (tags_in w.state zone row number name)
    pub free : (number : ℕ) → number < row.shards → (s : Shard) → w.state.shards zone (shard_key row.id row.instance number) ≡ Some s → IsServing s

  pub kept_next : (w : World) (e : Event) → IsNext settings w e → is_mild zone bucket row e.op ≡ true → Kept w → Kept (happens settings w e)
  kept_next w e next mild k = record {
    index = keeps settings good w k.index e next;
    stamps = given_next settings w e k.index k.stamps next;
    serve = serves_next settings w e k.serve next;
    row_is = row_stays zone bucket row settings (at_moment w.state e.moment) e.op mild ∙ k.row_is;
    overdue = λ number name less. fewer_tags zone bucket row (IsOverdue clock) settings (at_moment w.state e.moment) e.op (mild_prepares zone bucket row e.op mild) number name less (k.overdue number name less);
    free = λ number less. serving_stays zone bucket row settings (at_moment w.state e.moment) e.op mild number less (k.free number less);
  }

  -- the shards of the row are the same
  abbrev pub Same : World → World → Type 0
  Same w v = (number : ℕ) → number < row.shards → v.state.shards zone (shard_key row.id row.instance number) ≡ w.state.shards zone (shard_key row.id row.instance number)

  pub same_next : (w : World) (e : Event) → may_change zone bucket row e.op ≡ false → Same w (happens settings w e)
  same_next w e calm number less = shard_stays zone bucket row settings (at_moment w.state e.moment) e.op calm number less

  same_from : (es : List Event) (w : World) → AllByRecursion (λ e. may_change zone bucket row e.op ≡ false) es → Same w (run settings w es)
  same_from [] w alone number less = refl
  same_from (e ∷ es) w alone number less = same_from es (happens settings w e) alone.1 number less ∙ same_next w e alone.0 number less

  kept_from : (es : List Event) (w : World) → LegalFrom settings w es → AllByRecursion (λ e. may_change zone bucket row e.op ≡ false) es → Kept w → Kept (run settings w es)
  kept_from [] w legal alone k = k
  kept_from (e ∷ es) w legal alone k = kept_from es (happens settings w e) legal.1 alone.1 (kept_next w e legal.0 (mild_from zone bucket row e.op alone.0) k)

  pub waits_same : (w v : World) → Waits settings zone bucket row clock w v → Same w v
  waits_same w v waits = subst (Same w) waits.there (same_from waits.events w waits.alone)

  pub waits_kept : (w v : World) → Waits settings zone bucket row clock w v → Kept w → Kept v
  waits_kept w v waits k = subst Kept waits.there (kept_from waits.events w waits.legal waits.alone k)

  -- one saying, at a world in which all this holds
  pub told_before : (s : Saying) (w v : World) (t : Told settings zone bucket row clock s w v) → Kept w → Kept t.before
  told_before s w v t k = waits_kept w t.before t.waits k

  pub told_kept : (s : Saying) (w v : World) (t : Told settings zone bucket row clock s w v) → is_mild zone bucket row s.0 ≡ true → Kept w → Kept v
  told_kept s w v t mild k =
      subst Kept t.there (kept_next t.before t.e t.next (subst (λ op. is_mild zone bucket row op ≡ true) (sym t.op_is) mild) (told_before s w v t k))

  pub says_kept : (sayings : List Saying) (w v : World) → AllByRecursion (λ s. is_mild zone bucket row s.0 ≡ true) sayings → Says settings zone bucket row clock sayings w v → Kept w → Kept v
  says_kept [] w v mild says k = waits_kept w v says k
  says_kept (s ∷ ss) w v mild says k = says_kept ss says.0 v mild.1 says.2 (told_kept s w says.0 says.1 mild.0 k)

-- it holds where a repair begins
pub kept_at_start : (settings : SettingsView) (good : IsSettings settings) (zone : ℕ) (bucket : List ℕ) (row : Bucket) (clock : ℕ) (before during : List Event) → Legal settings (before ++ during)
    → IsDue (world_of settings before).state clock zone bucket row → Kept settings good zone bucket row clock (world_of settings before)
kept_at_start settings good zone bucket row clock before during legal due =
    let front = legal_front settings (start settings) before during legal in
    record {
      index = holds settings before good front;
      stamps = stamps_given settings before good front;
      serve = shards_serve settings before front;
      row_is = due.kept;
      overdue = due.overdue;
      free = λ number less s there. record { fate = serves number s there; hold = due.free number s less there };
    }
  where
    w : World
    w = world_of settings before

    -- no row names a shard that was shut
    serves : (number : ℕ) (s : Shard) → w.state.shards zone (shard_key row.id row.instance number) ≡ Some s → s.fate ≡ Serving
    serves number s there =
        ⊎_elim (λ is. is) (λ shut. absurd (shut.unnamed bucket row due.kept refl refl))
        ((holds_in settings before good (legal_front settings (start settings) before during legal)).fates zone (shard_key row.id row.instance number) s there)

-- the sayings of an actor that made no event before
pub says_from : (settings : SettingsView) (zone : ℕ) (bucket : List ℕ) (row : Bucket) (clock : ℕ) (actor : ActorId) (before during : List Event) → Legal settings (before ++ during) → NoneBy actor before → IsLeftAlone actor zone bucket row during
    → ComeFrom clock (own_events (before ++ during) actor) → Says settings zone bucket row clock (map said (own_events (before ++ during) actor)) (world_of settings before) (world_of settings (before ++ during))
says_from settings zone bucket row clock actor before during legal none alone come =
    let w = world_of settings before in
    let later = own_later 0 0 before during actor none in
    let says =
    says_of settings zone bucket row clock actor during w (0 + length before) (clock_after 0 before) (clock_from settings (start settings) before) (legal_back settings (start settings) before during legal) alone
    (subst (ComeFrom clock) later come) in
    subst (λ v. Says settings zone bucket row clock (map said (own_events (before ++ during) actor)) w v) (sym (run-append settings (start settings) before during))
    (subst (λ l. Says settings zone bucket row clock (map said l) w (run settings w during)) (sym later) says)
