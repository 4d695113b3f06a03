-- What the own events of an actor on objects leave of the rows and the slots, and what its account says of them.
use Rattle.std.proofs.Common.{◌≡◌, ◌⊎◌, inl, inr, ℕ, ◌+◌, ◌≤◌, Bool, true, false, List, [], ◌∷◌, ◌++◌, Some, None, Option, refl, sym, ◌∙◌, ap, subst, arith, append_assoc}
use Rattle.std.specs.List.{AllByRecursion}
use Rattle.std.proofs.lemmas.List.{append-nil}
use Rattle.object_words.specs.declared.bucket.Bucket.{Bucket}
use Rattle.object_words.specs.declared.head.Changed.{Changed}
use Rattle.object_words.specs.declared.head.Conditions.{Conditions}
use Rattle.object_words.specs.declared.head.NewHead.{NewHead}
use Rattle.object_words.specs.declared.head.SeenSlot.TheVariants.{Live}
use Rattle.object_words.specs.declared.entry.Guard.{Guard}
use Rattle.object_words.specs.declared.why.Why.{Why}
use Rattle.object_words.specs.declared.why.Why.TheVariants.{Expired}
use Rattle.object_words.specs.Names.{at}
use Rattle.realm_model.specs.Settings.{SettingsView}
use Rattle.realm_model.specs.States.{State, number_next, clock_at, at_moment}
use Rattle.realm_model.specs.Steps.{row_reply, reply_of}
use Rattle.realm_model.specs.Phases.{ActorId}
use Rattle.realm_model.specs.Maps.{Maps, Made, heads, mapped, whole_slot}
use Rattle.realm_model.specs.Accounts.{Looked, Decided, Account, blank, looked_after, slot_now, decided_at, tried_at, decided_after, changes_after, accounted}
use Rattle.realm_model.specs.Worlds.{start, actor_of}
use Rattle.realm_model.specs.Histories.{Doings, world_of, state_of, account_of, Legal}
use Rattle.realm_model.specs.declared.op.Op.{Op}
use Rattle.realm_model.specs.declared.op.Op.TheVariants.{BucketRead, HeadRead, HeadWrite}
use Rattle.realm_model.specs.declared.event.Reply.{Reply}
use Rattle.realm_model.specs.declared.event.Reply.TheVariants.{No, Row, Head as head_reply, Changed as changed_reply}
use Rattle.realm_model.specs.declared.event.Event.{Event}
use Rattle.realm_model.proofs.Doing.{doings-next}
use Rattle.realm_model.proofs.Runs.{state-next, last_is_next, legal_front}
use Rattle.swift_auth.specs.declared.policy.Deed.{Deed}
use Rattle.task_words.specs.declared.asker.Asker.{Asker}
use Rattle.task_words.specs.declared.reply.Refusal.{Refusal}
use Rattle.task_words.specs.declared.reply.MapReply.{MapReply}
use Rattle.task_words.specs.Answers.{Command, container_of}
use Rattle.task_words.specs.Outcomes.{LookedUp, ByMap}
use Rattle.task_words.specs.Rows.{row_refusal}
use Rattle.once_law.specs.Maps.{rows_in}
use Rattle.once_law.specs.Runs.{IsOpen}
use Rattle.once_law.proofs.Open.{keeps_open, root_kept, open_one}
use Rattle.once_law.proofs.Slots.{all_slots, with_zone_slot, slots_still, slots_written}

-- ---- operations

-- a head was changed
abbrev is_change : Op → Reply → Bool
is_change (HeadWrite zone container name guard new when) (changed_reply change) = true
is_change op reply = false

record IsChange (op : Op) (reply : Reply) : Type 0 where
  zone : ℕ
  container : ℕ
  name : List ℕ
  guard : Guard
  new : NewHead
  when_asked : Conditions
  change : Changed
  op_is : op ≡ HeadWrite zone container name guard new when_asked
  reply_is : reply ≡ changed_reply change

change_is : (op : Op) (reply : Reply) → is_change op reply ≡ true → IsChange op reply
change_is (HeadWrite zone container name guard new when) (changed_reply change) is = record {
  zone = zone;
  container = container;
  name = name;
  guard = guard;
  new = new;
  when_asked = when;
  change = change;
  op_is = refl;
  reply_is = refl;
}
change_is op reply is = let e : false ≡ true = is in absurd (cc)

maps_kept : (m : Maps) (op : Op) (reply : Reply) → is_change op reply ≡ false → mapped m op reply ≡ m
maps_kept m (HeadWrite zone container name guard new when) (changed_reply change) is = let e : true ≡ false = is in absurd (cc)
maps_kept m op reply is = refl

changes_kept : (n : ℕ) (op : Op) (reply : Reply) → is_change op reply ≡ false → changes_after n op reply ≡ n
changes_kept n (HeadWrite zone container name guard new when) (changed_reply change) is = let e : true ≡ false = is in absurd (cc)
changes_kept n op reply is = refl

-- ---- what decides

looked_by : {x y : Decided} → Some x ≡ Some y → x.looked ≡ y.looked
looked_by same = cc

-- an event that decides, and leaves the slot that it found
record ReadsSlot (y : Account) (maps : Maps) (made : Made) (clock : ℕ) (d : Decided) : Type 0 where
  before : d.before ≡ slot_now maps made d.zone d.container d.name
  after : d.after ≡ d.before
  looked : d.looked ≡ y.looked
  at_clock : d.clock ≡ clock

-- it decides now, or what decided before does
abbrev Decides : Account → Maps → Made → ℕ → Option Decided → Type 0
Decides y maps made clock last = (last ≡ y.decided) ⊎ ((d : Decided) × (last ≡ Some d) × ReadsSlot y maps made clock d)

module _ (y : Account) (maps : Maps) (made : Made) (number clock : ℕ) where
  reads_slot : (zone container : ℕ) (name : List ℕ) → let slot = slot_now maps made zone container name in ReadsSlot y maps made clock (decided_at y number clock zone container name slot slot)
  reads_slot zone container name = record { before = refl; after = refl; looked = refl; at_clock = refl }

  tried : (zone container : ℕ) (name : List ℕ) (guard : Guard) (new : NewHead) (when : Conditions) (reply : Reply) → is_change (HeadWrite zone container name guard new when) reply ≡ false → Decides y maps made clock (tried_at y maps made zone container name new reply number clock y.decided)
  tried zone container name guard new when (changed_reply change) is = let e : true ≡ false = is in absurd (cc)
  tried zone container name guard new when (No (Expired deadline late)) is = inl refl
  tried zone container name guard new when (No why) is = inr (_, refl, reads_slot zone container name)
  tried zone container name guard new when reply is = inl refl

  decides : (op : Op) (reply : Reply) → is_change op reply ≡ false → Decides y maps made clock (decided_after y maps made op reply number clock)
  decides (HeadRead zone container name) (head_reply head shown_at) is = inr (_, refl, reads_slot zone container name)
  decides (HeadWrite zone container name guard new when) reply is = tried zone container name guard new when reply is
  decides op reply is = inl refl

  -- an event that decides comes behind what was looked up
  tried_by : (zone container : ℕ) (name : List ℕ) (new : NewHead) (reply : Reply) (d : Decided) → tried_at y maps made zone container name new reply number clock y.decided ≡ Some d → (y.decided ≡ Some d) ⊎ (d.looked ≡ y.looked)
  tried_by zone container name new (changed_reply change) d is = inr (sym (looked_by is))
  tried_by zone container name new (No (Expired deadline late)) d is = inl is
  tried_by zone container name new (No why) d is = inr (sym (looked_by is))
  tried_by zone container name new reply d is = inl is

  decided_by : (op : Op) (reply : Reply) (d : Decided) → decided_after y maps made op reply number clock ≡ Some d → (y.decided ≡ Some d) ⊎ (d.looked ≡ y.looked)
  decided_by (HeadRead zone container name) (head_reply head shown_at) d is = inr (sym (looked_by is))
  decided_by (HeadWrite zone container name guard new when) reply d is = tried_by zone container name new reply d is
  decided_by op reply d is = inl is

-- ---- rows

row_is_shown : (found : Option Bucket) (row : Bucket) → Row row ≡ row_reply found → Some row ≡ found
row_is_shown None row is = absurd (cc)
row_is_shown (Some r) row is = cc

none_is_shown : (found : Option Bucket) (why : Why) → No why ≡ row_reply found → None ≡ found
none_is_shown None why is = refl
none_is_shown (Some r) why is = absurd (cc)

-- ---- from a history on

module _ (settings : SettingsView) (base : List Event) where
  -- the row that was looked up is that of the history
  abbrev pub OfRow : Option Looked → Type 0
  OfRow looked = (l : Looked) → looked ≡ Some l → l.row ≡ rows_in settings base l.zone l.name

  looked_next : (st : State) (op : Op) (reply : Reply) (number : ℕ) (looked : Option Looked) → ((zone : ℕ) → st.root zone ≡ (state_of settings base).root zone) → reply ≡ reply_of settings st op → OfRow looked → OfRow (looked_after looked op reply number)
  looked_next st (BucketRead zone name) (Row row) number looked roots answer of l is =
      let here : record { zone = zone; name = name; row = Some row; number = number } ≡ l = cc in
      subst (λ (q : Looked). q.row ≡ rows_in settings base q.zone q.name) here
      (row_is_shown (at (st.root zone).buckets name) row answer ∙ ap (λ root. at root.buckets name) (roots zone))
  looked_next st (BucketRead zone name) (No why) number looked roots answer of l is =
      let here : record { zone = zone; name = name; row = None; number = number } ≡ l = cc in
      subst (λ (q : Looked). q.row ≡ rows_in settings base q.zone q.name) here
      (none_is_shown (at (st.root zone).buckets name) why answer ∙ ap (λ root. at root.buckets name) (roots zone))
  looked_next st op reply number looked roots answer of l is = of l is

  -- an event found the slot of the history
  abbrev pub Found : Decided → Type 0
  Found d = d.before ≡ all_slots settings base d.zone d.container d.name

  -- no head was changed
  pub record Unchanged (history : List Event) (y : Account) : Type 0 where
    pub none : y.changes ≡ 0
    pub same : all_slots settings history ≡ all_slots settings base
    pub found : (d : Decided) → y.decided ≡ Some d → Found d
    pub still : (d : Decided) → y.decided ≡ Some d → d.after ≡ d.before

  -- one head was changed
  pub record ChangedOnce (history : List Event) (y : Account) : Type 0 where
    pub one : y.changes ≡ 1
    pub change : Decided
    pub found : Found change
    pub left : all_slots settings history ≡ with_zone_slot (all_slots settings base) change.zone change.container change.name change.after
    pub decided : (y.decided ≡ Some change) ⊎ ((d : Decided) → y.decided ≡ Some d → d.after ≡ d.before)

  -- the row that was looked up refuses as that of the history
  pub row_refuses : (looked : Option Looked) → OfRow looked → (zone : ℕ) (asker : Asker) (container : List ℕ) (deed : Deed) (refusal : Option Refusal) → LookedUp zone asker container deed refusal looked
      → row_refusal asker (rows_in settings base zone container) deed ≡ refusal
  row_refuses looked of zone asker container deed refusal l =
      subst (λ o. row_refusal asker o deed ≡ refusal) (of l.look l.is_last ∙ λ i. rows_in settings base (l.in_zone i) (l.under_name i)) l.refuses

  pub record Standing (history : List Event) (y : Account) : Type 0 where
    pub opened : IsOpen settings history
    pub roots : (zone : ℕ) → (state_of settings history).root zone ≡ (state_of settings base).root zone
    pub looked : OfRow y.looked
    pub of_row : (d : Decided) → y.decided ≡ Some d → OfRow d.looked
    pub changes : Unchanged history y ⊎ (ChangedOnce history y ⊎ (2 ≤ y.changes))

  -- the row that a reply of the bucket map rests on is that of the history
  pub row_by_map : (history : List Event) (y : Account) → Standing history y → (zone : ℕ) (asker : Asker) (command : Command) (reply : MapReply) (m : ByMap zone asker command reply y.decided)
      → rows_in settings base zone (container_of command) ≡ Some m.row
  row_by_map history y standing zone asker command reply m =
      sym (standing.of_row m.event m.is_last m.look m.looked ∙ λ i. rows_in settings base (m.look_in_zone i) (m.look_of_name i)) ∙ m.showed

  module _ (history : List Event) (e : Event) (legal : Legal settings (history ++ e ∷ [])) (y : Account) (standing : Standing history y) where
    abbrev w : Account
    w =
        accounted y (heads history) (world_of settings history).stripes.made e.op e.reply
        (number_next (state_of settings history)) (clock_at (state_of settings history).clock e.moment)

    abbrev longer : List Event
    longer = history ++ e ∷ []

    abbrev made : Made
    made = (world_of settings history).stripes.made

    abbrev number : ℕ
    number = number_next (state_of settings history)

    abbrev clock : ℕ
    clock = clock_at (state_of settings history).clock e.moment

    decided_now : is_change e.op e.reply ≡ false → Decides y (heads history) made clock w.decided
    decided_now is = decides y (heads history) made number clock e.op e.reply is

    still_unchanged : is_change e.op e.reply ≡ false → Unchanged history y → Unchanged longer w
    still_unchanged is u =
        let same = slots_still settings history e legal (maps_kept (heads history) e.op e.reply is) ∙ u.same in
        record {
          none = changes_kept y.changes e.op e.reply is ∙ u.none;
          same = same;
          found = λ d now. elim (decided_now is) [
            | inl old ↦ u.found d (sym old ∙ now)
            | inr (n, here, x) ↦
                let n_is : n ≡ d = cc in
                subst Found n_is (x.before ∙ λ i. u.same i n.zone n.container n.name)
          ];
          still = λ d now. elim (decided_now is) [
            | inl old ↦ u.still d (sym old ∙ now)
            | inr (n, here, x) ↦ let n_is : n ≡ d = cc in subst (λ (q : Decided). q.after ≡ q.before) n_is x.after
          ];
        }

    still_changed : is_change e.op e.reply ≡ false → ChangedOnce history y → ChangedOnce longer w
    still_changed is c = record {
      one = changes_kept y.changes e.op e.reply is ∙ c.one;
      change = c.change;
      found = c.found;
      left = slots_still settings history e legal (maps_kept (heads history) e.op e.reply is) ∙ c.left;
      decided = elim (decided_now is) [
        | inl old ↦ elim c.decided [
          | inl by ↦ inl (old ∙ by)
          | inr other ↦ inr (λ d now. other d (sym old ∙ now))
        ]
        | inr (n, here, x) ↦ inr (λ d now. let n_is : n ≡ d = cc in subst (λ (q : Decided). q.after ≡ q.before) n_is x.after)
      ];
    }

    changes_now : IsChange e.op e.reply → w.changes ≡ y.changes + 1
    changes_now x = λ i. changes_after y.changes (x.op_is i) (x.reply_is i)

    now_changed : (x : IsChange e.op e.reply) → Unchanged history y → ChangedOnce longer w
    now_changed x u =
        let slot = slot_now (heads history) made x.zone x.container x.name in
        let new_slot = whole_slot made x.zone (Live x.new x.change.stamp) in
        let d = decided_at y number clock x.zone x.container x.name slot new_slot in
        record {
          one = let n = changes_now x in let none = u.none in omega (arith, n, none);
          change = d;
          found = λ i. u.same i x.zone x.container x.name;
          left = slots_written settings history e legal x.zone x.container x.name x.guard x.new x.when_asked x.change x.op_is x.reply_is
              ∙ λ i. with_zone_slot (u.same i) x.zone x.container x.name new_slot;
          decided = inl (λ i. decided_after y (heads history) made (x.op_is i) (x.reply_is i) number clock);
        }

    by_change : Unchanged history y ⊎ (ChangedOnce history y ⊎ (2 ≤ y.changes)) → (b : Bool) → is_change e.op e.reply ≡ b → Unchanged longer w ⊎ (ChangedOnce longer w ⊎ (2 ≤ w.changes))
    by_change (inl u) false is = inl (still_unchanged is u)
    by_change (inr (inl c)) false is = inr (inl (still_changed is c))
    by_change (inr (inr many)) false is = inr (inr (let n = changes_kept y.changes e.op e.reply is in omega (arith, n, many)))
    by_change (inl u) true is = inr (inl (now_changed (change_is e.op e.reply is) u))
    by_change (inr (inl c)) true is = inr (inr (let n = changes_now (change_is e.op e.reply is) in let one = c.one in omega (arith, n, one)))
    by_change (inr (inr many)) true is = inr (inr (let n = changes_now (change_is e.op e.reply is) in omega (arith, n, many)))

    stands_next : keeps_open e.op ≡ true → Standing longer w
    stands_next keeps =
        let st = at_moment (state_of settings history) e.moment in
        let answer = (last_is_next settings history e legal).answer in
        record {
          opened = open_one settings history e keeps standing.opened;
          roots = λ zone. ap (λ (s : State). s.root zone) (state-next settings history e) ∙ (λ i. root_kept settings st e.op keeps i zone) ∙ standing.roots zone;
          looked = looked_next st e.op e.reply number y.looked standing.roots answer standing.looked;
          of_row = λ d is. elim (decided_by y (heads history) made number clock e.op e.reply d is) [
            | inl old ↦ standing.of_row d old
            | inr same ↦ subst OfRow (sym same) standing.looked
          ];
          changes = by_change standing.changes (is_change e.op e.reply) refl;
        }

  module _ (actor : ActorId) where
    pub stands_one_more : (history : List Event) (e : Event) → Legal settings (history ++ e ∷ []) → actor_of e ≡ actor → keeps_open e.op ≡ true → Standing history (account_of settings history actor) → Standing (history ++ e ∷ []) (account_of settings (history ++ e ∷ []) actor)
    stands_one_more history e legal by keeps standing =
        let own = subst (λ a. Standing history (account_of settings history a)) (sym by) standing in
        let next = stands_next history e legal (account_of settings history (actor_of e)) own keeps in
        let account = ap (λ (q : Doings). q.account) (doings-next settings history e) in
        subst (λ a. Standing (history ++ e ∷ []) (account_of settings (history ++ e ∷ []) a)) by
        (subst (Standing (history ++ e ∷ [])) (sym account) next)

    -- the own events come one after another
    pub stands_behind : (history es : List Event) → Legal settings (history ++ es) → AllByRecursion (λ e. actor_of e ≡ actor) es → AllByRecursion (λ e. keeps_open e.op ≡ true) es
        → Standing history (account_of settings history actor) → Standing (history ++ es) (account_of settings (history ++ es) actor)
    stands_behind history [] legal by keeps standing =
        subst (λ l. Standing l (account_of settings l actor)) (sym (append-nil history)) standing
    stands_behind history (e ∷ es) legal by keeps standing =
        let whole = append_assoc history (e ∷ []) es in
        let legal' = subst (Legal settings) (sym whole) legal in
        let next = stands_one_more history e (legal_front settings (start settings) (history ++ e ∷ []) es legal') by.0 keeps.0 standing in
        subst (λ l. Standing l (account_of settings l actor)) whole (stands_behind (history ++ e ∷ []) es legal' by.1 keeps.1 next)

  -- an actor without events
  pub stands_first : IsOpen settings base → Standing base blank
  stands_first opened = record {
    opened = opened;
    roots = λ zone. refl;
    looked = λ l is. absurd (cc);
    of_row = λ d is. absurd (cc);
    changes = inl (record { none = refl; same = refl; found = λ d is. absurd (cc); still = λ d is. absurd (cc) });
  }
