-- The row that an actor reads first, behind the calls that alone made their events, is that which stood before them.
use Rattle.std.proofs.Common.{◌≡◌, ℕ, suc, ◌+◌, ◌≤◌, true, false, List, [], ◌∷◌, ◌++◌, length, Some, None, Option, sym, ◌∙◌, ap, refl, subst, arith, append_assoc}
use Rattle.std.specs.Prelude.{is_some}
use Rattle.std.specs.List.{AllByRecursion}
use Rattle.std.proofs.lemmas.List.{append-nil}
use Rattle.http_model.specs.declared.head.Head.{Head}
use Rattle.http_model.specs.Heads.{BeginsWith}
use Rattle.http_model.proofs.StreamLaws.{one_head}
use Rattle.rgw_model.specs.Stamps.{counted_moment}
use Rattle.object_words.specs.declared.bucket.Bucket.{Bucket}
use Rattle.realm_model.specs.Settings.{SettingsView, IsSettings}
use Rattle.realm_model.specs.Owns.{OwnEvent, clock_after, own_from, own_events, NoneBy}
use Rattle.realm_model.specs.Phases.{ActorId}
use Rattle.realm_model.specs.Histories.{state_of, Legal}
use Rattle.realm_model.specs.Shown.{row_shown}
use Rattle.realm_model.specs.States.{at_moment}
use Rattle.realm_model.specs.Steps.{row_reply, reply_of}
use Rattle.realm_model.specs.Worlds.{start, actor_of}
use Rattle.realm_model.specs.declared.op.Op.TheVariants.{BucketRead}
use Rattle.realm_model.specs.declared.event.Event.{Event}
use Rattle.realm_model.proofs.Runs.{last_is_next, legal_front}
use Rattle.realm_door.specs.Steps.{actor_of_pass}
use Rattle.realm_door.proofs.Others.{own-append, same_after_others}
use Rattle.swift_auth.specs.Users.{UserView}
use Rattle.swift_auth.specs.declared.policy.Deed.TheVariants.{ChangeThing}
use Rattle.swift_requests.specs.Asks.{asked_of}
use Rattle.swift_requests.specs.declared.asked.Asked.{Asked}
use Rattle.swift_requests.specs.declared.asked.Asked.TheVariants as Asks
use Rattle.task_words.specs.Rows.{row_refusal}
use Rattle.call_words.specs.Bodies.{read_whole}
use Rattle.call_words.specs.Calls.{Call, ReadsRowFirst, first_refuses, IsLeftByRow, actor_after, AreRight}
use Rattle.call_words.specs.Made.{AreBy, AreMade}
use Rattle.call_words.specs.Requests.{requests_of}
use Rattle.call_words.specs.Streams.{CallsEnd, Taken, IsFrontFrom}
use Rattle.call_words.proofs.Reading.{one_call}
use Rattle.call_words.specs.Bodies.{stays_unread}
use Rattle.once_law.specs.Folds.{AreOfObjects}
use Rattle.once_law.specs.Maps.{Rows, rows_in}
use Rattle.once_law.specs.Runs.{NoneFrom, IsOpen, AreAt}
use Rattle.once_law.specs.Readings.{refuses_put, AreReadAlone, IsCutGranted}
use Rattle.once_law.proofs.Calls.{at_both, alone_before, rows_kept, open_kept}
use Rattle.once_law.proofs.Folding.{unused_behind}
use Rattle.once_law.proofs.Moments.{clock_behind}
use Rattle.once_law.proofs.Walking.{own_of, own_here}

-- ---- one read

shown_is : (found : Option Bucket) → row_shown (row_reply found) ≡ found
shown_is None = refl
shown_is (Some row) = refl

first_is : (x y : OwnEvent) (xs ys : List OwnEvent) → ◌∷◌ x xs ≡ y ∷ ys → x ≡ y
first_is x y xs ys is = cc

-- the first event of an actor reads the row that stands before it
row_first : (settings : SettingsView) (base later : List Event) (actor : ActorId) (zone : ℕ) (container : List ℕ) → Legal settings (base ++ later) → NoneBy actor base → AllByRecursion (λ e. actor_of e ≡ actor) later
    → (r : ReadsRowFirst zone container (own_events (base ++ later) actor)) → row_shown r.look.reply ≡ rows_in settings base zone container
row_first settings base [] actor zone container legal none by r =
    let empty : own_events (base ++ []) actor ≡ [] = ap (λ l. own_events l actor) (append-nil base) ∙ (same_after_others settings [] base actor none).events in
    let clash : ◌∷◌ r.look r.others ≡ [] = sym r.begins ∙ empty in absurd (cc)
row_first settings base (e ∷ es) actor zone container legal none by r =
    let rest = own_from (0 + length base) (clock_after 0 base) (e ∷ es) actor in
    let own_is : own_events (base ++ e ∷ es) actor ≡ own_of (0 + length base) (clock_after 0 base) e ∷ _ =
    own-append 0 0 base (e ∷ es) actor ∙ ap (λ (l : List OwnEvent). l ++ rest) (same_after_others settings [] base actor none).events
    ∙ own_here actor (0 + length base) (clock_after 0 base) e es by.0 in
    let first = first_is r.look (own_of (0 + length base) (clock_after 0 base) e) r.others _ (sym r.begins ∙ own_is) in
    let op : e.op ≡ BucketRead zone container = sym (ap (λ (o : OwnEvent). o.op) first) ∙ r.op in
    let front = legal_front settings (start settings) (base ++ e ∷ []) es (subst (Legal settings) (sym (append_assoc base (e ∷ []) es)) legal) in
    let answer = (last_is_next settings base e front).answer in
    let shown : e.reply ≡ row_reply (rows_in settings base zone container) = answer ∙ ap (reply_of settings (at_moment (state_of settings base) e.moment)) op in
    ap (λ (o : OwnEvent). row_shown o.reply) first ∙ ap row_shown shown ∙ shown_is (rows_in settings base zone container)

-- ---- behind calls

module _ (settings : SettingsView) (good : IsSettings settings) (zone pass moment : ℕ) (container : List ℕ) where
  row_behind : (before more : List Event) (next : ℕ) (calls : List Call) (last : ℕ) (later : List Event) → AreOfObjects calls → Legal settings (before ++ more) → NoneFrom pass next before → AreRight settings zone pass (before ++ more) next calls last
      → AreMade pass calls more later → AreBy pass last later → IsOpen settings before → (state_of settings before).clock ≤ counted_moment moment → AreAt moment more
      → (r : ReadsRowFirst zone container (own_events (before ++ more) (actor_of_pass pass last))) → row_shown r.look.reply ≡ rows_in settings before zone container
  row_behind before more next [] last later of_objects legal unused right made by_last opened low at r =
      let is : next ≡ last = right in
      row_first settings before more (actor_of_pass pass last) zone container legal (unused last (omega (arith, is))) (subst (AreBy pass last) (sym made) by_last) r
  row_behind before more next (call ∷ calls) last later of_objects legal unused right (first, others, both, own, made) by_last opened low at r =
      let whole_is : before ++ more ≡ (before ++ first) ++ others = ap (λ l. before ++ l) both ∙ sym (append_assoc before first others) in
      let legal' = subst (Legal settings) whole_is legal in
      let right' = subst (λ l. AreRight settings zone pass l next (call ∷ calls) last) whole_is right in
      let ats = at_both settings good zone pass moment first others (subst (AreAt moment) both at) in
      let m = alone_before settings good zone pass moment before first others next call calls later last call.ground of_objects.0 legal' unused right'.2 right'.0 own made by_last right'.1.0 right'.1.1 opened low ats.0 in
      let moved : ReadsRowFirst zone container (own_events ((before ++ first) ++ others) (actor_of_pass pass last)) =
      record { look = r.look; others = r.others; begins = ap (λ l. own_events l (actor_of_pass pass last)) (sym whole_is) ∙ r.begins; op = r.op } in
      let rest = row_behind (before ++ first) others (actor_after next call.ground) calls last later of_objects.1 legal' (unused_behind settings good zone pass (λ count. 0) next call.ground before first right'.0 own unused) right'.2 made by_last (open_kept settings good zone pass moment before first call call.ground m)
      (clock_behind settings before first moment low ats.0) ats.1 moved in
      rest ∙ ap (λ (rows : ℕ → Rows). rows zone container) (rows_kept settings good zone pass moment before first call call.ground m)

-- ---- a request that is cut off

-- what the row that was read first lets in, the rows do not refuse
let_in_is : (zone : ℕ) (rows : Rows) (events : List OwnEvent)
    → ((container : List ℕ) (r : ReadsRowFirst zone container events) → row_shown r.look.reply ≡ rows container)
    → (asked : Asked) → IsLeftByRow zone asked true read_whole events → refuses_put rows asked ≡ false
let_in_is zone rows events shows (Asks.Put asker c) (reads, read) =
    ap (λ o. is_some (row_refusal asker o ChangeThing)) (sym (shows c.container reads)) ∙ sym (ap (first_refuses asker ChangeThing) reads.begins) ∙ sym read
let_in_is zone rows events shows asked left = refl

-- the same requests leave the same rest
one_front : (largest : ℕ) (users : List UserView) (k : ℕ) (bytes : List ℕ) (ms : List Taken) (r q : List ℕ) → IsFrontFrom largest users k bytes ms r → IsFrontFrom largest users k bytes ms q → r ≡ q
one_front largest users k bytes [] r q x y = sym x ∙ y
one_front largest users k bytes (m ∷ ms) r q (after, takes, stays, front) (behind, also, remains, further) =
    let same = (one_call largest users bytes (stays_unread m.fate) m m after behind (λ is. refl) (λ is. refl) takes also).1 in
    one_front largest users (suc k) after ms r q front (subst (λ l. IsFrontFrom largest users (suc k) l ms q) (sym same) further)

module _ (settings : SettingsView) (zone : ℕ) (users : List UserView) (rows : Rows) (k : ℕ) (bytes : List ℕ) (good : IsSettings settings) where
  pub cut_granted : (calls : List Call) (end : CallsEnd) → AreReadAlone settings zone users rows k bytes calls end → AreOfObjects calls → IsCutGranted rows settings.largest users k bytes calls end
  cut_granted calls end r of_objects rest after head cut front begins =
      let a = r.alone in
      let l = r.let_in cut in
      let there = l.0 in
      let behind = l.1 in
      let other = l.2 in
      let same = one_front settings.largest users k bytes (requests_of calls) rest there front l.3 in
      let heads = one_head there head other after behind (subst (λ l. BeginsWith l head after) same begins) l.4 in
      let shows = λ (container : List ℕ) (first : ReadsRowFirst zone container (own_events (r.before ++ r.more) (actor_of_pass r.pass r.last))).
      row_behind settings good zone r.pass r.moment container r.before r.more r.next calls r.last a.later of_objects r.legal a.unused a.right a.made a.by_last a.opened r.low r.at first
      ∙ ap (λ (q : Rows). q container) r.rows_are in
      ap (λ (h : Head). refuses_put rows (asked_of settings.largest users h)) heads.0
      ∙ let_in_is zone rows (own_events (r.before ++ r.more) (actor_of_pass r.pass r.last)) shows (asked_of settings.largest users other) l.5
