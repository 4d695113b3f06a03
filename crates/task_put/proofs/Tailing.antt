-- A PUT after its tails, and at the end of its body.
use Rattle.std.proofs.Common.{◌≡◌, ℕ, zero, suc, ◌+◌, ◌*◌, ◌==◌, ◌<◌, ◌≤◌, inr, ◌&&◌, ◌||◌, not, Bool, true, false, cond, List, [], ◌∷◌, map, length, Option, Some, None, refl, sym, ◌∙◌, ap, subst, arith, nat_le}
use Rattle.std.specs.List.{range_with_len}
use Rattle.std.proofs.lemmas.Bool.Decides.{nat_tests}
use Rattle.std.proofs.lemmas.List.{length-take, length-drop, length-map, map-append}
use Rattle.md5.specs.Md5.{md5}
use Rattle.rgw_types.specs.Stripes.{tails_of}
use Rattle.task_words.specs.declared.command.BodyEnd.{BodyEnd}
use Rattle.task_words.specs.declared.command.BodyEnd.TheVariants as ends
use Rattle.task_words.specs.declared.reply.MapReply.TheVariants.{Refused}
use Rattle.task_words.specs.declared.reply.Refusal.TheVariants.{OtherEtag}
use Rattle.task_words.specs.declared.outcome.Outcome.TheVariants as outcomes
use Rattle.task_words.specs.Answers.{is_other_etag}
use Rattle.std.proofs.lemmas.List.FromFn.{map-range_with_len_more, length-range_with_len}
use Rattle.rgw_types.specs.declared.pool_key.Key.{Key}
use Rattle.object_words.specs.declared.why.Why.TheVariants.{NoSpace as no_space}
use Rattle.object_words.specs.Keys.{put}
use Rattle.object_words.proofs.KeyLemmas.{number_itself}
use Rattle.realm_model.specs.Settings.{SettingsView}
use Rattle.realm_model.specs.Learnt.{first_after, put_bundle, with_part}
use Rattle.realm_model.specs.Maps.{Maps}
use Rattle.realm_model.specs.Needs.{is_between, is_first, is_own_write, is_next_part, has_parts}
use Rattle.realm_model.specs.Phases.{unused, opened, Phase}
use Rattle.realm_model.specs.Tests.{is_so}
use Rattle.realm_model.specs.declared.op.Op.{Op}
use Rattle.realm_model.specs.declared.op.Op.TheVariants.{TailMake}
use Rattle.realm_model.specs.declared.event.Reply.{Reply}
use Rattle.realm_model.specs.declared.event.Reply.TheVariants.{Done, No}
use Rattle.task_words.specs.Outcomes.{Granted}
use Rattle.swift_auth.specs.declared.policy.Deed.TheVariants.{ChangeThing}
use Rattle.task_put.specs.Bodies.{hand_of, has_tail, is_whole}
use Rattle.task_words.specs.Cuts.{first_bytes, tail_bytes}
use Rattle.task_put.specs.declared.stage.PutRequest.{PutRequest}
use Rattle.task_put.specs.declared.stage.Draft.{Draft}
use Rattle.task_put.specs.declared.stage.Stage.TheVariants.{Feeding, Changing, Ended}
use Rattle.index_update.specs.Fits.{Known, known_next, Start, HasName, AtRow, IsTagFree}
use Rattle.task_put.specs.Taking.{at_target}
use Rattle.task_put.specs.Stages.{step_of, head_of, update_of, draft_rest, taken, closed}
use Rattle.task_put.specs.Fits.{target_of, Untried, bundle_of, InTails, IsDraft, IsContent, FitsAt, MayCome, IsKept}
use Rattle.index_update.proofs.Counting.{left_same}
use Rattle.task_put.proofs.Cutting.{tails_counted, taken_out}
use Rattle.task_put.proofs.Showing.{parts_allowed}
use Rattle.task_put.specs.Orders.{Path, begun, feeding, updating, finished, astray, path_of}
use Rattle.task_put.specs.Fits.{IsAt, IsInOrder}
use Rattle.object_words.specs.declared.head.Conditions.{Conditions}
use Rattle.object_words.specs.declared.head.NewHead.{NewHead}
use Rattle.index_update.specs.declared.head_change.HeadChange.{HeadChange}
use Rattle.index_update.specs.declared.head_change.HeadChange.TheVariants.{Write}
use Rattle.index_update.specs.Paths.{ready}
use Rattle.index_update.proofs.Beginning.{preparing_begins}
use Rattle.index_update.proofs.Looking.{in_realm}

-- ---- the tail that waits

-- it has bytes
pub some_bytes : (n stripe : ℕ) (whole : Bool) → 16 ≤ stripe → (n == stripe || (whole && not (n == 0))) ≡ true → 1 ≤ n
some_bytes n stripe whole low waits =
    elim (n == 0) as (λ b. (n == 0) ≡ b → 1 ≤ n) [
      | true ↦ λ none. let is_none : n ≡ 0 = grind (arith, nat_tests, none) in absurd (never n stripe whole low is_none waits)
      | false ↦ λ some. grind (arith, nat_tests, some)
    ] refl
  where
    no_stripe : (s : ℕ) → 16 ≤ s → (0 == s) ≡ false
    no_stripe s low = grind (arith, nat_tests, low)

    nothing : (stripe : ℕ) (whole : Bool) → (0 == stripe) ≡ false → (0 == stripe || (whole && not (0 == 0))) ≡ false
    nothing stripe true apart = rw apart refl
    nothing stripe false apart = rw apart refl

    apart : true ≡ false → ⊥
    apart same = cc

    never : (n stripe : ℕ) (whole : Bool) → 16 ≤ stripe → n ≡ 0 → (n == stripe || (whole && not (n == 0))) ≡ true → ⊥
    never n stripe whole low none waits =
        let at_none : (0 == stripe || (whole && not (0 == 0))) ≡ true = subst (λ m. (m == stripe || (whole && not (m == 0))) ≡ true) none waits in
        apart (sym at_none ∙ nothing stripe whole (no_stripe stripe low))

-- it is full, where more may come
pub full_bytes : (n stripe : ℕ) → (n == stripe || (false && not (n == 0))) ≡ true → n ≡ stripe
full_bytes n stripe waits = grind (arith, nat_tests, waits)

-- ---- what was made

put_here : {A : Type 0} (f : ℕ → A) (n : ℕ) (x : A) → put f n x n ≡ x
put_here f n x = ap (λ b. cond b x (f n)) (number_itself n)

put_apart : {A : Type 0} (f : ℕ → A) (n q : ℕ) (x : A) → (n == q) ≡ false → put f n x q ≡ f q
put_apart f n q x other = ap (λ b. cond b x (f q)) other

bundle_here : {A : Type 0} (f : ℕ → ℕ → ℕ → A) (zone write holder : ℕ) (x : A) → put_bundle f zone write holder x zone write holder ≡ x
bundle_here f zone write holder x =
    ap (λ (g : ℕ → ℕ → _). g write holder) (put_here f zone (put (f zone) write (put (f zone write) holder x)))
    ∙ ap (λ (g : ℕ → _). g holder) (put_here (f zone) write (put (f zone write) holder x))
    ∙ put_here (f zone write) holder x

bundle_apart : {A : Type 0} (f : ℕ → ℕ → ℕ → A) (zone write holder q : ℕ) (x : A) → (holder == q) ≡ false → put_bundle f zone write holder x zone write q ≡ f zone write q
bundle_apart f zone write holder q x other =
    ap (λ (g : ℕ → ℕ → _). g write q) (put_here f zone (put (f zone) write (put (f zone write) holder x)))
    ∙ ap (λ (g : ℕ → _). g q) (put_here (f zone) write (put (f zone write) holder x))
    ∙ put_apart (f zone write) holder q x other

-- some tails
pub some_tails : (stripe : ℕ) (bytes : List ℕ) (tails : ℕ) → (tails == 0) ≡ false → bundle_of stripe bytes tails ≡ opened (map length (map (tail_bytes stripe bytes) (range_with_len 1 tails)))
some_tails stripe bytes tails some = ap (λ b. cond b unused (opened (map length (map (tail_bytes stripe bytes) (range_with_len 1 tails))))) some

pub not_none : (n : ℕ) → (suc n == 0) ≡ false
not_none n = grind (arith, nat_tests)

not_none_more : (n : ℕ) → (n + 1 == 0) ≡ false
not_none_more n = grind (arith, nat_tests)

-- the sizes with one tail more
one_more_size : (stripe : ℕ) (bytes : List ℕ) (tails : ℕ) → with_part (bundle_of stripe bytes tails) (length (tail_bytes stripe bytes (tails + 1))) ≡ bundle_of stripe bytes (tails + 1)
one_more_size stripe bytes zero = refl
one_more_size stripe bytes (suc n) =
    let part : ℕ → List ℕ = tail_bytes stripe bytes in
    let t : ℕ = suc n in
    let at : 1 + t ≡ t + 1 = omega arith in
    let more = map-range_with_len_more part 1 t (t + 1) at in
    let sizes = ap (map length) more ∙ map-append length (map part (range_with_len 1 t)) (part (t + 1) ∷ []) in
    ap (λ b. with_part b (length (part (t + 1)))) (some_tails stripe bytes t (not_none n)) ∙ ap opened (sym sizes) ∙ sym (some_tails stripe bytes (t + 1) (not_none_more t))

-- the bundle waits for the next part
next_part : (stripe : ℕ) (bytes : List ℕ) (tails : ℕ) → is_next_part (bundle_of stripe bytes tails) (tails + 1) ≡ true
next_part stripe bytes zero = refl
next_part stripe bytes (suc n) =
    let part : ℕ → List ℕ = tail_bytes stripe bytes in
    let long : length (map length (map part (range_with_len 1 (suc n)))) ≡ suc n = length-map (map part (range_with_len 1 (suc n))) length ∙ length-map (range_with_len 1 (suc n)) part ∙ length-range_with_len 1 (suc n) in
    ap (λ b. is_next_part b (suc n + 1)) (some_tails stripe bytes (suc n) (not_none n)) ∙ ap (λ m. suc n + 1 == m + 1) long ∙ number_itself (suc n + 1)

-- ---- the operation

both : (a b : Bool) → a ≡ true → b ≡ true → (a && b) ≡ true
both a b one two = rw (one, two) refl

left : (a b : Bool) → a ≡ true → (a || b) ≡ true
left a b one = rw one refl

module _ (settings : SettingsView) (r : PutRequest) (write : ℕ) (key : Key) (given : Draft) (k : Known) (f : FitsAt settings r (Feeding write key (at_target r given)) k) (waits : has_tail given.body ≡ true) where
  abbrev filled : Draft
  filled = at_target r given

  abbrev stripe : ℕ
  stripe = filled.body.stripe

  abbrev tails : ℕ
  tails = filled.body.tails

  abbrev tail : List ℕ
  tail = tail_bytes stripe filled.body.bytes (tails + 1)

  hand_some : 1 ≤ length (hand_of filled.body)
  hand_some = some_bytes (length (hand_of filled.body)) stripe (is_whole filled.body.end) f.0.low waits

  tail_fits : is_between 1 settings.stripe (length tail) ≡ true
  tail_fits =
      let taken = length-take stripe (hand_of filled.body) in
      let some = hand_some in
      let low = f.0.low in
      let is : stripe ≡ settings.stripe = f.0.stripe in
      let one : 1 ≤ length tail = omega (arith, taken, some, low) in
      let most : length tail ≤ settings.stripe = omega (arith, taken, is) in
      let a : nat_le 1 (length tail) ≡ true = grind (arith, nat_tests, one) in
      let b : nat_le (length tail) settings.stripe ≡ true = grind (arith, nat_tests, most) in
      both (nat_le 1 (length tail)) (nat_le (length tail) settings.stripe) a b

  pub feeding_may : 1 ≤ r.zone → r.zone ≤ settings.zones → MayCome settings (Feeding write key filled) k
  feeding_may low high =
      let t = f.4 in
      let p : Phase = k.phase in
      let first : is_first p write ≡ true = ap (λ o. is_so o (λ e. e.number == write)) t.is_first ∙ ap (λ n. n == write) t.numbered ∙ number_itself write in
      let own : is_own_write p r.zone write ≡ true = left (is_first p write) (is_so (p.stripes.reads write) (λ peer. not (peer == r.zone))) first in
      let next : is_next_part (p.stripes.own r.zone write write) (tails + 1) ≡ true = ap (λ b. is_next_part b (tails + 1)) t.own ∙ next_part stripe r.bytes tails in
      in_realm settings p (TailMake r.zone write (tails + 1) tail) low high
      (both (is_own_write p r.zone write) (is_next_part (p.stripes.own r.zone write write) (tails + 1) && is_between 1 settings.stripe (length tail)) own
      (both (is_next_part (p.stripes.own r.zone write write) (tails + 1)) (is_between 1 settings.stripe (length tail)) next tail_fits))

  -- ---- the answer

  module _ (maps : Maps) (number clock : ℕ) (before : k.last < number) where
    abbrev made_op : Op
    made_op = TailMake r.zone write (tails + 1) tail

    abbrev now : Reply → Known
    now reply = known_next k maps made_op reply number clock

    abbrev rest : Draft
    rest = draft_rest filled

    behind : stripe * (tails + 1) < length filled.body.bytes
    behind = let dropped = length-drop (stripe * (tails + 1)) filled.body.bytes in let some = hand_some in omega (arith, dropped, some)

    full : filled.body.end ≡ None → stripe * (tails + 1 + 1) ≤ length filled.body.bytes
    full unended =
        let here : (length (hand_of filled.body) == stripe || (false && not (length (hand_of filled.body) == 0))) ≡ true = subst (λ e. (length (hand_of filled.body) == stripe || (is_whole e && not (length (hand_of filled.body) == 0))) ≡ true) unended waits in
        let whole = full_bytes (length (hand_of filled.body)) stripe here in
        let dropped = length-drop (stripe * (tails + 1)) filled.body.bytes in
        let further : stripe * (tails + 1 + 1) ≡ stripe * (tails + 1) + stripe = omega arith in
        let low = f.0.low in
        omega (arith, whole, dropped, further, low)

    rest_drafted : IsDraft settings r rest
    rest_drafted =
        let d = f.0 in
        record {
          cut = record { needed = inr behind; paced = λ unended. inr (full unended) };
          target = refl;
          bytes = d.bytes;
          end = d.end;
          low = d.low;
          stripe = d.stripe;
          kind = d.kind;
          meta = d.meta;
          etag = d.etag;
          when = d.when;
        }

    untried_on : Untried (now Done)
    untried_on =
        let t = f.1 in
        record {
          moved = t.moved;
          left = left_same k.events (record { op = made_op; reply = Done; number = number; clock = clock }) 0 t.left refl;
          moved_before = (let was = t.moved_before in omega (arith, was, before));
          expired = t.expired;
          undecided = t.undecided;
          unchanged = t.unchanged;
        }

    at_row_still : AtRow (target_of r) key (now Done)
    at_row_still =
        let a = f.2 in
        record {
          row = a.row;
          number = a.number;
          looked = a.looked;
          read = a.read;
          granted = a.granted;
          some = a.some;
          names = a.names;
          later = a.later;
          before = (let was = a.before in omega (arith, was, before));
        }

    made_here : (part : ℕ) → 1 ≤ part → part ≤ tails + 1 → put_bundle k.made r.zone write (tails + 1) (Some tail) r.zone write part ≡ Some (tail_bytes stripe r.bytes part)
    made_here part one most =
        elim (tails + 1 == part) as (λ b. (tails + 1 == part) ≡ b → put_bundle k.made r.zone write (tails + 1) (Some tail) r.zone write part ≡ Some (tail_bytes stripe r.bytes part)) [
          | true ↦ λ is.
              let same : part ≡ tails + 1 = grind (arith, nat_tests, is) in
              subst (λ q. put_bundle k.made r.zone write (tails + 1) (Some tail) r.zone write q ≡ Some (tail_bytes stripe r.bytes q)) (sym same)
              (bundle_here k.made r.zone write (tails + 1) (Some tail) ∙ ap (λ bs. Some (tail_bytes stripe bs (tails + 1))) f.0.bytes)
          | false ↦ λ other.
              let less : part ≤ tails = grind (arith, nat_tests, other, most) in
              bundle_apart k.made r.zone write (tails + 1) part (Some tail) other ∙ f.4.made part one less
        ] refl

    in_more_tails : InTails r.zone write stripe (tails + 1) r.bytes (now Done)
    in_more_tails =
        let t = f.4 in
        record {
          first = t.first;
          is_first = ap (λ o. first_after o number clock) t.is_first;
          numbered = t.numbered;
          own = bundle_here k.phase.stripes.own r.zone write write (with_part (k.phase.stripes.own r.zone write write) (length tail))
              ∙ ap (λ b. with_part b (length tail)) t.own
              ∙ ap (λ bs. with_part (bundle_of stripe r.bytes tails) (length (tail_bytes stripe bs (tails + 1)))) f.0.bytes
              ∙ one_more_size stripe r.bytes tails;
          made = made_here;
        }

    tail_made : FitsAt settings r (Feeding write key rest) (now Done)
    tail_made = (rest_drafted, untried_on, at_row_still, f.3, in_more_tails)

    no_room : (free needed : ℕ) → FitsAt settings r (step_of (Feeding write key filled) number (No (no_space free needed))) (now (No (no_space free needed)))
    no_room free needed =
        let a = f.2 in
        let t = f.1 in (
          record {
            by_row = record { look = record { zone = r.zone; name = r.command.container; row = Some a.row; number = a.number }; is_last = a.looked; in_zone = refl; under_name = refl; refuses = a.granted };
            unchanged = t.unchanged;
          },
          record { want = record { number = number; free = free; needed = needed }; is_last = refl; found = refl; wanted = refl },
        )

  pub feeding_kept : (reply : Reply) → IsKept settings r (Feeding write key filled) k reply
  feeding_kept Done maps number clock before suits answers = tail_made maps number clock before
  feeding_kept (No (no_space free needed)) maps number clock before suits answers = no_room maps number clock before free needed
  feeding_kept reply maps number clock before suits answers = absurd suits

-- ---- the body's end

-- the path of a PUT that takes bytes
pub at_feeding : (write : ℕ) (key : Key) (draft : Draft) (path : Path) → IsAt (Feeding write key draft) path → path ≡ feeding
at_feeding write key draft feeding is = refl
at_feeding write key draft begun is = absurd is
at_feeding write key draft (updating path) is = absurd is
at_feeding write key draft finished is = absurd is
at_feeding write key draft astray is = absurd is

-- the tails of the head are all that were made
parts_of : (r : PutRequest) (new : NewHead) (when : Conditions) (k : Known) → IsContent r new when k → has_parts k.phase r.zone new ≡ true
parts_of r new when k is = parts_allowed k.phase r.zone new r.bytes is.head is.tails.own

module _ (settings : SettingsView) (r : PutRequest) (write : ℕ) (key : Key) (given : Draft) (k : Known) (low : 1 ≤ r.zone) (high : r.zone ≤ settings.zones) (named : HasName (target_of r)) (in_order : IsInOrder settings r (Feeding write key (at_target r given)) k.events) (f : FitsAt settings r (Feeding write key (at_target r given)) k) (none : has_tail given.body ≡ false) where
  abbrev came : Draft
  came = at_target r given

  granted : Granted r.zone r.asker r.command.container ChangeThing k.account
  granted =
      let a = f.2 in
      record {
        by_row = record { look = record { zone = r.zone; name = r.command.container; row = Some a.row; number = a.number }; is_last = a.looked; in_zone = refl; under_name = refl; refuses = a.granted };
        unchanged = f.1.unchanged;
      }

  module _ (is : came.body.end ≡ Some ends.Whole) where
    whole : r.end ≡ Some ends.Whole
    whole = sym f.0.end ∙ is

    nothing_left : (n : ℕ) → (n == came.body.stripe || (true && not (n == 0))) ≡ false → n ≡ 0
    nothing_left n other = grind (arith, nat_tests, other)

    counted : tails_of (head_of write came).manifest ≡ came.body.tails
    counted =
        let other : (length (hand_of came.body) == came.body.stripe || (true && not (length (hand_of came.body) == 0))) ≡ false = subst (λ e. (length (hand_of came.body) == came.body.stripe || (is_whole e && not (length (hand_of came.body) == 0))) ≡ false) is none in
        let empty = nothing_left (length (hand_of came.body)) other in
        tails_counted came.body.stripe came.body.tails (length came.body.bytes) f.0.low (taken_out came.body.stripe came.body.tails came.body.bytes empty) f.0.cut.needed

    content : is_other_etag came.etag came.body.bytes ≡ false → IsContent r (head_of write came) came.when k
    content right =
        let d = f.0 in
        record {
          head = record {
            some = (let low = d.low in omega (arith, low));
            first = ap (first_bytes came.body.stripe) d.bytes;
            size = ap length (sym d.bytes);
          };
          sent = record { kind = d.kind; meta = d.meta; etag = ap md5 d.bytes };
          when = d.when;
          is_taken = record {
            whole = whole;
            right = subst (λ e. is_other_etag e r.bytes ≡ false) d.etag (subst (λ bs. is_other_etag came.etag bs ≡ false) d.bytes right);
          };
          tails = subst (λ n. InTails r.zone write came.body.stripe n r.bytes k) (sym counted) f.4;
        }

    begins : is_other_etag came.etag came.body.bytes ≡ false → FitsAt settings r (Changing (md5 came.body.bytes) (update_of write key came)) k
    begins right =
        let change : HeadChange = Write (head_of write came) came.when in
        let s : Start = record { change = change; from = ready; known = k } in
        let c = content right in (
          s,
          record {
            new = head_of write came;
            when = came.when;
            change = refl;
            target = refl;
            etag_is = refl;
            from = refl;
            content = c;
            untried = f.1;
            order = at_feeding write key came (path_of k.events) in_order.0;
            stripe = f.0.stripe;
            cut = in_order.1.cut;
            unchanged = in_order.1.made.1;
          },
          preparing_begins settings k (target_of r) change key named (record {
            low = low;
            high = high;
            free = subst IsTagFree (sym f.3) tt;
            needs = parts_of r (head_of write came) came.when k c;
            moved = f.1.moved_before;
          }) f.2,
        )

    taken_fits : FitsAt settings r (taken write key came) k
    taken_fits =
        elim (is_other_etag came.etag came.body.bytes) as (λ b. is_other_etag came.etag came.body.bytes ≡ b → FitsAt settings r (cond b (Ended (outcomes.Done (Refused OtherEtag))) (Changing (md5 came.body.bytes) (update_of write key came))) k) [
          | true ↦ λ other. (
            record { whole = whole; wrong = subst (λ e. is_other_etag e r.bytes ≡ true) f.0.etag (subst (λ bs. is_other_etag came.etag bs ≡ true) f.0.bytes other) },
            granted,
            f.1.undecided,
          )
          | false ↦ λ right. begins right
        ] refl

  pub closed_fits : (end : Option BodyEnd) → came.body.end ≡ end → FitsAt settings r (closed write key came end) k
  closed_fits None is = f
  closed_fits (Some ends.Failed) is = (sym f.0.end ∙ is, granted, f.1.undecided)
  closed_fits (Some ends.Whole) is = taken_fits is
