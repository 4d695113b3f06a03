-- Each answer brings a DELETE to a stage that its actor's own events come to.
use Rattle.std.proofs.Common.{◌≡◌, ℕ, ◌+◌, ◌<◌, ◌≤◌, ◌==◌, ◌&&◌, ◌||◌, not, inl, inr, Bool, true, false, cond, List, [], ◌∷◌, ◌++◌, map, Option, Some, None, refl, sym, ◌∙◌, ap, subst, arith, nat_lt, append_assoc}
use Rattle.std.specs.Prelude.{bytes_eq}
use Rattle.std.specs.Cmp.Lexicographic.{pointwise}
use Rattle.std.specs.List.{AllByRecursion, list_any, range_with_len}
use Rattle.std.specs.Ordering.{eq_by_cmp}
use Rattle.std.specs.FinMap.Entries.{find}
use Rattle.std.proofs.lemmas.Bool.{true≢false, and_parts}
use Rattle.std.proofs.lemmas.Bool.Decides.{nat_tests}
use Rattle.std.proofs.lemmas.List.{map-append}
use Rattle.std.proofs.lemmas.List.FromFn.{map-range_with_len_more}
use Rattle.std.proofs.lemmas.Slice.Eq.{bytes_eq-Decides}
use Rattle.object_words.specs.declared.bucket.Bucket.{Bucket}
use Rattle.object_words.specs.declared.bucket.Busy.{Busy}
use Rattle.object_words.specs.declared.why.Why.{Why}
use Rattle.object_words.specs.declared.why.Why.TheVariants as whys
use Rattle.object_words.specs.declared.why.Why.TheVariants.{Absent, Moved, Closed, Held, Fenced, NotEmpty, Unsettled, Raced}
use Rattle.object_words.specs.Keys.{put, shard_key}
use Rattle.object_words.specs.Names.{name_cmp, Named, at, entries}
use Rattle.object_words.specs.Numbers.{greatest}
use Rattle.object_words.specs.Roots.{is_same_pair, shares_all, stored_or_none}
use Rattle.object_words.proofs.KeyLemmas.{number_itself}
use Rattle.object_words.proofs.NameLemmas.{at-with_name, name_itself}
use Rattle.realm_model.specs.Accounts.{MovedCount, Account, is_left, accounted}
use Rattle.realm_model.specs.Learnt.{learnt, row_known, left_by_swap, put_bundle, set_in, numbered, worked, with_closed as add_closed}
use Rattle.realm_model.specs.Tests.{is_so}
use Rattle.realm_model.specs.Maps.{Maps, Made}
use Rattle.realm_model.specs.Needs.{has_ended, has_read}
use Rattle.realm_model.specs.Owns.{OwnEvent, learnt_from}
use Rattle.realm_model.specs.Phases.{RowRead, OwnNumber, OwnWork, Phase, fresh}
use Rattle.realm_model.specs.Suits.{Suits}
use Rattle.realm_model.specs.declared.op.Op.{Op}
use Rattle.realm_model.specs.declared.op.Op.TheVariants.{BucketRead, Shut as shut_op}
use Rattle.realm_model.specs.declared.event.Reply.{Reply}
use Rattle.realm_model.specs.declared.event.Reply.TheVariants.{Done, No, Row}
use Rattle.task_words.specs.declared.asker.Asker.{Asker}
use Rattle.task_words.specs.Outcomes.{most_moved, left_count}
use Rattle.task_container.specs.declared.closing.Closing.{Closing}
use Rattle.task_container.specs.declared.closing.Due.{Due}
use Rattle.task_container.specs.declared.closing.Due.TheVariants as dues
use Rattle.task_container.specs.declared.closing.OwnClosing.{OwnClosing}
use Rattle.task_container.specs.declared.outcome.ContainerOutcome.TheVariants as outcomes
use Rattle.task_container.specs.declared.outcome.ContainerReply.TheVariants as the
use Rattle.task_container.specs.declared.progress.Stage.{Stage}
use Rattle.task_container.specs.declared.progress.Stage.TheVariants.{Look, Begin, Close, Remove, LookToRemove, Shut, Clear, LookToClear, Release, Ended}
use Rattle.task_container.specs.declared.progress.Tally.{Tally}
use Rattle.task_container.specs.declared.request.ContainerCommand.{ContainerCommand}
use Rattle.task_container.specs.declared.request.ContainerCommand.TheVariants.{Head, Put, Post, Delete}
use Rattle.task_container.specs.declared.request.ContainerRequest.{ContainerRequest}
use Rattle.task_container.specs.Closings.{next_number, closing_row, cleared_row, begun_closing, own_number, owns, next_below, with_closed, with_row, is_still, has_ended_by}
use Rattle.task_container.specs.Ends.{swapped_by, raced_by, done_swaps, last_number, EndsReading, IsStopped, IsLeft, IsNeverRemoved}
use Rattle.task_container.specs.Fits.{HasSet, HasSetIfAny, Going, HasRow, IsSetIn, Closes, IsDue, MayRelease, HasShut, FitsAt}
use Rattle.task_container.specs.Requests.{IsDelete}
use Rattle.task_container.specs.Stages.{first_seen, one_more, one_moved, one_raced, with_begun, op_at, step_at, after_left, own_or_busy, closing_by, close_or_refuse, after_delete_look, close_or_remove, shut_or_end, remove_race, remove_look, after_due, is_fenced, release_or_end, clear_race, clear_look, most_raced}
use Rattle.task_container.proofs.Going.{left_none, left_one, swaps_same, last_more, all_left, raced_on, set_on, going_on, race_goes_on, race_ends}
use Rattle.task_container.proofs.Orders.{swaps_more}

-- a stage of a closing
abbrev pub IsRemoval : Stage → Type 0
IsRemoval (Begin row) = Unit {0}
IsRemoval (Close c) = Unit {0}
IsRemoval (Remove c) = Unit {0}
IsRemoval (LookToRemove c) = Unit {0}
IsRemoval (Shut row shard) = Unit {0}
IsRemoval (Clear c due) = Unit {0}
IsRemoval (LookToClear c due) = Unit {0}
IsRemoval (Release c shard due) = Unit {0}
IsRemoval stage = ⊥

-- ---- maps and rows

put_here : {A : Type 0} (f : ℕ → A) (n : ℕ) (x : A) → put f n x n ≡ x
put_here f n x = ap (λ b. cond b x (f n)) (number_itself n)

bundle_here : {A : Type 0} (f : ℕ → ℕ → ℕ → A) (z w h : ℕ) (x : A) → put_bundle f z w h x z w h ≡ x
bundle_here f z w h x = rw (number_itself z, number_itself w, number_itself h) refl

both : (a b : Bool) → a ≡ true → b ≡ true → (a && b) ≡ true
both a b x y = rw x y

or_left : (a b : Bool) → a ≡ true → (a || b) ≡ true
or_left a b is = rw is refl

or_right : (a b : Bool) → b ≡ true → (a || b) ≡ true
or_right true b two = refl
or_right false b two = two

same_number : (a b : ℕ) → (a == b) ≡ true → a ≡ b
same_number a b is = grind (arith, nat_tests, is)

text_itself : (x : List ℕ) → bytes_eq x x ≡ true
text_itself x = (bytes_eq-Decides x x).1 refl

pairs_itself : (xs : List (List ℕ × List ℕ)) → pointwise is_same_pair xs xs ≡ true
pairs_itself [] = refl
pairs_itself (x ∷ xs) = both (is_same_pair x x) (pointwise is_same_pair xs xs) (both (bytes_eq x.0 x.0) (bytes_eq x.1 x.1) (text_itself x.0) (text_itself x.1)) (pairs_itself xs)

-- a closing leaves the part that zones share
shares : (row new : Bucket) → shares_all row row ≡ true
shares row new =
    both (row.id == row.id) _ (number_itself row.id)
    (both (bytes_eq row.owner row.owner) _ (text_itself row.owner)
    (both (pointwise is_same_pair row.meta row.meta) _ (pairs_itself row.meta)
    (both (bytes_eq row.readers row.readers) (bytes_eq row.writers row.writers) (text_itself row.readers) (text_itself row.writers))))

found_any : (test : RowRead → Bool) (name : List ℕ) (es : List (List ℕ × RowRead)) (read : RowRead) → find name_cmp name es ≡ Some read → test read ≡ true → list_any (λ e. test e.1) es ≡ true
found_any test name [] read found passes = ap (λ o. is_so o test) found ∙ passes
found_any test name (e ∷ es) read found passes =
    elim (eq_by_cmp name_cmp name e.0) as (λ b. cond b (Some e.1) (find name_cmp name es) ≡ Some read → (test e.1 || list_any (λ e. test e.1) es) ≡ true) [
      | true ↦ λ same. or_left (test e.1) (list_any (λ e. test e.1) es) (ap (λ o. is_so o test) same ∙ passes)
      | false ↦ λ same. or_right (test e.1) (list_any (λ e. test e.1) es) (found_any test name es read same passes)
    ] found

later : (n : ℕ) → 0 < n → nat_lt 0 n ≡ true
later n more = grind (arith, nat_tests)

has_read_row : (rows : Named RowRead) (name : List ℕ) (row : Bucket) (number : ℕ) (test : Bucket → Bool) → at rows name ≡ Some (record { row = Some row; at = number }) → 0 < number → test row ≡ true → has_read rows 0 test ≡ true
unfolding at entries
has_read_row rows name row number test found some passes =
    found_any (λ r. nat_lt 0 r.at && is_so r.row test) name rows.list (record { row = Some row; at = number }) found (both (nat_lt 0 number) (test row) (later number some) passes)

up_one : (n most : ℕ) → n < most → next_below n most ≡ n + 1
up_one n most less = ap (λ b. cond b (n + 1) n) (let is : nat_lt n most ≡ true = grind (arith, nat_tests, less) in is)

-- ---- the own number in a row

record Owned (begun : Option OwnClosing) (row : Bucket) (busy : Busy) (q : Phase) : Type 0 where
  mine : begun ≡ Some (record { container = row.id; instance = row.instance; number = busy.number })
  closing : busy.closing ≡ true
  set : HasSet (record { container = row.id; instance = row.instance; number = busy.number }) q

owned : (begun : Option OwnClosing) (row : Bucket) (busy : Busy) (q : Phase) → owns begun row busy ≡ true → HasSetIfAny begun q → Owned begun row busy q
owned None row busy q is set = absurd (true≢false (sym is))
owned (Some g) row busy q is set =
    let a = and_parts busy.closing _ is in
    let b = and_parts (g.number == busy.number) _ a.1 in
    let c = and_parts (g.container == row.id) (g.instance == row.instance) b.1 in
    let same : ◌≡◌ {A = OwnClosing} g (record { container = row.id; instance = row.instance; number = busy.number }) =
    λ i. record { container = same_number g.container row.id c.0 i; instance = same_number g.instance row.instance c.1 i; number = same_number g.number busy.number b.0 i } in
    record { mine = ap (λ o. Some o) same; closing = a.0; set = subst (λ o. HasSet o q) same set }

record Still (c : Closing) (row : Bucket) : Type 0 where
  shards : row.shards ≡ c.row.shards
  id : c.row.id ≡ row.id
  instance : c.row.instance ≡ row.instance
  set : row.busy ≡ Some (record { number = c.number; closing = true })

still : (c : Closing) (row : Bucket) → is_still c row ≡ true → Still c row
still c row is =
    let a = and_parts (row.shards == c.row.shards) (is_so row.busy (owns (Some (own_number c)) row)) is in
    by_busy row.busy refl a.0 a.1 where
      by_busy : (o : Option Busy) → row.busy ≡ o → (row.shards == c.row.shards) ≡ true → is_so o (owns (Some (own_number c)) row) ≡ true → Still c row
      by_busy None e shards own = absurd (true≢false (sym own))
      by_busy (Some busy) e shards own =
          let a = and_parts busy.closing _ own in
          let b = and_parts (c.number == busy.number) _ a.1 in
          let d = and_parts (c.row.id == row.id) (c.row.instance == row.instance) b.1 in
          record {
            shards = same_number row.shards c.row.shards shards;
            id = same_number c.row.id row.id d.0;
            instance = same_number c.row.instance row.instance d.1;
            set = e ∙ ap (λ o. Some o) (λ i. record { number = sym (same_number c.number busy.number b.0) i; closing = a.0 i });
          }

-- the closing goes on with the row as it is now
closes_again : (c : Closing) (row : Bucket) (t : Tally) (q : Phase) → Still c row → Closes c t q → Closes (with_row c row) t q
closes_again c row t q s x = record {
  mine = x.mine ∙ ap (λ o. Some o) (λ i. record { container = s.id i; instance = s.instance i; number = c.number });
  work = x.work;
  begun = subst (λ id. (q.work 1 id row.instance).begun c.number ≡ Some x.work) s.id (subst (λ n. (q.work 1 c.row.id n).begun c.number ≡ Some x.work) s.instance x.begun);
  closing = x.closing;
  closed = x.closed;
}

-- ---- stages that follow

module _ (zone : ℕ) (asker : Asker) (name : List ℕ) (shards : ℕ) (q : Phase) (x : Account) (es : List OwnEvent) (n : ℕ) where
  abbrev asks : ContainerRequest
  asks = record { zone = zone; asker = asker; command = Delete name }

  closes_or_removes : (c : Closing) (t : Tally) → Going (Delete name) t q x es n → Closes c t q → HasRow name c.row q → IsSetIn c → c.row.owner ≡ asker.account → c.closed ≤ c.row.shards → t.made ≤ shards → FitsAt asks shards (close_or_remove c) t q x es n
  closes_or_removes c t going closes has set yours most low =
      elim (nat_lt c.closed c.row.shards) as (λ b. nat_lt c.closed c.row.shards ≡ b → FitsAt asks shards (cond b (Close c) (Remove c)) t q x es n) [
        | true ↦ λ less. (going, tt, closes, has, set, yours, grind (arith, nat_tests, less), low)
        | false ↦ λ all. (going, tt, closes, has, set, yours, grind (arith, nat_tests, all, most), low)
      ] refl

  ends_due : (due : Due) (t : Tally) → Going (Delete name) t q x es n → IsDue due es → t.made ≤ shards → FitsAt asks shards (after_due due) t q x es n
  ends_due (dues.NotEmpty thing) t going is low = (tt, is, going.kept)
  ends_due (dues.Unsettled thing) t going is low = (tt, is, going.kept)
  ends_due (dues.Held id) t going is low = (tt, inl is, going.kept)
  ends_due dues.Fenced t going is low = (going, low)

  releases_or_ends : (c : Closing) (shard : ℕ) (due : Due) (t : Tally) → Going (Delete name) t q x es n → MayRelease c q → IsDue due es → t.made ≤ shards → FitsAt asks shards (release_or_end c shard due) t q x es n
  releases_or_ends c shard due t going may is low =
      elim (nat_lt shard c.closed) as (λ b. nat_lt shard c.closed ≡ b → FitsAt asks shards (cond b (Release c shard due) (after_due due)) t q x es n) [
        | true ↦ λ less. (going, tt, may, is, grind (arith, nat_tests, less), low)
        | false ↦ λ all. ends_due due t going is low
      ] refl

  shuts_or_ends : (row : Bucket) (shard : ℕ) (t : Tally) → (q.work 1 row.id row.instance).removed ≡ Some row.shards → shard ≤ row.shards → HasShut asks row shard es → FitsAt asks shards (shut_or_end row shard) t q x es n
  shuts_or_ends row shard t removed most s =
      elim (nat_lt shard row.shards) as (λ b. nat_lt shard row.shards ≡ b → FitsAt asks shards (cond b (Shut row shard) (Ended (outcomes.Done the.Removed))) t q x es n) [
        | true ↦ λ less. (tt, removed, grind (arith, nat_tests, less), s)
        | false ↦ λ all.
            let same : shard ≡ row.shards = grind (arith, nat_tests, all, most) in (
              tt,
              record {
                before = s.before;
                remove = s.remove;
                shuts = s.shuts;
                stands = s.stands;
                row = row;
                known = s.known;
                own = s.own;
                removes = s.removes;
                done = s.done;
                shut = s.shut ∙ ap (λ k. map (λ m. shut_op 1 (shard_key row.id row.instance m)) (range_with_len 0 k)) same;
              },
            )
      ] refl

-- ---- one answer more

module _ (shards : ℕ) (p : Phase) (y : Account) (events : List OwnEvent) (last number clock : ℕ) (maps : Maps) (made : Made) (before : last < number) where
  abbrev after : Op → Reply → Account
  after op reply = accounted y maps made op reply number clock

  abbrev knows : Op → Reply → Phase
  knows op reply = learnt p op reply number clock

  abbrev own : Op → Reply → OwnEvent
  own op reply = record { op = op; reply = reply; number = number; clock = clock }

  abbrev more : Op → Reply → List OwnEvent
  more op reply = events ++ own op reply ∷ []

  -- why a closing is given up stays
  stopped_on : (why : Why) (op : Op) (reply : Reply) → IsStopped why events → IsStopped why (more op reply)
  stopped_on why op reply s = record {
    before = s.before;
    stop = s.stop;
    later = s.later ++ own op reply ∷ [];
    stands = ap (λ (es : List OwnEvent). es ++ own op reply ∷ []) s.stands ∙ append_assoc s.before (s.stop ∷ s.later) (own op reply ∷ []);
    key = s.key;
    number = s.number;
    closes = s.closes;
    refused = s.refused;
  }

  due_on : (due : Due) (op : Op) (reply : Reply) → IsDue due events → IsDue due (more op reply)
  due_on (dues.NotEmpty name) op reply is = stopped_on (whys.NotEmpty name) op reply is
  due_on (dues.Unsettled name) op reply is = stopped_on (whys.Unsettled name) op reply is
  due_on (dues.Held id) op reply is = stopped_on (whys.Held id) op reply is
  due_on dues.Fenced op reply is = tt

  module _ (zone : ℕ) (asker : Asker) (name : List ℕ) (t : Tally) where
    abbrev r : ContainerRequest
    r = record { zone = zone; asker = asker; command = Delete name }

    abbrev seen : Tally
    seen = first_seen t number

    abbrev look : Op
    look = BucketRead 1 name

    -- ---- the row was read

    read_row : (row : Bucket) → HasRow name row (knows look (Row row))
    read_row row =
        let read : RowRead = record { row = Some row; at = number } in
        record { number = number; read = at-with_name (p.rows 1) name read name ∙ ap (λ b. cond b (Some read) (at (p.rows 1) name)) (name_itself name) }

    ends_by_row : (row : Bucket) → EndsReading name (Some row) (more look (Row row))
    ends_by_row row = record { before = events; last = own look (Row row); stands = refl; is = refl; told = refl }

    module _ (going : Going (Delete name) t p y events last) (low : t.made ≤ shards) where
      pub delete_none : FitsAt r shards (after_delete_look asker.account seen None) seen (knows look (No Absent)) (after look (No Absent)) (more look (No Absent)) number
      delete_none =
          let goes = going_on p y events last number clock maps made before (Delete name) t look (No Absent) going refl refl refl refl refl refl refl in
          record { row = None; showed = record { before = events; last = own look (No Absent); stands = refl; is = refl; told = refl }; missing = refl; kept = goes.kept }

      module _ (row : Bucket) where
        goes : Going (Delete name) seen (knows look (Row row)) (after look (Row row)) (more look (Row row)) number
        goes = going_on p y events last number clock maps made before (Delete name) t look (Row row) going refl refl refl refl refl refl refl

        own_here : (yours : row.owner ≡ asker.account) (busy : Busy) → row.busy ≡ Some busy → owns t.begun row busy ≡ true → FitsAt r shards (close_or_remove (record { row = row; number = busy.number; closed = 0 })) seen (knows look (Row row)) (after look (Row row)) (more look (Row row)) number
        own_here yours busy is mine =
            let o = owned t.begun row busy (knows look (Row row)) mine goes.set in
            closes_or_removes zone asker name shards (knows look (Row row)) (after look (Row row)) (more look (Row row)) number (record { row = row; number = busy.number; closed = 0 }) seen goes
            (record { mine = o.mine; work = (o.set).work; begun = (o.set).begun; closing = (o.set).closing; closed = λ k less. absurd (omega (arith, less)) })
            (read_row row) (record { busy = is ∙ ap (λ b. Some b) (λ i. record { number = busy.number; closing = o.closing i }) }) yours (omega arith) low

        closing_here : row.owner ≡ asker.account → FitsAt r shards (closing_by seen.begun row row.busy) seen (knows look (Row row)) (after look (Row row)) (more look (Row row)) number
        closing_here yours =
            elim row.busy as (λ b. row.busy ≡ b → FitsAt r shards (closing_by seen.begun row b) seen (knows look (Row row)) (after look (Row row)) (more look (Row row)) number) [
              | None ↦ λ idle.
                  elim (nat_lt row.number greatest) as (λ b. nat_lt row.number greatest ≡ b → FitsAt r shards (cond b (Begin row) Look) seen (knows look (Row row)) (after look (Row row)) (more look (Row row)) number) [
                    | true ↦ λ less. (goes, tt, read_row row, yours, idle, grind (arith, nat_tests, less), low)
                    | false ↦ λ all. (goes, low)
                  ] refl
              | Some busy ↦ λ is.
                  elim (owns t.begun row busy) as (λ b. owns t.begun row busy ≡ b → FitsAt r shards (own_or_busy b row busy) seen (knows look (Row row)) (after look (Row row)) (more look (Row row)) number) [
                    | true ↦ λ mine. own_here yours busy is mine
                    | false ↦ λ other. (
                      tt,
                      inr (record { row = row; showed = ends_by_row row; own = yours; busy = busy; set = is; number = refl; other = ap (λ o. owns o row busy) goes.begun_is ∙ other }),
                      goes.kept,
                    )
                  ] refl
            ] refl

        pub delete_row : FitsAt r shards (after_delete_look asker.account seen (Some row)) seen (knows look (Row row)) (after look (Row row)) (more look (Row row)) number
        delete_row =
            elim (bytes_eq row.owner asker.account) as (λ b. bytes_eq row.owner asker.account ≡ b → FitsAt r shards (close_or_refuse seen (cond b (Some row) None)) seen (knows look (Row row)) (after look (Row row)) (more look (Row row)) number) [
              | true ↦ λ same. closing_here ((bytes_eq-Decides row.owner asker.account).0 same)
              | false ↦ λ other. record { row = Some row; showed = ends_by_row row; missing = ap (λ b. cond b (Some row) None) other; kept = goes.kept }
            ] refl

    -- the row that is known, and the swap of it
    known : (row : Bucket) → HasRow name row p → row_known (p.rows 1) name ≡ Some row
    known row has = rw has.read refl

    -- ---- the closing began

    module _ (row : Bucket) (fits : FitsAt r shards (Begin row) t p y events last) where
      abbrev begins : Op
      begins = op_at r shards (Begin row) t

      abbrev closing : Closing
      closing = begun_closing row number

      abbrev busy : Busy
      busy = record { number = next_number row; closing = true }

      row_left : left_by_swap p.rows 1 name (Some (closing_row row)) number ≡ Some closing.row
      row_left =
          ap (λ k. stored_or_none k (Some (closing_row row)) true number) (known row fits.2)
          ∙ ap (λ b. Some (record (closing_row row) { version = number; shared = cond (not b) number row.shared })) (shares row (closing_row row))

      begun_read : HasRow name closing.row (knows begins Done)
      begun_read =
          let read : RowRead = record { row = left_by_swap p.rows 1 name (Some (closing_row row)) number; at = number } in
          record {
            number = number;
            read =
                at-with_name (p.rows 1) name read name ∙ ap (λ b. cond b (Some read) (at (p.rows 1) name)) (name_itself name)
                ∙ ap (λ (o : Option Bucket). Some (record { row = o; at = number })) row_left;
          }

      number_begun : ((knows begins Done).work 1 row.id row.instance).begun (next_number row) ≡ Some (set_in busy)
      number_begun =
          ap (λ k. (worked p.work 1 k (Some (closing_row row)) 1 row.id row.instance).begun (next_number row)) (known row fits.2)
          ∙ ap (λ (w : OwnWork). w.begun (next_number row)) (bundle_here p.work 1 row.id row.instance (numbered (p.work 1 row.id row.instance) row.busy (Some busy)))
          ∙ ap (λ b. (numbered (p.work 1 row.id row.instance) b (Some busy)).begun (next_number row)) fits.4
          ∙ put_here (p.work 1 row.id row.instance).begun (next_number row) (Some (set_in busy))

      has_begun : FitsAt r shards (close_or_remove closing) (with_begun seen (Some (own_number closing))) (knows begins Done) (after begins Done) (more begins Done) number
      has_begun =
          let going = fits.0 in
          let raced = raced_on p y events last number clock maps made before begins Done t.raced 0 going.raced_is refl in
          let swaps = swaps_more events (own begins Done) in
          closes_or_removes zone asker name shards (knows begins Done) (after begins Done) (more begins Done) number closing (with_begun seen (Some (own_number closing)))
          (record {
            starts = tt;
            moved_is = left_none events (own begins Done) refl ∙ going.moved_is;
            few = going.few;
            moved_before = (let was = going.moved_before in omega (arith, was, before));
            raced_is = omega (arith, raced);
            few_raced = going.few_raced;
            kept = subst (AllByRecursion IsLeft) (sym swaps) (all_left (done_swaps events) (closing_row row) going.kept);
            begun_is = ap (last_number None) swaps ∙ last_more None (done_swaps events) (Some (closing_row row));
            set = record { work = set_in busy; begun = number_begun; closing = refl };
          })
          (record { mine = refl; work = set_in busy; begun = number_begun; closing = refl; closed = λ k less. absurd (omega (arith, less)) })
          begun_read (record { busy = refl }) fits.3 (omega arith) fits.6

    begin_raced : (row : Bucket) (version : ℕ) → FitsAt r shards (Begin row) t p y events last → FitsAt r shards (step_at r shards (Begin row) seen number (No (Raced version))).stage (one_raced seen) (knows (op_at r shards (Begin row) t) (No (Raced version))) (after (op_at r shards (Begin row) t) (No (Raced version))) (more (op_at r shards (Begin row) t) (No (Raced version))) number
    begin_raced row version fits =
        let op = op_at r shards (Begin row) t in
        let reply = No (Raced version) in
        elim (nat_lt (one_more t.raced) most_raced) as (λ b. nat_lt (one_more t.raced) most_raced ≡ b → FitsAt r shards (cond b Look (Ended outcomes.RacedOften)) (one_raced seen) (knows op reply) (after op reply) (more op reply) number) [
          | true ↦ λ less. (race_goes_on p y events last number clock maps made before (Delete name) t r row.version version (Some (closing_row row)) fits.0 less, fits.6)
          | false ↦ λ all. race_ends p y events last number clock maps made before (Delete name) t r row.version version (Some (closing_row row)) fits.0 all
        ] refl

    -- ---- a shard was closed

    module _ (c : Closing) (fits : FitsAt r shards (Close c) t p y events last) where
      abbrev closes : Op
      closes = op_at r shards (Close c) t

      abbrev work_here : OwnWork
      work_here = p.work 1 c.row.id c.row.instance

      abbrev closed_more : OwnNumber
      closed_more = record fits.2.work { closed = put fits.2.work.closed c.closed true }

      still_begun : ((knows closes Done).work 1 c.row.id c.row.instance).begun c.number ≡ Some closed_more
      still_begun =
          ap (λ (w : OwnWork). w.begun c.number) (bundle_here p.work 1 c.row.id c.row.instance (record work_here { begun = put work_here.begun c.number (add_closed (work_here.begun c.number) c.closed) }))
          ∙ put_here work_here.begun c.number (add_closed (work_here.begun c.number) c.closed)
          ∙ ap (λ o. add_closed o c.closed) fits.2.begun

      below : (k : ℕ) → k < c.closed + 1 → put fits.2.work.closed c.closed true k ≡ true
      below k less =
          elim (c.closed == k) as (λ b. (c.closed == k) ≡ b → cond b true (fits.2.work.closed k) ≡ true) [
            | true ↦ λ same. refl
            | false ↦ λ other. fits.2.closed k (let apart = other in grind (arith, nat_tests, apart, less))
          ] refl

      shard_closed : FitsAt r shards (close_or_remove (with_closed c)) seen (knows closes Done) (after closes Done) (more closes Done) number
      shard_closed =
          let going = fits.0 in
          let less = fits.6 in
          let up = up_one c.closed c.row.shards less in
          let raced = raced_on p y events last number clock maps made before closes Done t.raced 0 going.raced_is refl in
          let swaps = swaps_same events (own closes Done) refl in
          closes_or_removes zone asker name shards (knows closes Done) (after closes Done) (more closes Done) number (with_closed c) seen
          (record {
            starts = tt;
            moved_is = left_none events (own closes Done) refl ∙ going.moved_is;
            few = going.few;
            moved_before = (let was = going.moved_before in omega (arith, was, before));
            raced_is = omega (arith, raced);
            few_raced = going.few_raced;
            kept = subst (AllByRecursion IsLeft) (sym swaps) going.kept;
            begun_is = ap (last_number None) swaps ∙ going.begun_is;
            set = subst (λ o. HasSetIfAny o (knows closes Done)) (sym fits.2.mine) (record { work = closed_more; begun = still_begun; closing = fits.2.closing });
          })
          (record { mine = fits.2.mine; work = closed_more; begun = still_begun; closing = fits.2.closing; closed = λ k low. below k (omega (arith, low, up)) })
          (record { number = fits.3.number; read = fits.3.read }) (record { busy = fits.4.busy }) fits.5 (omega (arith, up, less)) fits.7

      -- it no longer serves
      shard_left : (reply : Reply) → (after closes reply).moved ≡ y.moved → (knows closes reply).work ≡ p.work → swapped_by closes reply ≡ [] → raced_by closes reply ≡ 0 → is_left reply ≡ true → FitsAt r shards (after_left (one_more t.moved)) (one_moved seen) (knows closes reply) (after closes reply) (more closes reply) number
      shard_left reply moves works none unraced leaves =
          let going = fits.0 in
          let was = going.moved_is in
          let few = going.few in
          let count = left_one events (own closes reply) leaves in
          let one : left_count (more closes reply) ≡ one_more t.moved = omega (arith, count, was, few) in
          let raced = raced_on p y events last number clock maps made before closes reply t.raced 0 going.raced_is unraced in
          let swaps = swaps_same events (own closes reply) none in
          let kept : IsNeverRemoved (more closes reply) = subst (AllByRecursion IsLeft) (sym swaps) going.kept in
          elim (nat_lt (one_more t.moved) most_moved) as (λ b. nat_lt (one_more t.moved) most_moved ≡ b → FitsAt r shards (cond b Look (Ended outcomes.MovedOften)) (one_moved seen) (knows closes reply) (after closes reply) (more closes reply) number) [
            | true ↦ λ less. (
              record {
                starts = tt;
                moved_is = one;
                few = grind (arith, nat_tests, less);
                moved_before = (let low = going.moved_before in let lasts = ap (λ (m : MovedCount). m.last) moves in omega (arith, low, lasts, before));
                raced_is = omega (arith, raced);
                few_raced = going.few_raced;
                kept = kept;
                begun_is = ap (last_number None) swaps ∙ going.begun_is;
                set = set_on p y events last number clock maps made before t.begun closes reply going.set works;
              },
              fits.7,
            )
            | false ↦ λ all.
                let often : most_moved ≤ one_more t.moved = grind (arith, nat_tests, all) in
                (omega (arith, one, often, few), kept)
          ] refl

      -- it is not closed, and the number is cleared
      given_up : (due : Due) (why : Why) → Going (Delete name) seen (knows closes (No why)) (after closes (No why)) (more closes (No why)) number → (knows closes (No why)).work ≡ p.work → (knows closes (No why)).rows ≡ p.rows → IsDue due (more closes (No why)) → FitsAt r shards (Clear c due) seen (knows closes (No why)) (after closes (No why)) (more closes (No why)) number
      given_up due why going works rows is = (
        going,
        tt,
        record {
          mine = fits.2.mine;
          work = fits.2.work;
          begun = ap (λ (f : ℕ → ℕ → ℕ → OwnWork). (f 1 c.row.id c.row.instance).begun c.number) works ∙ fits.2.begun;
          closing = fits.2.closing;
          closed = fits.2.closed;
        },
        record { number = fits.3.number; read = ap (λ (f : ℕ → Named RowRead). at (f 1) name) rows ∙ fits.3.read },
        record { busy = fits.4.busy },
        is,
        fits.7,
      )

      stops : (why : Why) → IsStopped why (more closes (No why))
      stops why = record {
        before = events;
        stop = own closes (No why);
        later = [];
        stands = refl;
        key = shard_key c.row.id c.row.instance c.closed;
        number = c.number;
        closes = refl;
        refused = refl;
      }

    closed_or_not : (c : Closing) (reply : Reply) → Suits (op_at r shards (Close c) t) reply → FitsAt r shards (Close c) t p y events last
        → FitsAt r shards (step_at r shards (Close c) seen number reply).stage (step_at r shards (Close c) seen number reply).tally (knows (op_at r shards (Close c) t) reply) (after (op_at r shards (Close c) t) reply) (more (op_at r shards (Close c) t) reply) number
    closed_or_not c Done suits fits = shard_closed c fits
    closed_or_not c (No (Moved instance)) suits fits = shard_left c fits (No (Moved instance)) refl refl refl refl refl
    closed_or_not c (No Closed) suits fits = shard_left c fits (No Closed) refl refl refl refl refl
    closed_or_not c (No (NotEmpty thing)) suits fits =
        given_up c fits (dues.NotEmpty thing) (NotEmpty thing) (going_on p y events last number clock maps made before (Delete name) t (op_at r shards (Close c) t) (No (NotEmpty thing)) fits.0 refl refl refl refl refl refl refl) refl refl (stops c fits (NotEmpty thing))
    closed_or_not c (No (Unsettled thing)) suits fits =
        given_up c fits (dues.Unsettled thing) (Unsettled thing) (going_on p y events last number clock maps made before (Delete name) t (op_at r shards (Close c) t) (No (Unsettled thing)) fits.0 refl refl refl refl refl refl refl) refl refl (stops c fits (Unsettled thing))
    closed_or_not c (No (Held id)) suits fits =
        given_up c fits (dues.Held id) (Held id) (going_on p y events last number clock maps made before (Delete name) t (op_at r shards (Close c) t) (No (Held id)) fits.0 refl refl refl refl refl refl refl) refl refl (stops c fits (Held id))
    closed_or_not c (No (Fenced fence)) suits fits =
        given_up c fits dues.Fenced (Fenced fence) (going_on p y events last number clock maps made before (Delete name) t (op_at r shards (Close c) t) (No (Fenced fence)) fits.0 refl refl refl refl refl refl refl) refl refl tt
    closed_or_not c reply suits fits = absurd suits

    -- ---- the row was taken away

    module _ (c : Closing) (fits : FitsAt r shards (Remove c) t p y events last) (all_learnt : p ≡ learnt_from fresh events) where
      abbrev removes : Op
      removes = op_at r shards (Remove c) t

      removed : FitsAt r shards (shut_or_end (c.row) 0) seen (knows removes Done) (after removes Done) (more removes Done) number
      removed =
          shuts_or_ends zone asker name shards (knows removes Done) (after removes Done) (more removes Done) number (c.row) 0 seen
          (ap (λ k. (worked p.work 1 k None 1 c.row.id c.row.instance).removed) (known c.row fits.3)
          ∙ ap (λ (w : OwnWork). w.removed) (bundle_here p.work 1 c.row.id c.row.instance (record (p.work 1 c.row.id c.row.instance) { removed = Some c.row.shards })))
          (omega arith)
          (record {
            before = events;
            remove = own removes Done;
            shuts = [];
            stands = refl;
            known = ap (λ (q : Phase). row_known (q.rows 1) name) (sym all_learnt) ∙ known c.row fits.3;
            own = fits.5;
            removes = refl;
            done = refl;
            shut = refl;
          })

    remove_raced : (c : Closing) (version : ℕ) → FitsAt r shards (Remove c) t p y events last → FitsAt r shards (remove_race c (one_more t.raced)) (one_raced seen) (knows (op_at r shards (Remove c) t) (No (Raced version))) (after (op_at r shards (Remove c) t) (No (Raced version))) (more (op_at r shards (Remove c) t) (No (Raced version))) number
    remove_raced c version fits =
        let op = op_at r shards (Remove c) t in
        let reply = No (Raced version) in
        elim (nat_lt (one_more t.raced) most_raced) as (λ b. nat_lt (one_more t.raced) most_raced ≡ b → FitsAt r shards (cond b (LookToRemove c) (Ended outcomes.RacedOften)) (one_raced seen) (knows op reply) (after op reply) (more op reply) number) [
          | true ↦ λ less. (
            race_goes_on p y events last number clock maps made before (Delete name) t r c.row.version version None fits.0 less,
            tt,
            record { mine = fits.2.mine; work = fits.2.work; begun = fits.2.begun; closing = fits.2.closing; closed = fits.2.closed },
            fits.6,
            fits.7,
          )
          | false ↦ λ all. race_ends p y events last number clock maps made before (Delete name) t r c.row.version version None fits.0 all
        ] refl

    -- the row was read again
    module _ (c : Closing) (fits : FitsAt r shards (LookToRemove c) t p y events last) where
      removes_again : (row : Bucket) → FitsAt r shards (remove_look asker.account c seen (Some row)) seen (knows look (Row row)) (after look (Row row)) (more look (Row row)) number
      removes_again row =
          elim (bytes_eq row.owner asker.account && is_still c row) as (λ b. (bytes_eq row.owner asker.account && is_still c row) ≡ b → FitsAt r shards (cond b (Remove (with_row c row)) (after_delete_look asker.account seen (Some row))) seen (knows look (Row row)) (after look (Row row)) (more look (Row row)) number) [
            | true ↦ λ is.
                let a = and_parts (bytes_eq row.owner asker.account) (is_still c row) is in
                let s = still c row a.1 in (
                  goes fits.0 fits.4 row,
                  tt,
                  closes_again c row seen (knows look (Row row)) s (record { mine = fits.2.mine; work = fits.2.work; begun = fits.2.begun; closing = fits.2.closing; closed = fits.2.closed }),
                  read_row row,
                  record { busy = s.set },
                  (bytes_eq-Decides row.owner asker.account).0 a.0,
                  fits.3 ∙ sym s.shards,
                  fits.4,
                )
            | false ↦ λ other. delete_row fits.0 fits.4 row
          ] refl

    -- ---- a shard was shut

    module _ (row : Bucket) (shard : ℕ) (fits : FitsAt r shards (Shut row shard) t p y events last) where
      abbrev shuts : Op
      shuts = op_at r shards (Shut row shard) t

      one_shut : FitsAt r shards (shut_or_end row (next_below shard row.shards)) seen (knows shuts Done) (after shuts Done) (more shuts Done) number
      one_shut =
          let s = fits.3 in
          let less = fits.2 in
          let up = up_one shard row.shards less in
          let from_zero : 0 + shard ≡ shard = omega arith in
          let op : ℕ → Op = λ m. shut_op 1 (shard_key row.id row.instance m) in
          shuts_or_ends zone asker name shards (knows shuts Done) (after shuts Done) (more shuts Done) number row (next_below shard row.shards) seen fits.1 (omega (arith, up, less))
          (record {
            before = s.before;
            remove = s.remove;
            shuts = s.shuts ++ own shuts Done ∷ [];
            stands = ap (λ (es : List OwnEvent). es ++ own shuts Done ∷ []) s.stands ∙ append_assoc s.before (s.remove ∷ s.shuts) (own shuts Done ∷ []);
            known = s.known;
            own = s.own;
            removes = s.removes;
            done = s.done;
            shut =
                map-append (λ (e : OwnEvent). e.op) s.shuts (own shuts Done ∷ []) ∙ ap (λ (ops : List Op). ops ++ shuts ∷ []) s.shut
                ∙ sym (map-range_with_len_more op 0 shard shard from_zero) ∙ ap (λ k. map op (range_with_len 0 k)) (sym up);
          })

    -- ---- the number was cleared

    module _ (c : Closing) (due : Due) (fits : FitsAt r shards (Clear c due) t p y events last) where
      abbrev clears : Op
      clears = op_at r shards (Clear c due) t

      abbrev set_number : Busy
      set_number = record { number = c.number; closing = true }

      number_cleared : ((knows clears Done).work 1 c.row.id c.row.instance).cleared c.number ≡ true
      number_cleared =
          ap (λ k. (worked p.work 1 k (Some (cleared_row c.row)) 1 c.row.id c.row.instance).cleared c.number) (known c.row fits.3)
          ∙ ap (λ (w : OwnWork). w.cleared c.number) (bundle_here p.work 1 c.row.id c.row.instance (numbered (p.work 1 c.row.id c.row.instance) c.row.busy None))
          ∙ ap (λ b. (numbered (p.work 1 c.row.id c.row.instance) b None).cleared c.number) fits.4.busy
          ∙ put_here (p.work 1 c.row.id c.row.instance).cleared c.number true

      cleared : FitsAt r shards (release_or_end c 0 due) (with_begun seen None) (knows clears Done) (after clears Done) (more clears Done) number
      cleared =
          let going = fits.0 in
          let raced = raced_on p y events last number clock maps made before clears Done t.raced 0 going.raced_is refl in
          let swaps = swaps_more events (own clears Done) in
          releases_or_ends zone asker name shards (knows clears Done) (after clears Done) (more clears Done) number c 0 due (with_begun seen None)
          (record {
            starts = tt;
            moved_is = left_none events (own clears Done) refl ∙ going.moved_is;
            few = going.few;
            moved_before = (let was = going.moved_before in omega (arith, was, before));
            raced_is = omega (arith, raced);
            few_raced = going.few_raced;
            kept = subst (AllByRecursion IsLeft) (sym swaps) (all_left (done_swaps events) (cleared_row c.row) going.kept);
            begun_is = ap (last_number None) swaps ∙ last_more None (done_swaps events) (Some (cleared_row c.row));
            set = tt;
          })
          (λ k. or_left (((knows clears Done).work 1 c.row.id c.row.instance).cleared c.number) (has_read ((knows clears Done).rows 1) 0 (has_ended (shard_key c.row.id c.row.instance k) c.number)) number_cleared)
          (due_on due clears Done fits.5) fits.6

      clear_raced : (version : ℕ) → FitsAt r shards (clear_race c due (one_more t.raced)) (one_raced seen) (knows clears (No (Raced version))) (after clears (No (Raced version))) (more clears (No (Raced version))) number
      clear_raced version =
          let reply = No (Raced version) in
          elim (nat_lt (one_more t.raced) most_raced) as (λ b. nat_lt (one_more t.raced) most_raced ≡ b → FitsAt r shards (cond b (LookToClear c due) (Ended outcomes.RacedOften)) (one_raced seen) (knows clears reply) (after clears reply) (more clears reply) number) [
            | true ↦ λ less. (
              race_goes_on p y events last number clock maps made before (Delete name) t r c.row.version version (Some (cleared_row c.row)) fits.0 less,
              tt,
              record { mine = fits.2.mine; work = fits.2.work; begun = fits.2.begun; closing = fits.2.closing; closed = fits.2.closed },
              due_on due clears reply fits.5,
              fits.6,
            )
            | false ↦ λ all. race_ends p y events last number clock maps made before (Delete name) t r c.row.version version (Some (cleared_row c.row)) fits.0 all
          ] refl

    -- the row was read again
    module _ (c : Closing) (due : Due) (fits : FitsAt r shards (LookToClear c due) t p y events last) where
      may_end : (row : Bucket) → has_ended_by c row ≡ true → MayRelease c (knows look (Row row))
      unfolding read_row
      may_end row ended k =
          let has = read_row row in
          or_right (((knows look (Row row)).work 1 c.row.id c.row.instance).cleared c.number) (has_read ((knows look (Row row)).rows 1) 0 (has_ended (shard_key c.row.id c.row.instance k) c.number))
          (has_read_row ((knows look (Row row)).rows 1) name row number (has_ended (shard_key c.row.id c.row.instance k) c.number) has.read (omega (arith, before)) ended)

      clears_again : (row : Bucket) → FitsAt r shards (clear_look asker.account c due seen (Some row)) seen (knows look (Row row)) (after look (Row row)) (more look (Row row)) number
      clears_again row =
          let is = due_on due look (Row row) fits.3 in
          let here = goes fits.0 fits.4 row in
          elim (is_still c row) as (λ b. is_still c row ≡ b → FitsAt r shards (cond b (Clear (with_row c row) due) (cond (is_fenced due) (after_delete_look asker.account seen (Some row)) (cond (has_ended_by c row) (release_or_end c 0 due) (after_due due)))) seen (knows look (Row row)) (after look (Row row)) (more look (Row row)) number) [
            | true ↦ λ set.
                let s = still c row set in (
                  here,
                  tt,
                  closes_again c row seen (knows look (Row row)) s (record { mine = fits.2.mine; work = fits.2.work; begun = fits.2.begun; closing = fits.2.closing; closed = fits.2.closed }),
                  read_row row,
                  record { busy = s.set },
                  is,
                  fits.4,
                )
            | false ↦ λ unset.
                elim (is_fenced due) as (λ b. FitsAt r shards (cond b (after_delete_look asker.account seen (Some row)) (cond (has_ended_by c row) (release_or_end c 0 due) (after_due due))) seen (knows look (Row row)) (after look (Row row)) (more look (Row row)) number) [
                  | true ↦ delete_row fits.0 fits.4 row
                  | false ↦
                      elim (has_ended_by c row) as (λ b. has_ended_by c row ≡ b → FitsAt r shards (cond b (release_or_end c 0 due) (after_due due)) seen (knows look (Row row)) (after look (Row row)) (more look (Row row)) number) [
                        | true ↦ λ ended. releases_or_ends zone asker name shards (knows look (Row row)) (after look (Row row)) (more look (Row row)) number c 0 due seen here (may_end row ended) is fits.4
                        | false ↦ λ other. ends_due zone asker name shards (knows look (Row row)) (after look (Row row)) (more look (Row row)) number due seen here is fits.4
                      ] refl
                ]
          ] refl

      clears_none : FitsAt r shards (clear_look asker.account c due seen None) seen (knows look (No Absent)) (after look (No Absent)) (more look (No Absent)) number
      clears_none =
          elim (is_fenced due) as (λ b. FitsAt r shards (cond b (after_delete_look asker.account seen None) (after_due due)) seen (knows look (No Absent)) (after look (No Absent)) (more look (No Absent)) number) [
            | true ↦ delete_none fits.0 fits.4
            | false ↦
                ends_due zone asker name shards (knows look (No Absent)) (after look (No Absent)) (more look (No Absent)) number due seen
                (going_on p y events last number clock maps made before (Delete name) t look (No Absent) fits.0 refl refl refl refl refl refl refl) (due_on due look (No Absent) fits.3) fits.4
          ]

    -- ---- a shard was released

    module _ (c : Closing) (shard : ℕ) (due : Due) (fits : FitsAt r shards (Release c shard due) t p y events last) where
      abbrev releases : Op
      releases = op_at r shards (Release c shard due) t

      one_released : FitsAt r shards (release_or_end c (next_below shard c.closed) due) seen (knows releases Done) (after releases Done) (more releases Done) number
      one_released =
          releases_or_ends zone asker name shards (knows releases Done) (after releases Done) (more releases Done) number c (next_below shard c.closed) due seen
          (going_on p y events last number clock maps made before (Delete name) t releases Done fits.0 refl refl refl refl refl refl refl) fits.2 (due_on due releases Done fits.3) fits.5

    -- ---- every stage

    abbrev Steps : Stage → Reply → Type 0
    Steps stage reply =
        FitsAt r shards stage t p y events last
        → FitsAt r shards (step_at r shards stage seen number reply).stage (step_at r shards stage seen number reply).tally (knows (op_at r shards stage t) reply) (after (op_at r shards stage t) reply) (more (op_at r shards stage t) reply) number

    by_stage : p ≡ learnt_from fresh events → (stage : Stage) (reply : Reply) → IsRemoval stage → Suits (op_at r shards stage t) reply → Steps stage reply
    by_stage all_learnt (Begin row) Done is suits fits = has_begun row fits
    by_stage all_learnt (Begin row) (No (Raced version)) is suits fits = begin_raced row version fits
    by_stage all_learnt (Begin row) reply is suits fits = absurd suits
    by_stage all_learnt (Close c) reply is suits fits = closed_or_not c reply suits fits
    by_stage all_learnt (Remove c) Done is suits fits = removed c fits all_learnt
    by_stage all_learnt (Remove c) (No (Raced version)) is suits fits = remove_raced c version fits
    by_stage all_learnt (Remove c) reply is suits fits = absurd suits
    by_stage all_learnt (LookToRemove c) (Row row) is suits fits = removes_again c fits row
    by_stage all_learnt (LookToRemove c) (No Absent) is suits fits = delete_none fits.0 fits.4
    by_stage all_learnt (LookToRemove c) reply is suits fits = absurd suits
    by_stage all_learnt (Shut row shard) Done is suits fits = one_shut row shard fits
    by_stage all_learnt (Shut row shard) reply is suits fits = absurd suits
    by_stage all_learnt (Clear c due) Done is suits fits = cleared c due fits
    by_stage all_learnt (Clear c due) (No (Raced version)) is suits fits = clear_raced c due fits version
    by_stage all_learnt (Clear c due) reply is suits fits = absurd suits
    by_stage all_learnt (LookToClear c due) (Row row) is suits fits = clears_again c due fits row
    by_stage all_learnt (LookToClear c due) (No Absent) is suits fits = clears_none c due fits
    by_stage all_learnt (LookToClear c due) reply is suits fits = absurd suits
    by_stage all_learnt (Release c shard due) Done is suits fits = one_released c shard due fits
    by_stage all_learnt (Release c shard due) reply is suits fits = absurd suits
    by_stage all_learnt stage reply is suits fits = absurd is

  module _ (zone : ℕ) (asker : Asker) (t : Tally) (all_learnt : p ≡ learnt_from fresh events) where
    abbrev of : ContainerCommand → ContainerRequest
    of command = record { zone = zone; asker = asker; command = command }

    -- the request of such a stage is a DELETE
    deletes : (command : ContainerCommand) (stage : Stage) → IsRemoval stage → FitsAt (of command) shards stage t p y events last → IsDelete command
    deletes command (Begin row) is fits = fits.1
    deletes command (Close c) is fits = fits.1
    deletes command (Remove c) is fits = fits.1
    deletes command (LookToRemove c) is fits = fits.1
    deletes command (Shut row shard) is fits = fits.0
    deletes command (Clear c due) is fits = fits.1
    deletes command (LookToClear c due) is fits = fits.1
    deletes command (Release c shard due) is fits = fits.1
    deletes command stage is fits = absurd is

    pub removing : (command : ContainerCommand) (stage : Stage) (reply : Reply) → IsRemoval stage → Suits (op_at (of command) shards stage t) reply → FitsAt (of command) shards stage t p y events last
        → FitsAt (of command) shards (step_at (of command) shards stage (first_seen t number) number reply).stage (step_at (of command) shards stage (first_seen t number) number reply).tally (knows (op_at (of command) shards stage t) reply) (after (op_at (of command) shards stage t) reply) (more (op_at (of command) shards stage t) reply) number
    removing (Delete name) stage reply is suits fits = by_stage zone asker name t all_learnt stage reply is suits fits
    removing (Head name) stage reply is suits fits = absurd (deletes (Head name) stage is fits)
    removing (Put name changes) stage reply is suits fits = absurd (deletes (Put name changes) stage is fits)
    removing (Post name changes) stage reply is suits fits = absurd (deletes (Post name changes) stage is fits)
