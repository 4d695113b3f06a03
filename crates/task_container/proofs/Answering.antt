-- Each answer brings the task to a stage that its actor's own events come to.
use Rattle.std.proofs.Common.{◌≡◌, ◌≢◌, ℕ, ◌+◌, ◌<◌, ◌≤◌, ◌==◌, inl, inr, min, true, false, cond, List, [], ◌∷◌, ◌++◌, map, Option, Some, None, refl, sym, ◌∙◌, ap, subst, arith, nat_lt}
use Rattle.std.specs.Prelude.{bytes_eq}
use Rattle.std.specs.List.{range_with_len}
use Rattle.std.proofs.lemmas.Bool.{true≢false}
use Rattle.std.proofs.lemmas.Bool.Decides.{nat_tests}
use Rattle.std.proofs.lemmas.List.{append_assoc, append-nil, map-append}
use Rattle.std.proofs.lemmas.List.Sums.{sum_by_push}
use Rattle.std.proofs.lemmas.List.FromFn.{map-range_with_len_more}
use Rattle.std.proofs.lemmas.Slice.Eq.{bytes_eq-Decides}
use Rattle.rgw_types.specs.declared.pool_key.Key.{Key}
use Rattle.object_words.specs.declared.bucket.Bucket.{Bucket}
use Rattle.object_words.specs.declared.shard.ShardStats.{ShardStats}
use Rattle.object_words.specs.declared.why.Why.TheVariants.{Absent, Moved, Closed, Raced}
use Rattle.object_words.specs.Keys.{put, shard_key}
use Rattle.object_words.specs.Names.{at}
use Rattle.object_words.specs.Numbers.{greatest}
use Rattle.object_words.proofs.KeyLemmas.{number_itself}
use Rattle.object_words.proofs.NameLemmas.{at-with_name, name_itself}
use Rattle.realm_model.specs.Accounts.{Looked, MovedCount, Account, has_shard, looked_since, accounted}
use Rattle.realm_model.specs.Learnt.{first_after, learnt}
use Rattle.realm_model.specs.Tests.{is_so}
use Rattle.realm_model.specs.Maps.{Maps, Made}
use Rattle.realm_model.specs.Owns.{OwnEvent, learnt_from}
use Rattle.realm_model.specs.Phases.{FirstEvent, RowRead, OwnShards, Phase, fresh}
use Rattle.realm_model.specs.Suits.{Suits}
use Rattle.realm_model.specs.declared.op.Op.{Op}
use Rattle.realm_model.specs.declared.op.Op.TheVariants.{BucketRead}
use Rattle.realm_model.specs.declared.event.Reply.{Reply}
use Rattle.realm_model.specs.declared.event.Reply.TheVariants.{Done, No, Row, Stats}
use Rattle.swift_auth.specs.declared.policy.Deed.TheVariants.{ListContainer}
use Rattle.swift_auth.specs.Policies.{found_under, verdict_of}
use Rattle.task_words.specs.declared.asker.Asker.{Asker}
use Rattle.task_words.specs.declared.reply.Refusal.{Refusal}
use Rattle.task_words.specs.Outcomes.{most_moved, ByRow as RefusedByRow}
use Rattle.task_words.specs.Rows.{row_refusal}
use Rattle.task_words.proofs.Refusals.{by_three, some_refusal}
use Rattle.realm_model.specs.Shown.{header_shown}
use Rattle.task_container.specs.declared.closing.OwnClosing.{OwnClosing}
use Rattle.task_container.specs.declared.counting.Counting.{Counting}
use Rattle.task_container.specs.declared.outcome.ContainerOutcome.TheVariants as outcomes
use Rattle.task_container.specs.declared.outcome.ContainerRefusal.TheVariants.{ByRow, NotYours}
use Rattle.task_container.specs.declared.outcome.ContainerReply.TheVariants as the
use Rattle.task_container.specs.declared.progress.Stage.{Stage}
use Rattle.task_container.specs.declared.progress.Stage.TheVariants.{Look, Count, MakeShard, Make, Change, Begin, Close, Remove, LookToRemove, Shut, Clear, LookToClear, Release, Ended}
use Rattle.task_container.specs.declared.progress.Tally.{Tally}
use Rattle.task_container.specs.declared.request.ContainerChanges.{ContainerChanges}
use Rattle.task_container.specs.declared.request.ContainerCommand.{ContainerCommand}
use Rattle.task_container.specs.declared.request.ContainerCommand.TheVariants.{Head, Put, Post, Delete}
use Rattle.task_container.specs.declared.request.ContainerRequest.{ContainerRequest}
use Rattle.task_container.specs.Counts.{asks_header, CountedBy}
use Rattle.task_container.specs.Ends.{last_number, KeepsRows, first_number, made_by, made_shards, swapped_by, done_swaps, raced_by, EndsReading, IsChanged, IsContainerReply}
use Rattle.task_container.specs.Fits.{IsMaker, Going, Looking, HasRead, FitsAt}
use Rattle.task_container.specs.Requests.{name_of, changes_of, is_nothing, IsHead, IsPut, IsDelete}
use Rattle.task_container.specs.Rows.{changed, new_row}
use Rattle.task_container.specs.Stages.{IsOpen, header_step, first_or, first_seen, id_of, one_more, one_made, one_moved, one_raced, most_raced, swap_op, op_at, counting_from, counted, after_header, after_left, after_refusal, counts_or_refuses, making_stage, after_put_look, after_post_look, change_or_refuse, refuses, after_race, changed_reply, step_at}
use Rattle.task_container.proofs.Going.{of_put, for_put, unswapped, no_put_deletes, no_change_deletes, swaps_same, kept_same, raced_on, set_on, moved_on, going_on, race_goes_on, race_ends}
use Rattle.task_container.proofs.Orders.{made_more, swaps_more}
use Rattle.task_container.proofs.Removals.{delete_row, delete_none, removing}

-- ---- one header more

module _ (zone : ℕ) (asker : Asker) (name : List ℕ) (row : Bucket) (objects bytes number clock : ℕ) (events : List OwnEvent) (n : ℕ) (s : ShardStats) where
  abbrev header : OwnEvent
  header = record { op = asks_header zone row n; reply = Stats s; number = number; clock = clock }

  one_header : CountedBy zone asker name row n objects bytes events → CountedBy zone asker name row (n + 1) (min (objects + s.objects) greatest) (min (bytes + s.bytes) greatest) (events ++ header ∷ [])
  one_header x =
      let so_many = sum_by_push (λ (h : ShardStats). h.objects) x.headers s in
      let so_much = sum_by_push (λ (h : ShardStats). h.bytes) x.headers s in
      let objects_were = x.objects_are in
      let bytes_were = x.bytes_are in
      let from_zero : 0 + n ≡ n = omega arith in
      record {
        before = x.before;
        look = x.look;
        counts = x.counts ++ header ∷ [];
        headers = x.headers ++ s ∷ [];
        stands = ap (λ es. es ++ header ∷ []) x.stands ∙ append_assoc x.before (x.look ∷ x.counts) (header ∷ []);
        looks = x.looks;
        showed = x.showed;
        granted = x.granted;
        asked = map-append (λ (e : OwnEvent). e.op) x.counts (header ∷ []) ∙ ap (λ ops. ops ++ asks_header zone row n ∷ []) x.asked ∙ sym (map-range_with_len_more (asks_header zone row) 0 n n from_zero);
        told = map-append (λ (e : OwnEvent). e.reply) x.counts (header ∷ []) ∙ ap (λ replies. replies ++ Stats s ∷ []) x.told ∙ sym (map-append (λ h. Stats h) x.headers (s ∷ []));
        objects_are = omega (arith, so_many, objects_were);
        bytes_are = omega (arith, so_much, bytes_were);
      }

-- the next shard is asked, or all were
headed : (r : ContainerRequest) (shards : ℕ) (c : Counting) (t : Tally) (p : Phase) (y : Account) (events : List OwnEvent) (last : ℕ) → c.next ≤ c.row.shards → Going r.command t p y events last → IsHead r.command → t.made ≤ shards → Looking r.zone (name_of r.command) c.row y last → CountedBy r.zone r.asker (name_of r.command) c.row c.next c.objects c.bytes events → FitsAt r shards (after_header c) t p y events last
headed r shards c t p y events last low going is_head few looking so_far =
    elim (nat_lt c.next c.row.shards) as (λ b. nat_lt c.next c.row.shards ≡ b → FitsAt r shards (cond b (Count c) (Ended (outcomes.Done (the.Counted c.row c.objects c.bytes)))) t p y events last) [
      | true ↦ λ less. let below : c.next < c.row.shards = grind (arith, nat_tests, less) in (going, is_head, looking, below, so_far, few)
      | false ↦ λ all.
          let same : c.next ≡ c.row.shards = grind (arith, nat_tests, all, low) in
          (subst (λ n. CountedBy r.zone r.asker (name_of r.command) c.row n c.objects c.bytes events) same so_far, is_head)
    ] refl

-- the shard of a row that was read since
named_since : (looked : Option Looked) (k : Looked) (m zone n : ℕ) (row : Bucket) → looked ≡ Some k → k.zone ≡ zone → k.row ≡ Some row → m < k.number → n < row.shards → looked_since looked m zone (shard_key row.id row.instance n) ≡ true
named_since looked k m zone n row is in_zone showed later less =
    let a : nat_lt m k.number ≡ true = grind (arith, nat_tests, later) in
    let b : (k.zone == zone) ≡ true = subst (λ z. (k.zone == z) ≡ true) in_zone (number_itself k.zone) in
    let d : nat_lt n row.shards ≡ true = grind (arith, nat_tests, less) in
    let c : is_so k.row (has_shard (shard_key row.id row.instance n)) ≡ true = subst (λ o. is_so o (has_shard (shard_key row.id row.instance n)) ≡ true) (sym showed) (rw (number_itself row.id, number_itself row.instance) d) in
    subst (λ o. looked_since o m zone (shard_key row.id row.instance n) ≡ true) (sym is) (rw (a, b) c)

other_text : (a b : List ℕ) → bytes_eq a b ≡ false → a ≢ b
other_text a b other same = true≢false (sym ((bytes_eq-Decides a b).1 same) ∙ other)

put_here : {A : Type 0} (f : ℕ → A) (n : ℕ) (x : A) → put f n x n ≡ x
put_here f n x = ap (λ b. cond b x (f n)) (number_itself n)

-- ---- one answer more

module _ (shards : ℕ) (p : Phase) (y : Account) (events : List OwnEvent) (last number clock : ℕ) (maps : Maps) (made : Made) (before : last < number) where
  abbrev after : Op → Reply → Account
  after op reply = accounted y maps made op reply number clock

  abbrev knows : Op → Reply → Phase
  knows op reply = learnt p op reply number clock

  abbrev own : Op → Reply → OwnEvent
  own op reply = record { op = op; reply = reply; number = number; clock = clock }

  abbrev more : Op → Reply → List OwnEvent
  more op reply = events ++ own op reply ∷ []

  unswapped_on : (command : ContainerCommand) (op : Op) (reply : Reply) → (IsDelete command → ⊥) → KeepsRows command events → swapped_by op reply ≡ [] → done_swaps (more op reply) ≡ []
  unswapped_on command op reply other kept none = swaps_same events (own op reply) none ∙ unswapped command events other kept

  -- a swap that was answered Raced
  swap_raced : (r : ContainerRequest) (t : Tally) (expected version : ℕ) (new : Option Bucket) → t.made ≤ shards → Going r.command t p y events last
      → FitsAt r shards (after_race (one_more t.raced)) (one_raced (first_seen t number)) (knows (swap_op r expected new) (No (Raced version))) (after (swap_op r expected new) (No (Raced version))) (more (swap_op r expected new) (No (Raced version))) number
  swap_raced r t expected version new low going =
      let op = swap_op r expected new in
      let reply = No (Raced version) in
      elim (nat_lt (one_more t.raced) most_raced) as (λ b. nat_lt (one_more t.raced) most_raced ≡ b → FitsAt r shards (cond b Look (Ended outcomes.RacedOften)) (one_raced (first_seen t number)) (knows op reply) (after op reply) (more op reply) number) [
        | true ↦ λ less. (race_goes_on p y events last number clock maps made before r.command t r expected version new going less, low)
        | false ↦ λ all. race_ends p y events last number clock maps made before r.command t r expected version new going all
      ] refl

  -- ---- a read of the row in zone 1

  module _ (name : List ℕ) where
    read_row : (row : Bucket) → HasRead name (Some row) (knows (BucketRead 1 name) (Row row)) (after (BucketRead 1 name) (Row row))
    read_row row =
        let read : RowRead = record { row = Some row; at = number } in
        record {
          showed = record { number = number; is_last = refl };
          number = number;
          read = at-with_name (p.rows 1) name read name ∙ ap (λ b. cond b (Some read) (at (p.rows 1) name)) (name_itself name);
        }

    read_none : HasRead name None (knows (BucketRead 1 name) (No Absent)) (after (BucketRead 1 name) (No Absent))
    read_none =
        let read : RowRead = record { row = None; at = number } in
        record {
          showed = record { number = number; is_last = refl };
          number = number;
          read = at-with_name (p.rows 1) name read name ∙ ap (λ b. cond b (Some read) (at (p.rows 1) name)) (name_itself name);
        }

    ends_by_row : (row : Bucket) → EndsReading name (Some row) (more (BucketRead 1 name) (Row row))
    ends_by_row row = record { before = events; last = own (BucketRead 1 name) (Row row); stands = refl; is = refl; told = refl }

    ends_by_none : EndsReading name None (more (BucketRead 1 name) (No Absent))
    ends_by_none = record { before = events; last = own (BucketRead 1 name) (No Absent); stands = refl; is = refl; told = refl }

  module _ (zone : ℕ) (asker : Asker) (t : Tally) where
    abbrev asked : ContainerCommand → ContainerRequest
    asked command = record { zone = zone; asker = asker; command = command }

    abbrev seen : Tally
    seen = first_seen t number

    -- ---- HEAD

    module _ (name : List ℕ) where
      abbrev look : Op
      look = BucketRead zone name

      -- the row was read, or none is
      module _ (reply : Reply) (row : Option Bucket) (undecided : (after look reply).decided ≡ None) (unchanged : (after look reply).changes ≡ 0)
          (looked : (after look reply).looked ≡ Some (record { zone = zone; name = name; row = row; number = number })) where
        by_row : (refusal : Refusal) → row_refusal asker row ListContainer ≡ Some refusal → RefusedByRow zone asker name ListContainer refusal (after look reply)
        by_row refusal is = record {
          by_row = record { look = record { zone = zone; name = name; row = row; number = number }; is_last = looked; in_zone = refl; under_name = refl; refuses = is };
          undecided = undecided;
          unchanged = unchanged;
        }

        refused : (refusal : Refusal) → row_refusal asker row ListContainer ≡ Some refusal → FitsAt (asked (Head name)) shards (Ended (outcomes.Done (the.Refused (ByRow refusal)))) seen (knows look reply) (after look reply) (more look reply) number
        refused refusal is =
            by_three (λ (f : Refusal). RefusedByRow zone asker name ListContainer f (after look reply) → IsContainerReply (asked (Head name)) (the.Refused (ByRow f)) shards (after look reply) (more look reply))
            (verdict_of asker.user asker.account row ListContainer) (found_under asker.account row) refusal is (λ by. (tt, by)) (λ rule by. (tt, by)) (λ by. by) (by_row refusal is)

      head_row : (row : Bucket) → y.decided ≡ None → y.changes ≡ 0 → Going (Head name) t p y events last → t.made ≤ shards → FitsAt (asked (Head name)) shards (counts_or_refuses asker (Some row)) seen (knows look (Row row)) (after look (Row row)) (more look (Row row)) number
      head_row row undecided unchanged going few =
          elim (row_refusal asker (Some row) ListContainer) as (λ o. row_refusal asker (Some row) ListContainer ≡ o → FitsAt (asked (Head name)) shards (after_refusal o (Some row)) seen (knows look (Row row)) (after look (Row row)) (more look (Row row)) number) [
            | Some refusal ↦ λ is. refused (Row row) (Some row) undecided unchanged refl refusal is
            | None ↦ λ is.
                headed (asked (Head name)) shards (counting_from row) seen (knows look (Row row)) (after look (Row row)) (more look (Row row)) number (omega arith)
                (going_on p y events last number clock maps made before (Head name) t look (Row row) going refl refl refl refl refl refl refl)
                tt few
                (record { look = record { zone = zone; name = name; row = Some row; number = number }; is_last = refl; in_zone = refl; under_name = refl; showed = refl; later = (let low = going.moved_before in omega (arith, low, before)); before = omega arith })
                (record {
                  before = events;
                  look = own look (Row row);
                  counts = [];
                  headers = [];
                  stands = refl;
                  looks = refl;
                  showed = refl;
                  granted = is;
                  asked = refl;
                  told = refl;
                  objects_are = omega arith;
                  bytes_are = omega arith;
                })
          ] refl

      head_none : y.decided ≡ None → y.changes ≡ 0 → FitsAt (asked (Head name)) shards (counts_or_refuses asker None) seen (knows look (No Absent)) (after look (No Absent)) (more look (No Absent)) number
      head_none undecided unchanged =
          elim (row_refusal asker None ListContainer) as (λ o. row_refusal asker None ListContainer ≡ o → FitsAt (asked (Head name)) shards (after_refusal o None) seen (knows look (No Absent)) (after look (No Absent)) (more look (No Absent)) number) [
            | Some refusal ↦ λ is. refused (No Absent) None undecided unchanged refl refusal is
            | None ↦ λ is. absurd (some_refusal (verdict_of asker.user asker.account None ListContainer) is)
          ] refl

    -- ---- PUT

    -- the next shard, or the row
    makes_next : (command : ContainerCommand) (t' : Tally) (q : Phase) (x : Account) (es : List OwnEvent) (n id : ℕ) → IsPut command → t'.first ≡ Some id → t'.made ≤ shards → Going command t' q x es n → HasRead (name_of command) None q x → FitsAt (asked command) shards (making_stage shards t') t' q x es n
    makes_next command t' q x es n id is_put first low going none =
        elim (nat_lt t'.made shards) as (λ b. nat_lt t'.made shards ≡ b → FitsAt (asked command) shards (cond b MakeShard Make) t' q x es n) [
          | true ↦ λ less. (going, is_put, none, (id, first), grind (arith, nat_tests, less))
          | false ↦ λ all. (going, is_put, none, (id, first), grind (arith, nat_tests, all, low))
        ] refl

    seen_first : (first : Option ℕ) → (id : ℕ) × (first_or first number ≡ Some id)
    seen_first None = (number, refl)
    seen_first (Some id) = (id, refl)

    module _ (name : List ℕ) (changes : ContainerChanges) (going : Going (Put name changes) t p y events last) (low : t.made ≤ shards) where
      abbrev put_look : Op
      put_look = BucketRead 1 name

      put_none : FitsAt (asked (Put name changes)) shards (making_stage shards seen) seen (knows put_look (No Absent)) (after put_look (No Absent)) (more put_look (No Absent)) number
      put_none =
          let first = seen_first t.first in
          makes_next (Put name changes) seen (knows put_look (No Absent)) (after put_look (No Absent)) (more put_look (No Absent)) number first.0 tt first.1 low
          (going_on p y events last number clock maps made before (Put name changes) t put_look (No Absent) going refl refl refl refl refl refl refl) (read_none name)

      put_row : (row : Bucket) → FitsAt (asked (Put name changes)) shards (after_put_look asker.account changes row) seen (knows put_look (Row row)) (after put_look (Row row)) (more put_look (Row row)) number
      put_row row =
          let unswapped = unswapped_on (Put name changes) put_look (Row row) (λ d. d) going.kept refl in
          elim (bytes_eq row.owner asker.account) as (λ b. bytes_eq row.owner asker.account ≡ b → FitsAt (asked (Put name changes)) shards (cond b (cond (is_nothing changes) (Ended (outcomes.Done the.Accepted)) (Change row)) (refuses NotYours)) seen (knows put_look (Row row)) (after put_look (Row row)) (more put_look (Row row)) number) [
            | true ↦ λ same.
                let yours = (bytes_eq-Decides row.owner asker.account).0 same in
                elim (is_nothing changes) as (λ b. is_nothing changes ≡ b → FitsAt (asked (Put name changes)) shards (cond b (Ended (outcomes.Done the.Accepted)) (Change row)) seen (knows put_look (Row row)) (after put_look (Row row)) (more put_look (Row row)) number) [
                  | true ↦ λ nothing. inl (nothing, record { row = row; showed = ends_by_row name row; own = yours; none = unswapped })
                  | false ↦ λ some. (going_on p y events last number clock maps made before (Put name changes) t put_look (Row row) going refl refl refl refl refl refl refl, some, read_row name row, yours, low)
                ] refl
            | false ↦ λ other. (tt, record { row = row; showed = ends_by_row name row; other = other_text row.owner asker.account other; none = unswapped })
          ] refl

    -- ---- POST

    module _ (name : List ℕ) (changes : ContainerChanges) (going : Going (Post name changes) t p y events last) (low : t.made ≤ shards) where
      abbrev post_look : Op
      post_look = BucketRead 1 name

      post_none : FitsAt (asked (Post name changes)) shards (after_post_look asker.account None) seen (knows post_look (No Absent)) (after post_look (No Absent)) (more post_look (No Absent)) number
      post_none = record { row = None; showed = ends_by_none name; missing = refl; kept = unswapped_on (Post name changes) post_look (No Absent) (λ d. d) going.kept refl }

      post_row : (row : Bucket) → FitsAt (asked (Post name changes)) shards (after_post_look asker.account (Some row)) seen (knows post_look (Row row)) (after post_look (Row row)) (more post_look (Row row)) number
      post_row row =
          elim (bytes_eq row.owner asker.account) as (λ b. bytes_eq row.owner asker.account ≡ b → FitsAt (asked (Post name changes)) shards (change_or_refuse (cond b (Some row) None)) seen (knows post_look (Row row)) (after post_look (Row row)) (more post_look (Row row)) number) [
            | true ↦ λ same. (going_on p y events last number clock maps made before (Post name changes) t post_look (Row row) going refl refl refl refl refl refl refl, tt, read_row name row, (bytes_eq-Decides row.owner asker.account).0 same, low)
            | false ↦ λ other. record {
              row = Some row;
              showed = ends_by_row name row;
              missing = ap (λ b. cond b (Some row) None) other;
              kept = unswapped_on (Post name changes) post_look (Row row) (λ d. d) going.kept refl;
            }
          ] refl

    -- ---- the row was read

    looked : (command : ContainerCommand) (reply : Reply) → y.decided ≡ None → y.changes ≡ 0 → Suits (op_at (asked command) shards Look t) reply → FitsAt (asked command) shards Look t p y events last
        → FitsAt (asked command) shards (step_at (asked command) shards Look seen number reply).stage seen (knows (op_at (asked command) shards Look t) reply) (after (op_at (asked command) shards Look t) reply) (more (op_at (asked command) shards Look t) reply) number
    looked (Head name) (Row row) undecided unchanged suits fits = head_row name row undecided unchanged fits.0 fits.1
    looked (Head name) (No Absent) undecided unchanged suits fits = head_none name undecided unchanged
    looked (Head name) reply undecided unchanged suits fits = absurd suits
    looked (Put name changes) (Row row) undecided unchanged suits fits = put_row name changes fits.0 fits.1 row
    looked (Put name changes) (No Absent) undecided unchanged suits fits = put_none name changes fits.0 fits.1
    looked (Put name changes) reply undecided unchanged suits fits = absurd suits
    looked (Post name changes) (Row row) undecided unchanged suits fits = post_row name changes fits.0 fits.1 row
    looked (Post name changes) (No Absent) undecided unchanged suits fits = post_none name changes fits.0 fits.1
    looked (Post name changes) reply undecided unchanged suits fits = absurd suits
    looked (Delete name) (Row row) undecided unchanged suits fits = delete_row shards p y events last number clock maps made before zone asker name t fits.0 fits.1 row
    looked (Delete name) (No Absent) undecided unchanged suits fits = delete_none shards p y events last number clock maps made before zone asker name t fits.0 fits.1
    looked (Delete name) reply undecided unchanged suits fits = absurd suits

  module _ (r : ContainerRequest) where
    -- ---- a shard was made

    module _ (id n moved raced : ℕ) (begun : Option OwnClosing) (small : shards ≤ 1999) where
      abbrev at_shard : Tally
      at_shard = record { first = Some id; made = n; moved = moved; raced = raced; begun = begun }

      abbrev shard_made : Op
      shard_made = op_at r shards MakeShard at_shard

      shard_more : n < shards → IsMaker id n p events → IsMaker id (n + 1) (knows shard_made Done) (more shard_made Done)
      shard_more less s =
          let mine : OwnShards = record (p.shards 1 id) { made = (p.shards 1 id).made + 1 } in
          let here = put_here (p.shards 1) id mine in
          let from_zero : 0 + n ≡ n = omega arith in
          record {
            look = s.look;
            more = s.more ++ own shard_made Done ∷ [];
            stands = ap (λ (es : List OwnEvent). es ++ own shard_made Done ∷ []) s.stands;
            number = s.number;
            clock = s.clock;
            first = ap (λ (f : Option FirstEvent). first_after f number clock) s.first;
            counts = ap (λ (o : OwnShards). o.made) here ∙ ap (λ (k : ℕ). k + 1) s.counts;
            filled = ap (λ (o : OwnShards). o.filled) here ∙ s.filled;
            placed = ap (λ (o : OwnShards). o.placed) here ∙ s.placed;
            makes =
                made_more events (own shard_made Done) ∙ ap (λ (ks : List Key). ks ++ shard_key id id n ∷ []) s.makes
                ∙ sym (map-range_with_len_more (λ (k : ℕ). shard_key id id k) 0 n n from_zero);
          }

      made_shard : FitsAt r shards MakeShard at_shard p y events last → FitsAt r shards (making_stage shards (one_made at_shard)) (one_made at_shard) (knows shard_made Done) (after shard_made Done) (more shard_made Done) number
      made_shard fits =
          let going = fits.0 in
          let less = fits.4 in
          let up : one_more n ≡ n + 1 = omega (arith, less, small) in
          makes_next r.zone r.asker at_shard r.command (one_made at_shard) (knows shard_made Done) (after shard_made Done) (more shard_made Done) number id fits.1 refl (omega (arith, up, less))
          (record {
            starts = for_put r.command (subst (λ k. IsMaker id k (knows shard_made Done) (more shard_made Done)) (sym up) (shard_more less (of_put r.command fits.1 going.starts)));
            moved_is = moved_on p y events last number clock maps made before r.command moved shard_made Done going.moved_is refl refl;
            few = going.few;
            moved_before = (let was = going.moved_before in omega (arith, was, before));
            raced_is = (let same = raced_on p y events last number clock maps made before shard_made Done raced 0 going.raced_is refl in omega (arith, same));
            few_raced = going.few_raced;
            kept = kept_same r.command events (more shard_made Done) (swaps_same events (own shard_made Done) refl) going.kept;
            begun_is = ap (last_number None) (swaps_same events (own shard_made Done) refl) ∙ going.begun_is;
            set = set_on p y events last number clock maps made before begun shard_made Done going.set refl;
          })
          (record { showed = fits.2.showed; number = fits.2.number; read = fits.2.read })

    -- ---- the row was made

    module _ (id n moved raced : ℕ) (begun : Option OwnClosing) where
      abbrev at_row : Tally
      at_row = record { first = Some id; made = n; moved = moved; raced = raced; begun = begun }

      abbrev row_made : Op
      row_made = op_at r shards Make at_row

      first_of : (es rest : List OwnEvent) (e read : OwnEvent) → es ≡ read ∷ rest → read.number ≡ id → first_number (es ++ e ∷ []) ≡ Some id
      first_of es rest e read stands is = ap (λ (xs : List OwnEvent). first_number (xs ++ e ∷ [])) stands ∙ ap (λ k. Some k) is

      made_row : FitsAt r shards Make at_row p y events last → FitsAt r shards (Ended (outcomes.Done the.Made)) at_row (knows row_made Done) (after row_made Done) (more row_made Done) number
      made_row fits =
          let s = of_put r.command fits.1 fits.0.starts in (
            fits.1,
            record {
              id = id;
              first = first_of events s.more (own row_made Done) s.look s.stands s.number;
              showed = record { number = fits.2.showed.number; is_last = fits.2.showed.is_last };
              made =
                  made_more events (own row_made Done) ∙ append-nil (made_shards events) ∙ s.makes
                  ∙ ap (λ k. map (λ m. shard_key id id m) (range_with_len 0 k)) fits.4;
              swapped = record { before = events; last = own row_made Done; stands = refl; is = refl; done = refl };
              only = swaps_more events (own row_made Done) ∙ ap (λ (ns : List (Option Bucket)). ns ++ Some (new_row r shards id) ∷ []) (unswapped r.command events (no_put_deletes r.command fits.1) fits.0.kept);
            },
          )

    -- ---- the row was changed

    module _ (row : Bucket) (t : Tally) (fits : FitsAt r shards (Change row) t p y events last) where
      abbrev row_changed : Op
      row_changed = op_at r shards (Change row) t

      is_changed : IsChanged r (after row_changed Done) (more row_changed Done)
      is_changed = record {
        row = row;
        showed = record { number = fits.2.showed.number; is_last = fits.2.showed.is_last };
        own = fits.3;
        swapped = record { before = events; last = own row_changed Done; stands = refl; is = refl; done = refl };
        only = swaps_more events (own row_changed Done) ∙ ap (λ (ns : List (Option Bucket)). ns ++ Some (changed row (changes_of r.command)) ∷ []) (unswapped r.command events (no_change_deletes r.command fits.1) fits.0.kept);
      }

  -- ---- the row was changed, or a header came: by what was asked

  module _ (zone : ℕ) (asker : Asker) (row : Bucket) (t : Tally) where
    abbrev change : ContainerCommand → Op
    change command = op_at (record { zone = zone; asker = asker; command = command }) shards (Change row) t

    changed_row : (command : ContainerCommand) → FitsAt (record { zone = zone; asker = asker; command = command }) shards (Change row) t p y events last
        → FitsAt (record { zone = zone; asker = asker; command = command }) shards (Ended (outcomes.Done (changed_reply command))) (first_seen t number) (knows (change command) Done) (after (change command) Done) (more (change command) Done) number
    changed_row (Head name) fits = absurd fits.1
    changed_row (Put name changes) fits = inr (fits.1, is_changed (record { zone = zone; asker = asker; command = Put name changes }) row t fits)
    changed_row (Delete name) fits = absurd fits.1
    changed_row (Post name changes) fits = (tt, is_changed (record { zone = zone; asker = asker; command = Post name changes }) row t fits)

  module _ (zone : ℕ) (asker : Asker) (name : List ℕ) (t : Tally) (undecided : y.decided ≡ None) (unchanged : y.changes ≡ 0) (c : Counting) where
    abbrev head : ContainerRequest
    head = record { zone = zone; asker = asker; command = Head name }

    abbrev asks : Op
    asks = asks_header zone c.row c.next

    abbrev then : Tally
    then = first_seen t number

    module _ (fits : FitsAt head shards (Count c) t p y events last) where
      some_header : (s : ShardStats) → FitsAt head shards (after_header (counted c s)) then (knows asks (Stats s)) (after asks (Stats s)) (more asks (Stats s)) number
      some_header s =
          let looking = fits.2 in
          let below = fits.3 in
          let raised : cond (nat_lt c.next c.row.shards) (c.next + 1) c.next ≡ c.next + 1 = ap (λ b. cond b (c.next + 1) c.next) (let less : nat_lt c.next c.row.shards ≡ true = grind (arith, nat_tests, below) in less) in
          headed head shards (counted c s) then (knows asks (Stats s)) (after asks (Stats s)) (more asks (Stats s)) number (omega (arith, raised, below))
          (going_on p y events last number clock maps made before (Head name) t asks (Stats s) fits.0 refl refl refl refl refl refl refl)
          tt fits.5
          (record { look = looking.look; is_last = looking.is_last; in_zone = looking.in_zone; under_name = looking.under_name; showed = looking.showed; later = looking.later; before = (let low = looking.before in omega (arith, low, before)) })
          (subst (λ n. CountedBy zone asker name c.row n (min (c.objects + s.objects) greatest) (min (c.bytes + s.bytes) greatest) (more asks (Stats s))) (sym raised)
          (one_header zone asker name c.row c.objects c.bytes number clock events c.next s fits.4))

      left : (reply : Reply) → (after asks reply).moved ≡ record { count = cond (looked_since y.looked y.moved.last zone (shard_key c.row.id c.row.instance c.next)) (y.moved.count + 1) y.moved.count; last = number }
          → (after asks reply).looked ≡ y.looked → made_by asks reply ≡ [] → (knows asks reply).shards ≡ p.shards → (knows asks reply).work ≡ p.work → swapped_by asks reply ≡ [] → raced_by asks reply ≡ 0 → (after asks reply).changes ≡ y.changes
          → FitsAt head shards (after_left (one_more t.moved)) (one_moved then) (knows asks reply) (after asks reply) (more asks reply) number
      left reply moves looks none same works unswaps unraced changes =
          let going = fits.0 in
          let looking = fits.2 in
          let few = going.few in
          let was = going.moved_is in
          let raced = raced_on p y events last number clock maps made before asks reply t.raced 0 going.raced_is unraced in
          let since = named_since y.looked looking.look y.moved.last zone c.next c.row looking.is_last looking.in_zone looking.showed looking.later fits.3 in
          let count : (after asks reply).moved.count ≡ y.moved.count + 1 = ap (λ (m : MovedCount). m.count) moves ∙ ap (λ b. cond b (y.moved.count + 1) y.moved.count) since in
          let one : (after asks reply).moved.count ≡ one_more t.moved = omega (arith, count, was, few) in
          elim (nat_lt (one_more t.moved) most_moved) as (λ b. nat_lt (one_more t.moved) most_moved ≡ b → FitsAt head shards (cond b Look (Ended outcomes.MovedOften)) (one_moved then) (knows asks reply) (after asks reply) (more asks reply) number) [
            | true ↦ λ less.
                let below : one_more t.moved < most_moved = grind (arith, nat_tests, less) in
                let lasts = ap (λ (m : MovedCount). m.last) moves in
                let as_before = swaps_same events (own asks reply) unswaps in (
                  record {
                    starts = tt;
                    moved_is = one;
                    few = below;
                    moved_before = omega (arith, lasts);
                    raced_is = omega (arith, raced);
                    few_raced = going.few_raced;
                    kept = as_before ∙ going.kept;
                    begun_is = ap (last_number None) as_before ∙ going.begun_is;
                    set = set_on p y events last number clock maps made before t.begun asks reply going.set works;
                  },
                  fits.5,
                )
            | false ↦ λ all.
                let often : most_moved ≤ one_more t.moved = grind (arith, nat_tests, all) in
                let granted = subst (λ o. row_refusal asker o ListContainer ≡ None) (sym looking.showed) fits.4.granted in (
                  record { by_row = record { look = looking.look; is_last = looks ∙ looking.is_last; in_zone = looking.in_zone; under_name = looking.under_name; refuses = granted }; unchanged = changes ∙ unchanged },
                  omega (arith, one, often, few),
                )
          ] refl

    by_count : (reply : Reply) → Suits asks reply → FitsAt head shards (Count c) t p y events last → FitsAt head shards (header_step c then (header_shown reply)).stage (header_step c then (header_shown reply)).tally (knows asks reply) (after asks reply) (more asks reply) number
    by_count (Stats s) suits fits = some_header fits s
    by_count (No (Moved instance)) suits fits = left fits (No (Moved instance)) refl refl refl refl refl refl refl refl
    by_count (No Closed) suits fits = left fits (No Closed) refl refl refl refl refl refl refl refl
    by_count reply suits fits = absurd suits

  counts : (zone : ℕ) (asker : Asker) (t : Tally) → y.decided ≡ None → y.changes ≡ 0 → (c : Counting) (command : ContainerCommand) (reply : Reply) → Suits (asks_header zone c.row c.next) reply → FitsAt (record { zone = zone; asker = asker; command = command }) shards (Count c) t p y events last
      → FitsAt (record { zone = zone; asker = asker; command = command }) shards (header_step c (first_seen t number) (header_shown reply)).stage (header_step c (first_seen t number) (header_shown reply)).tally (knows (asks_header zone c.row c.next) reply) (after (asks_header zone c.row c.next) reply) (more (asks_header zone c.row c.next) reply) number
  counts zone asker t undecided unchanged c (Head name) reply suits fits = by_count zone asker name t undecided unchanged c reply suits fits
  counts zone asker t undecided unchanged c (Put name changes) reply suits fits = absurd fits.1
  counts zone asker t undecided unchanged c (Post name changes) reply suits fits = absurd fits.1
  counts zone asker t undecided unchanged c (Delete name) reply suits fits = absurd fits.1

  -- ---- every stage

  pub one_step : (r : ContainerRequest) (stage : Stage) (t : Tally) (reply : Reply) → shards ≤ 1999 → y.decided ≡ None → y.changes ≡ 0 → p ≡ learnt_from fresh events → IsOpen stage → Suits (op_at r shards stage t) reply → FitsAt r shards stage t p y events last
      → FitsAt r shards (step_at r shards stage (first_seen t number) number reply).stage (step_at r shards stage (first_seen t number) number reply).tally (knows (op_at r shards stage t) reply) (after (op_at r shards stage t) reply) (more (op_at r shards stage t) reply) number
  one_step r (Ended outcome) t reply small undecided unchanged all_learnt going suits fits = absurd going
  one_step r Look t reply small undecided unchanged all_learnt going suits fits = looked r.zone r.asker t r.command reply undecided unchanged suits fits
  one_step r (Count c) t reply small undecided unchanged all_learnt going suits fits = counts r.zone r.asker t undecided unchanged c r.command reply suits fits
  one_step r MakeShard t Done small undecided unchanged all_learnt going suits fits =
      subst (λ f. FitsAt r shards MakeShard (record t { first = f }) p y events last
      → FitsAt r shards (step_at r shards MakeShard (first_seen (record t { first = f }) number) number Done).stage (step_at r shards MakeShard (first_seen (record t { first = f }) number) number Done).tally (knows (op_at r shards MakeShard (record t { first = f })) Done) (after (op_at r shards MakeShard (record t { first = f })) Done) (more (op_at r shards MakeShard (record t { first = f })) Done) number)
      (sym fits.3.1) (made_shard r fits.3.0 t.made t.moved t.raced t.begun small) fits
  one_step r MakeShard t reply small undecided unchanged all_learnt going suits fits = absurd suits
  one_step r Make t Done small undecided unchanged all_learnt going suits fits =
      subst (λ f. FitsAt r shards Make (record t { first = f }) p y events last
      → FitsAt r shards (Ended (outcomes.Done the.Made)) (first_seen (record t { first = f }) number) (knows (op_at r shards Make (record t { first = f })) Done) (after (op_at r shards Make (record t { first = f })) Done) (more (op_at r shards Make (record t { first = f })) Done) number)
      (sym fits.3.1) (made_row r fits.3.0 t.made t.moved t.raced t.begun) fits
  one_step r Make t (No (Raced version)) small undecided unchanged all_learnt going suits fits =
      let all = fits.4 in
      swap_raced r t 0 version (Some (new_row r shards (id_of t))) (omega (arith, all)) fits.0
  one_step r Make t reply small undecided unchanged all_learnt going suits fits = absurd suits
  one_step r (Change row) t Done small undecided unchanged all_learnt going suits fits = changed_row r.zone r.asker row t r.command fits
  one_step r (Change row) t (No (Raced version)) small undecided unchanged all_learnt going suits fits = swap_raced r t row.version version (Some (changed row (changes_of r.command))) fits.4 fits.0
  one_step r (Change row) t reply small undecided unchanged all_learnt going suits fits = absurd suits
  one_step r (Begin row) t reply small undecided unchanged all_learnt going suits fits = removing shards p y events last number clock maps made before r.zone r.asker t all_learnt r.command (Begin row) reply tt suits fits
  one_step r (Close c) t reply small undecided unchanged all_learnt going suits fits = removing shards p y events last number clock maps made before r.zone r.asker t all_learnt r.command (Close c) reply tt suits fits
  one_step r (Remove c) t reply small undecided unchanged all_learnt going suits fits = removing shards p y events last number clock maps made before r.zone r.asker t all_learnt r.command (Remove c) reply tt suits fits
  one_step r (LookToRemove c) t reply small undecided unchanged all_learnt going suits fits = removing shards p y events last number clock maps made before r.zone r.asker t all_learnt r.command (LookToRemove c) reply tt suits fits
  one_step r (Shut row shard) t reply small undecided unchanged all_learnt going suits fits = removing shards p y events last number clock maps made before r.zone r.asker t all_learnt r.command (Shut row shard) reply tt suits fits
  one_step r (Clear c due) t reply small undecided unchanged all_learnt going suits fits = removing shards p y events last number clock maps made before r.zone r.asker t all_learnt r.command (Clear c due) reply tt suits fits
  one_step r (LookToClear c due) t reply small undecided unchanged all_learnt going suits fits = removing shards p y events last number clock maps made before r.zone r.asker t all_learnt r.command (LookToClear c due) reply tt suits fits
  one_step r (Release c shard due) t reply small undecided unchanged all_learnt going suits fits = removing shards p y events last number clock maps made before r.zone r.asker t all_learnt r.command (Release c shard due) reply tt suits fits
