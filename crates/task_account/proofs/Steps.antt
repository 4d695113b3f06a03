-- Each answer brings the task to a stage that its actor's own events come to.
use Rattle.std.proofs.Common.{◌≡◌, ℕ, ◌+◌, ◌<◌, ◌≤◌, min, Bool, true, false, cond, bytes_eq, append_assoc, append-nil, List, [], ◌∷◌, ◌++◌, filter, length, Some, None, refl, sym, ◌∙◌, ap, subst, arith, nat_lt, length-append}
use Rattle.std.proofs.lemmas.Bool.Decides.{nat_tests}
use Rattle.std.proofs.lemmas.List.{map-append}
use Rattle.std.proofs.lemmas.List.Elements.{filter-append}
use Rattle.std.proofs.lemmas.List.FromFn.{map-range_with_len_more}
use Rattle.std.proofs.lemmas.List.Sums.{sum_by_push}
use Rattle.object_words.specs.declared.bucket.Bucket.{Bucket}
use Rattle.object_words.specs.declared.shard.ShardStats.{ShardStats}
use Rattle.object_words.specs.declared.why.Why.TheVariants.{Absent, Moved, Closed}
use Rattle.object_words.specs.Numbers.{greatest}
use Rattle.realm_model.specs.Accounts.{Account, accounted, is_left}
use Rattle.realm_model.specs.Maps.{Maps, Made}
use Rattle.realm_model.specs.Owns.{OwnEvent}
use Rattle.realm_model.specs.Shown.{row_shown}
use Rattle.realm_model.specs.Suits.{Suits}
use Rattle.realm_model.specs.declared.op.Op.{Op}
use Rattle.realm_model.specs.declared.event.Reply.{Reply}
use Rattle.realm_model.specs.declared.event.Reply.TheVariants.{No, Row, Names, Stats}
use Rattle.list_words.proofs.Texts.{before_trans}
use Rattle.task_words.specs.Outcomes.{most_moved, left_count}
use Rattle.task_account.specs.declared.asked.Asked.{Asked}
use Rattle.task_account.specs.declared.asked.Place.TheVariants.{Past, Elsewhere, Due}
use Rattle.task_account.specs.declared.counting.Counting.{Counting}
use Rattle.task_account.specs.declared.reply.AccountReply.{AccountReply}
use Rattle.task_account.specs.declared.reply.AccountOutcome.TheVariants.{Done, MovedOften}
use Rattle.task_account.specs.declared.request.AccountRequest.{AccountRequest}
use Rattle.task_account.specs.declared.stage.Visit.{Visit}
use Rattle.task_account.specs.declared.stage.Stage.{Stage}
use Rattle.task_account.specs.declared.stage.Stage.TheVariants.{Page, Look, Count, Broken, Ended}
use Rattle.task_account.specs.Asking.{asked_of, is_full, place_of, with_container, with_subdir, is_short}
use Rattle.task_account.specs.Stages.{IsOpen, asks_page, asks_row, asks_header, op_of, counting_from, counted, names_shown, placed, visit_of, behind_page, walk, passed, after_header, after_subdir, after_row, after_left, one_moved, step_of}
use Rattle.task_account.specs.Counts.{names_of, last_row, is_owned, is_found, found_names, CountedBy, Found, IsCounted, IsUntouched, Tally}
use Rattle.task_account.specs.Tasks.{Rises, last_in, AreUnread, Going, Visiting, FitsAt}
use Rattle.task_account.proofs.Orders.{differ_back, itself, rises_append, last_append, behind, others}
use Rattle.task_account.proofs.Reading.{names_more, other_row, own_row, AreOthers, tally_stays, tally_with, tally_unread}
use Rattle.task_account.proofs.Rowing.{tally_found, with_subdir_found, with_container_found}

-- ---- one header more

module _ (zone : ℕ) (account name : List ℕ) (row : Bucket) (objects bytes number clock : ℕ) (events : List OwnEvent) (n : ℕ) (s : ShardStats) where
  abbrev own : OwnEvent
  own = record { op = asks_header zone row n; reply = Stats s; number = number; clock = clock }

  one_header : CountedBy zone account name row n objects bytes events → CountedBy zone account name row (n + 1) (min (objects + s.objects) greatest) (min (bytes + s.bytes) greatest) (events ++ own ∷ [])
  one_header x =
      let so_many = sum_by_push (λ (h : ShardStats). h.objects) x.headers s in
      let so_much = sum_by_push (λ (h : ShardStats). h.bytes) x.headers s in
      let objects_were = x.objects_are in
      let bytes_were = x.bytes_are in
      let from_zero : 0 + n ≡ n = omega arith in
      record {
        before = x.before;
        look = x.look;
        counts = x.counts ++ own ∷ [];
        headers = x.headers ++ s ∷ [];
        stands = ap (λ es. es ++ own ∷ []) x.stands ∙ append_assoc x.before (x.look ∷ x.counts) (own ∷ []);
        looks = x.looks;
        showed = x.showed;
        owned = x.owned;
        asked = map-append (λ (e : OwnEvent). e.op) x.counts (own ∷ []) ∙ ap (λ ops. ops ++ asks_header zone row n ∷ []) x.asked ∙ sym (map-range_with_len_more (asks_header zone row) 0 n n from_zero);
        told = map-append (λ (e : OwnEvent). e.reply) x.counts (own ∷ []) ∙ ap (λ replies. replies ++ Stats s ∷ []) x.told ∙ sym (map-append (λ h. Stats h) x.headers (s ∷ []));
        objects_are = omega (arith, so_many, objects_were);
        bytes_are = omega (arith, so_much, bytes_were);
      }

-- ---- a walk over names

module _ (r : AccountRequest) (start : List ℕ) (moved : ℕ) (y : Account) (events : List OwnEvent) (going : Going start moved y events) where
  abbrev asked : Asked
  asked = asked_of r.command

  -- the names that were passed, with their reply
  abbrev pub Passing : AccountReply → List (List ℕ) → Type 0
  Passing reply names = Tally r.zone r.account asked reply names events

  all_passed : (reply : AccountReply) (last : List ℕ) (before names : List (List ℕ)) → names_of events ≡ before ++ names → Rises last names → AreUnread last events → Passing reply before → FitsAt r start (Ended (Done reply)) moved y events
  all_passed reply last before names pages rise unread tally =
      (subst (Passing reply) (sym pages) (tally_unread r.zone r.account asked events reply last before names rise unread tally), going.untouched)

  pub walked : (reply : AccountReply) (last : List ℕ) (is_last : Bool) (before names : List (List ℕ)) → names_of events ≡ before ++ names → last ≡ last_in start before → Rises last names → AreUnread last events → Passing reply before
      → FitsAt r start (walk asked reply last is_last names) moved y events
  walked reply last is_last before [] pages at rise unread tally =
      let whole : names_of events ≡ before = pages ∙ append-nil before in
      let done = all_passed reply last before [] pages rise unread tally in
      elim (is_full asked reply) as (λ b. FitsAt r start (cond b (Ended (Done reply)) (behind_page reply last is_last)) moved y events) [
        | true ↦ done
        | false ↦
            elim is_last as (λ b. FitsAt r start (behind_page reply last b) moved y events) [
              | true ↦ done
              | false ↦ (going, record { tally = subst (Passing reply) (sym whole) tally; is_last = at ∙ ap (last_in start) (sym whole); unread = unread })
            ]
      ]
  walked reply last is_last before (name ∷ names) pages at rise unread tally =
      let done = all_passed reply last before (name ∷ names) pages rise unread tally in
      let above : AreUnread name events = λ other higher. unread other (before_trans last name other rise.0 higher) in
      let none : found_names r.account events (name ∷ []) ≡ [] = ap (λ o. cond (is_owned r.account o) (name ∷ []) []) (unread name rise.0) in
      elim (is_full asked reply) as (λ b. is_full asked reply ≡ b → FitsAt r start (cond b (Ended (Done reply)) (placed (place_of asked reply name) (Ended (Done reply)) (walk asked reply name is_last names) (λ subdir. Look (visit_of reply name subdir is_last names)))) moved y events) [
        | true ↦ λ full. done
        | false ↦ λ room.
            elim (place_of asked reply name) as (λ p. place_of asked reply name ≡ p → FitsAt r start (placed p (Ended (Done reply)) (walk asked reply name is_last names) (λ subdir. Look (visit_of reply name subdir is_last names))) moved y events) [
              | Past ↦ λ is. done
              | Elsewhere ↦ λ is.
                  walked reply name is_last (before ++ name ∷ []) names (pages ∙ sym (append_assoc before (name ∷ []) names)) (sym (last_append start before name)) rise.1 above
                  (tally_with r.zone r.account asked events reply before (name ∷ []) none tally)
              | Due subdir ↦ λ is. (going, record { passed = before; pages = pages; tally = tally; room = room; due = is; unread = above })
            ] refl
      ] refl

  -- behind a name that was read
  pub behind_visit : (v : Visit) (reply : AccountReply) (x : Visiting r v events) → Passing reply (x.passed ++ v.name ∷ []) → FitsAt r start (passed asked reply v) moved y events
  behind_visit v reply x tally =
      let rise : Rises v.name v.left.rest = behind start x.passed v.name v.left.rest (subst (Rises start) x.pages going.rise) in
      walked reply v.name v.left.is_last (x.passed ++ v.name ∷ []) v.left.rest (x.pages ∙ sym (append_assoc x.passed (v.name ∷ []) v.left.rest)) (sym (last_append start x.passed v.name)) rise x.unread tally

  -- the next shard, or all were counted
  pub headed : (v : Visit) (c : Counting) → c.next ≤ c.row.shards → Visiting r v events → v.subdir ≡ None → last_row v.name events ≡ Some c.row
      → CountedBy r.zone r.account v.name c.row c.next c.objects c.bytes events → FitsAt r start (after_header asked v c) moved y events
  headed v c low x alone shown so_far =
      elim (nat_lt c.next c.row.shards) as (λ b. nat_lt c.next c.row.shards ≡ b → FitsAt r start (cond b (Count v c) (passed asked (with_container v.reply v.name c.objects c.bytes) v)) moved y events) [
        | true ↦ λ less. let below : c.next < c.row.shards = grind (arith, nat_tests, less) in (going, x, alone, below, so_far, shown)
        | false ↦ λ all.
            let same : c.next ≡ c.row.shards = grind (arith, nat_tests, all, low) in
            let f : Found = record { name = v.name; subdir = None; objects = c.objects; bytes = c.bytes } in
            let there : is_found r.account events v.name ≡ true = ap (is_owned r.account) shown ∙ so_far.owned in
            let counts : IsCounted r.zone r.account f events =
            record {
              front = events;
              later = [];
              split = sym (append-nil events);
              row = c.row;
              by = subst (λ n. CountedBy r.zone r.account v.name c.row n c.objects c.bytes events) same so_far;
              unread = tt;
            } in
            let tally = tally_found r.zone r.account asked v.reply x.passed events f x.room (x.due ∙ ap (λ o. Due o) alone) there (λ whole. counts) x.tally in
            behind_visit v (with_container v.reply v.name c.objects c.bytes) x
            (subst (λ reply. Passing reply (x.passed ++ v.name ∷ [])) (with_container_found v.reply v.name c.objects c.bytes) tally)
      ] refl

-- ---- one answer more

module _ (r : AccountRequest) (start : List ℕ) (moved : ℕ) (y : Account) (events : List OwnEvent) (number clock : ℕ) (maps : Maps) (made : Made) where
  abbrev made_of : Asked
  made_of = asked_of r.command

  abbrev after : Op → Reply → Account
  after op reply = accounted y maps made op reply number clock

  abbrev event : Op → Reply → OwnEvent
  event op reply = record { op = op; reply = reply; number = number; clock = clock }

  abbrev more : Op → Reply → List OwnEvent
  more op reply = events ++ event op reply ∷ []

  lefts : (op : Op) (reply : Reply) → left_count (more op reply) ≡ left_count events + length (filter (λ (e : OwnEvent). is_left e.reply) (event op reply ∷ []))
  lefts op reply =
      ap length (filter-append (λ (e : OwnEvent). is_left e.reply) events (event op reply ∷ []))
      ∙ length-append (filter (λ (e : OwnEvent). is_left e.reply) events) (filter (λ (e : OwnEvent). is_left e.reply) (event op reply ∷ []))

  same_names : (op : Op) (reply : Reply) → names_shown reply ≡ [] → names_of (more op reply) ≡ names_of events
  same_names op reply none = names_more events (event op reply) ∙ ap (λ ns. names_of events ++ ns) none ∙ append-nil (names_of events)

  -- an event that touches no head, shows no name, and was answered neither Moved nor Closed
  going_on : (op : Op) (reply : Reply) → Going start moved y events → (after op reply).decided ≡ y.decided → (after op reply).changes ≡ y.changes → is_left reply ≡ false → names_shown reply ≡ [] → Going start moved (after op reply) (more op reply)
  going_on op reply going decided changes stays none = record {
    rise = subst (Rises start) (sym (same_names op reply none)) going.rise;
    moved_is = (
        let count = lefts op reply in
        let no : length (filter (λ (e : OwnEvent). is_left e.reply) (event op reply ∷ [])) ≡ 0 = ap (λ b. length (cond b (event op reply ∷ []) [])) stays in
        let was = going.moved_is in
        omega (arith, count, no, was)
        );
    few = going.few;
    untouched = record { undecided = decided ∙ (going.untouched).undecided; unchanged = changes ∙ (going.untouched).unchanged };
  }

  -- a page of names
  paged : (reply : AccountReply) (last : List ℕ) (names : List (List ℕ)) → Rises last names → FitsAt r start (Page reply last) moved y events
      → FitsAt r start (walk made_of reply last (is_short names) names) moved (after (asks_page r.zone r.account last) (Names names)) (more (asks_page r.zone r.account last) (Names names))
  paged reply last names rise fits =
      let op = asks_page r.zone r.account last in
      let going = fits.0 in
      let x = fits.1 in
      let pages = names_more events (event op (Names names)) in
      let from_last : Rises (last_in start (names_of events)) names = subst (λ t. Rises t names) x.is_last rise in
      let went : Going start moved (after op (Names names)) (more op (Names names)) =
      record {
        rise = subst (Rises start) (sym pages) (rises_append start (names_of events) names going.rise from_last);
        moved_is = (let count = lefts op (Names names) in let was = going.moved_is in omega (arith, count, was));
        few = going.few;
        untouched = record { undecided = (going.untouched).undecided; unchanged = (going.untouched).unchanged };
      } in
      walked r start moved (after op (Names names)) (more op (Names names)) went reply last (is_short names) (names_of events) names pages x.is_last rise
      (λ name above. other_row name events (event op (Names names)) refl ∙ x.unread name above)
      (tally_stays r.zone r.account made_of events (event op (Names names)) reply (names_of events) (none_read (names_of events)) x.tally)
    where
      none_read : (all : List (List ℕ)) → AreOthers r.zone r.account made_of events (event (asks_page r.zone r.account last) (Names names)) all
      none_read [] = tt
      none_read (name ∷ all) = (refl, none_read all)

  -- the row of a name was read, or none is
  module _ (v : Visit) (reply : Reply) (fits : FitsAt r start (Look v) moved y events) (stays : is_left reply ≡ false) (none : names_shown reply ≡ [])
      (decided : (after (asks_row r.zone v.name) reply).decided ≡ y.decided) (changes : (after (asks_row r.zone v.name) reply).changes ≡ y.changes) where
    abbrev reads : Op
    reads = asks_row r.zone v.name

    read_on : Going start moved (after reads reply) (more reads reply)
    read_on = going_on reads reply fits.0 decided changes stays none

    read_row : last_row v.name (more reads reply) ≡ row_shown reply
    read_row = own_row v.name events (event reads reply) (itself v.name)

    reads_others : AreOthers r.zone r.account made_of events (event reads reply) (fits.1).passed
    reads_others = others start (fits.1).passed v.name v.left.rest (subst (Rises start) (fits.1).pages (fits.0).rise)

    abbrev read : Visiting r v (more reads reply)
    read = record {
      passed = (fits.1).passed;
      pages = same_names reads reply none ∙ (fits.1).pages;
      tally = tally_stays r.zone r.account made_of events (event reads reply) v.reply (fits.1).passed reads_others (fits.1).tally;
      room = (fits.1).room;
      due = (fits.1).due;
      unread = λ name above. other_row name events (event reads reply) (differ_back name v.name above) ∙ (fits.1).unread name above;
    }

    -- it is left out
    left_out : is_owned r.account (row_shown reply) ≡ false → FitsAt r start (passed made_of v.reply v) moved (after reads reply) (more reads reply)
    left_out other =
        let not_there : found_names r.account (more reads reply) (v.name ∷ []) ≡ [] = ap (λ o. cond (is_owned r.account o) (v.name ∷ []) []) read_row ∙ ap (λ b. cond b (v.name ∷ []) []) other in
        behind_visit r start moved (after reads reply) (more reads reply) read_on v v.reply read
        (tally_with r.zone r.account made_of (more reads reply) v.reply (fits.1).passed (v.name ∷ []) not_there read.tally)

    -- it is listed under a subdir
    under_subdir : (subdir : List ℕ) → v.subdir ≡ Some subdir → is_owned r.account (row_shown reply) ≡ true → FitsAt r start (passed made_of (with_subdir v.reply subdir) v) moved (after reads reply) (more reads reply)
    under_subdir subdir is owned =
        let f : Found = record { name = v.name; subdir = Some subdir; objects = 0; bytes = 0 } in
        let due : place_of made_of v.reply v.name ≡ Due (Some subdir) = (fits.1).due ∙ ap (λ o. Due o) is in
        let there : is_found r.account (more reads reply) v.name ≡ true = ap (is_owned r.account) read_row ∙ owned in
        let tally = tally_found r.zone r.account made_of v.reply (fits.1).passed (more reads reply) f (fits.1).room due there (λ whole. (let no : Some subdir ≡ None = whole in cc)) read.tally in
        behind_visit r start moved (after reads reply) (more reads reply) read_on v (with_subdir v.reply subdir) read
        (subst (λ x. Tally r.zone r.account made_of x ((fits.1).passed ++ v.name ∷ []) (more reads reply)) (with_subdir_found made_of v.reply v.name subdir ((fits.1).tally).found due ((fits.1).tally).is_reply) tally)

  some_row : (v : Visit) (row : Bucket) → FitsAt r start (Look v) moved y events → FitsAt r start (after_row r.account made_of v (Some row)) moved (after (asks_row r.zone v.name) (Row row)) (more (asks_row r.zone v.name) (Row row))
  some_row v row fits =
      let op = asks_row r.zone v.name in
      let y' = after op (Row row) in
      let es = more op (Row row) in
      elim (bytes_eq row.owner r.account) as (λ b. bytes_eq row.owner r.account ≡ b → FitsAt r start (cond b (after_subdir made_of v row v.subdir) (passed made_of v.reply v)) moved y' es) [
        | true ↦ λ owned.
            elim v.subdir as (λ o. v.subdir ≡ o → FitsAt r start (after_subdir made_of v row o) moved y' es) [
              | Some subdir ↦ λ is. under_subdir v (Row row) fits refl refl refl refl subdir is owned
              | None ↦ λ is.
                  headed r start moved y' es (read_on v (Row row) fits refl refl refl refl) v (counting_from row) (omega arith) (read v (Row row) fits refl refl refl refl) is (read_row v (Row row) fits refl refl refl refl)
                  (record {
                    before = events;
                    look = event op (Row row);
                    counts = [];
                    headers = [];
                    stands = refl;
                    looks = refl;
                    showed = refl;
                    owned = owned;
                    asked = refl;
                    told = refl;
                    objects_are = omega arith;
                    bytes_are = omega arith;
                  })
            ] refl
        | false ↦ λ other. left_out v (Row row) fits refl refl refl refl other
      ] refl

  -- a header came, or the shard no longer serves
  module _ (v : Visit) (c : Counting) (fits : FitsAt r start (Count v c) moved y events) where
    abbrev asks : Op
    asks = asks_header r.zone c.row c.next

    none_asked : (reply : Reply) (all : List (List ℕ)) → AreOthers r.zone r.account made_of events (event asks reply) all
    none_asked reply [] = tt
    none_asked reply (name ∷ all) = (refl, none_asked reply all)

    visiting : (reply : Reply) → names_shown reply ≡ [] → Visiting r v (more asks reply)
    visiting reply none = record {
      passed = (fits.1).passed;
      pages = same_names asks reply none ∙ (fits.1).pages;
      tally = tally_stays r.zone r.account made_of events (event asks reply) v.reply (fits.1).passed (none_asked reply (fits.1).passed) (fits.1).tally;
      room = (fits.1).room;
      due = (fits.1).due;
      unread = λ name above. other_row name events (event asks reply) refl ∙ (fits.1).unread name above;
    }

    left : (reply : Reply) → names_shown reply ≡ [] → is_left reply ≡ true → (after asks reply).decided ≡ y.decided → (after asks reply).changes ≡ y.changes
        → FitsAt r start (after_left v (one_moved moved)) (one_moved moved) (after asks reply) (more asks reply)
    left reply none leaves decides changes =
        let going = fits.0 in
        let few = going.few in
        let was = going.moved_is in
        let count = lefts asks reply in
        let one_left : length (filter (λ (e : OwnEvent). is_left e.reply) (event asks reply ∷ [])) ≡ 1 = ap (λ b. length (cond b (event asks reply ∷ []) [])) leaves in
        let one : left_count (more asks reply) ≡ one_moved moved = omega (arith, count, one_left, was, few) in
        let still : IsUntouched (after asks reply) = record { undecided = decides ∙ (going.untouched).undecided; unchanged = changes ∙ (going.untouched).unchanged } in
        elim (nat_lt (one_moved moved) most_moved) as (λ b. nat_lt (one_moved moved) most_moved ≡ b → FitsAt r start (cond b (Look v) (Ended MovedOften)) (one_moved moved) (after asks reply) (more asks reply)) [
          | true ↦ λ less.
              let below : one_moved moved < most_moved = grind (arith, nat_tests, less) in
              (record { rise = subst (Rises start) (sym (same_names asks reply none)) going.rise; moved_is = one; few = below; untouched = still }, visiting reply none)
          | false ↦ λ all. let often : most_moved ≤ one_moved moved = grind (arith, nat_tests, all) in (omega (arith, one, often, few), still)
        ] refl

    some_header : (s : ShardStats) → FitsAt r start (after_header made_of v (counted c s)) moved (after asks (Stats s)) (more asks (Stats s))
    some_header s =
        let below = fits.3 in
        let raised : cond (nat_lt c.next c.row.shards) (c.next + 1) c.next ≡ c.next + 1 = ap (λ b. cond b (c.next + 1) c.next) (let less : nat_lt c.next c.row.shards ≡ true = grind (arith, nat_tests, below) in less) in
        headed r start moved (after asks (Stats s)) (more asks (Stats s)) (going_on asks (Stats s) fits.0 refl refl refl refl) v (counted c s) (omega (arith, raised, below)) (visiting (Stats s) refl) fits.2
        (other_row v.name events (event asks (Stats s)) refl ∙ fits.5)
        (subst (λ n. CountedBy r.zone r.account v.name c.row n (min (c.objects + s.objects) greatest) (min (c.bytes + s.bytes) greatest) (more asks (Stats s))) (sym raised)
        (one_header r.zone r.account v.name c.row c.objects c.bytes number clock events c.next s fits.4))

  -- the names of a page are above the last name
  abbrev pub IsAbove : Stage → Reply → Type 0
  IsAbove (Page so_far last) reply = Rises last (names_shown reply)
  IsAbove stage reply = Unit {0}

  pub one_step : (stage : Stage) (reply : Reply) → IsOpen stage → Suits (op_of r.zone r.account stage) reply → IsAbove stage reply → FitsAt r start stage moved y events
      → FitsAt r start (step_of r.account made_of stage moved reply).0 (step_of r.account made_of stage moved reply).1 (after (op_of r.zone r.account stage) reply) (more (op_of r.zone r.account stage) reply)
  one_step (Ended outcome) reply going suits above fits = absurd going
  one_step Broken reply going suits above fits = absurd going
  one_step (Page so_far last) (Names names) going suits above fits = paged so_far last names above fits
  one_step (Page so_far last) reply going suits above fits = absurd suits
  one_step (Look v) (Row row) going suits above fits = some_row v row fits
  one_step (Look v) (No Absent) going suits above fits = left_out v (No Absent) fits refl refl refl refl refl
  one_step (Look v) reply going suits above fits = absurd suits
  one_step (Count v c) (Stats s) going suits above fits = some_header v c fits s
  one_step (Count v c) (No (Moved instance)) going suits above fits = left v c fits (No (Moved instance)) refl refl refl refl
  one_step (Count v c) (No Closed) going suits above fits = left v c fits (No Closed) refl refl refl refl
  one_step (Count v c) reply going suits above fits = absurd suits
