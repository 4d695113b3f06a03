-- What stays known after an own event.
use Rattle.std.proofs.Common.{◌≡◌, ℕ, ◌+◌, ◌^◌, ◌%◌, ◌<◌, ◌≤◌, ◌==◌, ◌&&◌, ◌||◌, nat_lt, Bool, true, false, cond, List, [], ◌∷◌, ◌++◌, Option, Some, None, refl, sym, ◌∙◌, ap, arith}
use Rattle.std.proofs.Math.Nat.{mod-lt}
use Rattle.std.proofs.lemmas.Bool.Decides.{nat_tests}
use Rattle.rgw_types.specs.declared.pool_key.Key.{Key}
use Rattle.object_words.specs.declared.bucket.Bucket.{Bucket}
use Rattle.object_words.specs.Hashes.{hash_of, mixed, shard_of}
use Rattle.object_words.specs.Names.{at as at_name}
use Rattle.object_words.proofs.KeyLemmas.{number_itself}
use Rattle.realm_model.specs.Accounts.{Account, Looked, has_shard, is_left, looked_since}
use Rattle.realm_model.specs.Learnt.{at_stage, first_after}
use Rattle.realm_model.specs.Maps.{Maps}
use Rattle.realm_model.specs.Owns.{OwnEvent}
use Rattle.realm_model.specs.Phases.{OwnTag, over}
use Rattle.realm_model.specs.Tests.{is_so}
use Rattle.realm_model.specs.declared.op.Op.{Op}
use Rattle.realm_model.specs.declared.event.Reply.{Reply}
use Rattle.task_words.specs.Outcomes.{most_moved, left_count}
use Rattle.index_update.specs.declared.stage.Updated.TheVariants.{MovedOften}
use Rattle.index_update.specs.Stages.{shard_for, one_more, look_again}
use Rattle.index_update.specs.Fits.{Known, known_next, Asked, Trying, AtRow, Since, Carries, Granted, IsTagFree, FitsAt}
use Rattle.index_update.proofs.Counting.{left_more, left_same}
use Rattle.index_update.specs.declared.head_change.HeadChange.{HeadChange}
use Rattle.index_update.specs.declared.stage.Tried.{Tried}
use Rattle.index_update.specs.declared.stage.Stage.TheVariants.{Looking, Ended}

-- ---- tests

pub both : (a b : Bool) → a ≡ true → b ≡ true → (a && b) ≡ true
both a b one two = rw one two

pub either : (a b : Bool) → a ≡ true → (a || b) ≡ true
either a b one = rw one refl

pub so : {A : Type 0} (o : Option A) (x : A) (test : A → Bool) → o ≡ Some x → test x ≡ true → is_so o test ≡ true
so o x test is passes = ap (λ q. is_so q test) is ∙ passes

-- ---- counts

-- one more, where it is not too many
pub one_more_is : (n : ℕ) → n < most_moved → one_more n ≡ n + 1
one_more_is n few = omega (arith, few)

-- ---- the row

within : (row : Bucket) (name : List ℕ) → 0 < row.shards → shard_of name row.shards < row.shards
within row name some = mod-lt (mixed (hash_of name % 2 ^ 32) % 7877) some

-- the row has the shard for each name
has : (row : Bucket) (name : List ℕ) → 0 < row.shards → has_shard (shard_for row name) row ≡ true
has row name some =
    let less = within row name some in
    let below : nat_lt (shard_of name row.shards) row.shards ≡ true = grind (arith, nat_tests, less) in
    rw (number_itself row.id, number_itself row.instance) below

-- the shard was named since the last answer Moved or Closed
pub was_named : (r : Asked) (key : Key) (k : Known) → AtRow r.target key k → looked_since k.account.looked k.account.moved.last r.target.zone key ≡ true
was_named r key k at =
    let last : ℕ = k.account.moved.last in
    let look : Looked = record { zone = r.target.zone; name = r.target.container; row = Some at.row; number = at.number } in
    let later = at.later in
    let since : nat_lt last at.number ≡ true = grind (arith, nat_tests, later) in
    let shown : has_shard key at.row ≡ true = ap (λ q. has_shard q at.row) at.names ∙ has at.row r.target.name at.some in
    ap (λ o. looked_since o last r.target.zone key) at.looked
    ∙ both (nat_lt last at.number) ((r.target.zone == r.target.zone) && has_shard key at.row) since
    (both (r.target.zone == r.target.zone) (has_shard key at.row) (number_itself r.target.zone) shown)

-- the row grants the change still
pub still_granted : (r : Asked) (key : Key) (k : Known) (y : Account) → AtRow r.target key k → y.looked ≡ k.account.looked → y.changes ≡ r.start.account.changes → Granted r y
still_granted r key k y at looked changes = record {
  by_row = record {
    look = record { zone = r.target.zone; name = r.target.container; row = Some at.row; number = at.number };
    is_last = looked ∙ at.looked;
    in_zone = refl;
    under_name = refl;
    refuses = at.granted;
  };
  unchanged = changes;
}

-- ---- the tag

-- a tag that is over stands in no way
pub tag_over : (tag : Option OwnTag) → IsTagFree (at_stage tag over)
tag_over None = tt
tag_over (Some t) = refl

-- ---- one event more

module _ (k : Known) (maps : Maps) (op : Op) (reply : Reply) (number clock : ℕ) (before : k.last < number) where
  abbrev next : Known
  next = known_next k maps op reply number clock

  -- one answer Moved or Closed more
  pub one_left : (events : List OwnEvent) → is_left reply ≡ true → left_count (events ++ (record { op = op; reply = reply; number = number; clock = clock }) ∷ []) ≡ left_count events + 1
  one_left events is =
      left_more events (record { op = op; reply = reply; number = number; clock = clock })
      ∙ ap (λ b. left_count events + cond b 1 0) is

  -- it touched no head, and was answered neither Moved nor Closed
  pub trying_on : (r : Asked) (x : Tried) → Trying r x k → is_left reply ≡ false
      → next.account.moved ≡ k.account.moved → next.account.expired.count ≡ k.account.expired.count
      → next.account.decided ≡ k.account.decided → next.account.changes ≡ k.account.changes
      → Trying r x next
  trying_on r x t stays moved expired decided changes = record {
    moved = ap (λ m. m.count) moved ∙ t.moved;
    left = left_same k.events (record { op = op; reply = reply; number = number; clock = clock }) (left_count r.start.events + x.moved) t.left stays;
    few = t.few;
    moved_before = (let last = ap (λ m. m.last) moved in let low = t.moved_before in omega (arith, last, low, before));
    expired = expired ∙ t.expired;
    few_expired = t.few_expired;
    undecided = decided ∙ t.undecided;
    unchanged = changes ∙ t.unchanged;
  }

  -- it touched no head, and was answered Moved or Closed
  pub trying_left : (r : Asked) (x y : Tried) → Trying r x k → is_left reply ≡ true → y.moved ≡ x.moved + 1 → y.expired ≡ x.expired
      → next.account.moved.count ≡ k.account.moved.count + 1 → next.account.moved.last ≡ number
      → next.account.expired.count ≡ k.account.expired.count
      → next.account.decided ≡ k.account.decided → next.account.changes ≡ k.account.changes
      → y.moved < most_moved → Trying r y next
  trying_left r x y t leaves more same count last expired decided changes few = record {
    moved = (let was = t.moved in omega (arith, count, was, more));
    left = (let was = t.left in let one = one_left k.events leaves in omega (arith, one, was, more));
    few = few;
    moved_before = omega (arith, last);
    expired = expired ∙ t.expired ∙ ap (λ n. r.start.account.expired.count + n) (sym same);
    few_expired = (let low = t.few_expired in omega (arith, low, same));
    undecided = decided ∙ t.undecided;
    unchanged = changes ∙ t.unchanged;
  }

  pub row_on : (r : Asked) (key : Key) → AtRow r.target key k
      → next.account.looked ≡ k.account.looked → next.phase.rows ≡ k.phase.rows → next.account.moved ≡ k.account.moved
      → AtRow r.target key next
  row_on r key at looked rows moved = record {
    row = at.row;
    number = at.number;
    looked = looked ∙ at.looked;
    read = ap (λ f. at_name (f r.target.zone) r.target.container) rows ∙ at.read;
    granted = at.granted;
    some = at.some;
    names = at.names;
    later = (let last = ap (λ m. m.last) moved in let low = at.later in omega (arith, last, low));
    before = (let low = at.before in omega (arith, low, before));
  }

  pub since_on : (r : Asked) → Since r k → next.phase.stripes.own ≡ k.phase.stripes.own → next.made ≡ k.made → Since r next
  since_on r s own made = record {
    own = own ∙ s.own;
    first = λ f is. ap (λ o. first_after o number clock) (s.first f is);
    made = λ zone write part bytes is. ap (λ m. m zone write part) made ∙ s.made zone write part bytes is;
  }

  pub carries_on : (r : Asked) (change : HeadChange) → Carries r change k
      → next.phase.stripes.own ≡ k.phase.stripes.own → next.made ≡ k.made
      → Carries r change next
  carries_on r change c own made = record { same = c.same; needs = c.needs; since = since_on r c.since own made }

-- the row is read again, unless that came too often
pub looked_again : (r : Asked) (y : Tried) (change : HeadChange) (k : Known)
    → Carries r change k → IsTagFree k.phase.tag → Granted r k.account
    → k.account.moved.count ≡ r.start.account.moved.count + y.moved → y.moved ≤ most_moved → (y.moved < most_moved → Trying r y k)
    → FitsAt r y (look_again y change) k
looked_again r y change k carries free granted count most trying =
    elim (nat_lt y.moved most_moved) as (λ b. nat_lt y.moved most_moved ≡ b → FitsAt r y (cond b (Looking change) (Ended MovedOften)) k) [
      | true ↦ λ less. let few : y.moved < most_moved = grind (arith, nat_tests, less) in (trying few, carries, free)
      | false ↦ λ all.
          let often : most_moved ≤ y.moved = grind (arith, nat_tests, all) in
          let many : k.account.moved.count ≡ r.start.account.moved.count + most_moved = omega (arith, count, most, often) in
          (granted, many, carries.since)
    ] refl
