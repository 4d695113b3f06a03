-- How much one event adds to a shard.
use Rattle.std.proofs.Common.{◌≡◌, ℕ, ◌+◌, ◌^◌, ◌<◌, ◌≤◌, ◌==◌, ◌||◌, not, Bool, true, false, cond, max, nat_le, nat_lt, List, [], ◌∷◌, ◌++◌, length, Option, Some, None, IfSome, refl, sym, ap, subst, arith, length-append}
use Rattle.std.specs.List.{AllByRecursion}
use Rattle.std.specs.Ordering.{eq_by_cmp}
use Rattle.std.proofs.lemmas.Bool.{true≢false}
use Rattle.std.proofs.lemmas.Bool.Decides.{nat_tests}
use Rattle.object_words.specs.declared.log.LogWhat.TheVariants.{Name}
use Rattle.object_words.specs.declared.entry.Tag.{Tag}
use Rattle.object_words.specs.declared.why.Why.{Why}
use Rattle.object_words.specs.Entries.{EntryView, entry_of, is_kept, stored_if_newer, with_tags}
use Rattle.object_words.specs.declared.shard.Hold.{Hold}
use Rattle.object_words.specs.declared.shard.Hold.TheVariants.{Free, Closing}
use Rattle.object_words.specs.HoldCalls.{close_refusal, closed, hold_number, released, shut_down, taken}
use Rattle.object_words.specs.Logs.{Log}
use Rattle.object_words.specs.Names.{at, entries, name_cmp, none, with_name, without_name}
use Rattle.object_words.specs.Numbers.{next}
use Rattle.object_words.specs.Refusals.{unless_refused}
use Rattle.object_words.specs.Rows.{RowView}
use Rattle.object_words.specs.ShardCalls.{cancelled, complete_refusal, completed, logged_if_newer, prepare_refusal, prepared, settled, suggest_refusal, suggested}
use Rattle.object_words.specs.Shards.{Shard, byte_count, entry_at, new_shard, object_count, sum_over, tag_count, total, with_entry}
use Rattle.object_words.specs.Tags.{is_due, tags_due_taken, with_tag, without_tag}
use Rattle.object_words.proofs.NameLemmas.{at-none, at-with_name, at-without_name}
use Rattle.object_words.proofs.Sums.{sum-with_entry}
use Rattle.class_words.proofs.LogLemmas.{same_name}
use Rattle.zone_core.specs.Bounds.{IsSmallBy}

-- ---- one entry changed

-- what holds of the entry that changed, and of the others
pub after_entry : (P : List ℕ → EntryView → Type 0) (s : Shard) (name : List ℕ) (e : EntryView) → P name e
    → ((q : List ℕ) → IfSome (at s.entries q) (P q)) → (q : List ℕ) → IfSome (at (with_entry s name e).entries q) (P q)
after_entry P s name e here others q = elim (is_kept e) as (λ b. IfSome (at (cond b (with_name s.entries name e) (without_name s.entries name)) q) (P q)) [
  | true ↦ subst (λ o. IfSome o (P q)) (sym (at-with_name s.entries name e q))
      (elim (eq_by_cmp name_cmp q name) as (λ b. eq_by_cmp name_cmp q name ≡ b → IfSome (cond b (Some e) (at s.entries q)) (P q)) [
        | true ↦ λ t. subst (λ n. P n e) (sym (same_name q name t)) here
        | false ↦ λ t. others q
      ] refl)
  | false ↦ subst (λ o. IfSome o (P q)) (sym (at-without_name s.entries name q))
      (elim (eq_by_cmp name_cmp q name) as (λ b. IfSome (cond b None (at s.entries q)) (P q)) [
        | true ↦ tt
        | false ↦ others q
      ])
]

either_false : (a b : Bool) → (a || b) ≡ false → (a ≡ false) × (b ≡ false)
either_false true b here = absurd (true≢false here)
either_false false b here = (refl, here)

no_object : (e : EntryView) → is_kept e ≡ false → e.row.exists ≡ false
no_object e gone = (either_false e.row.exists _ gone).0

no_objects : (e : EntryView) → is_kept e ≡ false → object_count e ≡ 0
no_objects e gone = let count : Bool → ℕ = λ b. cond b 1 0 in ap count (no_object e gone)

no_bytes : (e : EntryView) → is_kept e ≡ false → byte_count e ≡ 0
no_bytes e gone = let count : Bool → ℕ = λ b. cond b e.row.size 0 in ap count (no_object e gone)

no_tags : (e : EntryView) → is_kept e ≡ false → tag_count e ≡ 0
no_tags e gone = let none = (either_false e.row.exists _ gone).1 in grind (arith, nat_tests)

one_if : (b : Bool) → cond b 1 0 ≤ 1
one_if true = omega arith
one_if false = omega arith

one_object : (e : EntryView) → object_count e ≤ 1
one_object e = one_if e.row.exists

no_more : (count : ℕ) (tags : List Tag) → AllByRecursion (λ t. t.tag ≤ count) tags → AllByRecursion (λ t. t.tag ≤ count + 1) tags
no_more count [] all = tt
no_more count (t ∷ tags) all = (omega (arith, all.0), no_more count tags all.1)

pub if_some : {X : Type 0} (o : Option X) (P Q : X → Type 0) → ((x : X) → P x → Q x) → IfSome o P → IfSome o Q
if_some None P Q step is = tt
if_some (Some x) P Q step is = step x is

-- a shard with another entry under a name, and perhaps one row more in its log
pub small_with : (count : ℕ) (s : Shard) (name : List ℕ) (e : EntryView) (log : Log) → IsSmallBy count s
    → byte_count e ≤ byte_count (entry_at s name) + 2 ^ 64 → tag_count e ≤ tag_count (entry_at s name) + 1 → log.last ≤ s.log.last + 1
    → AllByRecursion (λ t. t.tag ≤ count + 1) e.tags
    → IsSmallBy (count + 1) (with_entry (record s { log = log }) name e)
small_with count s name e log small bytes tags last below =
    let a = sum-with_entry object_count refl s name e (no_objects e) in
    let b = sum-with_entry byte_count refl s name e (no_bytes e) in
    let t = sum-with_entry tag_count refl s name e (no_tags e) in
    record {
      objects = omega (arith, a, one_object e, small.objects);
      bytes = omega (arith, b, bytes, small.bytes);
      tags = omega (arith, t, tags, small.tags);
      last = omega (arith, last, small.last);
      below = after_entry (λ q x. AllByRecursion (λ t. t.tag ≤ count + 1) x.tags) (record s { log = log }) name e below
          (λ q. if_some (at s.entries q) _ _ (λ x all. no_more count x.tags all) (small.below q));
    }

pub small_next : (count : ℕ) (s : Shard) → IsSmallBy count s → IsSmallBy (count + 1) s
small_next count s small = record {
  objects = omega (arith, small.objects);
  bytes = omega (arith, small.bytes);
  tags = omega (arith, small.tags);
  last = omega (arith, small.last);
  below = λ q. if_some (at s.entries q) _ _ (λ x all. no_more count x.tags all) (small.below q);
}

-- a call that may be refused
unless : (count : ℕ) (refusal : Option Why) (s s' : Shard) → IsSmallBy count s → IsSmallBy (count + 1) s' → IsSmallBy (count + 1) (unless_refused refusal s s')
unless count None s s' old new = new
unless count (Some why) s s' old new = small_next count s old

-- ---- tags

tags_here : (count : ℕ) (s : Shard) (name : List ℕ) → IsSmallBy count s → AllByRecursion (λ t. t.tag ≤ count) (entry_at s name).tags
tags_here count s name small = of (at s.entries name) (small.below name) where
  of : (o : Option EntryView) → IfSome o (λ e. AllByRecursion (λ t. t.tag ≤ count) e.tags) → AllByRecursion (λ t. t.tag ≤ count) (entry_of o).tags
  of None is = tt
  of (Some e) is = is

one_more : (count : ℕ) (tags : List Tag) (t : Tag) → AllByRecursion (λ u. u.tag ≤ count) tags → t.tag ≤ count + 1 → AllByRecursion (λ u. u.tag ≤ count + 1) (with_tag t tags)
one_more count [] t all here = (here, tt)
one_more count (u ∷ tags) t all here = (omega (arith, all.0), one_more count tags t all.1 here)

one_less : (count : ℕ) (tag : ℕ) (tags : List Tag) → AllByRecursion (λ u. u.tag ≤ count) tags → AllByRecursion (λ u. u.tag ≤ count) (without_tag tag tags)
one_less count tag [] all = tt
one_less count tag (u ∷ tags) all = elim (u.tag == tag) as (λ b. AllByRecursion (λ v. v.tag ≤ count) (cond b tags (u ∷ without_tag tag tags))) [
  | true ↦ all.1
  | false ↦ (all.0, one_less count tag tags all.1)
]

length-one_less : (tag : ℕ) (tags : List Tag) → length (without_tag tag tags) ≤ length tags
length-one_less tag [] = omega arith
length-one_less tag (u ∷ tags) = elim (u.tag == tag) as (λ b. length (cond b tags (u ∷ without_tag tag tags)) ≤ length (u ∷ tags)) [
  | true ↦ omega arith
  | false ↦ let fewer = length-one_less tag tags in omega (arith, fewer)
]

not_due : (count moment : ℕ) (tags : List Tag) → AllByRecursion (λ u. u.tag ≤ count) tags → AllByRecursion (λ u. u.tag ≤ count) (tags_due_taken moment tags)
not_due count moment [] all = tt
not_due count moment (u ∷ tags) all = elim (not (is_due moment u)) as (λ b. AllByRecursion (λ v. v.tag ≤ count) (cond b (u ∷ tags_due_taken moment tags) (tags_due_taken moment tags))) [
  | true ↦ (all.0, not_due count moment tags all.1)
  | false ↦ not_due count moment tags all.1
]

length-not_due : (moment : ℕ) (tags : List Tag) → length (tags_due_taken moment tags) ≤ length tags
length-not_due moment [] = omega arith
length-not_due moment (u ∷ tags) = elim (not (is_due moment u)) as (λ b. length (cond b (u ∷ tags_due_taken moment tags) (tags_due_taken moment tags)) ≤ length (u ∷ tags)) [
  | true ↦ let fewer = length-not_due moment tags in omega (arith, fewer)
  | false ↦ let fewer = length-not_due moment tags in omega (arith, fewer)
]

-- ---- the calls

none_listed : entries (none {X = EntryView}) ≡ []
unfolding entries none
none_listed = refl

no_sum : (f : EntryView → ℕ) → sum_over f new_shard ≡ 0
no_sum f = ap (total f) none_listed

pub small_new : (count : ℕ) → IsSmallBy count new_shard
small_new count = record {
  objects = omega (arith, no_sum object_count);
  bytes = omega (arith, no_sum byte_count);
  tags = omega (arith, no_sum tag_count);
  last = omega arith;
  below = λ q. subst (λ o. IfSome o (λ e. AllByRecursion (λ t. t.tag ≤ count) e.tags)) (sym (at-none q)) tt;
}

pub small_prepared : (count : ℕ) (s : Shard) (name : List ℕ) (t : Tag) → IsSmallBy count s → t.tag ≤ count + 1 → IsSmallBy (count + 1) (prepared s name t)
small_prepared count s name t small here =
    let e = entry_at s name in
    let e' : EntryView = with_tags e (with_tag t e.tags) in
    let long : length e'.tags ≡ length e.tags + 1 = length-append e.tags (t ∷ []) in
    unless count (prepare_refusal s) s (with_entry s name e') small
    (small_with count s name e' s.log small (omega arith) (omega (arith, long)) (omega arith) (one_more count e.tags t (tags_here count s name small) here))

more_log : (log : Log) (kept : ℕ) (name : List ℕ) (version : ℕ) → (logged_if_newer log kept name version).last ≤ log.last + 1
more_log log kept name version = elim (nat_lt kept version) as (λ b. (cond b (record { rows = log.rows ++ (record { position = next log.last; what = Name name }) ∷ []; last = next log.last }) log).last ≤ log.last + 1) [
  | true ↦ omega arith
  | false ↦ omega arith
]

row_bytes : (e : EntryView) (version : ℕ) (row : RowView) → row.size < 2 ^ 64 → byte_count (stored_if_newer e version row) ≤ byte_count e + 2 ^ 64
row_bytes e version row fits = elim (nat_lt e.version version) as (λ b. byte_count (record e { version = cond b version e.version; row = cond b row e.row }) ≤ byte_count e + 2 ^ 64) [
  | true ↦ of row.exists
  | false ↦ omega arith
] where
  of : (b : Bool) → cond b row.size 0 ≤ byte_count e + 2 ^ 64
  of true = omega (arith, fits)
  of false = omega arith

small_settled : (count : ℕ) (s : Shard) (name : List ℕ) (tags : List Tag) (version : ℕ) (row : RowView) → IsSmallBy count s → row.size < 2 ^ 64
    → AllByRecursion (λ t. t.tag ≤ count) tags → length tags ≤ length (entry_at s name).tags → IsSmallBy (count + 1) (settled s name tags version row)
small_settled count s name tags version row small fits all fewer =
    let e = entry_at s name in
    small_with count s name (stored_if_newer (with_tags e tags) version row) (logged_if_newer s.log e.version name version) small
    (row_bytes (with_tags e tags) version row fits) (omega (arith, fewer)) (more_log s.log e.version name version) (no_more count tags all)

pub small_completed : (count : ℕ) (s : Shard) (name : List ℕ) (tag version : ℕ) (row : RowView) → IsSmallBy count s → row.size < 2 ^ 64 → IsSmallBy (count + 1) (completed s name tag version row)
small_completed count s name tag version row small fits =
    let e = entry_at s name in
    unless count (complete_refusal s name tag) s (settled s name (without_tag tag e.tags) version row) small
    (small_settled count s name (without_tag tag e.tags) version row small fits (one_less count tag e.tags (tags_here count s name small)) (length-one_less tag e.tags))

pub small_suggested : (count : ℕ) (s : Shard) (name : List ℕ) (revision seen version : ℕ) (row : RowView) → IsSmallBy count s → row.size < 2 ^ 64 → IsSmallBy (count + 1) (suggested s name revision seen version row)
small_suggested count s name revision seen version row small fits =
    let e = entry_at s name in
    unless count (suggest_refusal s name revision) s (settled s name (tags_due_taken seen e.tags) version row) small
    (small_settled count s name (tags_due_taken seen e.tags) version row small fits (not_due count seen e.tags (tags_here count s name small)) (length-not_due seen e.tags))

pub small_cancelled : (count : ℕ) (s : Shard) (name : List ℕ) (tag : ℕ) → IsSmallBy count s → IsSmallBy (count + 1) (cancelled s name tag)
small_cancelled count s name tag small =
    let e = entry_at s name in
    let fewer = length-one_less tag e.tags in
    unless count (complete_refusal s name tag) s (with_entry s name (with_tags e (without_tag tag e.tags))) small
    (small_with count s name (with_tags e (without_tag tag e.tags)) s.log small (omega arith) (omega (arith, fewer)) (omega arith)
    (no_more count (without_tag tag e.tags) (one_less count tag e.tags (tags_here count s name small))))

-- ---- what holds a shard

-- a hold and a fence are no part of a size
small_held : (count : ℕ) (s : Shard) (hold : Hold) (fence : ℕ) → IsSmallBy count s → IsSmallBy (count + 1) (record s { hold = hold; fence = fence })
small_held count s hold fence small =
    let next = small_next count s small in
    record { objects = next.objects; bytes = next.bytes; tags = next.tags; last = next.last; below = next.below }

small_taken : (count : ℕ) (s : Shard) (id : ℕ) (hold : Hold) → IsSmallBy count s → IsSmallBy (count + 1) (taken s id hold)
small_taken count s id hold small =
    elim (hold_number s.hold == id) as (λ b. IsSmallBy (count + 1) (cond b s (record s { hold = hold; fence = max s.fence (hold_number s.hold) }))) [
      | true ↦ small_next count s small
      | false ↦ small_held count s hold (max s.fence (hold_number s.hold)) small
    ]

pub small_closed : (count : ℕ) (s : Shard) (id : ℕ) (force : Bool) → IsSmallBy count s → IsSmallBy (count + 1) (closed s id force)
small_closed count s id force small =
    unless count (close_refusal s id force) s (taken s id (Closing id)) small (small_taken count s id (Closing id) small)

pub small_released : (count : ℕ) (s : Shard) (id : ℕ) → IsSmallBy count s → IsSmallBy (count + 1) (released s id)
small_released count s id small = small_held count s (cond (nat_le (hold_number s.hold) id) Free s.hold) (max s.fence id) small

-- a shard that is shut has no entry
pub small_shut : (count : ℕ) (s : Shard) → IsSmallBy count s → IsSmallBy (count + 1) (shut_down s)
small_shut count s small =
    let new = small_new (count + 1) in
    record { objects = new.objects; bytes = new.bytes; tags = new.tags; last = omega (arith, small.last); below = new.below }
