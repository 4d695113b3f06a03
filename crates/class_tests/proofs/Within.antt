-- How far a call can bring a shard.
use Rattle.std.proofs.Common.{◌≡◌, ℕ, suc, ◌+◌, ◌-◌, ◌^◌, ◌<◌, ◌≤◌, ◌==◌, nat_lt, not, Bool, true, false, cond, List, [], ◌∷◌, length, Option, Some, None, IfSome, Result, Ok, Err, IfOk, OnOk, refl, sym, subst, arith}
use Rattle.std.specs.List.{AllByRecursion}
use Rattle.std.proofs.lemmas.Bool.Decides.{nat_tests}
use Rattle.object_words.specs.declared.entry.Tag.{Tag}
use Rattle.object_words.specs.declared.why.Why.{Why}
use Rattle.object_words.specs.declared.why.Why.TheVariants.{Stale}
use Rattle.object_words.specs.Entries.{EntryView, is_kept, stored_if_newer, with_tags}
use Rattle.object_words.specs.declared.log.LogWhat.TheVariants.{Name}
use Rattle.object_words.specs.Logs.{Log, logged}
use Rattle.object_words.specs.Names.{at, with_name, without_name}
use Rattle.object_words.specs.Rows.{RowView}
use Rattle.object_words.specs.Tags.{has_due, is_due, tag_of, tags_due_taken, with_tag, without_tag}
use Rattle.object_words.specs.Refusals.{unless_refused}
use Rattle.object_words.specs.Shards.{Shard, byte_count, entry_at, new_shard, object_count, tag_count, with_entry}
use Rattle.object_words.specs.ShardCalls.{cancelled, completed, logged_if_newer, prepared, settled, suggested, untimely_refusal}
use Rattle.object_words.specs.Answers.{Replies}
use Rattle.class_words.proofs.FreshLemmas.{none_there, nothing_summed}
use Rattle.class_words.specs.Shards.{HasTagsBelow, IsSmall}
use Rattle.class_tests.specs.Within.{IsWithin}
use Rattle.cls_index.proofs.CountLemmas.{bytes_moved, objects_moved, tags_moved}
use Rattle.cls_index.proofs.DueLemmas.{fewer_left}
use Rattle.cls_index.proofs.RowLemmas.{if_some, length-with_tag}
use Rattle.cls_index.proofs.ShardLemmas.{inserted, removed}
use Rattle.cls_index.proofs.StartLemmas.{tags_below}
use Rattle.cls_index.proofs.TagLemmas.{all_with}

pub small_within : (events : ℕ) (s : Shard) → IsWithin events s → events < 2 ^ 62 → IsSmall s
small_within events s is few = record { objects = omega (arith, is.objects, few); bytes = omega (arith, is.bytes, few); tags = omega (arith, is.tags, few); last = omega (arith, is.last, few) }

all_later : (n m : ℕ) (ts : List Tag) → n ≤ m → AllByRecursion (λ t. t.tag < n) ts → AllByRecursion (λ t. t.tag < m) ts
all_later n m [] le all = tt
all_later n m (t ∷ ts) le all = (omega (arith, le, all.0), all_later n m ts le all.1)

all_higher : (n : ℕ) (ts : List Tag) → AllByRecursion (λ t. t.tag < n) ts → AllByRecursion (λ t. t.tag < n + 1) ts
all_higher n ts all = all_later n (n + 1) ts (omega arith) all

pub below_later : (n m : ℕ) (s : Shard) → n ≤ m → HasTagsBelow n s → HasTagsBelow m s
below_later n m s le below name = if_some (at s.entries name) _ _ (λ e all. all_later n m e.tags le all) (below name)

below_higher : (n : ℕ) (s : Shard) → HasTagsBelow n s → HasTagsBelow (n + 1) s
below_higher n s below = below_later n (n + 1) s (omega arith) below

below_changed : (n : ℕ) (s : Shard) (name : List ℕ) (e : EntryView) → HasTagsBelow n s → AllByRecursion (λ t. t.tag < n) e.tags → HasTagsBelow n (with_entry s name e)
below_changed n s name e below all q =
    elim (is_kept e) as (λ b. IfSome (at (cond b (with_name s.entries name e) (without_name s.entries name)) q) (λ x. AllByRecursion (λ t. t.tag < n) x.tags)) [
      | true ↦ inserted (λ _ x. AllByRecursion (λ t. t.tag < n) x.tags) s.entries name e all (λ k differs. below k) q
      | false ↦ removed (λ _ x. AllByRecursion (λ t. t.tag < n) x.tags) s.entries name (λ k differs. below k) q
    ]

one_if_most : (b : Bool) → cond b 1 0 ≤ 1
one_if_most true = omega arith
one_if_most false = omega arith

-- one entry changes by so much at most
pub within_entry : (events : ℕ) (s : Shard) (name : List ℕ) (e : EntryView) (log : Log) → IsWithin events s → AllByRecursion (λ t. t.tag < events + 2) e.tags → length e.tags ≤ length (entry_at s name).tags + 1
    → byte_count e ≤ byte_count (entry_at s name) + 2 ^ 64 → log.last ≤ events + 1 → IsWithin (events + 1) (with_entry (record s { log = log }) name e)
within_entry events s name e log is all long size last =
    let t : Shard = record s { log = log } in
    let higher : events + 1 + 1 ≡ events + 2 = omega arith in
    record {
      objects = omega (arith, objects_moved t name e, one_if_most e.row.exists, is.objects);
      bytes = omega (arith, bytes_moved t name e, size, is.bytes);
      tags = omega (arith, tags_moved t name e, long, is.tags);
      last = last;
      below = rw higher (below_changed (events + 2) t name e (rw (sym higher) (below_higher (events + 1) s is.below)) all);
    }

pub within_later : (events later : ℕ) (s : Shard) → events ≤ later → IsWithin events s → IsWithin later s
within_later events later s le is =
    record { objects = omega (arith, is.objects, le); bytes = omega (arith, is.bytes, le); tags = omega (arith, is.tags, le); last = omega (arith, is.last, le); below = below_later (events + 1) (later + 1) s (omega (arith, le)) is.below }

pub within_same : (events : ℕ) (s : Shard) → IsWithin events s → IsWithin (events + 1) s
within_same events s is = within_later events (events + 1) s (omega arith) is

either : (events : ℕ) (refusal : Option Why) (old new : Shard) → IsWithin events old → IsWithin events new → IsWithin events (unless_refused refusal old new)
either events None old new a b = b
either events (Some why) old new a b = a

entry_tags : (events : ℕ) (s : Shard) (name : List ℕ) → IsWithin events s → AllByRecursion (λ t. t.tag < events + 1) (entry_at s name).tags
entry_tags events s name is = tags_below (events + 1) s name (events + 1) refl is.below

pub within_prepared : (events : ℕ) (s : Shard) (name : List ℕ) (clock life : ℕ) → IsWithin events s → IsWithin (events + 1) (prepared s name (tag_of (events + 1) clock life))
within_prepared events s name clock life is =
    let old = (entry_at s name).tags in
    let t = tag_of (events + 1) clock life in
    let higher : events + 1 + 1 ≡ events + 2 = omega arith in
    let all : AllByRecursion (λ u. u.tag < events + 2) (with_tag t old) = all_with (λ (u : Tag). u.tag < events + 2) old t (rw (sym higher) (all_higher (events + 1) old (entry_tags events s name is))) (omega arith) in
    either (events + 1) _ s _ (within_same events s is) (within_entry events s name (with_tags (entry_at s name) (with_tag t old)) s.log is all (omega (arith, length-with_tag old t)) (omega arith) (omega (arith, is.last)))

-- the event of a number, after an earlier one
pub within_prepared_at : (last number : ℕ) (s : Shard) (name : List ℕ) (clock life : ℕ) → last < number → IsWithin last s → IsWithin number (prepared s name (tag_of number clock life))
within_prepared_at last number s name clock life less is =
    let next : number - 1 + 1 ≡ number = omega (arith, less) in
    subst (λ n. IsWithin n (prepared s name (tag_of n clock life))) next (within_prepared (number - 1) s name clock life (within_later last (number - 1) s (omega (arith, less)) is))

all_but : (n tag : ℕ) (ts : List Tag) → AllByRecursion (λ t. t.tag < n) ts → AllByRecursion (λ t. t.tag < n) (without_tag tag ts)
all_but n tag [] all = tt
all_but n tag (t ∷ ts) all = elim (t.tag == tag) as (λ b. AllByRecursion (λ u. u.tag < n) (cond b ts (t ∷ without_tag tag ts))) [ true ↦ all.1 | false ↦ (all.0, all_but n tag ts all.1) ]

fewer_but : (tag : ℕ) (ts : List Tag) → length (without_tag tag ts) ≤ length ts
fewer_but tag [] = omega arith
fewer_but tag (t ∷ ts) = let rest = fewer_but tag ts in elim (t.tag == tag) as (λ b. length (cond b ts (t ∷ without_tag tag ts)) ≤ suc (length ts)) [ true ↦ omega arith | false ↦ omega (arith, rest) ]

all_due : (n moment : ℕ) (ts : List Tag) → AllByRecursion (λ t. t.tag < n) ts → AllByRecursion (λ t. t.tag < n) (tags_due_taken moment ts)
all_due n moment [] all = tt
all_due n moment (t ∷ ts) all = elim (is_due moment t) as (λ b. AllByRecursion (λ u. u.tag < n) (cond (not b) (t ∷ tags_due_taken moment ts) (tags_due_taken moment ts))) [ true ↦ all_due n moment ts all.1 | false ↦ (all.0, all_due n moment ts all.1) ]

size_of : (b : Bool) (n : ℕ) → cond b n 0 ≤ n
size_of true n = omega arith
size_of false n = omega arith

within_settled : (events : ℕ) (s : Shard) (name : List ℕ) (tags : List Tag) (version : ℕ) (row : RowView) → IsWithin events s → row.size < 2 ^ 64 → AllByRecursion (λ t. t.tag < events + 1) tags → length tags ≤ length (entry_at s name).tags
    → IsWithin (events + 1) (settled s name tags version row)
within_settled events s name tags version row is fits all few =
    let higher : events + 1 + 1 ≡ events + 2 = omega arith in
    let old = entry_at s name in
    let all' : AllByRecursion (λ u. u.tag < events + 2) tags = rw (sym higher) (all_higher (events + 1) tags all) in
    let size : byte_count (stored_if_newer (with_tags old tags) version row) ≤ byte_count old + 2 ^ 64 =
    elim (nat_lt old.version version) as (λ b. cond (cond b row old.row).exists (cond b row old.row).size 0 ≤ byte_count old + 2 ^ 64) [
      | true ↦ omega (arith, size_of row.exists row.size, fits)
      | false ↦ omega arith
    ] in
    let last : (logged_if_newer s.log old.version name version).last ≤ events + 1 =
    elim (nat_lt old.version version) as (λ b. (cond b (logged s.log (Name name)) s.log).last ≤ events + 1) [
      | true ↦ omega (arith, is.last)
      | false ↦ omega (arith, is.last)
    ] in
    within_entry events s name (stored_if_newer (with_tags old tags) version row) (logged_if_newer s.log old.version name version) is all' (omega (arith, few)) size last

pub within_completed : (events : ℕ) (s : Shard) (name : List ℕ) (tag version : ℕ) (row : RowView) → IsWithin events s → row.size < 2 ^ 64 → IsWithin (events + 1) (completed s name tag version row)
within_completed events s name tag version row is fits =
    let old = (entry_at s name).tags in
    either (events + 1) _ s _ (within_same events s is) (within_settled events s name (without_tag tag old) version row is fits (all_but (events + 1) tag old (entry_tags events s name is)) (fewer_but tag old))

pub within_suggested : (events : ℕ) (s : Shard) (name : List ℕ) (revision seen version : ℕ) (row : RowView) → IsWithin events s → row.size < 2 ^ 64 → IsWithin (events + 1) (suggested s name revision seen version row)
within_suggested events s name revision seen version row is fits =
    let old = (entry_at s name).tags in
    either (events + 1) _ s _ (within_same events s is) (within_settled events s name (tags_due_taken seen old) version row is fits (all_due (events + 1) seen old (entry_tags events s name is)) (fewer_left seen old))

pub within_cancelled : (events : ℕ) (s : Shard) (name : List ℕ) (tag : ℕ) → IsWithin events s → IsWithin (events + 1) (cancelled s name tag)
within_cancelled events s name tag is =
    let old = (entry_at s name).tags in
    let higher : events + 1 + 1 ≡ events + 2 = omega arith in
    let all : AllByRecursion (λ u. u.tag < events + 2) (without_tag tag old) = rw (sym higher) (all_higher (events + 1) _ (all_but (events + 1) tag old (entry_tags events s name is))) in
    either (events + 1) _ s _ (within_same events s is) (within_entry events s name (with_tags (entry_at s name) (without_tag tag old)) s.log is all (omega (arith, fewer_but tag old)) (omega arith) (omega (arith, is.last)))

-- a new shard
pub within_fresh : IsWithin 0 new_shard
within_fresh = record {
  objects = omega (arith, nothing_summed object_count);
  bytes = omega (arith, nothing_summed byte_count);
  tags = omega (arith, nothing_summed tag_count);
  last = omega arith;
  below = λ name. none_there (λ e. AllByRecursion (λ (t : Tag). t.tag < 1) e.tags) name;
}

-- a suggestion that is not untimely finds a tag that was due
pub had_due : (s : Shard) (name : List ℕ) (revision seen : ℕ) → untimely_refusal s name revision seen ≡ None → (entry_at s name).revision ≡ revision → has_due seen (entry_at s name).tags ≡ true
had_due s name revision seen none same =
    let equal : ((entry_at s name).revision == revision) ≡ true = grind (arith, nat_tests) in
    some_due (has_due seen (entry_at s name).tags) (rw equal at none) where
      some_due : (b : Bool) → cond (not b) (Some (Stale (entry_at s name).revision)) None ≡ None → b ≡ true
      some_due true none = refl
      some_due false none = cc

module _ {V S : Type 0} where
  -- what is left, whatever is answered
  pub left_by : (result : Result V Why) (refusal : Option Why) (IsValue : V → Type 0) (Is : S → Type 0) (after : S) → Replies result refusal IsValue Is after → Is after
  left_by (Ok value) refusal IsValue Is after is = is.2
  left_by (Err why) refusal IsValue Is after is = is.1

module _ {V E : Type 0} where
  -- what stands where there is a value
  pub if_there : (result : Result V E) (P Q : Type 0) → (P → Q) → OnOk result P → IfOk result (λ _. Q)
  if_there (Ok value) P Q so is = so is
  if_there (Err why) P Q so is = tt
