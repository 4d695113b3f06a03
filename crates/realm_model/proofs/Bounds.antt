-- Numbers that a state keeps are below those that its next event gives. It holds after any events, legal or not.
use Rattle.std.proofs.Common.{◌≡◌, ℕ, ◌+◌, ◌<◌, ◌≤◌, ◌^◌, ◌⊎◌, inl, inr, Bool, true, false, cond, List, Option, Some, None, refl, sym, subst, arith, nat_lt}
use Rattle.std.specs.Prelude.{IfSome}
use Rattle.std.proofs.lemmas.Bool.Decides.{nat_tests}
use Rattle.rgw_types.specs.declared.stamp.Stamp.{Stamp}
use Rattle.rgw_types.specs.Stamps.{IsEarlier, stamp_above}
use Rattle.rgw_model.specs.Stamps.{counted_moment}
use Rattle.object_words.specs.declared.bucket.Bucket.{Bucket}
use Rattle.object_words.specs.declared.entry.Tag.{Tag}
use Rattle.object_words.specs.declared.entry.Guard.{Guard}
use Rattle.object_words.specs.declared.head.NewHead.{NewHead}
use Rattle.object_words.specs.declared.head.Conditions.{Conditions}
use Rattle.object_words.specs.declared.head.SeenSlot.TheVariants.{Live}
use Rattle.object_words.specs.declared.why.Why.{Why}
use Rattle.object_words.specs.Names.{at}
use Rattle.object_words.specs.Numbers.{greatest, next}
use Rattle.object_words.specs.Rows.{RowView}
use Rattle.object_words.specs.Entries.{EntryView, entry_of, with_tags, stored_if_newer, is_kept}
use Rattle.object_words.specs.Refusals.{unless_refused}
use Rattle.object_words.specs.Shards.{Shard, entry_at, with_entry}
use Rattle.object_words.specs.ShardCalls.{made, settled, logged_if_newer}
use Rattle.object_words.specs.HoldCalls.{shut_down}
use Rattle.object_words.specs.Heads.{Head, seen_stamp}
use Rattle.object_words.specs.HeadCalls.{write_refusal, written}
use Rattle.object_words.specs.Roots.{Root, version_of, swap_refusal, swapped, with_bucket, stored_or_none}
use Rattle.object_words.proofs.NameLemmas.{is_name_of, at-none, at-with_name, at-without_name}
use Rattle.object_words.proofs.KeyLemmas.{same_text}
use Rattle.realm_model.specs.Steps.{change_at}
use Rattle.realm_model.specs.Rises.{HeadRises, EntryRises, RowRises, found_in}
use Rattle.realm_model.proofs.EntryLemmas.{kept_or_none, at-with_entry}

-- ---- entries

abbrev pub RevisionFits : Option EntryView → Type 0
RevisionFits found = IfSome found (λ e. e.revision ≤ greatest)

entry_stays : (found : Option EntryView) → EntryRises found found
entry_stays None = tt
entry_stays (Some e) = (omega arith, omega arith)

-- what a shard has of each name afterwards rises, and fits
abbrev pub ShardSteps : Option Shard → Option Shard → Type 0
ShardSteps old new = (name : List ℕ) → EntryRises (found_in old name) (found_in new name) × RevisionFits (found_in new name)

abbrev pub ShardFits : Option Shard → Type 0
ShardFits s = (name : List ℕ) → RevisionFits (found_in s name)

pub shard_stays : (s : Option Shard) → ShardFits s → ShardSteps s s
shard_stays s fits name = (entry_stays (found_in s name), fits name)

pub unless : {X : Type 0} (P : X → Type 0) (refusal : Option Why) (old new : X) → P old → P new → P (unless_refused refusal old new)
unless P None old new same changed = changed
unless P (Some why) old new same changed = same

fits_now : (found : Option EntryView) → RevisionFits found → (entry_of found).revision ≤ greatest
fits_now None fits = omega arith
fits_now (Some e) fits = fits

-- one entry changes to one that is not below it
entry_steps : (s : Shard) (name : List ℕ) (e : EntryView) → ShardFits (Some s) → (entry_at s name).version ≤ e.version → (entry_at s name).revision ≤ e.revision → e.revision ≤ greatest → ShardSteps (Some s) (Some (with_entry s name e))
entry_steps s name e fits version revision bound q =
    rw (at-with_entry s name e q) (
    elim (is_name_of q name) as (λ b. is_name_of q name ≡ b → EntryRises (at s.entries q) (cond b (kept_or_none e) (at s.entries q)) × RevisionFits (cond b (kept_or_none e) (at s.entries q))) [
      | true ↦ λ same.
          let is = same_text q name same in
          elim (is_kept e) as (λ k. EntryRises (at s.entries q) (cond k (Some e) None) × RevisionFits (cond k (Some e) None)) [
            | true ↦ subst (λ n. EntryRises (at s.entries n) (Some e) × RevisionFits (Some e)) (sym is) ((version, revision), bound)
            | false ↦ (tt, tt)
          ]
      | false ↦ λ apart. (entry_stays (at s.entries q), fits q)
    ] refl)

rises_next : (n : ℕ) → n ≤ greatest → n ≤ next n
rises_next n fits = omega arith

next_fits : (n : ℕ) → next n ≤ greatest
next_fits n = omega arith

not_below : (version kept : ℕ) → kept ≤ cond (nat_lt kept version) version kept
not_below version kept =
    elim (nat_lt kept version) as (λ b. nat_lt kept version ≡ b → kept ≤ cond b version kept) [
      | true ↦ λ less. grind (arith, nat_tests)
      | false ↦ λ not_less. omega arith
    ] refl

pub tags_step : (s : Shard) (name : List ℕ) (tags : List Tag) → ShardFits (Some s) → ShardSteps (Some s) (Some (with_entry s name (with_tags (entry_at s name) tags)))
tags_step s name tags fits =
    let e = entry_at s name in
    entry_steps s name (with_tags e tags) fits (omega arith) (rises_next e.revision (fits_now (at s.entries name) (fits name))) (next_fits e.revision)

pub settled_steps : (s : Shard) (name : List ℕ) (tags : List Tag) (version : ℕ) (row : RowView) → ShardFits (Some s) → ShardSteps (Some s) (Some (settled s name tags version row))
settled_steps s name tags version row fits =
    let e = entry_at s name in
    entry_steps (record s { log = logged_if_newer s.log e.version name version }) name (stored_if_newer (with_tags e tags) version row) fits
    (not_below version e.version) (rises_next e.revision (fits_now (at s.entries name) (fits name))) (next_fits e.revision)

pub changed_steps : (s : Option Shard) (refusal : Shard → Option Why) (new : Shard → Shard) → ((s : Shard) → ShardFits (Some s) → ShardSteps (Some s) (Some (new s))) → ShardFits s → ShardSteps s (change_at s (λ x. unless_refused (refusal x) x (new x)))
changed_steps None refusal new steps fits = shard_stays None fits
changed_steps (Some s) refusal new steps fits =
    unless (λ x. ShardSteps (Some s) (Some x)) (refusal s) s (new s) (shard_stays (Some s) fits) (steps s fits)

pub made_steps : (s : Option Shard) → ShardFits s → ShardSteps s (made s)
made_steps None fits name = rw at-none (tt, tt)
made_steps (Some s) fits name = shard_stays (Some s) fits name

-- a shard of which only the hold and the fence change
pub held_steps : (s : Option Shard) (new : Shard → Shard) → ((s : Shard) → (new s).entries ≡ s.entries) → ShardFits s → ShardSteps s (change_at s new)
held_steps None new same fits name = shard_stays None fits name
held_steps (Some s) new same fits name =
    subst (λ entries. EntryRises (at s.entries name) (at entries name) × RevisionFits (at entries name)) (sym (same s)) (entry_stays (at s.entries name), fits name)

pub shut_steps : (s : Option Shard) → ShardFits s → ShardSteps s (change_at s shut_down)
shut_steps None fits name = shard_stays None fits name
shut_steps (Some s) fits name = rw at-none (tt, tt)

-- ---- heads

-- every moment that counts is below this
abbrev pub late : ℕ
late = 2 ^ 58

pub record HeadFits (count : ℕ) (h : Head) : Type 0 where
  pub version : h.version ≤ count
  pub stamp : IfSome (seen_stamp h.slot) (λ s. s.micros ≤ late + count)

stamp_fits : (before : Option Stamp) (count clock zone : ℕ) → clock ≤ late → IfSome before (λ s. s.micros ≤ late + count) → (stamp_above before clock zone).micros ≤ late + (count + 1)
stamp_fits None count clock zone early fits = omega arith
stamp_fits (Some s) count clock zone early fits = omega arith

later : (before : Option Stamp) (count clock zone : ℕ) → count < 2 ^ 62 → IfSome before (λ s. s.micros ≤ late + count) → IfSome before (λ s. s.micros < (stamp_above before clock zone).micros)
later None count clock zone room fits = tt
later (Some s) count clock zone room fits = omega arith

-- every moment that counts is early
pub counted_early : (moment : ℕ) → counted_moment moment ≤ late
counted_early moment = omega arith

-- a head afterwards is the one before, or it rises; and its numbers stay below the next ones
pub record HeadSteps (count : ℕ) (old new : Head) : Type 0 where
  pub fits : HeadFits (count + 1) new
  pub rises : count < 2 ^ 62 → (new ≡ old) ⊎ HeadRises old new

more_fits : (before : Option Stamp) (count : ℕ) → IfSome before (λ s. s.micros ≤ late + count) → IfSome before (λ s. s.micros ≤ late + (count + 1))
more_fits None count fits = tt
more_fits (Some s) count fits = omega arith

pub head_more : (count : ℕ) (h : Head) → HeadFits count h → HeadFits (count + 1) h
head_more count h fits =
    let version = fits.version in record { version = omega arith; stamp = more_fits (seen_stamp h.slot) count fits.stamp }

pub head_stays : (count : ℕ) (h : Head) → HeadFits count h → HeadSteps count h h
head_stays count h fits = record { fits = head_more count h fits; rises = λ room. inl refl }

earlier : (before : Option Stamp) (now : Stamp) → IfSome before (λ s. s.micros < now.micros) → IfSome before (λ s. IsEarlier s now)
earlier None now less = tt
earlier (Some s) now less = inl less

pub written_steps : (head : Head) (guard : Guard) (new : NewHead) (when : Conditions) (zone count clock free frame : ℕ) → clock ≤ late → HeadFits count head → HeadSteps count head (written head guard new when zone (count + 1) clock free frame)
written_steps head guard new when zone count clock free frame early fits =
    let before = seen_stamp head.slot in
    let stamp = stamp_above before clock zone in
    let old_version = fits.version in
    let after : Head = record { version = count + 1; slot = Live new stamp } in
    let rises : count < 2 ^ 62 → HeadRises head after =
    λ room. record { version = omega arith; stamp = earlier before stamp (later before count clock zone room fits.stamp) } in
    unless (λ h. HeadSteps count head h) (write_refusal head guard new when clock free frame) head after
    (head_stays count head fits)
    (record {
      fits = record { version = omega arith; stamp = stamp_fits before count clock zone early fits.stamp };
      rises = λ room. inr (rises room);
    })

-- ---- rows

abbrev pub RowFits : ℕ → Option Bucket → Type 0
RowFits count found = IfSome found (λ row. row.version ≤ count)

-- the row of each name rises, and its version stays below the next number
abbrev pub RootSteps : ℕ → Root → Root → Type 0
RootSteps count old new = (name : List ℕ) → RowRises (at old.buckets name) (at new.buckets name) × RowFits (count + 1) (at new.buckets name)

row_stays : (count : ℕ) (found : Option Bucket) → RowFits count found → RowRises found found × RowFits (count + 1) found
row_stays count None fits = (tt, tt)
row_stays count (Some row) fits = (omega arith, omega arith)

pub root_stays : (count : ℕ) (root : Root) → ((name : List ℕ) → RowFits count (at root.buckets name)) → RootSteps count root root
root_stays count root fits name = row_stays count (at root.buckets name) (fits name)

version_fits : (count : ℕ) (found : Option Bucket) → RowFits count found → version_of found ≤ count + 1
version_fits count None fits = omega arith
version_fits count (Some row) fits = omega arith

stored_steps : (count : ℕ) (root : Root) (name : List ℕ) (new : Option Bucket) → IfSome new (λ row. row.version ≡ count + 1) → ((n : List ℕ) → RowFits count (at root.buckets n)) → (q : List ℕ) → RowRises (at root.buckets q) (at (with_bucket root.buckets name new) q) × RowFits (count + 1) (at (with_bucket root.buckets name new) q)
stored_steps count root name None is fits q =
    rw (at-without_name root.buckets name q) (
    elim (is_name_of q name) as (λ b. RowRises (at root.buckets q) (cond b None (at root.buckets q)) × RowFits (count + 1) (cond b None (at root.buckets q))) [
      | true ↦ (tt, tt)
      | false ↦ row_stays count (at root.buckets q) (fits q)
    ])
stored_steps count root name (Some row) is fits q =
    rw (at-with_name root.buckets name row q) (
    elim (is_name_of q name) as (λ b. RowRises (at root.buckets q) (cond b (Some row) (at root.buckets q)) × RowFits (count + 1) (cond b (Some row) (at root.buckets q))) [
      | true ↦ let old = version_fits count (at root.buckets q) (fits q) in (omega arith, omega arith)
      | false ↦ row_stays count (at root.buckets q) (fits q)
    ])

numbered : (kept new : Option Bucket) (master : Bool) (number : ℕ) → IfSome (stored_or_none kept new master number) (λ row. row.version ≡ number)
numbered kept None master number = tt
numbered kept (Some row) master number = refl

pub swapped_steps : (root : Root) (name : List ℕ) (expected : ℕ) (new : Option Bucket) (master : Bool) (count : ℕ) → ((n : List ℕ) → RowFits count (at root.buckets n)) → RootSteps count root (swapped root name expected new master (count + 1))
swapped_steps root name expected new master count fits =
    unless (λ r. RootSteps count root r) (swap_refusal root name expected) root _ (root_stays count root fits)
    (stored_steps count root name (stored_or_none (at root.buckets name) new master (count + 1)) (numbered (at root.buckets name) new master (count + 1)) fits)
