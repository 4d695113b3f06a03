-- The new row of a swap, with its numbers, and what the swap leaves.
use Rattle.std.proofs.Common.{◌≡◌, ℕ, ◌^◌, ◌<◌, ◌≤◌, ◌==◌, ◌&&◌, not, Bool, true, false, if◌then◌else◌, List, Option, Some, None, is_some, option_map, unwrap_or, refl, sym, ap, ◌∙◌, subst}
use Rattle.object_words.specs.declared.bucket.Bucket.{Bucket}
use Rattle.object_words.specs.declared.log.LogWhat.TheVariants.{Bucket as bucket_row}
use Rattle.object_words.specs.declared.why.Why.TheVariants.{Raced}
use Rattle.object_words.specs.Limits.{shard_limit}
use Rattle.object_words.specs.Logs.{logged}
use Rattle.object_words.specs.Names.{at}
use Rattle.object_words.specs.Refusals.{unless_refused}
use Rattle.object_words.specs.Roots.{Root, changes_shared, is_logged, shared_after, shares_all, stored, stored_or_none, swap_refusal, swapped, version_of, with_bucket}
use Rattle.object_words.proofs.KeyLemmas.{number_itself}
use Rattle.cls_record.specs.BucketRows.{IsBucket, IsShared, bucket_bytes, busy_number, own_then, shared_bytes}
use Rattle.cls_record.specs.RootObjects.{renewed, same_shared, with_log_row, with_row}

-- ---- the numbers of the new row

same_or_new : (b : Bool) (old number : ℕ) → unwrap_or (if b then Some old else None) number ≡ (if not b then number else old)
same_or_new true old number = refl
same_or_new false old number = refl

pub after_shared : (kept : Option Bucket) (new : Bucket) (master : Bool) (number : ℕ)
    → (if master then unwrap_or (same_shared kept new) number else new.shared) ≡ shared_after kept new master number
after_shared None new true number = refl
after_shared (Some old) new true number = same_or_new (shares_all old new) old.shared number
after_shared kept new false number = refl

found_or_new : (b : Bool) (old : ℕ) → is_some (if b then Some old else None) ≡ b
found_or_new true old = refl
found_or_new false old = refl

twice : (b : Bool) → not (not b) ≡ b
twice true = refl
twice false = refl

-- the shared part is new where it was not found
pub is_new : (kept : Option Bucket) (new : Bucket) (none : Bool) → is_some (same_shared kept new) ≡ not none → none ≡ changes_shared kept new
is_new None new none e = sym (twice none) ∙ ap not (sym e)
is_new (Some old) new none e = sym (twice none) ∙ ap not (sym e ∙ found_or_new (shares_all old new) old.shared)

-- what is known of a row besides its shared part
abbrev pub HasBounds : ℕ → ℕ → Bucket → Type 0
HasBounds version shared b =
    (version < 2 ^ 64) × (shared < 2 ^ 64) × (b.number < 2 ^ 64) × (busy_number b.busy < 2 ^ 64) × (b.instance < 2 ^ 64) × (1 ≤ b.shards) × (b.shards ≤ shard_limit)

-- the bytes are the new row with its numbers
pub record IsStored (kept : Option Bucket) (new : Bucket) (master : Bool) (number : ℕ) (row : List ℕ) : Type 0 where
  pub is : IsBucket (stored kept new master number)
  pub bytes : row ≡ bucket_bytes (stored kept new master number)

pub stored_so : (kept : Option Bucket) (new : Bucket) (master : Bool) (number : ℕ) (found : Option ℕ) (shared : ℕ) (part row : List ℕ)
    → found ≡ same_shared kept new → shared ≡ (if master then unwrap_or found number else new.shared) → part ≡ shared_bytes new → IsShared new
    → row ≡ own_then number shared new.number new.busy new.instance new.shards part → HasBounds number shared new → IsStored kept new master number row
stored_so kept new master number found shared part row same is part_is shared_is row_is bounds =
    let after : shared ≡ shared_after kept new master number = is ∙ ap (λ f. if master then unwrap_or f number else new.shared) same ∙ after_shared kept new master number in
    record {
      is = record {
        version_fits = bounds.0;
        shared_fits = subst (λ n. n < 2 ^ 64) after bounds.1;
        number_fits = bounds.2;
        busy_fits = bounds.3;
        instance_fits = bounds.4;
        shards_low = bounds.5;
        shards_high = bounds.6;
        shared_part = record {
          id_fits = shared_is.id_fits;
          owner = shared_is.owner;
          readers = shared_is.readers;
          writers = shared_is.writers;
          count_fits = shared_is.count_fits;
          pairs = shared_is.pairs;
          risen = shared_is.risen;
        };
      };
      bytes = row_is ∙ (λ i. own_then number (after i) new.number new.busy new.instance new.shards (part_is i));
    }

-- ---- what the swap leaves

pub both_true : (a b : Bool) → a ≡ true → b ≡ true → (a && b) ≡ true
both_true a b p q = rw p q

pub first_false : (a b : Bool) → a ≡ false → (a && b) ≡ false
first_false a b p = rw p refl

pub second_false : (a b : Bool) → b ≡ false → (a && b) ≡ false
second_false true b p = p
second_false false b p = refl

pub logs_it : (r : Root) (name : List ℕ) (new : Option Bucket) (master : Bool) (number : ℕ) → (master && is_logged (at r.buckets name) new) ≡ true
    → with_log_row (with_row r name (stored_or_none (at r.buckets name) new master number)) name ≡ renewed r name new master number
logs_it r name new master number e =
    let swapped = with_row r name (stored_or_none (at r.buckets name) new master number) in ap (λ b. if b then with_log_row swapped name else swapped) (sym e)

pub logs_nothing : (r : Root) (name : List ℕ) (new : Option Bucket) (master : Bool) (number : ℕ) → (master && is_logged (at r.buckets name) new) ≡ false
    → with_row r name (stored_or_none (at r.buckets name) new master number) ≡ renewed r name new master number
logs_nothing r name new master number e =
    let swapped = with_row r name (stored_or_none (at r.buckets name) new master number) in ap (λ b. if b then with_log_row swapped name else swapped) (sym e)

one_root : (b : Bool) (r : Root) (name : List ℕ) (x : Option Bucket)
    → (if b then with_log_row (with_row r name x) name else with_row r name x)
    ≡ record { buckets = with_bucket r.buckets name x; log = if b then logged r.log (bucket_row name) else r.log }
one_root true r name x = refl
one_root false r name x = refl

-- the row has the expected version, or another one
pub expected_kept : (r : Root) (name : List ℕ) (expected : ℕ) → version_of (at r.buckets name) ≡ expected → swap_refusal r name expected ≡ None
expected_kept r name expected e =
    let version = version_of (at r.buckets name) in
    ap (λ b. if b then None else Some (Raced version)) (ap (λ n. version == n) (sym e) ∙ number_itself version)

pub swapped_so : (r : Root) (name : List ℕ) (expected : ℕ) (new : Option Bucket) (master : Bool) (number : ℕ) → version_of (at r.buckets name) ≡ expected
    → renewed r name new master number ≡ swapped r name expected new master number
swapped_so r name expected new master number e =
    let kept = at r.buckets name in
    one_root (master && is_logged kept new) r name (stored_or_none kept new master number)
    ∙ ap (λ refusal. unless_refused refusal r (record { buckets = with_bucket r.buckets name (stored_or_none kept new master number); log = if master && is_logged kept new then logged r.log (bucket_row name) else r.log }))
    (sym (expected_kept r name expected e))

pub some_mapped : {A B : Type 0} (o : Option A) (f : A → B) → is_some (option_map f o) ≡ is_some o
some_mapped None f = refl
some_mapped (Some x) f = refl
