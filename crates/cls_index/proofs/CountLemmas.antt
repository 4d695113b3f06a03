-- The sums in the header of a shard after one change.
use Rattle.std.proofs.Common.{◌≡◌, ℕ, ◌+◌, ◌≤◌, ◌==◌, ◌||◌, not, Bool, true, false, cond, true≢false, if◌then◌else◌, List, length, refl, sym, ap, arith}
use Rattle.std.proofs.lemmas.Bool.Decides.{nat_tests}
use mir.Val.{bool_byte}
use Rattle.object_words.specs.Rows.{RowView}
use Rattle.object_words.specs.Entries.{EntryView, is_kept, no_entry}
use Rattle.object_words.specs.Shards.{Shard, byte_count, entry_at, object_count, sum_over, tag_count, with_entry}
use Rattle.object_words.proofs.Sums.{sum-with_entry}
use Rattle.index_entry.specs.Layouts.{IsWritten}

not_kept : (x : Bool) (n : ℕ) → (x || not (n == 0)) ≡ false → (x ≡ false) × (n ≡ 0)
not_kept true n none = absurd (true≢false none)
not_kept false n none = (refl, grind (arith, nat_tests))

abbrev pub one_if : Bool → ℕ
one_if x = if x then 1 else 0

no_object : (e : EntryView) → is_kept e ≡ false → object_count e ≡ 0
no_object e gone = ap one_if (not_kept e.row.exists (length e.tags) gone).0

no_bytes : (e : EntryView) → is_kept e ≡ false → byte_count e ≡ 0
no_bytes e gone = ap (λ b. cond b e.row.size 0) (not_kept e.row.exists (length e.tags) gone).0

no_tags : (e : EntryView) → is_kept e ≡ false → tag_count e ≡ 0
no_tags e gone = (not_kept e.row.exists (length e.tags) gone).1

pub objects_moved : (s : Shard) (name : List ℕ) (e : EntryView) → sum_over object_count (with_entry s name e) + object_count (entry_at s name) ≡ sum_over object_count s + object_count e
objects_moved s name e = sum-with_entry object_count refl s name e (no_object e)

pub bytes_moved : (s : Shard) (name : List ℕ) (e : EntryView) → sum_over byte_count (with_entry s name e) + byte_count (entry_at s name) ≡ sum_over byte_count s + byte_count e
bytes_moved s name e = sum-with_entry byte_count refl s name e (no_bytes e)

pub tags_moved : (s : Shard) (name : List ℕ) (e : EntryView) → sum_over tag_count (with_entry s name e) + length (entry_at s name).tags ≡ sum_over tag_count s + length e.tags
tags_moved s name e = sum-with_entry tag_count refl s name e (no_tags e)

-- one entry counts no more than all
pub one_object : (s : Shard) (name : List ℕ) → object_count (entry_at s name) ≤ sum_over object_count s
one_object s name = let moved = objects_moved s name no_entry in omega (arith, moved)

pub one_size : (s : Shard) (name : List ℕ) → byte_count (entry_at s name) ≤ sum_over byte_count s
one_size s name = let moved = bytes_moved s name no_entry in omega (arith, moved)

pub few_tags : (s : Shard) (name : List ℕ) → length (entry_at s name).tags ≤ sum_over tag_count s
few_tags s name = let moved = tags_moved s name no_entry in omega (arith, moved)

-- a row that does not exist has size 0
pub counted_size : (row : RowView) → IsWritten row → cond row.exists row.size 0 ≡ row.size
counted_size row is =
    elim row.exists as (λ b. row.exists ≡ b → cond b row.size 0 ≡ row.size) [
      | true ↦ λ e. refl
      | false ↦ λ e. sym (ap (λ (r : RowView). r.size) (is.bounds.blank e))
    ] refl

pub byte_if : (b : Bool) → bool_byte b ≡ one_if b
byte_if true = refl
byte_if false = refl
