-- What a name is to the rows so far.
use Rattle.std.proofs.Common.{◌≡◌, ℕ, ◌-◌, ◌==◌, ◌&&◌, Bool, true, false, List, [], ◌∷◌, length, slice_get, Option, Some, None, suc, refl, sym, ◌∙◌, ap, arith}
use Rattle.std.proofs.lemmas.Bool.{and_parts, eqb-true}
use Rattle.object_words.specs.Hashes.{shard_of}
use Rattle.object_words.specs.Rows.{RowView}
use Rattle.list_words.specs.declared.command.ListCommand.{ListCommand}
use Rattle.list_words.specs.declared.key.Key.{Key}
use Rattle.list_words.specs.declared.key.Key.TheVariants.{Whole, Subdir as folded}
use Rattle.list_words.specs.declared.row.ListedRow.{ListedRow}
use Rattle.list_words.specs.declared.row.ListedRow.TheVariants.{Thing, Subdir}
use Rattle.list_words.specs.Listings.{is_before, in_scope, subdir_of, thing_of, row_under, listed_row, is_same_subdir, ends_with_subdir, IsKey}
use Rattle.task_list.specs.declared.merging.Merging.{Merging}
use Rattle.task_list.specs.Progresses.{settled_of, is_listed}
use Rattle.task_list.specs.Stages.{IsOwn}
use Rattle.task_list.proofs.Rows.{thing_repeats_none}

-- whether the last row is of the subdir
abbrev pub is_last_of : Option ListedRow → List ℕ → Bool
is_last_of (Some row) subdir = is_same_subdir (Subdir subdir) row
is_last_of None subdir = false

pub ends_by_last : (rows : List ListedRow) (subdir : List ℕ) → ends_with_subdir rows (Subdir subdir) ≡ is_last_of (slice_get rows (length rows - 1)) subdir
ends_by_last [] subdir = refl
ends_by_last (Thing name thing ∷ []) subdir = refl
ends_by_last (Subdir last ∷ []) subdir = refl
ends_by_last (first ∷ next ∷ rows) subdir =
    let place : length {A = ListedRow} (first ∷ next ∷ rows) - 1 ≡ suc (length {A = ListedRow} (next ∷ rows) - 1) = omega arith in
    ends_by_last (next ∷ rows) subdir ∙ ap (λ n. is_last_of (slice_get (first ∷ next ∷ rows) n) subdir) (sym place)

-- a name that is not listed yet has a row of its own
pub unlisted : (c : ListCommand) (name : List ℕ) (rows : List ListedRow) (key : Key) → IsKey (subdir_of c name) key → is_listed rows key ≡ false → (row : RowView) → ends_with_subdir rows (listed_row c (name, row)) ≡ false
unlisted c name rows Whole is none row = ap (λ o. ends_with_subdir rows (row_under o name (thing_of row))) is ∙ thing_repeats_none rows name (thing_of row)
unlisted c name rows (folded text) is none row = ap (λ o. ends_with_subdir rows (row_under o name (thing_of row))) is ∙ none

pub is_own : (c : ListCommand) (m : Merging) (shard : ℕ) (name : List ℕ) (due : Bool) → in_scope c name ≡ true → due ≡ ((shard_of name (m.row).shards == shard) && is_before (settled_of m.progress) name) → due ≡ true → IsOwn c m shard name
is_own c m shard name due scope is so =
    let both = and_parts (shard_of name (m.row).shards == shard) (is_before (settled_of m.progress) name) (sym is ∙ so) in
    record { above = (scope, both.1); of_shard = eqb-true _ _ both.0 }

-- by the last row
pub by_last : (rows : List ListedRow) (row : ListedRow) (subdir : List ℕ) → Some row ≡ slice_get rows (length rows - 1) → is_same_subdir (Subdir subdir) row ≡ ends_with_subdir rows (Subdir subdir)
by_last rows row subdir at = ap (λ o. is_last_of o subdir) at ∙ sym (ends_by_last rows subdir)

pub by_none : (rows : List ListedRow) (subdir : List ℕ) → None ≡ slice_get rows (length rows - 1) → false ≡ ends_with_subdir rows (Subdir subdir)
by_none rows subdir at = ap (λ o. is_last_of o subdir) at ∙ sym (ends_by_last rows subdir)
