-- The last row of a listing, and the names that it is of.
use Rattle.std.proofs.Common.{◌≡◌, ℕ, ◌<◌, true, false, cond, List, [], ◌∷◌, map, length, Option, Some, None, get_or, zero, suc, refl, sym, subst, arith}
use Rattle.std.specs.List.{Contains, filter}
use Rattle.std.proofs.lemmas.Slice.Eq.{bytes_eq-Decides}
use Rattle.std.proofs.lemmas.List.Kept.{Contains-from_dedup}
use Rattle.object_words.specs.Rows.{RowView}
use Rattle.list_words.specs.declared.command.ListCommand.{ListCommand}
use Rattle.list_words.specs.declared.row.ListedRow.{ListedRow}
use Rattle.list_words.specs.declared.row.ListedThing.{ListedThing}
use Rattle.list_words.specs.declared.row.ListedRow.TheVariants.{Thing, Subdir}
use Rattle.list_words.specs.Listings.{in_scope, subdir_of, thing_of, row_under, listed_row, is_same_subdir, all_rows, ends_with_subdir}

abbrev Pair : Type 0
Pair = List ℕ × RowView

at_head : {X : Type 0} (x : X) (xs : List X) → Contains (x ∷ xs) x
at_head x xs = (0, omega arith, refl)

in_tail : {X : Type 0} (y : X) (xs : List X) (x : X) → Contains xs x → Contains (y ∷ xs) x
in_tail y xs x there = (suc there.0, (let within = there.1 in omega (arith, within)), there.2)

-- the last of the rows is of the subdir, so it is among them
pub last_is_there : (rows : List ListedRow) (subdir : List ℕ) → ends_with_subdir rows (Subdir subdir) ≡ true → Contains rows (Subdir subdir)
last_is_there [] subdir ends = cc
last_is_there (Thing name thing ∷ []) subdir ends = cc
last_is_there (Subdir last ∷ []) subdir ends =
    let same : subdir ≡ last = (bytes_eq-Decides subdir last).0 ends in
    subst (λ t. Contains (Subdir last ∷ []) (Subdir t)) (sym same) (at_head (Subdir last) [])
last_is_there (first ∷ next ∷ rows) subdir ends = in_tail first (next ∷ rows) (Subdir subdir) (last_is_there (next ∷ rows) subdir ends)

-- a subdir is a row of a name
pub record IsOfSubdir (c : ListCommand) (live : List Pair) (subdir : List ℕ) : Type 0 where
  pub lower : List ℕ
  pub row : RowView
  pub there : Contains live (lower, row)
  pub listed : in_scope c lower ≡ true
  pub of_lower : subdir_of c lower ≡ Some subdir

deeper : (c : ListCommand) (e : Pair) (live : List Pair) (subdir : List ℕ) → IsOfSubdir c live subdir → IsOfSubdir c (e ∷ live) subdir
deeper c e live subdir s = record { lower = s.lower; row = s.row; there = in_tail e live (s.lower, s.row) s.there; listed = s.listed; of_lower = s.of_lower }

under_subdir : (found : Option (List ℕ)) (name : List ℕ) (thing : ListedThing) (subdir : List ℕ) → row_under found name thing ≡ Subdir subdir → found ≡ Some subdir
under_subdir None name thing subdir is = cc
under_subdir (Some one) name thing subdir is = cc

abbrev chosen : ListCommand → List Pair → List Pair
chosen c live = filter (λ e. in_scope c e.0) live

-- by recursion on the place of the row
found_at : (c : ListCommand) (live : List Pair) (subdir : List ℕ) (k : ℕ) (d : ListedRow) → k < length (map (listed_row c) (chosen c live)) → get_or (map (listed_row c) (chosen c live)) k d ≡ Subdir subdir → IsOfSubdir c live subdir
found_at c [] subdir k d within is = absurd (omega arith)
found_at c (e ∷ live) subdir k d within is =
    elim (in_scope c e.0) as (λ b. in_scope c e.0 ≡ b → k < length (map (listed_row c) (cond b (e ∷ chosen c live) (chosen c live))) → get_or (map (listed_row c) (cond b (e ∷ chosen c live) (chosen c live))) k d ≡ Subdir subdir → IsOfSubdir c (e ∷ live) subdir) [
      | true ↦ λ scope. at (λ n d' within' is'. found_at c live subdir n d' within' is') k scope
      | false ↦ λ scope within' is'. deeper c e live subdir (found_at c live subdir k d within' is')
    ] refl within is
  where
    at : ((n : ℕ) (d' : ListedRow) → n < length (map (listed_row c) (chosen c live)) → get_or (map (listed_row c) (chosen c live)) n d' ≡ Subdir subdir → IsOfSubdir c live subdir) → (n : ℕ) → in_scope c e.0 ≡ true → n < length (map (listed_row c) (e ∷ chosen c live)) → get_or (map (listed_row c) (e ∷ chosen c live)) n d ≡ Subdir subdir → IsOfSubdir c (e ∷ live) subdir
    at later zero scope within' is' = record { lower = e.0; row = e.1; there = at_head e live; listed = scope; of_lower = under_subdir (subdir_of c e.0) e.0 (thing_of e.1) subdir is' }
    at later (suc n) scope within' is' = deeper c e live subdir (later n d (omega (arith, within')) is')

pub of_subdir : (c : ListCommand) (live : List Pair) (subdir : List ℕ) → ends_with_subdir (all_rows c live) (Subdir subdir) ≡ true → IsOfSubdir c live subdir
of_subdir c live subdir ends =
    let there = last_is_there (all_rows c live) subdir ends in
    let kept = Contains-from_dedup is_same_subdir (map (listed_row c) (chosen c live)) (Subdir subdir) there in
    found_at c live subdir kept.0 (Subdir subdir) kept.1 kept.2

-- rows of objects end no subdir
pub thing_repeats_none : (rows : List ListedRow) (name : List ℕ) (thing : ListedThing) → ends_with_subdir rows (Thing name thing) ≡ false
thing_repeats_none [] name thing = refl
thing_repeats_none (last ∷ []) name thing = refl
thing_repeats_none (first ∷ next ∷ rows) name thing = thing_repeats_none (next ∷ rows) name thing
