-- The region after a run was taken.
use Rattle.std.proofs.Common.{◌≡◌, ℕ, suc, ◌-◌, ◌*◌, ◌≤◌, ◌<◌, List, [], length, set, get_or, slice_index, replicate, Some, None, unwrap_or, arith, refl, sym, subst, ◌∙◌, ap, ap₂, length-set}
use Rattle.std.proofs.lemmas.List.{set_past, get_or_past, length-replicate}
use Rattle.frame_region.proofs.Filled.{at_cells}
use Rattle.frame_region.specs.Held.{links_in, bytes_in}
use Rattle.frame_region.specs.declared.cells.Cells.{Cells}
use Rattle.frame_region.specs.Cells.{after, bytes_along, KeepsOffPath}
use Rattle.frame_region.specs.Links.{runs_of, IsSound}
use Rattle.frame_region.specs.Region.{RegionView, Run, Owns, AddsRun, HasFrameSum, bytes_of, with_run}
use Rattle.frame_region.proofs.Runs.{length-runs_of}
use Rattle.frame_region.proofs.Taking.{head_within, none_before, runs_taken, IsSound-taken}
use Rattle.frame_region.proofs.Views.{same_view, view_of, bytes_here, AddsRun-with_run}

-- what the region is with a run of `n` frames more
pub record HasTaken (region seen : RegionView) (run : Run) (n : ℕ) : Type 0 where
  pub owned : Owns seen run
  pub zero : bytes_of seen run ≡ replicate (n * region.frame) 0
  pub others : AddsRun region seen run
  pub after : seen ≡ with_run region run (Some (replicate (n * region.frame) 0)) (region.free - n)
  pub sum : HasFrameSum seen

-- `mid` are the cells once those of the run are cleared, and `new` once its last cell is linked to none
module _ (old mid new : Cells) (first_free free : ℕ) (sound : IsSound old.frame (links_in old) (bytes_in old) first_free free) (n last next none : ℕ) (some : 0 < n) (enough : n ≤ free) (past : length (links_in old) ≤ none) (last_is : last ≡ after (links_in old) first_free (n - 1)) (mid_zero : bytes_along old.frame (links_in old) (bytes_in mid) first_free n ≡ replicate (n * old.frame) 0) (mid_beside : KeepsOffPath old.frame (links_in old) first_free n (bytes_in old) (bytes_in mid)) (mid_frame : mid.frame ≡ old.frame) (mid_links : (links_in mid) ≡ (links_in old)) (next_is : next ≡ slice_index (links_in mid) last) (new_links : (links_in new) ≡ set (links_in mid) last none) (new_frame : new.frame ≡ mid.frame) (new_bytes : (bytes_in new) ≡ (bytes_in mid)) where
  follows : next ≡ after (links_in old) first_free n
  follows =
      let whole : suc (n - 1) ≡ n = omega arith in
      next_is ∙ ap₂ (λ (ls : List ℕ) (i : ℕ). slice_index ls i) mid_links last_is ∙ ap (after (links_in old) first_free) whole

  frame : new.frame ≡ old.frame
  frame = new_frame ∙ mid_frame

  links : (links_in new) ≡ set (links_in old) (after (links_in old) first_free (n - 1)) none
  links = new_links ∙ ap₂ (λ (ls : List ℕ) (i : ℕ). set ls i none) mid_links last_is

  zeros : bytes_along old.frame (links_in old) (bytes_in new) first_free n ≡ replicate (n * old.frame) 0
  zeros = rw new_bytes mid_zero

  beside : KeepsOffPath old.frame (links_in old) first_free n (bytes_in old) (bytes_in new)
  beside = rw new_bytes mid_beside

  pub IsSound-after_take : IsSound new.frame (links_in new) (bytes_in new) next (free - n)
  IsSound-after_take =
      at_cells (λ f l b. IsSound f l b next (free - n)) frame links refl (rw follows (IsSound-taken old.frame (links_in old) (bytes_in old) first_free free sound n some enough (bytes_in new) old.not_empty zeros beside none past))

  pub HasTaken-after_take : (region : RegionView) → view_of old.frame (links_in old) (bytes_in old) first_free free ≡ region → HasTaken region (view_of new.frame (links_in new) (bytes_in new) next (free - n)) (record { first = first_free; count = n }) n
  HasTaken-after_take region is =
      let run : Run = record { first = first_free; count = n } in
      let zero : List ℕ = replicate (n * region.frame) 0 in
      let seen = view_of new.frame (links_in new) (bytes_in new) next (free - n) in
      let same_frame : new.frame ≡ region.frame = frame ∙ ap (λ (r : RegionView). r.frame) is in
      let numbered : length region.runs ≡ region.frames = subst (λ (r : RegionView). length r.runs ≡ r.frames) is (length-runs_of old.frame (links_in old) (bytes_in old) first_free) in
      let within : first_free < region.frames = subst (λ (r : RegionView). first_free < r.frames) is (head_within old.frame (links_in old) (bytes_in old) first_free free sound n some enough) in
      let runs : runs_of new.frame (links_in new) (bytes_in new) next ≡ set region.runs first_free (Some zero) =
      at_cells (λ f l b. runs_of f l b next ≡ set region.runs first_free (Some zero)) frame links refl (rw follows (runs_taken old.frame (links_in old) (bytes_in old) first_free free sound n some enough (bytes_in new) old.not_empty zeros beside none past
      ∙ ap (λ (r : RegionView). set r.runs first_free (Some (replicate (n * r.frame) 0))) is)) in
      let positive : 0 < region.frame = subst (λ (r : RegionView). 0 < r.frame) is old.not_empty in
      let nothing : get_or region.runs first_free None ≡ None =
      subst (λ (r : RegionView). get_or r.runs first_free None ≡ None) is (none_before old.frame (links_in old) (bytes_in old) first_free free sound n some enough (bytes_in new) old.not_empty zeros beside none past) in
      let after_take : seen ≡ with_run region run (Some zero) (region.free - n) =
      same_view seen (with_run region run (Some zero) (region.free - n)) same_frame (ap length links ∙ length-set (links_in old) _ none ∙ ap (λ (r : RegionView). r.frames) is) (ap (λ (r : RegionView). r.free - n) is) runs in
      let bytes : bytes_of seen run ≡ zero = ap (λ r. bytes_of r run) after_take ∙ bytes_here region numbered run (Some zero) (region.free - n) zero refl within in
      record {
        owned = record { sized = ap length bytes ∙ length-replicate (n * region.frame) 0 ∙ ap (λ f. n * f) (sym same_frame); placed = λ none. absurd (omega arith) };
        zero = bytes;
        others = subst (λ r. AddsRun region r run) (sym after_take) (AddsRun-with_run region numbered run (Some zero) (region.free - n) positive nothing (λ _. within));
        after = after_take;
        sum = IsSound-after_take.sum;
      }

-- no frame is taken
pub HasTaken-none : (old : Cells) (first_free free : ℕ) → IsSound old.frame (links_in old) (bytes_in old) first_free free → (region : RegionView) → view_of old.frame (links_in old) (bytes_in old) first_free free ≡ region → (first n : ℕ) → length (links_in old) ≤ first → n ≡ 0 → HasTaken region region (record { first = first; count = 0 }) n
HasTaken-none old first_free free sound region is first n past none_taken =
    let numbered : length region.runs ≡ region.frames = subst (λ (r : RegionView). length r.runs ≡ r.frames) is (length-runs_of old.frame (links_in old) (bytes_in old) first_free) in
    let positive : 0 < region.frame = subst (λ (r : RegionView). 0 < r.frame) is old.not_empty in
    let behind : region.frames ≤ first = subst (λ (r : RegionView). r.frames ≤ first) is past in
    let run : Run = record { first = first; count = 0 } in
    let zero : List ℕ = replicate (n * region.frame) 0 in
    let nothing : get_or region.runs first None ≡ None = get_or_past region.runs first None (omega arith) in
    let free : region.free ≡ region.free - n = omega arith in
    let none_long : 0 ≡ n * region.frame = rw none_taken (omega arith) in
    let after_take : region ≡ with_run region run (Some zero) (region.free - n) =
    same_view region (with_run region run (Some zero) (region.free - n)) refl refl free (sym (set_past region.runs first (Some zero) (omega arith))) in
    record {
      owned = record { sized = ap (λ o. length (unwrap_or o [])) nothing ∙ (let none : 0 ≡ 0 * region.frame = omega arith in none); placed = λ _. behind };
      zero = ap (λ o. unwrap_or o []) nothing ∙ ap (λ m. replicate m 0) none_long;
      others = subst (λ r. AddsRun region r run) (sym after_take) (AddsRun-with_run region numbered run (Some zero) (region.free - n) positive nothing (λ some. absurd (omega arith)));
      after = after_take;
      sum = subst HasFrameSum is sound.sum;
    }
