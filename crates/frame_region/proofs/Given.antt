-- The region after a run was given back.
use Rattle.std.proofs.Common.{◌≡◌, ℕ, ◌+◌, ◌-◌, ◌≤◌, ◌<◌, length, set, None, arith, inl, inr, sym, subst, ◌∙◌, ap, length-set}
use Rattle.std.proofs.lemmas.Bool.{cases_lt}
use Rattle.std.proofs.lemmas.List.{set_past}
use Rattle.frame_region.proofs.Filled.{at_cells}
use Rattle.frame_region.specs.Held.{links_in, bytes_in}
use Rattle.frame_region.proofs.Filled.{filled_in}
use Rattle.frame_region.specs.declared.cells.Cells.{Cells}
use Rattle.frame_region.specs.Cells.{after, IsWalk}
use Rattle.frame_region.specs.Links.{runs_of, IsSound}
use Rattle.frame_region.specs.Region.{RegionView, Run, Owns, KeepsOthers, HasFrameSum, with_run}
use Rattle.frame_region.proofs.Giving.{runs_given, sum_given, IsSound-given}
use Rattle.frame_region.proofs.Owned.{IsOut}
use Rattle.frame_region.proofs.Runs.{length-runs_of}
use Rattle.frame_region.proofs.Views.{same_view, view_of, owned_out, KeepsOthers-with_run}

-- what the region is with a run of frames less
pub record HasGiven (region seen : RegionView) (run : Run) : Type 0 where
  pub others : KeepsOthers region seen run
  pub after : seen ≡ with_run region run None (region.free + run.count)
  pub sum : HasFrameSum seen

module _ (old : Cells) (first_free free : ℕ) (sound : IsSound old.frame (links_in old) (bytes_in old) first_free free) (region : RegionView) (run : Run) (is : view_of old.frame (links_in old) (bytes_in old) first_free free ≡ region) (owned : Owns region run) where
  abbrev out : IsOut (links_in old) first_free run.first run.count
  out = (owned_out old.frame (links_in old) (bytes_in old) first_free free sound old.not_empty (filled_in old) region run is owned).0

  numbered : length region.runs ≡ region.frames
  numbered = subst (λ (r : RegionView). length r.runs ≡ r.frames) is (length-runs_of old.frame (links_in old) (bytes_in old) first_free)

  from_after : (seen : RegionView) → seen ≡ with_run region run None (region.free + run.count) → HasFrameSum seen → HasGiven region seen run
  from_after seen after_give sum = record {
    others = subst (λ r. KeepsOthers region r run) (sym after_give) (KeepsOthers-with_run region numbered run None (region.free + run.count));
    after = after_give;
    sum = sum;
  }

  pub given_fits : free + run.count ≤ length (links_in old)
  given_fits =
      elim (cases_lt 0 run.count) [
        | inl some ↦
            let here = out.some some in
            omega (arith, sum_given old.frame (links_in old) (bytes_in old) first_free free sound old.not_empty (filled_in old) run.first run.count some here.1 here.0 here.2)
        | inr none ↦ omega (arith, sound.sum)
      ]

  -- a run without frames
  pub IsSound-given_none : run.count ≡ 0 → IsSound old.frame (links_in old) (bytes_in old) first_free (free + run.count)
  IsSound-given_none none =
      let same : free ≡ free + run.count = omega arith in
      subst (IsSound old.frame (links_in old) (bytes_in old) first_free) same sound

  pub HasGiven-none : run.count ≡ 0 → HasGiven region (view_of old.frame (links_in old) (bytes_in old) first_free (free + run.count)) run
  HasGiven-none none =
      let runs = runs_of old.frame (links_in old) (bytes_in old) first_free in
      let size = length-runs_of old.frame (links_in old) (bytes_in old) first_free in
      from_after _ (same_view _ _ (ap (λ (r : RegionView). r.frame) is) (ap (λ (r : RegionView). r.frames) is) (ap (λ (r : RegionView). r.free + run.count) is)
      (sym (set_past runs run.first None (omega (arith, out.none none))) ∙ ap (λ (r : RegionView). set r.runs run.first None) is)) (IsSound-given_none none).sum

  module _ (some : 0 < run.count) where
    pub IsWalk-given : IsWalk (links_in old) run.first run.count
    IsWalk-given = (out.some some).2.within

    module _ (new : Cells) (frame : new.frame ≡ old.frame) (links : (links_in new) ≡ set (links_in old) (after (links_in old) run.first (run.count - 1)) first_free) (bytes : (bytes_in new) ≡ (bytes_in old)) where
      pub IsSound-after_give : IsSound new.frame (links_in new) (bytes_in new) run.first (free + run.count)
      IsSound-after_give =
          let here = out.some some in
          at_cells (λ f l b. IsSound f l b run.first (free + run.count)) frame links bytes (IsSound-given old.frame (links_in old) (bytes_in old) first_free free sound old.not_empty (filled_in old) run.first run.count some here.1 here.0 here.2)

      pub HasGiven-after_give : HasGiven region (view_of new.frame (links_in new) (bytes_in new) run.first (free + run.count)) run
      HasGiven-after_give =
          let here = out.some some in
          let runs : runs_of new.frame (links_in new) (bytes_in new) run.first ≡ set region.runs run.first None =
          at_cells (λ f l b. runs_of f l b run.first ≡ set region.runs run.first None) frame links bytes (runs_given old.frame (links_in old) (bytes_in old) first_free free sound old.not_empty (filled_in old) run.first run.count some here.1 here.0 here.2
          ∙ ap (λ (r : RegionView). set r.runs run.first None) is) in
          from_after _ (same_view _ _ (frame ∙ ap (λ (r : RegionView). r.frame) is) (ap length links ∙ length-set (links_in old) _ first_free ∙ ap (λ (r : RegionView). r.frames) is) (ap (λ (r : RegionView). r.free + run.count) is) runs) IsSound-after_give.sum
