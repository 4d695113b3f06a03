-- The region after bytes were written into a run.
use Rattle.std.proofs.Common.{◌≡◌, ℕ, ◌*◌, ◌<◌, List, length, set, Option, Some, sym, subst, ◌∙◌, ap, ap₂, refl}
use Rattle.frame_region.proofs.Filled.{at_cells}
use Rattle.frame_region.specs.Held.{links_in, bytes_in}
use Rattle.frame_region.proofs.Filled.{filled_in}
use Rattle.frame_region.specs.declared.cells.Cells.{Cells}
use Rattle.frame_region.specs.Cells.{bytes_along, IsPath, KeepsOffPath}
use Rattle.frame_region.specs.Links.{IsSound}
use Rattle.frame_region.specs.Region.{RegionView, Run, Owns, KeepsOthers, HasFrameSum, bytes_of, overwritten, with_run}
use Rattle.frame_region.proofs.PathLemmas.{length-bytes_along}
use Rattle.frame_region.proofs.Owned.{IsOut, path_out, bytes_out, runs_written, IsSound-written}
use Rattle.frame_region.proofs.Runs.{length-runs_of}
use Rattle.frame_region.proofs.Views.{same_view, view_of, owned_out, KeepsOthers-with_run}

module _ (frame : ℕ) (links bytes : List ℕ) (first_free free : ℕ) (sound : IsSound frame links bytes first_free free) (positive : 0 < frame) (filled : length bytes ≡ length links * frame) (region : RegionView) (run : Run) (is : view_of frame links bytes first_free free ≡ region) (owned : Owns region run) where
  abbrev out : IsOut links first_free run.first run.count × (bytes_of region run ≡ bytes_along frame links bytes run.first run.count)
  out = owned_out frame links bytes first_free free sound positive filled region run is owned

  module _ (start : ℕ) (written : List ℕ) (bytes' : List ℕ) (filled' : length bytes' ≡ length links * frame) (writes : bytes_along frame links bytes' run.first run.count ≡ overwritten (bytes_along frame links bytes run.first run.count) start written) (beside : KeepsOffPath frame links run.first run.count bytes bytes') where
    -- what the run has now
    after : bytes_along frame links bytes' run.first run.count ≡ overwritten (bytes_of region run) start written
    after = writes ∙ ap (λ (bs : List ℕ). overwritten bs start written) (sym out.1)

    sound_after : IsSound frame links bytes' first_free free
    sound_after = IsSound-written frame links bytes first_free free sound positive filled run.first run.count out.0 bytes' filled' beside

    bytes_after : bytes_of (view_of frame links bytes' first_free free) run ≡ bytes_along frame links bytes' run.first run.count
    bytes_after = bytes_out frame links bytes' first_free free sound_after positive filled' run.first run.count out.0

    bytes_of-written : bytes_of (view_of frame links bytes' first_free free) run ≡ overwritten (bytes_of region run) start written
    bytes_of-written = bytes_after ∙ after

    owned_written : Owns (view_of frame links bytes' first_free free) run
    owned_written = record {
      sized = ap length bytes_after ∙ length-bytes_along frame links bytes' filled' run.first run.count (path_out frame links bytes first_free free sound positive filled run.first run.count out.0).within;
      placed = out.0.none;
    }

    view_written : view_of frame links bytes' first_free free ≡ with_run region run (Some (overwritten (bytes_of region run) start written)) region.free
    view_written =
        same_view _ _ (ap (λ (r : RegionView). r.frame) is) (ap (λ (r : RegionView). r.frames) is) (ap (λ (r : RegionView). r.free) is)
        (runs_written frame links bytes first_free free sound positive filled run.first run.count out.0 bytes' filled' beside
        ∙ ap₂ (λ (runs : List (Option (List ℕ))) (bs : List ℕ). set runs run.first (Some bs)) (ap (λ (r : RegionView). r.runs) is) after)

    others_written : KeepsOthers region (view_of frame links bytes' first_free free) run
    others_written =
        let numbered : length region.runs ≡ region.frames = subst (λ (r : RegionView). length r.runs ≡ r.frames) is (length-runs_of frame links bytes first_free) in
        subst (λ r. KeepsOthers region r run) (sym view_written) (KeepsOthers-with_run region numbered run (Some (overwritten (bytes_of region run) start written)) region.free)

-- what the region is once these bytes are written into a run
pub record HasWritten (region seen : RegionView) (run : Run) (start : ℕ) (written : List ℕ) : Type 0 where
  pub owned : Owns seen run
  pub bytes : bytes_of seen run ≡ overwritten (bytes_of region run) start written
  pub others : KeepsOthers region seen run
  pub after : seen ≡ with_run region run (Some (overwritten (bytes_of region run) start written)) region.free
  pub sum : HasFrameSum seen

module _ (old : Cells) (first_free free : ℕ) (sound : IsSound old.frame (links_in old) (bytes_in old) first_free free) (region : RegionView) (run : Run) (is : view_of old.frame (links_in old) (bytes_in old) first_free free ≡ region) (owned : Owns region run) where
  pub path_of_run : IsPath (links_in old) run.first run.count
  path_of_run = path_out old.frame (links_in old) (bytes_in old) first_free free sound old.not_empty (filled_in old) run.first run.count (out old.frame (links_in old) (bytes_in old) first_free free sound old.not_empty (filled_in old) region run is owned).0

  module _ (new : Cells) (start : ℕ) (written : List ℕ) (frame : new.frame ≡ old.frame) (links : (links_in new) ≡ (links_in old)) (writes : bytes_along old.frame (links_in old) (bytes_in new) run.first run.count ≡ overwritten (bytes_along old.frame (links_in old) (bytes_in old) run.first run.count) start written) (beside : KeepsOffPath old.frame (links_in old) run.first run.count (bytes_in old) (bytes_in new)) where
    filled_after : length (bytes_in new) ≡ length (links_in old) * old.frame
    filled_after = filled_in new ∙ ap₂ (λ (l : List ℕ) f. length l * f) links frame

    pub IsSound-after_write : IsSound new.frame (links_in new) (bytes_in new) first_free free
    IsSound-after_write =
        at_cells (λ f l b. IsSound f l b first_free free) frame links refl (sound_after old.frame (links_in old) (bytes_in old) first_free free sound old.not_empty (filled_in old) region run is owned start written (bytes_in new) filled_after writes beside)

    pub HasWritten-after_write : HasWritten region (view_of new.frame (links_in new) (bytes_in new) first_free free) run start written
    HasWritten-after_write =
        let seen = view_of old.frame (links_in old) (bytes_in new) first_free free in
        let here : HasWritten region seen run start written = record {
          owned = owned_written old.frame (links_in old) (bytes_in old) first_free free sound old.not_empty (filled_in old) region run is owned start written (bytes_in new) filled_after writes beside;
          bytes = bytes_of-written old.frame (links_in old) (bytes_in old) first_free free sound old.not_empty (filled_in old) region run is owned start written (bytes_in new) filled_after writes beside;
          others = others_written old.frame (links_in old) (bytes_in old) first_free free sound old.not_empty (filled_in old) region run is owned start written (bytes_in new) filled_after writes beside;
          after = view_written old.frame (links_in old) (bytes_in old) first_free free sound old.not_empty (filled_in old) region run is owned start written (bytes_in new) filled_after writes beside;
          sum = (sound_after old.frame (links_in old) (bytes_in old) first_free free sound old.not_empty (filled_in old) region run is owned start written (bytes_in new) filled_after writes beside).sum;
        } in
        at_cells (λ f l b. HasWritten region (view_of f l b first_free free) run start written) frame links refl here
