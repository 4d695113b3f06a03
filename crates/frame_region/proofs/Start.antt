-- A new region: each cell is linked to the next, and all are free.
use Rattle.std.proofs.Common.{◌≡◌, ℕ, zero, suc, ◌+◌, ◌-◌, ◌*◌, ◌≤◌, ◌<◌, List, length, replicate, slice_index, Option, None, arith, refl, sym, ◌∙◌, ap}
use native.Mathlib.Nat.{zero-div}
use Rattle.std.proofs.lemmas.List.{same_lists, length-replicate, get_or-replicate}
use Rattle.std.proofs.lemmas.List.Folds.{sum_by-replicate}
use Rattle.frame_region.specs.Region.{frames_at}
use Rattle.frame_region.specs.Cells.{after}
use Rattle.frame_region.specs.Links.{Begins, runs_of, IsSound}
use Rattle.frame_region.proofs.Runs.{run_at_none, length-runs_of, get_or-runs_of}

module _ (frame : ℕ) (links bytes : List ℕ) (count : ℕ) (sized : length links ≡ count) (some : 0 < count) (linked : (i : ℕ) → i < count → slice_index links i ≡ i + 1) where
  after_start : (i : ℕ) → i ≤ count → after links 0 i ≡ i
  after_start zero h = refl
  after_start (suc i) h =
      ap (slice_index links) (after_start i (omega arith)) ∙ linked i (omega arith) ∙ (let next : i + 1 ≡ suc i = omega arith in next)

  none_begins : (cell : ℕ) → Begins links 0 cell → ⊥
  none_begins cell begun =
      let positive : 0 < cell = omega (arith, begun.taken) in
      begun.unlinked (cell - 1) (omega (arith, begun.within)) (linked (cell - 1) (omega (arith, begun.within)) ∙ (let back : cell - 1 + 1 ≡ cell = omega arith in back))

  pub runs_start : runs_of frame links bytes 0 ≡ replicate count None
  runs_start =
      let size = length-runs_of frame links bytes 0 in
      same_lists _ _ (omega (arith, length-replicate {A = Option (List ℕ)} count None)) (λ cell d within.
      let inside : cell < length links = omega arith in
      get_or-runs_of frame links bytes 0 cell d inside ∙ run_at_none frame links bytes 0 cell inside (none_begins cell) ∙ sym (get_or-replicate count cell None d (omega arith)))

  pub IsSound-start : IsSound frame links bytes 0 count
  IsSound-start = record {
    one_to_one = λ a b h k e fits. omega (arith, linked a (omega arith), linked b (omega arith), e);
    head = λ _ other h e. omega (arith, linked other (omega arith), e);
    free_chain = record {
      within = λ i h. omega (arith, after_start i (omega arith));
      ends = omega (arith, after_start count (omega arith));
    };
    chains = λ cell begun. absurd (none_begins cell begun);
    sum =
        let none : frames_at frame None ≡ 0 = zero-div frame in
        let all = sum_by-replicate (frames_at frame) count None in
        let nothing : count * frames_at frame None ≡ 0 = rw none (omega arith) in
        rw runs_start (omega arith);
  }
