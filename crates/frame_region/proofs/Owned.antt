-- What a run of a region is among its cells, and what a write into it leaves.
use Rattle.std.proofs.Common.{◌≡◌, ◌≢◌, ◌⊎◌, ℕ, ◌+◌, ◌*◌, ◌/◌, ◌≤◌, ◌<◌, List, [], length, set, get_or, Option, Some, None, unwrap_or, sum_by, arith, inl, inr, refl, sym, subst, ◌∙◌, ap}
use native.Mathlib.Nat.{mul-div_cancel, mul-pos}
use Rattle.std.proofs.lemmas.Bool.{cases_lt}
use Rattle.std.proofs.lemmas.List.{get_or_past, set_past}
use Rattle.std.proofs.lemmas.List.Sums.{sum_by-set}
use Rattle.frame_region.specs.Region.{frames_at}
use Rattle.frame_region.specs.Cells.{content, after, bytes_along, IsPath, KeepsOffPath}
use Rattle.frame_region.specs.Links.{IsChain, Begins, runs_of, IsSound}
use Rattle.frame_region.proofs.Chains.{same_place, IsPath-from_chain}
use Rattle.frame_region.proofs.JoinedPieces.{joined_same}
use Rattle.frame_region.proofs.PathLemmas.{length-bytes_along}
use Rattle.frame_region.proofs.Runs.{begins_cases, run_at_begun, run_at_none, run_at_same, runs_of-set, length-runs_of, get_or-runs_of}

-- so many cells from this one on are a run that is out, or no cells
pub record IsOut (links : List ℕ) (first_free first count : ℕ) : Type 0 where
  pub some : 0 < count → Begins links first_free first × (count ≤ length links) × IsChain links first count
  pub none : count ≡ 0 → length links ≤ first

module _ (frame : ℕ) (links bytes : List ℕ) (first_free free : ℕ) (sound : IsSound frame links bytes first_free free) (positive : 0 < frame) (filled : length bytes ≡ length links * frame) (first count : ℕ) where
  abbrev place : Option (List ℕ)
  place = get_or (runs_of frame links bytes first_free) first None

  begun_or_none : (Begins links first_free first) ⊎ (place ≡ None)
  begun_or_none =
      elim (cases_lt first (length links)) [
        | inl within ↦ elim (begins_cases links first_free first within) [
          | inl told ↦ inl told.1
          | inr untold ↦ inr (get_or-runs_of frame links bytes first_free first None within ∙ run_at_none frame links bytes first_free first within untold.1)
        ]
        | inr past ↦ inr (get_or_past (runs_of frame links bytes first_free) first None (omega (arith, length-runs_of frame links bytes first_free)))
      ]

  place_begun : (begun : Begins links first_free first) → place ≡ Some (bytes_along frame links bytes first (sound.chains first begun).0)
  place_begun begun =
      let kept = sound.chains first begun in
      get_or-runs_of frame links bytes first_free first None begun.within ∙ run_at_begun frame links bytes first_free first kept.0 begun kept.1 kept.2

  pub IsOut-from_owned : length (unwrap_or place []) ≡ count * frame → (count ≡ 0 → length links ≤ first) → IsOut links first_free first count
  IsOut-from_owned sized none = record {
    some = λ some. elim begun_or_none [
      | inl begun ↦
          let kept = sound.chains first begun in
          let held = ap (λ o. length (unwrap_or o [])) (place_begun begun) ∙ length-bytes_along frame links bytes filled first kept.0 kept.2.within in
          let same : kept.0 ≡ count = sym (mul-div_cancel kept.0 positive) ∙ ap (λ k. k / frame) (sym held ∙ sized) ∙ mul-div_cancel count positive in
          (begun, omega (arith, kept.1, same), subst (IsChain links first) same kept.2)
      | inr empty ↦ absurd (omega (arith, sized, ap (λ o. length (unwrap_or o [])) empty, mul-pos some positive))
    ];
    none = none;
  }

  module _ (out : IsOut links first_free first count) where
    pub path_out : IsPath links first count
    path_out =
        elim (cases_lt 0 count) [
          | inl some ↦ IsPath-from_chain links sound.one_to_one first count (out.some some).0.unlinked (out.some some).2.within
          | inr none ↦ record { within = λ i h. absurd (omega arith); once = λ i j h k e. absurd (omega arith) }
        ]

    pub bytes_out : unwrap_or place [] ≡ bytes_along frame links bytes first count
    bytes_out =
        elim (cases_lt 0 count) [
          | inl some ↦
              let run = out.some some in
              ap (λ o. unwrap_or o []) (get_or-runs_of frame links bytes first_free first None run.0.within ∙ run_at_begun frame links bytes first_free first count run.0 run.1 run.2)
          | inr none ↦
              let zero_count : count ≡ 0 = omega arith in
              rw zero_count (ap (λ o. unwrap_or o []) (get_or_past (runs_of frame links bytes first_free) first None (omega (arith, length-runs_of frame links bytes first_free, out.none zero_count))))
        ]

    module _ (bytes' : List ℕ) (filled' : length bytes' ≡ length links * frame) (beside : KeepsOffPath frame links first count bytes bytes') where
      -- the cells of another run are not among those of this one
      elsewhere : (cell length : ℕ) → cell ≢ first → Begins links first_free cell → IsChain links cell length → (i j : ℕ) → i < length → j < count → after links first j ≢ after links cell i
      elsewhere cell length apart begun along i j h k e =
          let run = out.some (omega arith) in
          apart (same_place links sound.one_to_one cell first length count begun.unlinked run.0.unlinked along.within run.2.within i j h k (sym e)).0

      pub runs_written : runs_of frame links bytes' first_free ≡ set (runs_of frame links bytes first_free) first (Some (bytes_along frame links bytes' first count))
      runs_written =
          runs_of-set frame links bytes links bytes' first_free first_free first (Some (bytes_along frame links bytes' first count)) refl
          (λ within.
          let some : 0 < count = elim (cases_lt 0 count) [ inl some ↦ some | inr none ↦ absurd (omega (arith, out.none (omega arith))) ] in
          let run = out.some some in
          run_at_begun frame links bytes' first_free first count run.0 run.1 run.2)
          (λ cell within apart. run_at_same frame links bytes links bytes' first_free first_free cell within refl (λ b. b) (λ b. b) (λ begun.
          let kept = sound.chains cell begun in
          (kept.0, kept.1, kept.2, kept.2, joined_same (λ i. content frame bytes' (after links cell i)) (λ i. content frame bytes (after links cell i)) kept.0 (λ i h. beside (after links cell i) (λ j k. elsewhere cell kept.0 apart begun kept.2 i j h k)))))

      pub sum_written : free + sum_by (frames_at frame) (runs_of frame links bytes' first_free) ≡ length links
      sum_written =
          let runs = runs_of frame links bytes first_free in
          let run : Option (List ℕ) = Some (bytes_along frame links bytes' first count) in
          rw runs_written (elim (cases_lt first (length links)) [
            | inl within ↦
                let change = sum_by-set (frames_at frame) runs first run None (omega (arith, length-runs_of frame links bytes first_free, within)) in
                let held : frames_at frame place ≡ frames_at frame run =
                ap (λ bs. length bs / frame) bytes_out ∙ ap (λ k. k / frame) (length-bytes_along frame links bytes filled first count path_out.within ∙ sym (length-bytes_along frame links bytes' filled' first count path_out.within)) in
                omega (arith, sound.sum)
            | inr past ↦ rw (set_past runs first run (omega (arith, length-runs_of frame links bytes first_free))) sound.sum
          ])

      pub IsSound-written : IsSound frame links bytes' first_free free
      IsSound-written =
          record { one_to_one = sound.one_to_one; head = sound.head; free_chain = sound.free_chain; chains = sound.chains; sum = sum_written }
