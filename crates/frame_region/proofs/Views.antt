-- What a change of one run's place leaves to the other runs.
use Rattle.std.proofs.Common.{◌≡◌, ◌≢◌, ℕ, ◌*◌, ◌<◌, List, [], length, get_or, Option, Some, None, unwrap_or, arith, inl, inr, sym, subst, ◌∙◌, ap}
use native.Mathlib.Nat.{mul-pos}
use Rattle.std.proofs.lemmas.Bool.{cases_eq, cases_lt}
use Rattle.std.proofs.lemmas.List.{get_or-set_same, get_or-set_other, set_past}
use Rattle.frame_region.specs.Cells.{bytes_along}
use Rattle.frame_region.specs.Links.{runs_of, IsSound}
use Rattle.frame_region.specs.Region.{RegionView, Run, Owns, Apart, AddsRun, KeepsOthers, bytes_of, with_run}
use Rattle.frame_region.proofs.Owned.{IsOut, IsOut-from_owned, bytes_out}

-- regions that agree in each part
pub same_view : (a b : RegionView) → a.frame ≡ b.frame → a.frames ≡ b.frames → a.free ≡ b.free → a.runs ≡ b.runs → a ≡ b
same_view a b frame frames free runs = λ i. record { frame = frame i; frames = frames i; free = free i; runs = runs i }

-- the region that cells show
abbrev pub view_of : ℕ → List ℕ → List ℕ → ℕ → ℕ → RegionView
view_of frame links bytes first_free free =
    record { frame = frame; frames = length links; free = free; runs = runs_of frame links bytes first_free }

-- a run of the region among the cells
pub owned_out : (frame : ℕ) (links bytes : List ℕ) (first_free free : ℕ) → IsSound frame links bytes first_free free → 0 < frame → length bytes ≡ length links * frame → (region : RegionView) (run : Run) → view_of frame links bytes first_free free ≡ region → Owns region run → IsOut links first_free run.first run.count × (bytes_of region run ≡ bytes_along frame links bytes run.first run.count)
owned_out frame links bytes first_free free sound positive filled region run is owned =
    let here : Owns (view_of frame links bytes first_free free) run = subst (λ r. Owns r run) (sym is) owned in
    let out = IsOut-from_owned frame links bytes first_free free sound positive filled run.first run.count here.sized here.placed in
    (out, rw (← is) (bytes_out frame links bytes first_free free sound positive filled run.first run.count out))

module _ (region : RegionView) (numbered : length region.runs ≡ region.frames) (run : Run) (place : Option (List ℕ)) (free : ℕ) where
  bytes_elsewhere : (other : Run) → other.first ≢ run.first → bytes_of (with_run region run place free) other ≡ bytes_of region other
  bytes_elsewhere other apart =
      ap (λ o. unwrap_or o []) (get_or-set_other region.runs run.first other.first place None apart)

  pub bytes_here : (bytes : List ℕ) → place ≡ Some bytes → run.first < region.frames → bytes_of (with_run region run place free) run ≡ bytes
  bytes_here bytes is within =
      ap (λ o. unwrap_or o []) (get_or-set_same region.runs run.first place None (omega arith) ∙ is)

  pub KeepsOthers-with_run : KeepsOthers region (with_run region run place free) run
  KeepsOthers-with_run other others apart =
      let same : bytes_of (with_run region run place free) other ≡ bytes_of region other =
      elim (cases_eq other.first run.first) [
        | inl at ↦
            let none : other.count ≡ 0 = omega (arith, apart (sym at)) in
            let past = others.placed none in
            ap (λ (runs : List (Option (List ℕ))). unwrap_or (get_or runs other.first None) []) (set_past region.runs run.first place (omega arith))
        | inr off ↦ bytes_elsewhere other off
      ] in
      record { owned = record { sized = ap length same ∙ others.sized; placed = others.placed }; bytes = same }

  pub AddsRun-with_run : 0 < region.frame → get_or region.runs run.first None ≡ None → (0 < run.count → run.first < region.frames) → AddsRun region (with_run region run place free) run
  AddsRun-with_run positive new within other others =
      let apart : Apart run other = λ same.
      let other_none : other.count ≡ 0 =
      elim (cases_lt 0 other.count) [
        | inl some ↦
            let nothing : length (bytes_of region other) ≡ 0 = rw (← same) (ap (λ o. length (unwrap_or o [])) new) in
            absurd (omega (arith, others.sized, mul-pos some positive))
        | inr none ↦ omega arith
      ] in
      elim (cases_lt 0 run.count) [
        | inl some ↦ absurd (omega (arith, within some, others.placed other_none))
        | inr none ↦ omega arith
      ] in
      (apart, λ same. omega (arith, apart (sym same)), KeepsOthers-with_run other others apart)
