-- A run is taken: the first free cells are cut off, and their bytes are 0.
use Rattle.std.proofs.Common.{◌≡◌, ◌≢◌, ℕ, suc, ◌+◌, ◌-◌, ◌*◌, ◌/◌, ◌≤◌, ◌<◌, List, length, set, replicate, get_or, slice_index, Option, Some, None, sum_by, arith, inl, inr, refl, sym, ◌∙◌, ap, length-set}
use native.Mathlib.Nat.{mul-div_cancel, zero-div}
use Rattle.std.proofs.lemmas.Bool.{cases_eq}
use Rattle.std.proofs.lemmas.List.{get_or-set_same, get_or-set_other, length-replicate}
use Rattle.std.proofs.lemmas.List.Sums.{sum_by-set}
use Rattle.frame_region.specs.Region.{frames_at}
use Rattle.frame_region.specs.Cells.{content, after, bytes_along, IsWalk, IsPath, KeepsOffPath}
use Rattle.frame_region.specs.Links.{IsUnlinked, IsOneToOne, IsChain, Begins, runs_of, IsSound}
use Rattle.frame_region.proofs.Chains.{same_place, IsPath-from_chain, after-add, after-set, IsChain-set, IsChain-behind, IsChain-cut, after-relinked}
use Rattle.frame_region.proofs.JoinedPieces.{joined_same}
use Rattle.frame_region.proofs.Runs.{run_at_begun, run_at_none, run_at_same, runs_of-set, length-runs_of, get_or-runs_of}

module _ (frame : ℕ) (links bytes : List ℕ) (first_free free : ℕ) (sound : IsSound frame links bytes first_free free) (n : ℕ) (some : 0 < n) (enough : n ≤ free) where
  pub head_within : first_free < length links
  head_within = sound.free_chain.within 0 (omega arith)

  pub taken_path : IsPath links first_free n
  taken_path = IsPath-from_chain links sound.one_to_one first_free n (sound.head head_within) (λ i h. sound.free_chain.within i (omega arith))

  module _ (bytes' : List ℕ) (positive : 0 < frame) (zeros : bytes_along frame links bytes' first_free n ≡ replicate (n * frame) 0) (beside : KeepsOffPath frame links first_free n bytes bytes') (none : ℕ) (past : length links ≤ none) where
    abbrev last : ℕ
    last = after links first_free (n - 1)

    abbrev next : ℕ
    next = after links first_free n

    abbrev links' : List ℕ
    links' = set links last none

    unlinked : IsUnlinked links first_free
    unlinked = sound.head head_within

    last_within : last < length links
    last_within = taken_path.within (n - 1) (omega arith)

    size : length links' ≡ length links
    size = length-set links last none

    last_to_next : slice_index links last ≡ next
    last_to_next = let whole : suc (n - 1) ≡ n = omega arith in ap (after links first_free) whole

    at_last : slice_index links' last ≡ none
    at_last = get_or-set_same links last none 0 last_within

    elsewhere : (cell : ℕ) → cell ≢ last → slice_index links' cell ≡ slice_index links cell
    elsewhere cell apart = get_or-set_other links last cell none 0 apart

    -- a chain that begins at a cell to which none is linked meets the free cells only where it is theirs
    meets : (cell count : ℕ) → IsUnlinked links cell → IsWalk links cell count → (i j : ℕ) → i < count → j < free → after links cell i ≡ after links first_free j → (cell ≡ first_free) × (i ≡ j)
    meets cell count free_cell within i j h k e =
        same_place links sound.one_to_one cell first_free count free free_cell unlinked within sound.free_chain.within i j h k e

    one_to_one' : IsOneToOne links'
    one_to_one' a b h k e fits =
        elim (cases_eq a last) [
          | inl at_a ↦ absurd (omega (arith, size, ap (slice_index links') at_a, at_last))
          | inr off_a ↦ elim (cases_eq b last) [
            | inl at_b ↦ absurd (omega (arith, size, e, ap (slice_index links') at_b, at_last))
            | inr off_b ↦ sound.one_to_one a b (omega (arith, size)) (omega (arith, size)) (sym (elsewhere a off_a) ∙ e ∙ elsewhere b off_b) (omega (arith, size, elsewhere a off_a))
          ]
        ]

    head' : next < length links' → IsUnlinked links' next
    head' within other h e =
        elim (cases_eq other last) [
          | inl at ↦ omega (arith, size, ap (slice_index links') at, at_last)
          | inr off ↦ off (sound.one_to_one other last (omega (arith, size)) last_within (sym (elsewhere other off) ∙ e ∙ sym last_to_next) (omega (arith, size, elsewhere other off)))
        ]

    free_chain' : IsChain links' next (free - n)
    free_chain' =
        IsChain-set links last none next (free - n) (λ i h e.
        let twice = (meets first_free free unlinked sound.free_chain.within (n + i) (n - 1) (omega arith) (omega arith) (sym (after-add links first_free n i) ∙ e)).1 in
        omega arith) (IsChain-behind links first_free free n enough sound.free_chain)

    taken_chain : IsChain links' first_free n
    taken_chain = IsChain-cut links first_free n none some taken_path past

    begins_taken : Begins links' next first_free
    begins_taken = record {
      within = omega (arith, size, head_within);
      taken = λ e. unlinked last last_within (last_to_next ∙ sym e);
      unlinked = λ other h e. elim (cases_eq other last) [
        | inl at ↦ omega (arith, head_within, e, ap (slice_index links') at, at_last)
        | inr off ↦ unlinked other (omega (arith, size)) (sym (elsewhere other off) ∙ e)
      ];
    }

    begins_after : (cell : ℕ) → Begins links first_free cell → Begins links' next cell
    begins_after cell begun = record {
      within = omega (arith, size, begun.within);
      taken = λ e. begun.unlinked last last_within (last_to_next ∙ sym e);
      unlinked = λ other h e. elim (cases_eq other last) [
        | inl at ↦ omega (arith, begun.within, e, ap (slice_index links') at, at_last)
        | inr off ↦ begun.unlinked other (omega (arith, size)) (sym (elsewhere other off) ∙ e)
      ];
    }

    begins_before : (cell : ℕ) → cell ≢ first_free → Begins links' next cell → Begins links first_free cell
    begins_before cell apart begun = record {
      within = omega (arith, size, begun.within);
      taken = apart;
      unlinked = λ other h e. elim (cases_eq other last) [
        | inl at ↦ begun.taken (sym e ∙ ap (slice_index links) at ∙ last_to_next)
        | inr off ↦ begun.unlinked other (omega (arith, size)) (elsewhere other off ∙ e)
      ];
    }

    off_path : (cell count : ℕ) → Begins links first_free cell → IsChain links cell count → (i j : ℕ) → i < count → j < n → after links first_free j ≢ after links cell i
    off_path cell count begun chain i j h k e = begun.taken (meets cell count begun.unlinked chain.within i j h (omega arith) (sym e)).0

    chain_after : (cell count : ℕ) → Begins links first_free cell → IsChain links cell count → IsChain links' cell count
    chain_after cell count begun chain =
        IsChain-set links last none cell count (λ i h e. off_path cell count begun chain i (n - 1) h (omega arith) (sym e)) chain

    pub short : n ≤ length links
    short = omega (arith, sound.sum)

    chains' : (cell : ℕ) → Begins links' next cell → (count : ℕ) × (count ≤ length links') × IsChain links' cell count
    chains' cell begun =
        elim (cases_eq cell first_free) [
          | inl at ↦ (n, omega (arith, size, short), rw at taken_chain)
          | inr apart ↦
              let old = begins_before cell apart begun in
              let kept = sound.chains cell old in
              (kept.0, omega (arith, size, kept.1), chain_after cell kept.0 old kept.2)
        ]

    bytes_taken : bytes_along frame links' bytes' first_free n ≡ replicate (n * frame) 0
    bytes_taken =
        joined_same (λ i. content frame bytes' (after links' first_free i)) (λ i. content frame bytes' (after links first_free i)) n (λ i h. ap (content frame bytes') (after-relinked links first_free n none some taken_path i h))
        ∙ zeros

    bytes_kept : (cell count : ℕ) → Begins links first_free cell → IsChain links cell count → bytes_along frame links' bytes' cell count ≡ bytes_along frame links bytes cell count
    bytes_kept cell count begun chain =
        joined_same (λ i. content frame bytes' (after links' cell i)) (λ i. content frame bytes (after links cell i)) count (λ i h.
        ap (content frame bytes') (after-set links last none cell count (λ j k e. off_path cell count begun chain j (n - 1) k (omega arith) (sym e)) i (omega arith))
        ∙ beside (after links cell i) (λ j k e. off_path cell count begun chain i j h k e))

    pub runs_taken : runs_of frame links' bytes' next ≡ set (runs_of frame links bytes first_free) first_free (Some (replicate (n * frame) 0))
    runs_taken =
        runs_of-set frame links bytes links' bytes' first_free next first_free (Some (replicate (n * frame) 0)) size
        (λ _. run_at_begun frame links' bytes' next first_free n begins_taken (omega (arith, size, short)) taken_chain ∙ ap Some bytes_taken)
        (λ cell within apart. run_at_same frame links bytes links' bytes' first_free next cell within size (begins_after cell) (begins_before cell apart) (λ begun.
        let kept = sound.chains cell begun in
        (kept.0, kept.1, kept.2, chain_after cell kept.0 begun kept.2, bytes_kept cell kept.0 begun kept.2)))

    pub none_before : get_or (runs_of frame links bytes first_free) first_free None ≡ None
    none_before =
        get_or-runs_of frame links bytes first_free first_free None head_within
        ∙ run_at_none frame links bytes first_free first_free head_within (λ b. b.taken refl)

    sum' : free - n + sum_by (frames_at frame) (runs_of frame links' bytes' next) ≡ length links'
    sum' =
        let runs = runs_of frame links bytes first_free in
        let run : Option (List ℕ) = Some (replicate (n * frame) 0) in
        let change = sum_by-set (frames_at frame) runs first_free run None (omega (arith, length-runs_of frame links bytes first_free, head_within)) in
        let before : frames_at frame (get_or runs first_free None) ≡ 0 = rw none_before (zero-div frame) in
        let behind : frames_at frame run ≡ n = ap (λ k. k / frame) (length-replicate (n * frame) 0) ∙ mul-div_cancel n positive in
        rw runs_taken (omega (arith, size, sound.sum))

    pub IsSound-taken : IsSound frame links' bytes' next (free - n)
    IsSound-taken = record { one_to_one = one_to_one'; head = head'; free_chain = free_chain'; chains = chains'; sum = sum' }
