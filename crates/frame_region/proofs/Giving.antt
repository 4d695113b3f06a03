-- A run is given back: its cells come before the free ones.
use Rattle.std.proofs.Common.{◌≡◌, ◌≢◌, ℕ, suc, ◌+◌, ◌-◌, ◌*◌, ◌/◌, ◌≤◌, ◌<◌, List, length, set, get_or, slice_index, Some, None, sum_by, arith, inl, inr, refl, sym, ◌∙◌, ap, length-set}
use native.Mathlib.Nat.{mul-div_cancel, zero-div}
use Rattle.std.proofs.lemmas.Bool.{cases_eq}
use Rattle.std.proofs.lemmas.List.{get_or-set_same, get_or-set_other}
use Rattle.std.proofs.lemmas.List.Sums.{sum_by-set}
use Rattle.frame_region.specs.Region.{frames_at}
use Rattle.frame_region.specs.Cells.{content, after, bytes_along, IsPath}
use Rattle.frame_region.specs.Links.{IsUnlinked, IsOneToOne, IsChain, Begins, runs_of, IsSound}
use Rattle.frame_region.proofs.Chains.{same_place, IsPath-from_chain, after-set, IsChain-set, IsChain-joined, after-relinked, after-relinked_end}
use Rattle.frame_region.proofs.JoinedPieces.{joined_same}
use Rattle.frame_region.proofs.PathLemmas.{length-bytes_along}
use Rattle.frame_region.proofs.Runs.{run_at_begun, run_at_none, run_at_same, runs_of-set, length-runs_of, get_or-runs_of}

module _ (frame : ℕ) (links bytes : List ℕ) (first_free free : ℕ) (sound : IsSound frame links bytes first_free free) (positive : 0 < frame) (filled : length bytes ≡ length links * frame) (first count : ℕ) (some : 0 < count) (short : count ≤ length links) (out : Begins links first_free first) (chain : IsChain links first count) where
  abbrev last : ℕ
  last = after links first (count - 1)

  abbrev links' : List ℕ
  links' = set links last first_free

  path : IsPath links first count
  path = IsPath-from_chain links sound.one_to_one first count out.unlinked chain.within

  last_within : last < length links
  last_within = chain.within (count - 1) (omega arith)

  size : length links' ≡ length links
  size = length-set links last first_free

  last_ends : length links ≤ slice_index links last
  last_ends = let whole : count ≡ suc (count - 1) = omega arith in rw whole at chain.ends

  at_last : slice_index links' last ≡ first_free
  at_last = get_or-set_same links last first_free 0 last_within

  elsewhere : (cell : ℕ) → cell ≢ last → slice_index links' cell ≡ slice_index links cell
  elsewhere cell apart = get_or-set_other links last cell first_free 0 apart

  one_to_one' : IsOneToOne links'
  one_to_one' a b h k e fits =
      elim (cases_eq a last) [
        | inl at_a ↦ elim (cases_eq b last) [
          | inl at_b ↦ at_a ∙ sym at_b
          | inr off_b ↦
              let to_free = ap (slice_index links') at_a ∙ at_last in
              absurd (sound.head (omega (arith, size, to_free)) b (omega (arith, size)) (sym (elsewhere b off_b) ∙ sym e ∙ to_free))
        ]
        | inr off_a ↦ elim (cases_eq b last) [
          | inl at_b ↦
              let to_free = e ∙ ap (slice_index links') at_b ∙ at_last in
              absurd (sound.head (omega (arith, size, to_free)) a (omega (arith, size)) (sym (elsewhere a off_a) ∙ to_free))
          | inr off_b ↦ sound.one_to_one a b (omega (arith, size)) (omega (arith, size)) (sym (elsewhere a off_a) ∙ e ∙ elsewhere b off_b) (omega (arith, size, elsewhere a off_a))
        ]
      ]

  unlinked' : IsUnlinked links' first
  unlinked' other h e =
      elim (cases_eq other last) [
        | inl at ↦ out.taken (sym e ∙ ap (slice_index links') at ∙ at_last)
        | inr off ↦ out.unlinked other (omega (arith, size)) (sym (elsewhere other off) ∙ e)
      ]

  free_off : (i : ℕ) → i < free → after links first_free i ≢ last
  free_off i h e =
      let head = sound.head (sound.free_chain.within 0 (omega arith)) in
      out.taken (sym (same_place links sound.one_to_one first_free first free count head out.unlinked sound.free_chain.within chain.within i (count - 1) h (omega arith) e).0)

  free_chain' : IsChain links' first (free + count)
  free_chain' =
      let order : count + free ≡ free + count = omega arith in
      rw (← order) (IsChain-joined links' first count first_free free (λ i h. rw (size, after-relinked links first count first_free some path i h) (chain.within i h)) (after-relinked_end links first count first_free some path) (IsChain-set links last first_free first_free free free_off sound.free_chain))

  begins_before : (cell : ℕ) → Begins links' first cell → Begins links first_free cell
  begins_before cell begun = record {
    within = omega (arith, size, begun.within);
    taken = λ e. begun.unlinked last (omega (arith, size, last_within)) (at_last ∙ sym e);
    unlinked = λ other h e. elim (cases_eq other last) [
      | inl at ↦ omega (arith, size, begun.within, last_ends, ap (slice_index links) at)
      | inr off ↦ begun.unlinked other (omega (arith, size)) (elsewhere other off ∙ e)
    ];
  }

  begins_after : (cell : ℕ) → cell ≢ first → Begins links first_free cell → Begins links' first cell
  begins_after cell apart begun = record {
    within = omega (arith, size, begun.within);
    taken = apart;
    unlinked = λ other h e. elim (cases_eq other last) [
      | inl at ↦ begun.taken (sym e ∙ ap (slice_index links') at ∙ at_last)
      | inr off ↦ begun.unlinked other (omega (arith, size)) (sym (elsewhere other off) ∙ e)
    ];
  }

  off_path : (cell length : ℕ) → cell ≢ first → Begins links first_free cell → IsChain links cell length → (i : ℕ) → i < length → after links cell i ≢ last
  off_path cell length apart begun along i h e =
      apart (same_place links sound.one_to_one cell first length count begun.unlinked out.unlinked along.within chain.within i (count - 1) h (omega arith) e).0

  chain_after : (cell length : ℕ) → cell ≢ first → Begins links first_free cell → IsChain links cell length → IsChain links' cell length
  chain_after cell length apart begun along =
      IsChain-set links last first_free cell length (off_path cell length apart begun along) along

  chains' : (cell : ℕ) → Begins links' first cell → (more : ℕ) × (more ≤ length links') × IsChain links' cell more
  chains' cell begun =
      let old = begins_before cell begun in
      let kept = sound.chains cell old in
      (kept.0, omega (arith, size, kept.1), chain_after cell kept.0 begun.taken old kept.2)

  bytes_kept : (cell length : ℕ) → cell ≢ first → Begins links first_free cell → IsChain links cell length → bytes_along frame links' bytes cell length ≡ bytes_along frame links bytes cell length
  bytes_kept cell length apart begun along =
      joined_same (λ i. content frame bytes (after links' cell i)) (λ i. content frame bytes (after links cell i)) length (λ i h.
      ap (content frame bytes) (after-set links last first_free cell length (off_path cell length apart begun along) i (omega arith)))

  pub runs_given : runs_of frame links' bytes first ≡ set (runs_of frame links bytes first_free) first None
  runs_given =
      runs_of-set frame links bytes links' bytes first_free first first None size
      (λ _. run_at_none frame links' bytes first first (omega (arith, size, out.within)) (λ b. b.taken refl))
      (λ cell within apart. run_at_same frame links bytes links' bytes first_free first cell within size (begins_after cell apart) (begins_before cell) (λ begun.
      let kept = sound.chains cell begun in
      (kept.0, kept.1, kept.2, chain_after cell kept.0 apart begun kept.2, bytes_kept cell kept.0 apart begun kept.2)))

  run_before : get_or (runs_of frame links bytes first_free) first None ≡ Some (bytes_along frame links bytes first count)
  run_before =
      get_or-runs_of frame links bytes first_free first None out.within ∙ run_at_begun frame links bytes first_free first count out short chain

  pub sum_given : free + count + sum_by (frames_at frame) (runs_of frame links' bytes first) ≡ length links
  sum_given =
      let runs = runs_of frame links bytes first_free in
      let change = sum_by-set (frames_at frame) runs first None None (omega (arith, length-runs_of frame links bytes first_free, out.within)) in
      let before : frames_at frame (get_or runs first None) ≡ count = rw run_before (ap (λ k. k / frame) (length-bytes_along frame links bytes filled first count chain.within) ∙ mul-div_cancel count positive) in
      let behind : frames_at frame None ≡ 0 = zero-div frame in
      rw runs_given (omega (arith, sound.sum))

  pub IsSound-given : IsSound frame links' bytes first (free + count)
  IsSound-given =
      record { one_to_one = one_to_one'; head = λ _. unlinked'; free_chain = free_chain'; chains = chains'; sum = sum_given ∙ sym size }
