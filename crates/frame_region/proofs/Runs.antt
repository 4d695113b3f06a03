-- Which runs are out, as the links tell it, and what they hold.
use Rattle.std.proofs.Common.{◌≡◌, ◌≢◌, ◌⊎◌, ℕ, ◌≤◌, ◌<◌, Bool, true, false, not, ◌&&◌, eqb, ltb, List, length, map, set, get_or, Option, Some, None, arith, inl, inr, sym, ◌∙◌, ap, ap₂, length-set, eq-eqb}
use Rattle.std.specs.List.{list_any, range_with_len}
use Rattle.std.proofs.lemmas.Bool.{cases_eq, cases_Bool, eqb-true, ne_eqb, lt-ltb, le-ltb, cond-true, cond-false, both_ways}
use Rattle.std.proofs.lemmas.List.{same_lists, get_or-set_same, get_or-set_other, get_or_default}
use Rattle.std.proofs.lemmas.List.Folds.{Any-from_list_any, list_any_at}
use Rattle.std.proofs.lemmas.List.FromFn.{get_or-map-range_with_len, length-map-range_with_len}
use Rattle.std.proofs.lemmas.List.Sums.{prefix_len_is}
use Rattle.frame_region.specs.Cells.{after, bytes_along}
use Rattle.frame_region.specs.Links.{IsChain, Begins, begins, chain_length, run_at, runs_of}

-- the test tells whether a run begins at a cell
pub begins_cases : (links : List ℕ) (first_free cell : ℕ) → cell < length links → ((begins links first_free cell ≡ true) × Begins links first_free cell) ⊎ ((begins links first_free cell ≡ false) × (Begins links first_free cell → ⊥))
begins_cases links first_free cell within =
    let test : ℕ → Bool = λ link. eqb link cell in
    elim (cases_eq cell first_free) [
      | inl free ↦ inr (ap (λ b. not b && not (list_any test links)) (eq-eqb cell first_free free), λ b. b.taken free)
      | inr taken ↦ elim (cases_Bool (list_any test links)) [
        | inl linked ↦
            let found = Any-from_list_any test links linked in
            let same : found.1 ≡ cell = eqb-true found.1 cell found.4 in
            inr (ap₂ (λ a b. not a && not b) (ne_eqb cell first_free taken) linked, λ b. b.unlinked found.0 found.2 (get_or_default links found.0 0 found.1 found.2 ∙ found.3 ∙ same))
        | inr unlinked ↦ inl (
          ap₂ (λ a b. not a && not b) (ne_eqb cell first_free taken) unlinked,
          record {
            within = within;
            taken = taken;
            unlinked = λ other h same. both_ways _ unlinked (list_any_at test links other 0 h (eq-eqb _ cell same));
          },
        )
      ]
    ]

pub chain_length_is : (links : List ℕ) (first count : ℕ) → count ≤ length links → IsChain links first count → chain_length links first ≡ count
chain_length_is links first count short chain =
    let cells = map (after links first) (range_with_len 0 (length links)) in
    let size = length-map-range_with_len (after links first) 0 (length links) in
    prefix_len_is (λ cell. ltb cell (length links)) cells count 0 (omega arith)
    (λ k h. lt-ltb _ _ (omega (arith, get_or-map-range_with_len (after links first) 0 (length links) k k 0 (omega arith) (omega arith), chain.within k h)))
    (λ h. le-ltb _ _ (omega (arith, get_or-map-range_with_len (after links first) 0 (length links) count count 0 (omega arith) (omega arith), chain.ends)))

module _ (frame : ℕ) (links bytes : List ℕ) (first_free : ℕ) where
  pub run_at_begun : (cell count : ℕ) → Begins links first_free cell → count ≤ length links → IsChain links cell count → run_at frame links bytes first_free cell ≡ Some (bytes_along frame links bytes cell count)
  unfolding run_at
  run_at_begun cell count begun short chain =
      elim (begins_cases links first_free cell begun.within) [
        | inl told ↦ cond-true _ _ _ told.0 ∙ ap (λ n. Some (bytes_along frame links bytes cell n)) (chain_length_is links cell count short chain)
        | inr untold ↦ absurd (untold.1 begun)
      ]

  pub run_at_none : (cell : ℕ) → cell < length links → (Begins links first_free cell → ⊥) → run_at frame links bytes first_free cell ≡ None
  unfolding run_at
  run_at_none cell within not_begun =
      elim (begins_cases links first_free cell within) [
        | inl told ↦ absurd (not_begun told.1)
        | inr untold ↦ cond-false _ _ _ untold.0
      ]

  pub length-runs_of : length (runs_of frame links bytes first_free) ≡ length links
  unfolding runs_of
  length-runs_of = length-map-range_with_len (run_at frame links bytes first_free) 0 (length links)

  pub get_or-runs_of : (cell : ℕ) (d : Option (List ℕ)) → cell < length links → get_or (runs_of frame links bytes first_free) cell d ≡ run_at frame links bytes first_free cell
  unfolding runs_of
  get_or-runs_of cell d within = get_or-map-range_with_len (run_at frame links bytes first_free) 0 (length links) cell cell d within (omega arith)

-- the runs after a change, where all but one stay
pub runs_of-set : (frame : ℕ) (links bytes links' bytes' : List ℕ) (first_free first_free' first : ℕ) (run : Option (List ℕ)) → length links' ≡ length links → (first < length links → run_at frame links' bytes' first_free' first ≡ run) → ((cell : ℕ) → cell < length links → cell ≢ first → run_at frame links' bytes' first_free' cell ≡ run_at frame links bytes first_free cell) → runs_of frame links' bytes' first_free' ≡ set (runs_of frame links bytes first_free) first run
runs_of-set frame links bytes links' bytes' first_free first_free' first run same here others =
    let old = runs_of frame links bytes first_free in
    let size = length-runs_of frame links bytes first_free in
    let size' = length-runs_of frame links' bytes' first_free' in
    same_lists _ _ (omega (arith, length-set old first run)) (λ cell d within.
    let inside : cell < length links = omega arith in
    get_or-runs_of frame links' bytes' first_free' cell d (omega arith) ∙ elim (cases_eq cell first) [
      | inl at ↦
          let below : first < length links = omega arith in
          rw at (here below ∙ sym (get_or-set_same old first run d (omega arith)))
      | inr apart ↦ others cell inside apart ∙ sym (get_or-runs_of frame links bytes first_free cell d inside) ∙ sym (get_or-set_other old first cell run d apart)
    ])

-- a run that begins at one cell before and after has the same bytes, where its chain and their contents stay
pub run_at_same : (frame : ℕ) (links bytes links' bytes' : List ℕ) (first_free first_free' cell : ℕ) → cell < length links → length links' ≡ length links → (Begins links first_free cell → Begins links' first_free' cell) → (Begins links' first_free' cell → Begins links first_free cell) → ((begun : Begins links first_free cell) → (count : ℕ) × (count ≤ length links) × IsChain links cell count × IsChain links' cell count × (bytes_along frame links' bytes' cell count ≡ bytes_along frame links bytes cell count)) → run_at frame links' bytes' first_free' cell ≡ run_at frame links bytes first_free cell
run_at_same frame links bytes links' bytes' first_free first_free' cell within same forth back keeps =
    elim (begins_cases links first_free cell within) [
      | inl begun ↦
          let kept = keeps begun.1 in
          run_at_begun frame links' bytes' first_free' cell kept.0 (forth begun.1) (omega (arith, kept.1)) kept.3 ∙ ap Some kept.4 ∙ sym (run_at_begun frame links bytes first_free cell kept.0 begun.1 kept.1 kept.2)
      | inr not_begun ↦ run_at_none frame links' bytes' first_free' cell (omega arith) (λ b. not_begun.1 (back b)) ∙ sym (run_at_none frame links bytes first_free cell within not_begun.1)
    ]
