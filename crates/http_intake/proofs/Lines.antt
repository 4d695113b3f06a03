-- A scan for the end of a head, line by line.
use Rattle.std.proofs.Common.{◌≡◌, ◌≢◌, ℕ, zero, suc, ◌+◌, ◌<◌, ◌≤◌, Bool, true, false, cond, List, length, get_or, drop, slice_range, Some, refl, ap, ◌∙◌, arith}
use Rattle.std.proofs.lemmas.List.{take_rest, length-drop}
use Rattle.std.proofs.lemmas.Bool.{eqb-true}
use Rattle.std.specs.Prelude.{◌==◌}
use Rattle.memchr.specs.Find.{Nowhere, NoneBefore, Passes, is_byte}
use Rattle.http_chunks.specs.declared.place.Place.TheVariants.{Inside, Fresh}
use Rattle.http_chunks.specs.Scans.{after_byte, scan_from}
use Rattle.http_chunks.proofs.Scanning.{byte_at, scans_next}

inside_by : (t : Bool) (b : ℕ) → (b == 10) ≡ t → b ≢ 10 → cond t (Some Fresh) (Some Inside) ≡ Some Inside
inside_by true b is other = absurd (other (eqb-true b 10 is))
inside_by false b is other = refl

-- bytes that are no LF leave the scan within its line
stays_inside : (bytes : List ℕ) (at k : ℕ) → at + k ≤ length bytes → ((i : ℕ) → i < k → get_or bytes (at + i) 0 ≢ 10)
    → scan_from Inside at (drop at bytes) ≡ scan_from Inside (at + k) (drop (at + k) bytes)
stays_inside bytes at zero fits others =
    let same : at ≡ at + 0 = omega arith in ap (λ n. scan_from Inside n (drop n bytes)) same
stays_inside bytes at (suc k) fits others =
    let b = get_or bytes (at + k) 0 in
    let step : after_byte Inside b ≡ Some Inside = inside_by (b == 10) b refl (others k (omega arith)) in
    let same : (at + k) + 1 ≡ at + suc k = omega arith in
    stays_inside bytes at k (omega (arith, fits)) (λ i l. others i (omega (arith, l))) ∙ scans_next bytes (at + k) Inside Inside (omega (arith, fits)) step
    ∙ ap (λ n. scan_from Inside n (drop n bytes)) same

-- no LF stands in the first bytes of what is left
passes : (bytes rest : List ℕ) (at k : ℕ) → rest ≡ slice_range bytes at (length bytes) → at ≤ length bytes → k ≤ length rest
    → Nowhere (Passes (is_byte 10) rest) 0 k → scan_from Inside at (drop at bytes) ≡ scan_from Inside (at + k) (drop (at + k) bytes)
passes bytes rest at k is within few nowhere =
    let size : at + k ≤ length bytes = omega (arith, within, few, ap length is, ap length (take_rest bytes at), length-drop at bytes) in
    let others : (i : ℕ) → i < k → get_or bytes (at + i) 0 ≢ 10 =
    λ i below lf.
    nowhere i (omega arith) below
    (ap (λ b. b == 10) (ap (λ l. get_or l i 0) is ∙ (byte_at bytes at i (omega (arith, below, few, ap length is))).1 ∙ lf)) in
    stays_inside bytes at k size others

-- up to the first of them
pub passes_over : (bytes rest : List ℕ) (at k : ℕ) → rest ≡ slice_range bytes at (length bytes) → at ≤ length bytes
    → NoneBefore (Passes (is_byte 10) rest) 0 (length rest) k
    → scan_from Inside at (drop at bytes) ≡ scan_from Inside (at + k) (drop (at + k) bytes)
passes_over bytes rest at k is within first = passes bytes rest at k is within (omega (arith, first.high)) first.before

-- to the end, where there is none
pub passes_all : (bytes rest : List ℕ) (at : ℕ) → rest ≡ slice_range bytes at (length bytes) → at ≤ length bytes
    → Nowhere (Passes (is_byte 10) rest) 0 (length rest)
    → scan_from Inside at (drop at bytes) ≡ scan_from Inside (length bytes) (drop (length bytes) bytes)
passes_all bytes rest at is within nowhere =
    let all : at + length rest ≡ length bytes = omega (arith, within, ap length is, ap length (take_rest bytes at), length-drop at bytes) in
    passes bytes rest at (length rest) is within (omega arith) nowhere ∙ ap (λ n. scan_from Inside n (drop n bytes)) all
