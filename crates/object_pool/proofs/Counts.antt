-- A count of frames that fits a number of 32 bits.
use Rattle.std.proofs.Common.{◌≡◌, ℕ, ◌+◌, ◌≤◌, ◌<◌, Result, Ok, Err, ◌-◌, min, List, ◌++◌, length, take, drop, inl, inr, arith, ap, sym, ◌∙◌}
use Rattle.std.proofs.lemmas.Bool.{cases_lt}
use Rattle.std.proofs.Math.Seq.{take-append_seam}
use Rattle.std.proofs.lemmas.List.{drop-take, length-drop, length-take-le, take-append-drop, take-append-le, take_min}
use Rattle.std.proofs.Math.ListN.{drop_of_length-le}
use Rattle.std.specs.Result.{OkIff, result_unwrap_or}
use Rattle.frame_region.specs.Region.{overwritten}

pub count_fits : {E : Type 0} (r : Result ℕ E) (n needed : ℕ) → OkIff r (n < 4294967296) n → needed ≡ result_unwrap_or r 4294967295 → needed ≤ 4194304 → needed ≡ n
count_fits (Ok x) n needed told is small = is ∙ told.1
count_fits (Err e) n needed told is small = absurd (omega (arith, is, small))

-- bytes that were written over the first ones
pub first_of_overwritten : (old bytes : List ℕ) → take (length bytes) (overwritten old 0 bytes) ≡ bytes
first_of_overwritten old bytes = take-append_seam bytes (drop (0 + length bytes) old)

clipped : (bytes : List ℕ) (size start first : ℕ) → size ≤ length bytes → first ≡ min start size → drop start (take size bytes) ≡ drop first (take size bytes)
clipped bytes size start first fits is_first =
    let taken = length-take-le size bytes fits in
    elim (cases_lt size start) [
      | inr before ↦ ap (λ n. drop n (take size bytes)) (omega (arith, before, is_first))
      | inl past ↦ drop_of_length-le (take size bytes) (omega (arith, taken, past)) ∙ sym (drop_of_length-le (take size bytes) (omega (arith, taken, past, is_first)))
    ]

-- so many bytes from a place on, as far as there are such
pub part_of_size : (bytes : List ℕ) (size start count first len : ℕ) (out items result : List ℕ) → size ≤ length bytes → first ≡ min start size → len ≡ min count (size - first) → length items ≡ len → out ≡ take len (drop first bytes) → result ≡ take len (out ++ drop (length out) items) → result ≡ take count (drop start (take size bytes))
part_of_size bytes size start count first len out items result fits is_first is_len sized read given =
    let out_len : length out ≡ len = ap length read ∙ length-take-le len (drop first bytes) (omega (arith, length-drop first bytes, fits, is_first, is_len)) in
    let whole : result ≡ out = given ∙ (ap (λ n. take n (out ++ drop (length out) items)) (sym out_len) ∙ take-append_seam out (drop (length out) items)) in
    let rest = drop first bytes in
    let tail : drop start (take size bytes) ≡ take (size - first) rest =
    clipped bytes size start first fits is_first ∙ (ap (λ n. drop first (take n bytes)) (omega (arith, is_first)) ∙ drop-take first (size - first) bytes) in
    let tail_len : length (take (size - first) rest) ≡ size - first = length-take-le (size - first) rest (omega (arith, length-drop first bytes, fits, is_first)) in
    let shorter : take count (take (size - first) rest) ≡ take len (take (size - first) rest) =
    sym (take_min count (take (size - first) rest)) ∙ ap (λ n. take n (take (size - first) rest)) (ap (min count) tail_len ∙ sym is_len) in
    let fewer : take len (take (size - first) rest) ≡ take len rest =
    sym (take-append-le len (take (size - first) rest) (drop (size - first) rest) (omega (arith, tail_len, is_len))) ∙ ap (take len) (take-append-drop (size - first) rest) in
    whole ∙ (read ∙ sym (ap (take count) tail ∙ (shorter ∙ fewer)))
