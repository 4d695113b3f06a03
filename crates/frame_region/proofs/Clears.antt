-- A frame that is cleared in parts.
use Rattle.std.proofs.Common.{◌≡◌, ℕ, ◌+◌, ◌≤◌, List, length, replicate, arith, sym, ap, ◌∙◌}
use Rattle.std.proofs.lemmas.List.{length-replicate, replicate-append-replicate}
use Rattle.frame_region.specs.Region.{overwritten}
use Rattle.frame_region.proofs.Overwrites.{overwritten-overwritten}

pub zeros_more : (bytes : List ℕ) (start done part : ℕ) → start + done + part ≤ length bytes → overwritten (overwritten bytes start (replicate done 0)) (start + done) (replicate part 0) ≡ overwritten bytes start (replicate (done + part) 0)
zeros_more bytes start done part within =
    let long = length-replicate {A = ℕ} done 0 in
    ap (λ n. overwritten (overwritten bytes start (replicate done 0)) (start + n) (replicate part 0)) (sym long)
    ∙ overwritten-overwritten bytes start (replicate done 0) (replicate part 0) (omega (arith, long, length-replicate {A = ℕ} part 0))
    ∙ ap (overwritten bytes start) (replicate-append-replicate done part 0)
