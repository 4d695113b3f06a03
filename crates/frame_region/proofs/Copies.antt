-- Bytes that are copied in pieces, and one by one.
use Rattle.std.proofs.Common.{◌≡◌, ℕ, ◌+◌, ◌≤◌, ◌<◌, List, length, take, drop, set, get_or, arith, rules, inl, inr, sym, ◌∙◌, length-set}
use Rattle.std.proofs.lemmas.List.{same_lists, places, length-take-le, get_or-set_same, get_or-set_other}
use Rattle.std.proofs.lemmas.Bool.{cases_eq}
use Rattle.frame_region.specs.Region.{overwritten}
use Rattle.frame_region.proofs.Overwrites.{length-overwritten}

pub piece_more : (old from : List ℕ) (at start done part : ℕ) → at + done + part ≤ length old → start + done + part ≤ length from → overwritten (overwritten old at (take done (drop start from))) (at + done) (take part (drop (start + done) from)) ≡ overwritten old at (take (done + part) (drop start from))
piece_more old from at start done part room source = same_lists _ _ (search (rules, places)) (λ k d h. grind (arith, places))

pub byte_more : (old from : List ℕ) (at k : ℕ) → at + k < length old → k < length from → set (overwritten old at (take k from)) (at + k) (get_or from k 0) ≡ overwritten old at (take (k + 1) from)
byte_more old from at k room source =
    let long = length-take-le k from (omega arith) in
    let more = length-take-le (k + 1) from (omega arith) in
    let before = length-overwritten old at (take k from) (omega (arith, long)) in
    let after = length-overwritten old at (take (k + 1) from) (omega (arith, more)) in
    same_lists _ _ (length-set (overwritten old at (take k from)) (at + k) (get_or from k 0) ∙ before ∙ sym after) (λ j d h. elim (cases_eq j (at + k)) [
      | inl same ↦ rw same (get_or-set_same (overwritten old at (take k from)) (at + k) (get_or from k 0) d (omega (arith, before)) ∙ grind (arith, places))
      | inr apart ↦ get_or-set_other (overwritten old at (take k from)) (at + k) j (get_or from k 0) d apart ∙ grind (arith, places)
    ])
