use Rattle.std.proofs.Common.{◌∙◌, append_assoc, refl}
use Rattle.index_entry.specs.Numbers.{number_bytes}
use Rattle.index_entry.proofs.PieceLemmas.{behind, length-number_bytes}
use Rattle.index_entry.proofs.entry.tag_in.Goals as goal

pub returns-clause-once : goal.returns-clause-once
returns-clause-once c t rest fits here =
    let e = here ∙ append_assoc (number_bytes t.tag) (number_bytes t.deadline) rest in
    let n = c.u64_at.ensures.once t.tag _ fits.0 e in
    let l = c.u64_at-2.ensures.once t.deadline rest fits.1 (behind _ c.args.at 8 _ _ _ e (length-number_bytes t.tag) refl) in
    λ i. record { tag = n i; deadline = l i }
