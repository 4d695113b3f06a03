use Rattle.std.proofs.Common.{◌++◌, ◌∷◌, [], refl}
use Rattle.index_entry.specs.Numbers.{number_bytes}
use Rattle.index_entry.proofs.EntryLemmas.{none_some}
use Rattle.cls_record.specs.BucketRows.{busy_kind, busy_number}
use Rattle.cls_record.proofs.codec.busy_part.Goals as goal

pub returns-in_err-kind-clause-exact : goal.returns-in_err-kind-clause-exact
returns-in_err-kind-clause-exact c busy rest fits here = absurd (c.in_err-kind.ensures.exact (busy_kind busy ∷ []) (number_bytes (busy_number busy) ++ rest) refl here).0

pub returns-in_err-number-clause-exact : goal.returns-in_err-number-clause-exact
returns-in_err-number-clause-exact c busy rest fits here =
    let k = c.in_ok-kind.ensures.exact (busy_kind busy ∷ []) (number_bytes (busy_number busy) ++ rest) refl here in
    absurd (none_some (busy_number busy) (c.in_err-number.ensures.exact (busy_number busy) rest fits k.1).0)
