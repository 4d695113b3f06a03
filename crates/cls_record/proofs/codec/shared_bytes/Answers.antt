use Rattle.std.proofs.Common.{◌++◌, length, ap, ◌∙◌}
use Rattle.index_entry.specs.Numbers.{number_bytes}
use Rattle.cls_record.specs.BucketRows.{pairs_bytes, shared_then, text_bytes}
use Rattle.cls_record.proofs.PieceLemmas.{shared_flat}
use Rattle.cls_record.proofs.codec.shared_bytes.Goals as goal

pub returns-clause-form : goal.returns-clause-form
returns-clause-form c =
    let id = number_bytes c.args.bucket.now.id in
    let owner = c.as_str.result.now in
    let readers = c.as_str-2.result.now in
    let writers = c.as_str-3.result.now in
    let meta = c.as_slice-meta.result.now in
    let count = number_bytes (length meta) in
    let flat = shared_flat c.new-out.result id (text_bytes owner) (text_bytes readers) (text_bytes writers) count (pairs_bytes meta) c.new-out.ensures in
    c.in_ok-put_pairs.ensures.ok ∙ ap (λ z. z ++ pairs_bytes meta) (c.in_ok-put_number-2.ensures.ok ∙ ap (λ z. z ++ count) (c.in_ok-put_text-3.ensures.ok ∙ ap (λ z. z ++ text_bytes writers)
    (c.in_ok-put_text-2.ensures.ok ∙ ap (λ z. z ++ text_bytes readers) (c.in_ok-put_text.ensures.ok ∙ ap (λ z. z ++ text_bytes owner) c.in_ok-put_number.ensures.ok)))) ∙ flat
    ∙ (λ i. shared_then c.args.bucket.now.id (c.as_str.ensures i) (c.as_str-2.ensures i) (c.as_str-3.ensures i) (length (c.as_slice-meta.ensures.pairs i)) (pairs_bytes (c.as_slice-meta.ensures.pairs i)))
