use Rattle.std.proofs.Common.{◌≡◌, ◌+◌, ◌-◌, IfOk, length, take, drop, sym, ap, ◌∙◌, subst, arith}
use Rattle.std.proofs.lemmas.List.{length-take}
use Rattle.std.specs.Str.{IsUtf8}
use Rattle.index_entry.proofs.EntryLemmas.{are_read}
use Rattle.index_entry.proofs.codec.kind_of.Goals as goal

pub u16_at-requires : goal.u16_at-requires
u16_at-requires c =
    let r = are_read c.args.bytes.now c.requires.0 c.requires.1 c.requires.2.etag_long c.requires.3 c.requires.4 in omega (arith, r.long)

pub slice_bounds-from_utf8_unchecked-end : goal.slice_bounds-from_utf8_unchecked-end
slice_bounds-from_utf8_unchecked-end c =
    let r = are_read c.args.bytes.now c.requires.0 c.requires.1 c.requires.2.etag_long c.requires.3 c.requires.4 in
    let k = c.u16_at.ensures.once (length c.requires.0.kind) _ (omega (arith, c.requires.2.bounds.kind_high)) r.len_here in
    omega (arith, r.long, k, c.from-end.ensures)

pub from_utf8_unchecked-text-requires : goal.from_utf8_unchecked-text-requires
from_utf8_unchecked-text-requires c =
    let r = are_read c.args.bytes.now c.requires.0 c.requires.1 c.requires.2.etag_long c.requires.3 c.requires.4 in
    let k = c.u16_at.ensures.once (length c.requires.0.kind) _ (omega (arith, c.requires.2.bounds.kind_high)) r.len_here in
    let n : length c.requires.0.kind ≡ 54 + c.from-end.result - 54 = omega (arith, k, c.from-end.ensures) in
    subst (λ m. IsUtf8 (take m (drop 54 c.args.bytes.now))) n (subst IsUtf8 (sym r.kind_here) c.requires.2.kind_text)

pub unwrap-requires : goal.unwrap-requires
unwrap-requires c =
    let r = are_read c.args.bytes.now c.requires.0 c.requires.1 c.requires.2.etag_long c.requires.3 c.requires.4 in
    let k = c.u16_at.ensures.once (length c.requires.0.kind) _ (omega (arith, c.requires.2.bounds.kind_high)) r.len_here in
    let same = c.in_ok-text.ensures ∙ c.from_utf8_unchecked-text.ensures in
    c.new.ensures.limits.1 (omega (arith, ap length same, length-take (54 + c.from-end.result - 54) (drop 54 c.args.bytes.now), k, c.from-end.ensures, c.requires.2.bounds.kind_high))

pub returns : goal.returns
returns c row rest is exists here =
    let r = are_read c.args.bytes.now row rest is.etag_long exists here in
    let k = c.u16_at.ensures.once (length row.kind) _ (omega (arith, is.bounds.kind_high)) r.len_here in
    let n : 54 + c.from-end.result - 54 ≡ length row.kind = omega (arith, k, c.from-end.ensures) in
    let text : c.in_ok-text.text ≡ row.kind = c.in_ok-text.ensures ∙ c.from_utf8_unchecked-text.ensures ∙ ap (λ m. take m (drop 54 c.args.bytes.now)) n ∙ r.kind_here in
    subst (λ m. IfOk m (λ k. k ≡ c.in_ok-text.text)) c.unwrap.ensures c.new.ensures.ok ∙ text
