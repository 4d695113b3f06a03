use Rattle.std.proofs.Common.{◌+◌, ◌-◌, take, drop, ap, ◌∙◌, arith}
use Rattle.std.specs.Int.{w16, from_be_bytes}
use Rattle.std.specs.Array.{IsWholeChunk}
use Rattle.index_entry.proofs.PieceLemmas.{short_read, short_once, short_slice}
use Rattle.index_entry.proofs.numbers.u16_at.Goals as goal

pub returns-clause-read : goal.returns-clause-read
returns-clause-read c =
    let chunk : IsWholeChunk (take (c.args.at + 2 - c.args.at) (drop c.args.at c.args.bytes.now)) c.unwrap.result.now 2 = rw c.unwrap.ensures at c.as_array.ensures.cases in
    short_read c.args.bytes.now c.args.at _ (λ i. omega (arith, c.type_inv.bytes i)) c.requires (short_slice c.args.bytes.now c.args.at _ (c.from_be_bytes.ensures ∙ ap (from_be_bytes w16) chunk.same))

pub returns-clause-once : goal.returns-clause-once
returns-clause-once c x rest fits here =
    let chunk : IsWholeChunk (take (c.args.at + 2 - c.args.at) (drop c.args.at c.args.bytes.now)) c.unwrap.result.now 2 = rw c.unwrap.ensures at c.as_array.ensures.cases in
    short_once c.args.bytes.now c.args.at _ x rest (short_slice c.args.bytes.now c.args.at _ (c.from_be_bytes.ensures ∙ ap (from_be_bytes w16) chunk.same)) fits here
