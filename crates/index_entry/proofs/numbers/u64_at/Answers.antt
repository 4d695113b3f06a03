use Rattle.std.proofs.Common.{◌+◌, ◌-◌, take, drop, ap, ◌∙◌, arith}
use Rattle.std.specs.Int.{w64, from_be_bytes}
use Rattle.std.specs.Array.{IsWholeChunk}
use Rattle.index_entry.proofs.PieceLemmas.{number_read, number_once, number_slice}
use Rattle.index_entry.proofs.numbers.u64_at.Goals as goal

pub returns-clause-read : goal.returns-clause-read
returns-clause-read c =
    let chunk : IsWholeChunk (take (c.args.at + 8 - c.args.at) (drop c.args.at c.args.bytes.now)) c.unwrap.result.now 8 = rw c.unwrap.ensures at c.as_array.ensures.cases in
    number_read c.args.bytes.now c.args.at _ (λ i. omega (arith, c.type_inv.bytes i)) c.requires (number_slice c.args.bytes.now c.args.at _ (c.from_be_bytes.ensures ∙ ap (from_be_bytes w64) chunk.same))

pub returns-clause-once : goal.returns-clause-once
returns-clause-once c x rest fits here =
    let chunk : IsWholeChunk (take (c.args.at + 8 - c.args.at) (drop c.args.at c.args.bytes.now)) c.unwrap.result.now 8 = rw c.unwrap.ensures at c.as_array.ensures.cases in
    number_once c.args.bytes.now c.args.at _ x rest (number_slice c.args.bytes.now c.args.at _ (c.from_be_bytes.ensures ∙ ap (from_be_bytes w64) chunk.same)) fits here
