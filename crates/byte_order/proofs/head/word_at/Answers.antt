use Rattle.std.proofs.Common.{◌+◌, ◌-◌, take, drop, ap, ◌∙◌, arith}
use Rattle.std.specs.Int.{w64, from_be_bytes}
use Rattle.std.specs.Array.{IsWholeChunk}
use Rattle.byte_order.proofs.WordLemmas.{word_at}
use Rattle.byte_order.proofs.head.word_at.Goals as goal

pub returns : goal.returns
returns c =
    let chunk : IsWholeChunk (take (c.args.at + 8 - c.args.at) (drop c.args.at c.args.bytes.now)) c.unwrap.result.now 8 = rw c.unwrap.ensures at c.as_array.ensures.cases in
    word_at c.args.bytes.now c.args.at _ (λ i. omega (arith, c.type_inv.bytes i)) (c.from_be_bytes.ensures ∙ ap (from_be_bytes w64) chunk.same)
