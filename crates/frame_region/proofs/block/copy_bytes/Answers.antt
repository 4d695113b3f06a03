use Rattle.std.proofs.Common.{◌≡◌, ℕ, ◌+◌, ◌-◌, List, take, drop, ap, ap₂, ◌∙◌, arith}
use Rattle.frame_region.specs.Region.{overwritten}
use Rattle.frame_region.proofs.Copies.{piece_more}
use Rattle.frame_region.proofs.block.copy_bytes.Goals as goal

pub loop-done-preserved : goal.loop-done-preserved
loop-done-preserved c =
    let old = c.args.to.now in
    let from = c.args.from.now in
    let done = c.loop-done.done in
    record {
      within = omega arith;
      copied = c.put_array_at.ensures ∙ ap₂ (λ (to piece : List ℕ). overwritten to (c.args.at + done) piece) c.loop-done.invariant.copied c.array_at-piece.ensures
          ∙ piece_more old from c.args.at c.args.start done 1024 (omega arith) (omega arith);
    }

pub returns : goal.returns
returns c =
    let old = c.args.to.now in
    let from = c.args.from.now in
    let done = c.loop-done.done in
    let rest : done + (c.args.count - done) ≡ c.args.count = omega arith in
    c.copy_rest.ensures ∙ ap (λ to. overwritten to (c.args.at + done) (take (c.args.count - done) (drop (c.args.start + done) from))) c.loop-done.invariant.copied
    ∙ piece_more old from c.args.at c.args.start done (c.args.count - done) (omega arith) (omega arith)
    ∙ ap (λ n. overwritten old c.args.at (take n (drop c.args.start from))) rest
