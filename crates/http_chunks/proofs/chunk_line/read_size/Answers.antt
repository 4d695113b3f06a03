use Rattle.http_chunks.proofs.Sizes.{no_more}
use Rattle.http_chunks.proofs.chunk_line.read_size.Goals as goal

pub returns-else-len-line-clause-none : goal.returns-else-len-line-clause-none
returns-else-len-line-clause-none c =
    let complete = rw c.in-Ok-Complete.field-0-is at c.in-Ok-Complete.ensures.complete in
    no_more c.args.line.now c.in-Ok-Complete.len c.in-Ok-Complete.size complete.0 complete.1 c.if-len-line.false
