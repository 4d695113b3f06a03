use Rattle.std.proofs.Common.{length}
use Rattle.http_chunks.proofs.Bodies.{Went}
use Rattle.http_chunks.proofs.body.read_chunked.Given as goal

abbrev pub invariant-chunks : goal.invariant-chunks
invariant-chunks l = Went l.largest l.bytes l.behind l.room l.rest l.content

abbrev pub decreases-chunks : goal.decreases-chunks
decreases-chunks l = length l.rest
