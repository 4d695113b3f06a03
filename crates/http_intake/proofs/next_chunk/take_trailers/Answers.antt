use Rattle.std.proofs.Common.{inl, subst}
use Rattle.http_chunks.specs.Chunks.{AreLongTrailers}
use Rattle.http_intake.specs.declared.fault.IntakeFault.TheVariants.{BadChunk}
use Rattle.http_intake.proofs.Chunks.{other_fault}
use Rattle.http_intake.proofs.next_chunk.take_trailers.Goals as goal

pub returns-in-None-clause-trailers : goal.returns-in-None-clause-trailers
returns-in-None-clause-trailers g c =
    let read = c.find_end.ensures.read in
    let found = rw c.in-None.is at c.in_ok-find_end.ensures.found in
    (read.0, read.1, inl (subst AreLongTrailers read.2 found))

pub returns-in-None-clause-cause : goal.returns-in-None-clause-cause
returns-in-None-clause-cause g c = other_fault _ _ BadChunk (c.in_ok-find_end.ensures.cause.kept (λ e. cc)) (λ e. cc)
