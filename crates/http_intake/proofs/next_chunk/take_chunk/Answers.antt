use Rattle.std.proofs.Common.{arith}
use Rattle.http_intake.proofs.Chunks.{last_on, last_off}
use Rattle.http_intake.proofs.next_chunk.take_chunk.Goals as goal

pub returns-in-Ok-take_trailers-clause-chunk : goal.returns-in-Ok-take_trailers-clause-chunk
returns-in-Ok-take_trailers-clause-chunk g c =
    last_on c.args.behind c.args.room _ (g.S.Source.left c.take_opening.new.source) _ c.args.buffer.now c.take_opening.new.buffer c.take_trailers.new.buffer c.in-Ok-eq0.field-0
    (omega (arith, c.in-Ok-eq0.field-0-test)) c.in-Ok-eq0.ensures.opening c.in-Ok-take_trailers.ensures.trailers

pub returns-in-Err-take_trailers-clause-chunk : goal.returns-in-Err-take_trailers-clause-chunk
returns-in-Err-take_trailers-clause-chunk g c =
    last_off c.args.behind c.args.room _ (g.S.Source.left c.take_opening.new.source) _ c.args.buffer.now c.take_opening.new.buffer c.in-Ok-eq0.field-0 c.in-Err-take_trailers.fault
    (omega (arith, c.in-Ok-eq0.field-0-test)) c.in-Ok-eq0.ensures.opening c.in-Err-take_trailers.ensures.trailers
