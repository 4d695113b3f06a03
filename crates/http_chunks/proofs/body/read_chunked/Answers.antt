use Rattle.std.proofs.Common.{false, true, ◌-◌, length, sym, subst}
use Rattle.http_chunks.proofs.Bodies.{Went, went_start, went_more, went_end, shorter}
use Rattle.http_chunks.proofs.body.read_chunked.Goals as goal

pub chunks-init : goal.chunks-init
chunks-init c = subst (Went c.args.largest c.args.bytes.now false c.args.largest c.args.bytes.now) (sym c.new-content.ensures) (went_start c.args.largest c.args.bytes.now)

pub returns-in-Over : goal.returns-in-Over
returns-in-Over c = went_end c.args.largest c.args.bytes.now c.chunks.behind c.chunks.room c.chunks.rest.now c.chunks.content c.in-Over.end c.in-Over.rest.now c.chunks.invariant c.in-Over.ensures

pub chunks-smaller : goal.chunks-smaller
chunks-smaller c = shorter c.chunks.behind c.chunks.rest.now c.in-Chunk.chunk.now c.in-Chunk.next.now c.in-Chunk.ensures.0 c.in-Chunk.ensures.1

pub chunks-preserved : goal.chunks-preserved
chunks-preserved c =
    subst (Went c.args.largest c.args.bytes.now true (c.chunks.room - length c.in-Chunk.chunk.now) c.in-Chunk.next.now) (sym c.in_ok-extend-in-Chunk.ensures.ok)
    (went_more c.args.largest c.args.bytes.now c.chunks.behind c.chunks.room c.chunks.rest.now c.chunks.content c.in-Chunk.chunk.now c.in-Chunk.next.now
    c.chunks.invariant c.in-Chunk.ensures.0 c.in-Chunk.ensures.1 c.in-Chunk.ensures.2)
