use Rattle.std.proofs.Common.{inr, subst}
use Rattle.http_chunks.specs.Chunks.{IsNoOpening}
use Rattle.http_intake.proofs.Chunks.{opens_none}
use Rattle.http_intake.proofs.next_chunk.take_opening.Goals as goal

pub returns-in-None-read_opening-clause-opening : goal.returns-in-None-read_opening-clause-opening
returns-in-None-read_opening-clause-opening g c =
    let read = c.find_end.ensures.read in
    let found = rw c.in-Some.is at c.in_ok-find_end.ensures.found in
    let none = opens_none c.args.behind c.opening.result c.opening_limit.result c.in-Some.len c.find_end.new.buffer c.as_slice.result.now
    c.opening.ensures c.opening_limit.ensures c.as_slice.ensures found c.in-None-read_opening.ensures.none in
    (read.0, read.1, inr (subst (IsNoOpening c.args.behind) read.2 none))
