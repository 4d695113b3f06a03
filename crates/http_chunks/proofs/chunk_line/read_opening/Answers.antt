use Rattle.http_chunks.proofs.Sizes.{first_opens, first_opens_none, next_opens, next_opens_none}
use Rattle.http_chunks.proofs.chunk_line.read_opening.Goals as goal

pub returns-then-not-behind-clause-size : goal.returns-then-not-behind-clause-size
returns-then-not-behind-clause-size c = rw c.if-not-behind.true (first_opens c.args.text.now c.read_size.result c.read_size.ensures.size)

pub returns-then-not-behind-clause-none : goal.returns-then-not-behind-clause-none
returns-then-not-behind-clause-none c = rw c.if-not-behind.true (first_opens_none c.args.text.now c.read_size.result c.read_size.ensures.none)

pub returns-in-Some-clause-size : goal.returns-in-Some-clause-size
returns-in-Some-clause-size c =
    rw c.if-not-behind.false
    (next_opens c.args.text.now c.in-Some.line.now c.read_size-in-Some.result c.in-Some.ensures.found c.read_size-in-Some.ensures.size)

pub returns-in-Some-clause-none : goal.returns-in-Some-clause-none
returns-in-Some-clause-none c =
    rw c.if-not-behind.false
    (next_opens_none c.args.text.now c.in-Some.line.now c.read_size-in-Some.result c.in-Some.ensures.found c.read_size-in-Some.ensures.none)
