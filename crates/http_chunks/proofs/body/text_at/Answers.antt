use Rattle.std.proofs.Common.{sym, subst₂, arith, ◌≤◌}
use Rattle.http_chunks.specs.Scans.{BeginsWithText}
use Rattle.http_chunks.proofs.Bodies.{split_begins}
use Rattle.http_chunks.proofs.body.text_at.Goals as goal

pub split_at-requires : goal.split_at-requires
split_at-requires c =
    let few : c.min.result ≤ c.args.limit = omega (arith, c.min.ensures) in
    (split_begins c.args.place c.args.limit c.min.result c.in-Here.len c.args.bytes.now few (sym c.in-Here.ensures)).0

pub returns-in-Here : goal.returns-in-Here
returns-in-Here c =
    let few : c.min.result ≤ c.args.limit = omega (arith, c.min.ensures) in
    subst₂ (BeginsWithText c.args.place c.args.limit c.args.bytes.now) (sym c.split_at.ensures.front) (sym c.split_at.ensures.back)
    (split_begins c.args.place c.args.limit c.min.result c.in-Here.len c.args.bytes.now few (sym c.in-Here.ensures)).1
