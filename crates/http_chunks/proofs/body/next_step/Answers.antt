use Rattle.std.proofs.Common.{refl, inl, inr}
use Rattle.std.proofs.lemmas.Bool.{false≢true}
use Rattle.http_chunks.proofs.Bodies.{opens_last}
use Rattle.http_chunks.proofs.body.next_step.Goals as goal

pub returns-in-Long : goal.returns-in-Long
returns-in-Long c =
    let last = opens_last c.args.behind c.args.bytes.now c.in-Size.after.now c.in-Size.size c.in-Size.ensures.0 c.if-size-gt0.false in
    (inr (inr (c.in-Size.after.now, last, inl c.in-Long.ensures)), refl)

pub returns-else-are_trailers : goal.returns-else-are_trailers
returns-else-are_trailers c =
    let last = opens_last c.args.behind c.args.bytes.now c.in-Size.after.now c.in-Size.size c.in-Size.ensures.0 c.if-size-gt0.false in
    (inr (inr (c.in-Size.after.now, last, inr (c.in-Text.text.now, c.in-Text.rest.now, c.in-Text.ensures, λ are. false≢true (c.if-are_trailers.ensures.1 are)))), refl)
