use Rattle.std.proofs.Common.{arith, ◌<◌, [], ◌∷◌}
use Rattle.swift_reply.specs.Moments.{clock_text}
use Rattle.swift_reply.proofs.Ascii.{AreBelow, cells_are_ascii}
use Rattle.swift_reply.proofs.moment.digits.Goals as goal

pub returns-clause-text : goal.returns-clause-text
unfolding clock_text
returns-clause-text c = cc

pub returns-clause-ascii : goal.returns-clause-ascii
returns-clause-ascii c =
    let dash : 45 < 128 = omega arith in
    let letter : 84 < 128 = omega arith in
    let colon : 58 < 128 = omega arith in
    let dot : 46 < 128 = omega arith in
    let cells = c.high.result ∷ c.low.result ∷ c.high-2.result ∷ c.low-2.result ∷ 45 ∷ c.high-3.result ∷ c.low-3.result ∷ 45 ∷ c.high-4.result ∷ c.low-4.result ∷ 84 ∷ c.high-5.result ∷ c.low-5.result ∷ 58 ∷ c.high-6.result ∷ c.low-6.result ∷ 58 ∷ c.high-7.result ∷ c.low-7.result ∷ 46 ∷ c.high-8.result ∷ c.low-8.result ∷ c.high-9.result ∷ c.low-9.result ∷ c.high-10.result ∷ c.low-10.result ∷ [] in
    let below : AreBelow cells =
    (c.high.ensures.bound, (c.low.ensures.bound, (c.high-2.ensures.bound, (c.low-2.ensures.bound, (dash, (c.high-3.ensures.bound, (c.low-3.ensures.bound, (dash, (c.high-4.ensures.bound, (c.low-4.ensures.bound, (letter, (c.high-5.ensures.bound, (c.low-5.ensures.bound, (colon, (c.high-6.ensures.bound, (c.low-6.ensures.bound, (colon, (c.high-7.ensures.bound, (c.low-7.ensures.bound, (dot, (c.high-8.ensures.bound, (c.low-8.ensures.bound, (c.high-9.ensures.bound, (c.low-9.ensures.bound, (c.high-10.ensures.bound, (c.low-10.ensures.bound, tt)))))))))))))))))))))))))) in
    cells_are_ascii cells below
