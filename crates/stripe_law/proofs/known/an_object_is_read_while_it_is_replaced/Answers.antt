use Rattle.std.proofs.Common.{[], refl, arith}
use Rattle.stripe_law.specs.ReplacedMeanwhile.{between, tail}
use Rattle.stripe_law.proofs.known.an_object_is_read_while_it_is_replaced.Goals as goal

pub returns-clause-pieces : goal.returns-clause-pieces
returns-clause-pieces c = (
  record { of_head = λ zero. refl; of_tail = λ low. absurd (omega (arith, low)) },
  (
    record {
      of_head = λ zero. absurd (omega (arith, zero));
      of_tail = λ low. record { earlier = between; event = tail; rest = []; stands = refl; op = refl; reply = refl };
    },
    tt,
  ),
)
