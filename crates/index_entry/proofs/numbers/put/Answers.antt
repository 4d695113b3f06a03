use Rattle.std.proofs.Common.{arith}
use Rattle.index_entry.proofs.PieceLemmas.{all_fit}
use Rattle.index_entry.proofs.numbers.put.Goals as goal

pub returns-clause-fits : goal.returns-clause-fits
returns-clause-fits c = all_fit c.args.piece.now (λ i. omega (arith, c.type_inv.piece i))
