use Rattle.std.proofs.Common.{ap, arith}
use Rattle.omap_pages.specs.Leaves.{flat}
use Rattle.omap_pages.proofs.CellLemmas.{readied}
use Rattle.omap_pages.proofs.omap.Omap.reserve.Goals as goal

pub returns-in_err-reserve-clause-readied : goal.returns-in_err-reserve-clause-readied
returns-in_err-reserve-clause-readied c = readied (flat c.self.inside.leaves.leaves) c.self.inside.spares c.args.self.now c.self.view_is (flat c.reserve.new.self.leaves) c.self.inside.spares (ap flat c.reserve.ensures.leaves) (omega arith) c.self.invariant.0

pub returns-in_err-reserve-2-clause-readied : goal.returns-in_err-reserve-2-clause-readied
returns-in_err-reserve-2-clause-readied c = readied (flat c.self.inside.leaves.leaves) c.self.inside.spares c.args.self.now c.self.view_is (flat c.reserve.new.self.leaves) c.reserve-2.new.self (ap flat c.reserve.ensures.leaves) (omega (arith, c.in_err-reserve-2.ensures.err)) c.self.invariant.0

pub returns-clause-readied : goal.returns-clause-readied
returns-clause-readied c = readied (flat c.self.inside.leaves.leaves) c.self.inside.spares c.args.self.now c.self.view_is (flat c.reserve.new.self.leaves) c.reserve-2.new.self (ap flat c.reserve.ensures.leaves) (omega (arith, c.in_ok-reserve-2.ensures.ok)) c.self.invariant.0
