use Rattle.std.proofs.Common.{arith}
use Rattle.manifest.proofs.CoverLemmas.{whole_length}
use Rattle.manifest.proofs.RangeLemmas.{whole_parts}
use Rattle.manifest.proofs.laws.whole_objects_are_all_their_parts.Goals as goal

pub returns-clause-parts : goal.returns-clause-parts
returns-clause-parts c m is = whole_parts m

pub returns-clause-size : goal.returns-clause-size
returns-clause-size c m is = whole_length m (omega (arith, is.stripe_low))
