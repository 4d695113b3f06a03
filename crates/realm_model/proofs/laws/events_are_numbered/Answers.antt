use Rattle.std.proofs.Common.{arith}
use Rattle.realm_model.specs.Worlds.{start}
use Rattle.realm_model.proofs.Runs.{count_from, clock_from}
use Rattle.realm_model.proofs.laws.events_are_numbered.Goals as goal

pub returns-clause-count : goal.returns-clause-count
returns-clause-count c settings history = let sum = count_from settings (start settings) history in omega (arith, sum)

pub returns-clause-clock : goal.returns-clause-clock
returns-clause-clock c settings history = clock_from settings (start settings) history
