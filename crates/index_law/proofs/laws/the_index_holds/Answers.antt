use Rattle.index_law.proofs.Consequences.{holds_at, stamps_at, shards_at}
use Rattle.realm_model.specs.Worlds.{start}
use Rattle.realm_model.proofs.Runs.{legal_front}
use Rattle.index_law.proofs.HoldEvents.{holds_in}
use Rattle.index_law.proofs.laws.the_index_holds.Goals as goal

pub returns-clause-tables : goal.returns-clause-tables
returns-clause-tables c = holds_at

pub returns-clause-stamps : goal.returns-clause-stamps
returns-clause-stamps c = stamps_at

pub returns-clause-shards : goal.returns-clause-shards
returns-clause-shards c = shards_at

pub returns-clause-holds : goal.returns-clause-holds
returns-clause-holds c settings history later good legal = holds_in settings history good (legal_front settings (start settings) history later legal)
