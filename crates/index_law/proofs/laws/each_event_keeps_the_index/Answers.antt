use Rattle.index_law.proofs.Keeping.{starts, keeps}
use Rattle.index_law.proofs.Stamping.{given_next}
use Rattle.index_law.proofs.Shards.{serves_next}
use Rattle.index_law.proofs.HoldEvents.{holds_start, holds_next}
use Rattle.index_law.proofs.laws.each_event_keeps_the_index.Goals as goal

pub returns-clause-start : goal.returns-clause-start
returns-clause-start c = starts

pub returns-clause-tables : goal.returns-clause-tables
returns-clause-tables c settings w e good j next = keeps settings good w j e next

pub returns-clause-stamps : goal.returns-clause-stamps
returns-clause-stamps c = given_next

pub returns-clause-shards : goal.returns-clause-shards
returns-clause-shards c = serves_next

pub returns-clause-free : goal.returns-clause-free
returns-clause-free c = holds_start

pub returns-clause-holds : goal.returns-clause-holds
returns-clause-holds c settings w e good j h next = holds_next settings good w j h e next
