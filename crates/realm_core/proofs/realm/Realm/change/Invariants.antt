use Rattle.realm_core.specs.Answers.{event_of}
use Rattle.realm_core.proofs.realm.Realm.change.Given as goal

-- the event of the operation
abbrev pub ghosts-note : goal.ghosts-note
ghosts-note a = record { event = event_of a.actor.now a.op.now a.moment a.reply.now }
