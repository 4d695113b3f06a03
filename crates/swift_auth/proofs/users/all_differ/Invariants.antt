use Rattle.std.proofs.Common.{take}
use Rattle.swift_auth.proofs.Differing.{texts_at, AreSeen}
use Rattle.swift_auth.proofs.users.all_differ.Given as goal

abbrev pub invariant-loop-text : goal.invariant-loop-text
invariant-loop-text l = AreSeen (texts_at (take l.text-index l.texts)) l.seen
