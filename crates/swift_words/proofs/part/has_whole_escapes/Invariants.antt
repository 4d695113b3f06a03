use Rattle.std.proofs.Common.{◌≡◌, drop}
use Rattle.swift_words.specs.Parts.{has_whole_escapes}
use Rattle.swift_words.proofs.part.has_whole_escapes.Given as goal

abbrev pub invariant-loop-at : goal.invariant-loop-at
invariant-loop-at l = has_whole_escapes (drop l.at l.bytes) ≡ has_whole_escapes l.bytes
