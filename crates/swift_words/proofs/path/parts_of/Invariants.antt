use Rattle.std.proofs.Common.{◌≡◌, ◌-◌, ◌++◌, length, map}
use Rattle.swift_words.specs.Targets.{parts_within}
use Rattle.swift_words.proofs.path.parts_of.Given as goal

abbrev pub invariant-loop-rest : goal.invariant-loop-rest
invariant-loop-rest l =
    map (λ part. part.now) l.parts.items ++ parts_within (4 - length l.parts.items) l.rest ≡ parts_within 4 l.path

abbrev pub decreases-loop-rest : goal.decreases-loop-rest
decreases-loop-rest l = 4 - length l.parts.items
