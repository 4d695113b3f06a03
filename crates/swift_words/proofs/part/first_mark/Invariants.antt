use Rattle.std.proofs.Common.{◌≡◌, ◌+◌, ◌==◌, drop}
use Rattle.std.specs.List.{position_or_len}
use Rattle.swift_words.proofs.part.first_mark.Given as goal

abbrev pub invariant-loop-at : goal.invariant-loop-at
invariant-loop-at l =
    l.at + position_or_len (λ b. b == l.mark) (drop l.at l.bytes) ≡ position_or_len (λ b. b == l.mark) l.bytes
