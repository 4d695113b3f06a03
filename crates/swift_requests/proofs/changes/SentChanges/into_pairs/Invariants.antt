use Rattle.std.proofs.Common.{◌≡◌, true, ◌++◌}
use Rattle.swift_requests.specs.Metadata.{are_texts}
use Rattle.swift_requests.proofs.changes.SentChanges.into_pairs.Given as goal

abbrev pub invariant-loop-name : goal.invariant-loop-name
invariant-loop-name l =
    (goal.iterator-loop-name).can_next l.name-iterator ×
    (goal.iterator-loop-name).is_finite l.name-iterator
    × (l.texts.items ++ l.name-iterator ≡ l.fn.self) × (are_texts l.name-iterator ≡ true)
