use Rattle.std.proofs.Common.{◌≡◌, [], drop}
use Rattle.swift_requests.specs.Changes.{with_fields}
use Rattle.swift_requests.proofs.changes.SentChanges.read.Given as goal

abbrev pub invariant-loop-field : goal.invariant-loop-field
invariant-loop-field l = with_fields l.pairs.entries (drop l.field-index l.fields) ≡ with_fields [] l.fn.fields
