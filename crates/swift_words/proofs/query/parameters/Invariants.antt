use Rattle.std.proofs.Common.{◌≡◌, length, drop}
use Rattle.swift_words.specs.Queries.{pieces_of, pieces_fault}
use Rattle.swift_words.specs.SentValues.{LeadsTo}
use Rattle.swift_words.proofs.query.parameters.Given as goal

abbrev pub invariant-loop-piece : goal.invariant-loop-piece
invariant-loop-piece l =
    let left = drop (length l.yielded) (pieces_of l.query) in
    record {
      fault : pieces_fault left ≡ pieces_fault (pieces_of l.query);
      values : LeadsTo l.sent left (pieces_of l.query);
    }
