use Rattle.std.proofs.Common.{◌≡◌, [], ◌++◌, map, drop}
use Rattle.percent_encoding.specs.Percent.{percent_decode}
use Rattle.swift_words.specs.Targets.{parts_fault}
use Rattle.swift_words.proofs.path.words_of.Given as goal

abbrev pub invariant-loop-part : goal.invariant-loop-part
invariant-loop-part l =
    let left = map (λ part. part.now) (drop l.part-index l.parts) in
    let sent = map (λ part. part.now) l.parts in
    record {
      fault : parts_fault l.words.items left ≡ parts_fault [] sent;
      words : l.words.items ++ map percent_decode left ≡ map percent_decode sent;
    }
