use Rattle.std.proofs.Common.{◌≡◌, ◌∙◌, map, rules}
use Rattle.swift_words.specs.Queries.{blank_for_plus}
use Rattle.swift_words.proofs.query.read_value.Goals as goal

pub returns-clause-err : goal.returns-clause-err
returns-clause-err c =
    let made : c.in_ok-blanks.blanks.items ≡ map blank_for_plus c.args.value.now = search rules in
    rw (c.deref.ensures.value ∙ made) at c.read_word-2.ensures.err
