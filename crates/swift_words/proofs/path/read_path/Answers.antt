use Rattle.std.proofs.Common.{◌∙◌, ap}
use Rattle.swift_words.specs.Targets.{named_by}
use Rattle.swift_words.proofs.NameLemmas.{names_of_path}
use Rattle.swift_words.proofs.path.read_path.Goals as goal

pub returns-clause-names : goal.returns-clause-names
returns-clause-names c =
    rw (c.in_ok-named_by.ensures ∙ ap named_by c.in_ok-words.ensures.ok.1) (names_of_path _ c.in_ok-words.ensures.ok.0)
