use Rattle.std.proofs.Common.{map, rules, tests}
use Rattle.std.specs.Str.{is_utf8}
use Rattle.std.proofs.lemmas.Iterator.Consumers.{YieldsList-from_rest}
use Rattle.std.proofs.lemmas.Iterator.Search.{all_from_yields_List}
use Rattle.swift_requests.proofs.changes.SentChanges.are_texts.Goals as goal

pub returns : goal.returns
returns c =
    all_from_yields_List is_utf8 _ _ c.all.result c.all.ensures.ran
    (YieldsList-from_rest (map (λ entry. entry.1) c.args.self.now) cc) (λ x b q k. search (rules, tests))
