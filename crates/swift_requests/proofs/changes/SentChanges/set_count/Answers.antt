use Rattle.std.proofs.Common.{◌∙◌, map, rules, tests}
use Rattle.std.proofs.lemmas.Iterator.Consumers.{YieldsList-from_rest, YieldsList-from_filter, count_from_yields_List}
use Rattle.std.proofs.lemmas.List.Sums.{length-filter}
use Rattle.swift_requests.specs.Changes.{is_set}
use Rattle.swift_requests.proofs.changes.SentChanges.set_count.Goals as goal

pub returns : goal.returns
returns c =
    count_from_yields_List _ c.count.result c.count.ensures.ran
    (YieldsList-from_filter _ is_set (YieldsList-from_rest (map (λ entry. entry.1) c.args.self.now) cc) c.filter.ensures.closure (λ x b q k. search (rules, tests)))
    ∙ length-filter is_set (map (λ entry. entry.1) c.args.self.now)
