use Rattle.std.proofs.Common.{◌≡◌, true, nat_le, rules, tests, arith}
use Rattle.std.proofs.lemmas.Bool.Decides.{nat_tests}
use Rattle.std.proofs.lemmas.Iterator.Consumers.{YieldsList-from_rest}
use Rattle.std.proofs.lemmas.Iterator.Search.{all_from_yields_List}
use Rattle.swift_requests.specs.Metadata.{most_pairs, is_within}
use Rattle.swift_requests.specs.Changes.{set_count}
use Rattle.swift_requests.proofs.changes.SentChanges.are_within_limits.Goals as goal

pub returns-then-set_count-le-MOST_PAIRS : goal.returns-then-set_count-le-MOST_PAIRS
returns-then-set_count-le-MOST_PAIRS c =
    let few : nat_le (set_count c.args.self.now) most_pairs ≡ true = grind (arith, nat_tests) in
    rw few
    (all_from_yields_List is_within _ _ c.all.result c.all.ensures.ran
    (YieldsList-from_rest c.args.self.now cc) (λ x b q k. search (rules, tests)))
