use Rattle.std.proofs.Common.{◌∙◌, ap, length, rules, tests}
use Rattle.std.specs.Prelude.{unwrap_or}
use Rattle.std.proofs.lemmas.Iterator.{YieldsList-from_slice}
use Rattle.std.proofs.lemmas.Iterator.Search.{position_from_yields_List}
use Rattle.swift_requests.specs.Ranges.{is_dash}
use Rattle.swift_requests.proofs.Numbers.{place_or_end}
use Rattle.swift_requests.proofs.range.dash_at.Goals as goal

pub returns : goal.returns
returns c =
    let at = position_from_yields_List is_dash _ _ c.position-at.result c.position-at.ensures.ran (YieldsList-from_slice c.args.text.now cc) (λ x b q k. search (rules, tests)) in
    c.unwrap_or.ensures ∙ ap (λ place. unwrap_or place (length c.args.text.now)) at ∙ place_or_end is_dash c.args.text.now
