use Rattle.std.proofs.Common.{◌≡◌, ℕ, List, true, sym, ◌∙◌, ap, subst}
use Rattle.list_words.specs.Listings.{is_before}
use Rattle.list_words.proofs.Keys.{above_low}
use Rattle.list_words.proofs.Commands.{marker_copy}
use Rattle.list_words.proofs.command.ListCommand.start.Goals as goal

pub returns-then-is_before-2 : goal.returns-then-is_before-2
returns-then-is_before-2 c =
    let k = c.args.self.now in
    let below = ap (λ p. is_before c.in_ok-below.below p) (sym c.as_str-then-is_before-2.ensures) ∙ ap (λ t. is_before t c.as_str-then-is_before-2.result.now) (sym c.as_str-then-is_before.ensures) ∙ (sym c.is_before-then-is_before.ensures ∙ c.if-is_before-2.true) in
    λ name scope. above_low k c.in_ok-below.below name below scope

pub returns-else-is_before : goal.returns-else-is_before
returns-else-is_before c = marker_copy c.args.self.now c.clone.result c.clone.ensures.cases
