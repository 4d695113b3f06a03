use Rattle.std.proofs.Common.{◌≡◌, ℕ, List, Some, None, map, ap, ◌∙◌, subst}
use Rattle.script_words.specs.Lines.{words_of}
use Rattle.script_words.specs.Reading.{line_in}
use Rattle.script_words.proofs.LinesSay.{line_means, no_meaning}
use Rattle.script_words.proofs.reading.read_line.Goals as goal

pub returns-in-Ok-clause-some : goal.returns-in-Ok-clause-some
returns-in-Ok-clause-some c =
    let words = ap (map (λ word. word.now)) c.as_slice.ensures.value ∙ c.in_ok-words.ensures in
    line_means c.args.zones (words_of c.args.line.now) c.in-Ok.asked
    (subst (λ (w : List (List ℕ)). line_in c.args.zones w ≡ Some c.in-Ok.asked) words c.in-Ok.ensures)

pub returns-in-Err-Bad-clause-none : goal.returns-in-Err-Bad-clause-none
returns-in-Err-Bad-clause-none c =
    let words = ap (map (λ word. word.now)) c.as_slice.ensures.value ∙ c.in_ok-words.ensures in
    λ _. no_meaning c.args.zones c.args.line.now
    (subst (λ (w : List (List ℕ)). line_in c.args.zones w ≡ None) words (rw c.in-Err-Bad.field-0-is at c.in-Err-Bad.ensures))
