use Rattle.std.proofs.Common.{◌%◌, ◌/◌, ◌++◌, ap, ◌∙◌, arith, w16, codes, List, ℕ}
use Rattle.std.specs.Prelude.{unsigned_abs}
use Rattle.jiff_core.proofs.SignedLemmas.{signed_arith, back_small}
use Rattle.swift_reply.specs.Moments.{day_text, clock_text}
use Rattle.swift_reply.proofs.Days.{date_parts, day_text_is, same_digits}
use Rattle.swift_reply.proofs.moment.moment_digits.Goals as goal

pub returns-clause-text : goal.returns-clause-text
returns-clause-text c =
    let moment = c.min-moment.result in
    let date = c.date_of-date.result in
    let p = date_parts (moment / 86400000000) date (omega (arith, c.min-moment.ensures)) c.date_of-date.ensures in
    let year = c.from.ensures ∙ c.unsigned_abs.ensures.value ∙ ap unsigned_abs (back_small w16 date.year (omega (arith, signed_arith, date.year_in)) ∙ p.0) in
    c.digits.ensures.text
    ∙ ap (λ (t : List ℕ). t ++ codes "T" ++ clock_text (moment % 86400000000)) (same_digits _ _ _ _ _ _ year (c.from-2.ensures ∙ p.1) (c.from-3.ensures ∙ p.2) ∙ day_text_is (moment / 86400000000))
    ∙ ap (λ (m : ℕ). day_text (m / 86400000000) ++ codes "T" ++ clock_text (m % 86400000000)) c.min-moment.ensures
