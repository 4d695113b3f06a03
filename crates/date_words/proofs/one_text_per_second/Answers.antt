use Rattle.std.proofs.Common.{◌∙◌, sym, ap, subst}
use Rattle.date_words.specs.HttpDate.{IsDateOfSecond, http_date}
use Rattle.date_words.proofs.TextLemmas.{date_text_is, has_date, is_before_year_10000, parse_secs-http_date}
use Rattle.date_words.proofs.one_text_per_second.Goals as goal

pub returns-clause-text : goal.returns-clause-text
returns-clause-text c seconds text = (
  λ shows.
      (rw shows.1 at (is_before_year_10000 shows.0), shows.2 ∙ date_text_is shows.0 ∙ ap http_date shows.1),
  λ is. subst (IsDateOfSecond seconds) (sym is.1) (has_date seconds is.0),
)

pub returns-clause-read : goal.returns-clause-read
returns-clause-read c seconds h = parse_secs-http_date seconds h
