use Rattle.std.specs.Prelude.{⊤}
use Rattle.date_words.specs.Civil.{span_at, year_at, month_at, civil_of}
use Rattle.date_words.specs.HttpDate.{parts_of, http_date}

-- what an answer unfolds to compute this crate's specs on a literal
unfoldable pub date_words_on_literals : ⊤
unfolding span_at year_at month_at civil_of parts_of http_date
date_words_on_literals = tt
