use Rattle.std.specs.Prelude.{⊤}
use Rattle.std.specs.Char.{encode_utf8}
use Rattle.std.specs.Str.{chars, is_utf8}
use Rattle.percent_encoding.proofs.OnLiterals.{percent_encoding_on_literals}
use Rattle.swift_words.specs.Parts.{has_whole_escapes, word_fault, is_name}
use Rattle.swift_words.specs.Queries.{pieces_fault, is_limit, query_fault, query_of}
use Rattle.swift_words.specs.Targets.{parts_within, named_by, parts_fault, target_fault, target_of, asked_by}
use Rattle.swift_words.specs.Places.{place_fault, place_of}

-- what an answer unfolds to compute this crate's specs on a literal
unfoldable pub swift_words_on_literals : ⊤
unfolding percent_encoding_on_literals encode_utf8 chars is_utf8 has_whole_escapes word_fault is_name pieces_fault is_limit query_fault query_of parts_within named_by parts_fault target_fault target_of asked_by place_fault place_of
swift_words_on_literals = tt
