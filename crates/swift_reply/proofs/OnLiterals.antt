use Rattle.std.specs.Prelude.{⊤}
use Rattle.std.specs.Fmt.{digits}
use Rattle.hex.proofs.OnLiterals.{hex_on_literals}
use Rattle.date_words.proofs.OnLiterals.{date_words_on_literals}
use Rattle.serde_json.proofs.OnLiterals.{serde_json_on_literals}
use Rattle.http_model.specs.Replies.{phrase_of, head_text, text_of, bad_request_text}
use Rattle.swift_reply.specs.Moments.{day_text, clock_text}
use Rattle.swift_reply.specs.Replies.{reply_text, continue_text}

-- what an answer unfolds to compute a reply's text on literals
unfoldable pub swift_replies_on_literals : ⊤
unfolding digits hex_on_literals date_words_on_literals serde_json_on_literals phrase_of head_text text_of bad_request_text day_text clock_text reply_text continue_text
swift_replies_on_literals = tt
