use Rattle.std.proofs.lemmas.Str.{IsUtf8-from_ascii}
use Rattle.swift_reply.proofs.Ascii.{reads_as_text}
use Rattle.swift_reply.proofs.listing.text_of.Goals as goal

pub unwrap-requires : goal.unwrap-requires
unwrap-requires c = reads_as_text _ _ _ c.from_utf8.result (IsUtf8-from_ascii _ c.requires) c.from_utf8.ensures.cases
