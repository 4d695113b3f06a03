use Rattle.std.proofs.lemmas.Str.{IsUtf8-from_is_utf8}
use Rattle.swift_requests.proofs.Texts.{text_value}
use Rattle.swift_requests.proofs.changes.text_of.Goals as goal

pub from_utf8-requires : goal.from_utf8-requires
from_utf8-requires c =
    IsUtf8-from_is_utf8 c.in-Some.value.now
    (text_value _ c.in-Some.value.now (rw c.as_slice.ensures at c.in-Some.ensures) c.requires)
