use Rattle.std.proofs.lemmas.Str.{IsUtf8-from_is_utf8}
use Rattle.swift_requests.proofs.Refusals.{kind_text, short_kind}
use Rattle.swift_requests.proofs.Texts.{text_value}
use Rattle.swift_requests.proofs.command.kind.Goals as goal

pub from_utf8-requires : goal.from_utf8-requires
from_utf8-requires c =
    IsUtf8-from_is_utf8 c.in-Some.value.now
    (text_value _ c.in-Some.value.now (rw c.as_slice.ensures at c.in-Some.ensures) (kind_text c.args.head.now c.requires.texts))

pub unwrap-requires : goal.unwrap-requires
unwrap-requires c =
    c.new.ensures.limits.1
    (rw c.in_ok-text-in-Some.ensures (short_kind c.args.head.now c.in-Some.value.now c.requires.sizes (rw c.as_slice.ensures at c.in-Some.ensures)))
