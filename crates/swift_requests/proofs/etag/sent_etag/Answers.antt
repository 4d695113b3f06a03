use Rattle.swift_requests.proofs.Texts.{is_read, text_value}
use Rattle.swift_requests.proofs.etag.sent_etag.Goals as goal

pub unwrap-requires : goal.unwrap-requires
unwrap-requires c =
    is_read c.in-Some.value.now c.from_utf8.result _ c.from_utf8.ensures.cases
    (text_value _ c.in-Some.value.now (rw c.as_slice.ensures at c.in-Some.ensures) c.requires)
