-- What the method and the fields of a head ask (RFC 9110, sections 7, 9 and 10; RFC 9112, section 3.2).
use Rattle.std.specs.Prelude.{ℕ, Bool, ◌||◌, List, length, ◌==◌, bytes_eq, codes}
use Rattle.std.specs.List.{list_any}
use Rattle.http1.specs.Text.{eq_ignore_case}
use Rattle.http1.specs.Fields.{elements, has_option}
use Rattle.http_model.specs.declared.head.Framing.{Framing}
use Rattle.http_model.specs.declared.head.Framing.TheVariants.{Empty, Length, Chunked}
use Rattle.http_model.specs.declared.head.Head.{Head}
use Rattle.http_model.specs.Framings.{values_of}

abbrev pub is_get : Head → Bool
is_get head = bytes_eq head.method (codes "GET")

abbrev pub is_put : Head → Bool
is_put head = bytes_eq head.method (codes "PUT")

-- HTTP/1.1 wants just one Host field (RFC 9112, section 3.2)
unfoldable pub has_host : Head → Bool
has_host head = (head.minor == 0) || (length (values_of (codes "host") head.fields) == 1)

-- a value of Connection lists `close` (RFC 9110, section 7.6.1)
abbrev pub lists_close : List ℕ → Bool
lists_close value = has_option (codes "close") (elements value)

-- some Connection field does: the lines of all of them are one list (RFC 9110, section 5.3)
unfoldable pub wants_close : Head → Bool
wants_close head = list_any lists_close (values_of (codes "connection") head.fields)

-- a value of Expect waits for a 100 (RFC 9110, section 10.1.1)
abbrev pub is_continue : List ℕ → Bool
is_continue value = eq_ignore_case value (codes "100-continue")

-- some Expect field does
unfoldable pub waits : Head → Bool
waits head = list_any is_continue (values_of (codes "expect") head.fields)

-- the bytes that Content-Length tells, none where the framing is another
abbrev pub content_length : Framing → ℕ
content_length Empty = 0
content_length (Length n) = n
content_length Chunked = 0

-- ---- how a reply is written

-- a reply to HEAD has no body (RFC 9110, section 9.3.2)
abbrev pub is_bodiless : List ℕ → Bool
is_bodiless method = bytes_eq method (codes "HEAD")
