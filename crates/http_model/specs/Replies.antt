-- The text of a reply: status line, fields, and body (RFC 9112, sections 4 to 6).
use Rattle.std.specs.Prelude.{ℕ, ◌+◌, Bool, List, [], ◌∷◌, ◌++◌, length, flat_map, unwrap_or, if◌then◌else◌, codes, decimal}
use Rattle.http.specs.StatusCode.{code_digits, reason_phrase}
use Rattle.hex.specs.Hex.{encode_lower}
use Rattle.date_words.specs.HttpDate.{date_of_micros}
use Rattle.http_model.specs.declared.field.Field.{Field}
use Rattle.http_model.specs.declared.reply.BadRequest.{BadRequest}
use Rattle.http_model.specs.declared.reply.BadRequest.TheVariants as Word
use Rattle.http_model.specs.declared.reply.ReplyForm.{ReplyForm}
use Rattle.http_model.specs.declared.reply.ReplyHead.{ReplyHead}

-- ---- heads

abbrev pub crlf : List ℕ
crlf = 13 ∷ 10 ∷ []

-- the phrase of a status code
unfoldable pub phrase_of : ℕ → List ℕ
phrase_of code = unwrap_or (reason_phrase code) []

abbrev pub status_line : ℕ → List ℕ
status_line code = codes "HTTP/1.1 " ++ code_digits code ++ codes " " ++ phrase_of code ++ crlf

abbrev pub field_line : Field → List ℕ
field_line field = field.name ++ codes ": " ++ field.value ++ crlf

-- the status line, the fields and the empty line
unfoldable pub head_text : ReplyHead → List ℕ
head_text head = status_line head.code ++ flat_map field_line head.fields ++ crlf

-- ---- fields

abbrev pub content_length_field : ℕ → Field
content_length_field n = record { name = codes "Content-Length"; value = decimal n }

abbrev pub content_type_field : List ℕ → Field
content_type_field kind = record { name = codes "Content-Type"; value = kind }

abbrev pub etag_field : List ℕ → Field
etag_field etag = record { name = codes "ETag"; value = encode_lower etag }

-- the whole second of a moment
abbrev pub last_modified_field : ℕ → Field
last_modified_field micros = record { name = codes "Last-Modified"; value = date_of_micros micros }

abbrev pub accept_ranges_field : Field
accept_ranges_field = record { name = codes "Accept-Ranges"; value = codes "bytes" }

abbrev pub close_field : Field
close_field = record { name = codes "Connection"; value = codes "close" }

-- the field, where it applies
abbrev pub field_if : Bool → Field → List Field
field_if applies field = if applies then field ∷ [] else []

-- the media type of a body that is one line
abbrev pub line_kind : List ℕ
line_kind = codes "text/plain; charset=utf-8"

-- ---- replies

-- the line that a reply closes with, where the connection is closed
abbrev pub closing_fields : ReplyForm → List Field
closing_fields form = field_if form.close close_field

-- the body as it is written: a reply to HEAD has none (RFC 9110, section 9.3.2)
abbrev pub written_body : ReplyForm → List ℕ → List ℕ
written_body form body = if form.bodiless then [] else body

-- the text of a reply
unfoldable pub text_of : ReplyForm → ReplyHead → List ℕ → List ℕ
text_of form head body = head_text head ++ written_body form body

-- the line of a body with its line feed
abbrev pub line_body : List ℕ → List ℕ
line_body line = line ++ 10 ∷ []

abbrev pub line_fields : List ℕ → List Field
line_fields line = content_length_field (length line + 1) ∷ content_type_field line_kind ∷ []

-- ---- what is no request

abbrev pub word_of : BadRequest → List ℕ
word_of Word.Head = codes "head"
word_of Word.Size = codes "size"
word_of Word.Framing = codes "framing"
word_of Word.Host = codes "host"

abbrev pub bad_request_line : BadRequest → List ℕ
bad_request_line word = codes "Bad request: " ++ word_of word

-- the 400 for it
abbrev pub bad_request_head : ReplyForm → BadRequest → ReplyHead
bad_request_head form word =
    record { code = 400; fields = line_fields (bad_request_line word) ++ closing_fields form }

unfoldable pub bad_request_text : ReplyForm → BadRequest → List ℕ
bad_request_text form word = text_of form (bad_request_head form word) (line_body (bad_request_line word))
