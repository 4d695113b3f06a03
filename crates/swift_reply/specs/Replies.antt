-- The text of each reply: its status, what it says in its fields, and its body (OpenStack Object Storage API v1).
use Rattle.std.specs.Prelude.{ℕ, ◌+◌, Bool, true, false, List, [], ◌∷◌, ◌++◌, length, Option, Some, None, if◌then◌else◌, codes, decimal}
use Rattle.http_model.specs.declared.field.Field.{Field}
use Rattle.http_model.specs.declared.reply.ReplyForm.{ReplyForm}
use Rattle.http_model.specs.declared.reply.ReplyHead.{ReplyHead}
use Rattle.http_model.specs.Replies.{crlf, status_line, field_if, line_kind, line_body, text_of}
use Rattle.object_words.specs.declared.bucket.Bucket.{Bucket}
use Rattle.swift_reply.specs.declared.reply.ContainerCounts.{ContainerCounts}
use Rattle.swift_reply.specs.declared.reply.Denial.{Denial}
use Rattle.swift_reply.specs.declared.reply.Denial.TheVariants as Denied
use Rattle.swift_reply.specs.declared.reply.Invalid.{Invalid}
use Rattle.swift_reply.specs.declared.reply.Invalid.TheVariants as Bad
use Rattle.swift_reply.specs.declared.reply.ListingForm.{ListingForm}
use Rattle.swift_reply.specs.declared.reply.ListingForm.TheVariants as Form
use Rattle.swift_reply.specs.declared.reply.ShownObject.{ShownObject}
use Rattle.swift_reply.specs.declared.reply.ShownSpan.{ShownSpan}
use Rattle.swift_reply.specs.declared.reply.SwiftRefusal.{SwiftRefusal}
use Rattle.swift_reply.specs.declared.reply.SwiftRefusal.TheVariants as Why
use Rattle.swift_reply.specs.declared.reply.SwiftReply.{SwiftReply}
use Rattle.swift_reply.specs.declared.reply.SwiftReply.TheVariants.{Stored, Shown, Same, Created, Accepted, Done, Listed, Counted, AccountListed, AccountCounted, LetIn, Refused}
use Rattle.swift_reply.specs.declared.reply.TargetKind.{TargetKind}
use Rattle.swift_reply.specs.Fields.{Says, field_for, allow_field, challenge_field, silent, fields_of, content_range_field, no_range_field, storage_url_field}
use Rattle.swift_reply.specs.Listings.{plain_text, plain_account_text, json_text, json_account_text}

-- ---- refusals

abbrev pub invalid_word : Invalid → List ℕ
invalid_word Bad.Chunk = codes "chunk"
invalid_word Bad.Target = codes "target"
invalid_word Bad.Escape = codes "escape"
invalid_word Bad.Utf8 = codes "utf8"
invalid_word Bad.Name = codes "name"
invalid_word Bad.Limit = codes "limit"
invalid_word Bad.Format = codes "format"
invalid_word Bad.Value = codes "value"
invalid_word Bad.Meta = codes "meta"
invalid_word Bad.Copy = codes "copy"
invalid_word Bad.Expiry = codes "expiry"

abbrev pub denial_word : Denial → List ℕ
denial_word Denied.Account = codes "account"
denial_word Denied.Read = codes "read"
denial_word Denied.Write = codes "write"

abbrev pub refusal_code : SwiftRefusal → ℕ
refusal_code (Why.Invalid what) = 400
refusal_code Why.Unauthorized = 401
refusal_code (Why.Denied denial) = 403
refusal_code Why.NoPath = 404
refusal_code Why.NoContainer = 404
refusal_code Why.NoObject = 404
refusal_code (Why.NoMethod target) = 405
refusal_code Why.NotYours = 409
refusal_code (Why.NotEmpty name) = 409
refusal_code (Why.Unsettled name) = 409
refusal_code Why.NoLength = 411
refusal_code Why.NotMet = 412
refusal_code Why.TooLarge = 413
refusal_code Why.TargetTooLong = 414
refusal_code (Why.NoRange size) = 416
refusal_code Why.OtherEtag = 422
refusal_code Why.NotBuilt = 501
refusal_code (Why.Busy id) = 503
refusal_code Why.MovedOften = 503
refusal_code Why.RacedOften = 503
refusal_code Why.LateTag = 503
refusal_code Why.LateRead = 503
refusal_code (Why.NoSpace free needed) = 507

-- the line of a body, without its line feed: what is the same for each, and what follows it
abbrev pub refusal_front : SwiftRefusal → List ℕ
refusal_front (Why.Invalid what) = codes "Bad request: "
refusal_front Why.Unauthorized = codes "Unauthorized"
refusal_front (Why.Denied denial) = codes "Denied: "
refusal_front Why.NoPath = codes "No such path"
refusal_front Why.NoContainer = codes "No such container"
refusal_front Why.NoObject = codes "No such object"
refusal_front (Why.NoMethod target) = codes "Method not allowed"
refusal_front Why.NotYours = codes "Not yours"
refusal_front (Why.NotEmpty name) = codes "Not empty: "
refusal_front (Why.Unsettled name) = codes "Unsettled: "
refusal_front Why.NoLength = codes "Length required"
refusal_front Why.NotMet = codes "Precondition failed"
refusal_front Why.TooLarge = codes "Too large"
refusal_front Why.TargetTooLong = codes "Target too long"
refusal_front (Why.NoRange size) = codes "Range not satisfiable"
refusal_front Why.OtherEtag = codes "ETag mismatch"
refusal_front Why.NotBuilt = codes "Not built"
refusal_front (Why.Busy id) = codes "Busy: "
refusal_front Why.MovedOften = codes "Moved often"
refusal_front Why.RacedOften = codes "Raced often"
refusal_front Why.LateTag = codes "Late: tag"
refusal_front Why.LateRead = codes "Late: read"
refusal_front (Why.NoSpace free needed) = codes "No space: "

abbrev pub refusal_rest : SwiftRefusal → List ℕ
refusal_rest (Why.Invalid what) = invalid_word what
refusal_rest (Why.Denied denial) = denial_word denial
refusal_rest (Why.NotEmpty name) = name
refusal_rest (Why.Unsettled name) = name
refusal_rest (Why.Busy id) = decimal id
refusal_rest (Why.NoSpace free needed) = decimal free ++ codes " of " ++ decimal needed
refusal_rest refusal = []

abbrev pub refusal_line : SwiftRefusal → List ℕ
refusal_line refusal = refusal_front refusal ++ refusal_rest refusal

-- three refusals say more than their line
abbrev pub refusal_range : SwiftRefusal → Option Field
refusal_range (Why.NoRange size) = Some (no_range_field size)
refusal_range refusal = None

abbrev pub refusal_allow : SwiftRefusal → Option TargetKind
refusal_allow (Why.NoMethod target) = Some target
refusal_allow refusal = None

abbrev pub refusal_challenges : SwiftRefusal → Bool
refusal_challenges Why.Unauthorized = true
refusal_challenges refusal = false

-- these three, in the order of fields
abbrev pub own_fields : SwiftRefusal → List Field
own_fields refusal =
    field_for (λ f. f) (refusal_range refusal)
    ++ (field_for allow_field (refusal_allow refusal) ++ field_if (refusal_challenges refusal) challenge_field)

-- a body that is one line
abbrev pub refusal_says : SwiftRefusal → Says
refusal_says refusal = record silent {
  body_length = Some (length (refusal_line refusal) + 1);
  kind = Some line_kind;
  range = refusal_range refusal;
  allow = refusal_allow refusal;
  challenge = refusal_challenges refusal;
}

-- ---- objects

abbrev pub etag_says : List ℕ → ℕ → Says
etag_says etag micros = record silent { etag = Some etag; modified = Some micros }

-- what is said of an object of which so many bytes are shown
abbrev pub object_says : ShownObject → ℕ → Says
object_says object count = record (etag_says object.etag object.stamp.micros) {
  body_length = Some count;
  kind = Some object.kind;
  ranges = true;
  object_meta = object.meta;
  expires = object.expires;
}

-- whole, or a span of it
abbrev pub shown_code : Option ShownSpan → ℕ
shown_code None = 200
shown_code (Some span) = 206

abbrev pub shown_says : ShownObject → Option ShownSpan → Says
shown_says object None = object_says object object.size
shown_says object (Some span) =
    record (object_says object span.count) { range = Some (content_range_field span object.size) }

-- ---- containers and accounts

-- a text, unless it is empty
abbrev pub filled : List ℕ → Option (List ℕ)
filled [] = None
filled (b ∷ bs) = Some (b ∷ bs)

-- what is shown of a container with this row, so many objects and bytes, to its own users or to others
abbrev pub counts_of : Bucket → ℕ → ℕ → Bool → ContainerCounts
counts_of row objects bytes own = record {
  objects = objects;
  bytes = bytes;
  meta = row.meta;
  readers = row.readers;
  writers = row.writers;
  own = own;
}

abbrev pub counts_says : ContainerCounts → Says
counts_says counts = record silent {
  container_objects = Some counts.objects;
  container_bytes = Some counts.bytes;
  container_meta = counts.meta;
  readers = if counts.own then filled counts.readers else None;
  writers = if counts.own then filled counts.writers else None;
}

-- the media type of a listing
abbrev pub listing_kind : ListingForm → List ℕ
listing_kind Form.Plain = line_kind
listing_kind Form.Json = codes "application/json; charset=utf-8"

abbrev pub rows_text : SwiftReply → List ℕ
rows_text (Listed rows Form.Plain) = plain_text rows
rows_text (Listed rows Form.Json) = json_text rows
rows_text (AccountListed rows Form.Plain) = plain_account_text rows
rows_text (AccountListed rows Form.Json) = json_account_text rows
rows_text reply = []

-- a listing without a byte is a 204
abbrev pub listing_code : List ℕ → ℕ
listing_code [] = 204
listing_code (b ∷ bs) = 200

abbrev pub listing_says : ListingForm → List ℕ → Says
listing_says form [] = silent
listing_says form (b ∷ bs) =
    record silent { body_length = Some (length (b ∷ bs)); kind = Some (listing_kind form) }

-- ---- replies

-- a reply that says only that its body is empty
abbrev pub empty_says : Says
empty_says = record silent { body_length = Some 0 }

abbrev pub reply_code : SwiftReply → ℕ
reply_code (Stored etag stamp) = 201
reply_code (Shown object span) = shown_code span
reply_code (Same etag stamp) = 304
reply_code Created = 201
reply_code Accepted = 202
reply_code Done = 204
reply_code (Listed rows form) = listing_code (rows_text (Listed rows form))
reply_code (Counted counts) = 204
reply_code (AccountListed rows form) = listing_code (rows_text (AccountListed rows form))
reply_code (AccountCounted containers objects bytes) = 204
reply_code (LetIn host account token) = 204
reply_code (Refused refusal) = refusal_code refusal

abbrev pub reply_says : SwiftReply → Says
reply_says (Stored etag stamp) = record (etag_says etag stamp.micros) { body_length = Some 0 }
reply_says (Shown object span) = shown_says object span
reply_says (Same etag stamp) = etag_says etag stamp.micros
reply_says Created = empty_says
reply_says Accepted = empty_says
reply_says Done = silent
reply_says (Listed rows form) = listing_says form (rows_text (Listed rows form))
reply_says (Counted counts) = counts_says counts
reply_says (AccountListed rows form) = listing_says form (rows_text (AccountListed rows form))
reply_says (AccountCounted containers objects bytes) = record silent {
  account_containers = Some containers;
  account_objects = Some objects;
  account_bytes = Some bytes;
}
reply_says (LetIn host account token) =
    record silent { storage = Some (storage_url_field host account); token = Some token }
reply_says (Refused refusal) = refusal_says refusal

-- the head of a reply, which says close where the connection is closed
abbrev pub reply_head : ReplyForm → SwiftReply → ReplyHead
reply_head form reply =
    record { code = reply_code reply; fields = fields_of (record (reply_says reply) { close = form.close }) }

-- the body: the bytes of an object that are shown, a listing, or a line
abbrev pub reply_body : SwiftReply → List ℕ → List ℕ
reply_body (Shown object span) shown = shown
reply_body (Refused refusal) shown = line_body (refusal_line refusal)
reply_body reply shown = rows_text reply

-- the text of a reply that shows these bytes of an object
unfoldable pub reply_text : ReplyForm → SwiftReply → List ℕ → List ℕ
reply_text form reply shown = text_of form (reply_head form reply) (reply_body reply shown)

-- the text of the reply with this text of a listing
abbrev pub listing_text : ReplyForm → ListingForm → List ℕ → List ℕ
listing_text form listing text =
    text_of form (record { code = listing_code text; fields = fields_of (record (listing_says listing text) { close = form.close }) }) text

-- what stands before a reply to a request that waits for it with its body (RFC 9110, section 15.2.1)
unfoldable pub continue_text : List ℕ
continue_text = status_line 100 ++ crlf
