-- What the fields and the length of a head are tested for (OpenStack Object Storage API v1; the limits are own).
use Rattle.std.specs.Prelude.{ℕ, Bool, true, false, ◌&&◌, nat_le, nat_lt, List, length, Option, Some, None, codes}
use Rattle.std.specs.List.{list_any}
use Rattle.std.specs.Str.{is_utf8}
use Rattle.http1.specs.Text.{eq_ignore_case}
use Rattle.object_words.specs.Limits.{media_type_limit}
use Rattle.http_model.specs.declared.head.Framing.{Framing}
use Rattle.http_model.specs.declared.head.Framing.TheVariants.{Empty, Length, Chunked}
use Rattle.http_model.specs.declared.head.Head.{Head}
use Rattle.http_model.specs.Framings.{value_of}
use Rattle.swift_requests.specs.Metadata.{meta_of, are_texts, are_within}

-- ---- fields

-- some field has this name; its case does not count
abbrev pub is_sent : List ℕ → Head → Bool
is_sent name head = list_any (λ field. eq_ignore_case field.name name) head.fields

-- the value is text, where there is one
abbrev pub is_text_if_any : Option (List ℕ) → Bool
is_text_if_any None = true
is_text_if_any (Some value) = is_utf8 value

abbrev pub is_text_field : List ℕ → Head → Bool
is_text_field name head = is_text_if_any (value_of name head.fields)

-- the conditions on ETags are text
unfoldable pub has_texts : Head → Bool
has_texts head = is_text_field (codes "if-match") head && is_text_field (codes "if-none-match") head

-- what a PUT sends of its content is text: its ETag, its media type and its metadata
unfoldable pub has_put_texts : Head → Bool
has_put_texts head =
    is_text_field (codes "etag") head && (is_text_field (codes "content-type") head && are_texts (meta_of head.fields))

-- the value has its size, where there is one
abbrev pub is_kind_if_any : Option (List ℕ) → Bool
is_kind_if_any None = true
is_kind_if_any (Some value) = nat_le (length value) media_type_limit

-- the media type and the metadata of a PUT are within their limits
unfoldable pub has_put_sizes : Head → Bool
has_put_sizes head = is_kind_if_any (value_of (codes "content-type") head.fields) && are_within (meta_of head.fields)

-- ---- lengths

-- neither a length is told, nor chunks
abbrev pub is_without_length : Framing → Bool
is_without_length Empty = true
is_without_length (Length n) = false
is_without_length Chunked = false

-- a length above that is told
abbrev pub is_above : ℕ → Framing → Bool
is_above largest Empty = false
is_above largest (Length n) = nat_lt largest n
is_above largest Chunked = false
