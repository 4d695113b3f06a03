-- The conditions of a request on what is there: its ETag, where there is an object (RFC 9110, sections 13.1.1 and 13.1.2).
use Rattle.std.specs.Prelude.{ℕ, ◌||◌, not, Bool, true, false, List, bytes_eq, Option, Some, None}
use Rattle.std.specs.List.{list_any}
use Rattle.hex.specs.Hex.{encode_lower}
use Rattle.object_words.specs.declared.head.Conditions.{Conditions}
use Rattle.object_words.specs.declared.head.EtagRule.{EtagRule}
use Rattle.object_words.specs.declared.head.EtagRule.TheVariants.{Any, OneOf}

-- an object is there, and the text of its ETag is among these
abbrev pub meets : EtagRule → Option (List ℕ) → Bool
meets rule None = false
meets Any (Some etag) = true
meets (OneOf etags) (Some etag) = list_any (bytes_eq (encode_lower etag)) etags

-- If-Match fails where what is there does not meet it
abbrev pub fails_match : Option EtagRule → Option (List ℕ) → Bool
fails_match None etag = false
fails_match (Some rule) etag = not (meets rule etag)

-- If-None-Match fails where what is there meets it
abbrev pub fails_none : Option EtagRule → Option (List ℕ) → Bool
fails_none None etag = false
fails_none (Some rule) etag = meets rule etag

-- If-Match or If-None-Match fails; a change looks at no other condition
abbrev pub fails : Conditions → Option (List ℕ) → Bool
fails when etag = fails_match when.matches etag || fails_none when.none etag
