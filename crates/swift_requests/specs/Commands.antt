-- The commands that heads are (OpenStack Object Storage API v1, objects; RFC 9110, section 13.1).
use Rattle.std.specs.Prelude.{ℕ, List, [], ◌∷◌, Option, Some, None, option_and_then, if◌then◌else◌, codes}
use Rattle.httpdate.specs.Date.{parse_secs}
use Rattle.object_words.specs.declared.head.Conditions.{Conditions}
use Rattle.task_words.specs.declared.command.GetCommand.{GetCommand}
use Rattle.task_words.specs.declared.command.PutCommand.{PutCommand}
use Rattle.http_model.specs.declared.head.Head.{Head}
use Rattle.http_model.specs.Framings.{value_of}
use Rattle.http_model.specs.Forms.{is_get, is_put}
use Rattle.list_words.specs.declared.command.ListCommand.{ListCommand}
use Rattle.swift_reply.specs.declared.reply.ListingForm.{ListingForm}
use Rattle.swift_reply.specs.declared.reply.ListingForm.TheVariants.{Plain, Json}
use Rattle.swift_words.specs.declared.query.Query.{Query}
use Rattle.swift_requests.specs.Etags.{rule_of, sent_etag}
use Rattle.swift_requests.specs.Metadata.{meta_of}
use Rattle.swift_requests.specs.Ranges.{span_of}

-- the second of the last field of this name; a date that is not one is dropped
unfoldable pub second_of : List ℕ → Head → Option ℕ
second_of name head = option_and_then parse_secs (value_of name head.fields)

-- the conditions of a request; a change of an object looks at no date
unfoldable pub conditions_of : Head → Conditions
conditions_of head = record {
  matches = rule_of (codes "if-match") head;
  none = rule_of (codes "if-none-match") head;
  modified = if is_put head then None else second_of (codes "if-modified-since") head;
  unmodified = if is_put head then None else second_of (codes "if-unmodified-since") head;
}

-- the text, unless it is empty
abbrev pub if_not_empty : Option (List ℕ) → Option (List ℕ)
if_not_empty None = None
if_not_empty (Some []) = None
if_not_empty (Some (b ∷ text)) = Some (b ∷ text)

-- the media type that was sent; an empty one counts as none
unfoldable pub kind_of : Head → Option (List ℕ)
kind_of head = if_not_empty (value_of (codes "content-type") head.fields)

-- the PUT of an object
abbrev pub put_command : List ℕ → List ℕ → Head → PutCommand
put_command container name head = record {
  container = container;
  name = name;
  kind = kind_of head;
  meta = meta_of head.fields;
  etag = sent_etag head;
  when = conditions_of head;
}

-- the GET or HEAD of an object
abbrev pub get_command : List ℕ → List ℕ → Head → GetCommand
get_command container name head = record {
  container = container;
  name = name;
  when = conditions_of head;
  span = span_of head;
  body = is_get head;
}

-- the listing of a container, by the query of the target
abbrev pub list_command : List ℕ → Query → ListCommand
list_command container query = record {
  container = container;
  limit = query.limit;
  marker = query.marker;
  end_marker = query.end_marker;
  prefix = query.prefix;
  delimiter = query.delimiter;
}

abbrev pub listing_form : Query → ListingForm
listing_form query = if query.json then Json else Plain
