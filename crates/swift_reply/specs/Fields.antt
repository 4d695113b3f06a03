-- The fields of replies in their one order (RFC 9110; OpenStack Object Storage API v1).
use Rattle.std.specs.Prelude.{ℕ, ◌+◌, ◌-◌, Bool, false, List, [], ◌∷◌, ◌++◌, map, Option, Some, None, codes, decimal}
use Rattle.http_model.specs.declared.field.Field.{Field}
use Rattle.http_model.specs.Replies.{field_if, content_length_field, content_type_field, etag_field, last_modified_field, accept_ranges_field, close_field}
use Rattle.swift_reply.specs.declared.reply.ShownSpan.{ShownSpan}
use Rattle.swift_reply.specs.declared.reply.TargetKind.{TargetKind}
use Rattle.swift_reply.specs.declared.reply.TargetKind.TheVariants as Target

-- ---- single fields

abbrev pub text_field : List ℕ → List ℕ → Field
text_field name value = record { name = name; value = value }

abbrev pub number_field : List ℕ → ℕ → Field
number_field name n = text_field name (decimal n)

-- the bytes from the first to the last of all, counted from 0 (RFC 9110, section 14.4)
abbrev pub content_range_field : ShownSpan → ℕ → Field
content_range_field span size = text_field (codes "Content-Range")
    (codes "bytes " ++ decimal span.start ++ codes "-" ++ decimal (span.start + span.count - 1)
    ++ codes "/" ++ decimal size)

-- the size of what the range lies behind (RFC 9110, section 15.5.17)
abbrev pub no_range_field : ℕ → Field
no_range_field size = text_field (codes "Content-Range") (codes "bytes */" ++ decimal size)

-- a field for each pair, in their order
abbrev pub meta_fields : List ℕ → List (List ℕ × List ℕ) → List Field
meta_fields front pairs = map (λ (pair : List ℕ × List ℕ). text_field (front ++ pair.0) pair.1) pairs

abbrev pub storage_url_field : List ℕ → List ℕ → Field
storage_url_field host account =
    text_field (codes "X-Storage-Url") (codes "http://" ++ host ++ codes "/swift/v1/AUTH_" ++ account)

-- the methods that a target takes (RFC 9110, section 10.2.1)
abbrev pub methods_of : TargetKind → List ℕ
methods_of Target.Auth = codes "GET"
methods_of Target.Account = codes "GET, HEAD"
methods_of Target.Container = codes "GET, HEAD, PUT, POST, DELETE"
methods_of Target.Object = codes "GET, HEAD, PUT, POST, DELETE, COPY"

abbrev pub allow_field : TargetKind → Field
allow_field target = text_field (codes "Allow") (methods_of target)

-- how to authenticate (RFC 9110, section 11.6.1)
abbrev pub challenge_field : Field
challenge_field = text_field (codes "WWW-Authenticate") (codes "Swift realm=\"rgw\"")

-- ---- what a reply says in its fields

-- each stands where it applies
pub record Says : Type 0 where
  pub body_length : Option ℕ
  pub kind : Option (List ℕ)
  pub etag : Option (List ℕ)
  -- a moment in microseconds since 1970
  pub modified : Option ℕ
  -- ranges can be asked for
  pub ranges : Bool
  pub range : Option Field
  pub object_meta : List (List ℕ × List ℕ)
  -- a second since 1970
  pub expires : Option ℕ
  pub container_objects : Option ℕ
  pub container_bytes : Option ℕ
  pub container_meta : List (List ℕ × List ℕ)
  pub readers : Option (List ℕ)
  pub writers : Option (List ℕ)
  pub account_containers : Option ℕ
  pub account_objects : Option ℕ
  pub account_bytes : Option ℕ
  pub storage : Option Field
  pub token : Option (List ℕ)
  pub allow : Option TargetKind
  pub challenge : Bool
  pub close : Bool

-- no field
abbrev pub silent : Says
silent = record {
  body_length = None;
  kind = None;
  etag = None;
  modified = None;
  ranges = false;
  range = None;
  object_meta = [];
  expires = None;
  container_objects = None;
  container_bytes = None;
  container_meta = [];
  readers = None;
  writers = None;
  account_containers = None;
  account_objects = None;
  account_bytes = None;
  storage = None;
  token = None;
  allow = None;
  challenge = false;
  close = false;
}

-- the field of what is said, if it is
abbrev pub field_for : {A : Type 0} → (A → Field) → Option A → List Field
field_for f None = []
field_for f (Some x) = f x ∷ []

-- all fields, in their one order
abbrev pub fields_of : Says → List Field
fields_of says =
    field_for content_length_field says.body_length
    ++ (field_for content_type_field says.kind
    ++ (field_for etag_field says.etag
    ++ (field_for last_modified_field says.modified
    ++ (field_if says.ranges accept_ranges_field
    ++ (field_for (λ f. f) says.range
    ++ (meta_fields (codes "X-Object-Meta-") says.object_meta
    ++ (field_for (number_field (codes "X-Delete-At")) says.expires
    ++ (field_for (number_field (codes "X-Container-Object-Count")) says.container_objects
    ++ (field_for (number_field (codes "X-Container-Bytes-Used")) says.container_bytes
    ++ (meta_fields (codes "X-Container-Meta-") says.container_meta
    ++ (field_for (text_field (codes "X-Container-Read")) says.readers
    ++ (field_for (text_field (codes "X-Container-Write")) says.writers
    ++ (field_for (number_field (codes "X-Account-Container-Count")) says.account_containers
    ++ (field_for (number_field (codes "X-Account-Object-Count")) says.account_objects
    ++ (field_for (number_field (codes "X-Account-Bytes-Used")) says.account_bytes
    ++ (field_for (λ f. f) says.storage
    ++ (field_for (text_field (codes "X-Auth-Token")) says.token
    ++ (field_for allow_field says.allow
    ++ (field_if says.challenge challenge_field
    ++ field_if says.close close_field)))))))))))))))))))
