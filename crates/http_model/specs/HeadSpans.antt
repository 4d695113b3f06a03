-- What the spans that the parser of heads writes say of a text.
use Rattle.std.specs.Prelude.{◌≡◌, List, ℕ, map, take, All, IsUtf8}
use Rattle.httparse.specs.declared.spans.HeaderSpan.{HeaderSpan}
use Rattle.httparse.specs.declared.spans.RequestSpans.{RequestSpans}
use Rattle.httparse.specs.Grammar.{RequestHead}
use Rattle.httparse.specs.Spans.{span_bytes, IsRequestWithin}
use Rattle.http_model.specs.declared.field.Field.{Field}
use Rattle.http_model.specs.Heads.{IsTree, fields_of}

-- the field whose name and value the spans cover
abbrev pub field_in : List ℕ → HeaderSpan → Field
field_in text span = record { name = span_bytes text span.name; value = span_bytes text span.value }

-- the name that the span covers is text
abbrev pub HasTextName : List ℕ → HeaderSpan → Type 0
HasTextName text span = IsUtf8 (span_bytes text span.name)

-- the spans cover the parts of the head that the text is, all of it
pub record CoversHead (text : List ℕ) (spans : List HeaderSpan) (found : RequestSpans) : Type 0 where
  pub tree : RequestHead
  pub is_tree : IsTree text tree
  pub within : IsRequestWithin text spans found
  pub method : span_bytes text found.method ≡ tree.method
  pub method_text : IsUtf8 (span_bytes text found.method)
  pub target : span_bytes text found.path ≡ tree.target
  pub minor : found.version ≡ tree.minor
  pub fields : map (field_in text) (take found.headers spans) ≡ fields_of tree
  pub names : All (HasTextName text) (take found.headers spans)
