-- What the parser of heads says of a text that is a head, all of it.
use Rattle.std.proofs.Common.{◌≡◌, ℕ, ◌<◌, List, [], ◌∷◌, ◌++◌, map, length, take, drop, refl, ap, sym, subst, ◌∙◌, arith}
use Rattle.std.specs.Prelude.{All, IsUtf8, IsTrue}
use Rattle.std.proofs.lemmas.Bool.Decides.{nat_tests}
use Rattle.std.proofs.lemmas.List.{length-map, length-take-le, drop_all}
use Rattle.std.proofs.lemmas.List.Elements.{All-nil, All-cons, All-head, All-tail, All-weaker}
use Rattle.std.proofs.lemmas.Str.{IsUtf8-from_ascii}
use Rattle.std.proofs.lemmas.Str.Ascii.{IsAscii-from_all}
use Rattle.httparse.specs.declared.spans.HeaderSpan.{HeaderSpan}
use Rattle.httparse.specs.declared.spans.RequestSpans.{RequestSpans}
use Rattle.httparse.specs.Grammar.{RequestHead, Field as FieldLine, IsField, IsToken, is_token_byte, print_request}
use Rattle.httparse.specs.Spans.{IsRequestAt, IsRequestWithin, header_bytes, name_and_value}
use Rattle.http_model.specs.declared.field.Field.{Field}
use Rattle.http_model.specs.Heads.{field_of}
use Rattle.http_model.specs.HeadSpans.{CoversHead, HasTextName, field_in}

-- ---- tokens are text

token_byte : (b : ℕ) → IsTrue (is_token_byte b) → b < 128
unfolding is_token_byte
token_byte b token = grind (arith, nat_tests)

token_text : (name : List ℕ) → IsToken name → IsUtf8 name
token_text name token =
    IsUtf8-from_ascii name (IsAscii-from_all name (All-weaker (λ b. IsTrue (is_token_byte b)) (λ b. b < 128) token_byte name token.1))

-- ---- fields by their spans

same_fields : (text : List ℕ) (spans : List HeaderSpan) (lines : List FieldLine)
    → map (header_bytes text) spans ≡ map name_and_value lines → map (field_in text) spans ≡ map field_of lines
same_fields text [] [] e = refl
same_fields text [] (line ∷ lines) e = cc
same_fields text (span ∷ spans) [] e = cc
same_fields text (span ∷ spans) (line ∷ lines) e =
    let head : header_bytes text span ≡ name_and_value line = cc in
    let tail : map (header_bytes text) spans ≡ map name_and_value lines = cc in
    let later = same_fields text spans lines tail in
    let first : field_in text span ≡ field_of line =
    ap (λ (p : List ℕ × List ℕ). let f : Field = record { name = p.0; value = p.1 } in f) head in
    cc

text_names : (text : List ℕ) (spans : List HeaderSpan) (lines : List FieldLine)
    → map (header_bytes text) spans ≡ map name_and_value lines → All IsField lines → All (HasTextName text) spans
text_names text [] lines e fields = All-nil (HasTextName text)
text_names text (span ∷ spans) [] e fields = cc
text_names text (span ∷ spans) (line ∷ lines) e fields =
    let head : header_bytes text span ≡ name_and_value line = cc in
    let tail : map (header_bytes text) spans ≡ map name_and_value lines = cc in
    let name = ap (λ (p : List ℕ × List ℕ). p.0) head in
    let token = (All-head IsField line lines fields).name in
    All-cons (HasTextName text) span spans (subst IsUtf8 (sym name) (token_text line.name token))
    (text_names text spans lines tail (All-tail IsField line lines fields))

-- ---- the whole head

pub covers : (text : List ℕ) (spans : List HeaderSpan) (found : RequestSpans) (tree : RequestHead) → length spans ≡ 128
    → IsRequestWithin text spans found → IsRequestAt text spans found tree → found.len ≡ length text
    → CoversHead text spans found
covers text spans found tree room within at whole =
    let nothing : drop found.len text ≡ [] = drop_all found.len text (omega arith) in
    let count = length-take-le found.headers spans within.section.count_fits in
    record {
      tree = tree;
      is_tree = record {
        reads = (at.reads.0, at.reads.1 ∙ ap (λ rest. print_request tree ++ rest) nothing);
        few = omega (
          arith,
          room,
          count,
          within.section.count_fits,
          ap length at.fields,
          length-map (take found.headers spans) (header_bytes text),
          length-map tree.fields name_and_value,
        );
      };
      within = within;
      method = at.method;
      method_text = subst IsUtf8 (sym at.method) (token_text tree.method at.reads.0.method);
      target = at.path;
      minor = at.version;
      fields = same_fields text (take found.headers spans) tree.fields at.fields;
      names = text_names text (take found.headers spans) tree.fields at.fields at.reads.0.fields;
    }
