-- What the parser of heads says where it had fewer places for fields than a head may have: with further places behind them
-- it would have said the same.
use Rattle.std.proofs.Common.{◌≡◌, ℕ, ◌-◌, ◌≤◌, List, ◌++◌, map, length, replicate, ap, sym, subst, ◌∙◌, arith}
use Rattle.std.specs.Prelude.{All}
use Rattle.std.proofs.lemmas.List.{take-append-le, length-append, length-replicate}
use Rattle.httparse.specs.declared.spans.HeaderSpan.{HeaderSpan}
use Rattle.httparse.specs.declared.spans.RequestSpans.{RequestSpans}
use Rattle.httparse.specs.declared.spans.TheConstants.{EMPTY_HEADER_SPAN}
use Rattle.httparse.specs.Grammar.{RequestHead}
use Rattle.httparse.specs.Spans.{IsHeaderWithin, IsRequestAt, IsRequestWithin, header_bytes}
use Rattle.http_model.specs.declared.reading.TheConstants.{FIELD_LIMIT}
use Rattle.http_model.specs.HeadSpans.{CoversHead, HasTextName, field_in}
use Rattle.http_model.proofs.ReadingLemmas.{covers}

within_more : (text : List ℕ) (spans more : List HeaderSpan) (found : RequestSpans) → IsRequestWithin text spans found → IsRequestWithin text (spans ++ more) found
within_more text spans more found within =
    let same = take-append-le found.headers spans more within.section.count_fits in
    record {
      method = within.method;
      path = within.path;
      version = within.version;
      section = record {
        len_fits = within.section.len_fits;
        count_fits = omega (arith, within.section.count_fits, length-append spans more);
        headers_fit = subst (All (IsHeaderWithin found.len)) (sym same) within.section.headers_fit;
      };
    }

at_more : (text : List ℕ) (spans more : List HeaderSpan) (found : RequestSpans) (tree : RequestHead) → found.headers ≤ length spans
    → IsRequestAt text spans found tree → IsRequestAt text (spans ++ more) found tree
at_more text spans more found tree fits at = record {
  reads = at.reads;
  len = at.len;
  method = at.method;
  path = at.path;
  version = at.version;
  fields = ap (map (header_bytes text)) (take-append-le found.headers spans more fits) ∙ at.fields;
}

covers_front : (text : List ℕ) (spans more : List HeaderSpan) (found : RequestSpans) → IsRequestWithin text spans found
    → CoversHead text (spans ++ more) found → CoversHead text spans found
covers_front text spans more found within all =
    let same = take-append-le found.headers spans more within.section.count_fits in
    record {
      tree = all.tree;
      is_tree = all.is_tree;
      within = within;
      method = all.method;
      method_text = all.method_text;
      target = all.target;
      minor = all.minor;
      fields = ap (map (field_in text)) (sym same) ∙ all.fields;
      names = subst (All (HasTextName text)) same all.names;
    }

pub covers_in : (text : List ℕ) (spans : List HeaderSpan) (found : RequestSpans) (tree : RequestHead) → length spans ≤ FIELD_LIMIT
    → IsRequestWithin text spans found → IsRequestAt text spans found tree → found.len ≡ length text → CoversHead text spans found
covers_in text spans found tree few within at whole =
    let more = replicate (128 - length spans) EMPTY_HEADER_SPAN in
    let room : length (spans ++ more) ≡ 128 = omega (arith, few, length-append spans more, length-replicate (128 - length spans) EMPTY_HEADER_SPAN) in
    covers_front text spans more found within
    (covers text (spans ++ more) found tree room (within_more text spans more found within) (at_more text spans more found tree within.section.count_fits at) whole)
