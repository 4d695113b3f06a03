use Rattle.std.proofs.Common.{◌∙◌, sym, subst}
use Rattle.std.specs.Str.{IsUtf8}
use Rattle.swift_words.proofs.PartLemmas.{word_malformed, word_whole, word_no_text}
use Rattle.swift_words.proofs.part.decode.Goals as goal

pub returns-then-not-has_whole_escapes-clause-err : goal.returns-then-not-has_whole_escapes-clause-err
returns-then-not-has_whole_escapes-clause-err c _ =
    word_malformed c.args.part.now (sym c.has_whole_escapes.ensures ∙ c.if-not-has_whole_escapes.true)

pub returns-in-Ok-clause-ok : goal.returns-in-Ok-clause-ok
returns-in-Ok-clause-ok c = (
  word_whole c.args.part.now (sym c.has_whole_escapes.ensures ∙ c.if-not-has_whole_escapes.false)
      (subst IsUtf8 c.percent_decode.ensures.bytes c.in-Ok.ensures.ok_only_if_utf8),
  c.in-Ok.ensures.value ∙ c.percent_decode.ensures.bytes,
)

pub returns-in-Err-Utf8-clause-err : goal.returns-in-Err-Utf8-clause-err
returns-in-Err-Utf8-clause-err c _ =
    word_no_text c.args.part.now (sym c.has_whole_escapes.ensures ∙ c.if-not-has_whole_escapes.false)
    (λ text. let refused = c.in-Err-Utf8.ensures.utf8 (subst IsUtf8 (sym c.percent_decode.ensures.bytes) text) in cc)
