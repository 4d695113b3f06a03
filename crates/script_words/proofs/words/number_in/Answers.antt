use Rattle.std.proofs.Common.{◌∙◌, sym, arith}
use Rattle.script_words.proofs.Texts.{digits_are_utf8, reads_number}
use Rattle.script_words.proofs.words.number_in.Goals as goal

pub returns-in_default : goal.returns-in_default
returns-in_default c = absurd (c.in_default.ensures.cases.0 (digits_are_utf8 c.args.word.now (sym c.if-not-has_only_digits.ensures)))

pub returns : goal.returns
returns c =
    let same = c.in-Ok.ensures.cases.0 in
    c.ok.ensures.value ∙ reads_number c.args.word.now c.parse.result (rw same at c.parse.ensures.value.0) (omega arith) (sym c.if-not-has_only_digits.ensures)
