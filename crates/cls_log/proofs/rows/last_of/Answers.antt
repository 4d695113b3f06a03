use Rattle.std.proofs.Common.{◌≡◌, length, sym, ap, ◌∙◌, append-nil, arith}
use Rattle.std.proofs.lemmas.Bool.Decides.{nat_tests}
use Rattle.index_entry.specs.Numbers.{number_bytes}
use Rattle.index_entry.proofs.PieceLemmas.{length-number_bytes}
use Rattle.class_words.specs.LogRows.{log_attrs}
use Rattle.cls_log.proofs.RowLemmas.{no_attrs, some_attrs}
use Rattle.cls_log.proofs.rows.last_of.Goals as goal

pub returns-then-is_empty : goal.returns-then-is_empty
returns-then-is_empty c l is =
    let same : c.attrs-attrs.result.now ≡ log_attrs l = c.attrs-attrs.ensures ∙ is.attrs in
    let none : length c.attrs-attrs.result.now ≡ 0 = grind (arith, nat_tests, c.if-is_empty.ensures) in
    no_attrs l (sym (ap length same) ∙ none)

pub u64_at-requires : goal.u64_at-requires
u64_at-requires c =
    let l = c.requires.0 in
    omega (arith, ap length (some_attrs l c.attrs-attrs.result.now c.if-is_empty.ensures (c.attrs-attrs.ensures ∙ c.requires.1.attrs)), length-number_bytes l.last)

pub returns : goal.returns
returns c l is =
    c.u64_at.ensures.once l.last _ is.is_log.last_fits (some_attrs l c.attrs-attrs.result.now c.if-is_empty.ensures (c.attrs-attrs.ensures ∙ is.attrs) ∙ sym (append-nil (number_bytes l.last)))
