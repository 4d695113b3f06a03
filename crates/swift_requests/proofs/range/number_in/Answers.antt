use Rattle.std.proofs.Common.{◌≡◌, ◌^◌, ◌-◌, ◌∙◌, ap, sym, Some, inl, inr, true}
use Rattle.http1.specs.declared.fields.KnownFields.{KnownFields}
use Rattle.swift_requests.specs.Ranges.{is_numeral}
use Rattle.swift_requests.proofs.Numbers.{capped, length_in, number_of_numeral}
use Rattle.swift_requests.proofs.range.number_in.Goals as goal

pub returns-in-Value : goal.returns-in-Value
returns-in-Value c =
    let is : is_numeral c.args.text.now ≡ true = sym c.is_numeral.ensures ∙ c.if-not-is_numeral.false in
    ap (λ l. Some (capped l)) (sym c.in-Value.is ∙ ap (λ (known : KnownFields). known.content_length) c.from_headers.ensures ∙ length_in c.args.text.now)
    ∙ number_of_numeral c.args.text.now is

pub returns-in-Absent : goal.returns-in-Absent
returns-in-Absent c =
    let is : is_numeral c.args.text.now ≡ true = sym c.is_numeral.ensures ∙ c.if-not-is_numeral.false in
    let most : Some (2 ^ 64 - 1) ≡ Some (capped c.from_headers.result.content_length) =
    elim c.in-Absent.is [ inl e ↦ ap (λ l. Some (capped l)) (sym e) | inr e ↦ ap (λ l. Some (capped l)) (sym e) ] in
    most
    ∙ ap (λ (known : KnownFields). Some (capped known.content_length)) c.from_headers.ensures
    ∙ ap (λ l. Some (capped l)) (length_in c.args.text.now)
    ∙ number_of_numeral c.args.text.now is
