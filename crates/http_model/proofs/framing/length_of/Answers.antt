use Rattle.std.proofs.Common.{◌≡◌, ◌∙◌, ap, sym, inl, inr, None}
use Rattle.http1.specs.declared.fields.KnownFields.{KnownFields}
use Rattle.http_model.proofs.FramingLemmas.{number_in, length_of_one, too_long}
use Rattle.http_model.proofs.framing.length_of.Goals as goal

pub returns-then-value-gt-MAX_DIGITS : goal.returns-then-value-gt-MAX_DIGITS
returns-then-value-gt-MAX_DIGITS c = too_long c.args.value.now c.if-value-gt-MAX_DIGITS.true

pub returns-in-Value : goal.returns-in-Value
returns-in-Value c =
    ap number_in (sym c.in-Value.is)
    ∙ ap (λ (known : KnownFields). number_in known.content_length) c.from_headers.ensures
    ∙ length_of_one c.args.value.now c.if-value-gt-MAX_DIGITS.false

pub returns-in-Absent : goal.returns-in-Absent
returns-in-Absent c =
    let none : None ≡ number_in c.from_headers.result.content_length =
    elim c.in-Absent.is [ inl e ↦ ap number_in (sym e) | inr e ↦ ap number_in (sym e) ] in
    none
    ∙ ap (λ (known : KnownFields). number_in known.content_length) c.from_headers.ensures
    ∙ length_of_one c.args.value.now c.if-value-gt-MAX_DIGITS.false
