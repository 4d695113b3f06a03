use Rattle.std.proofs.Common.{sym, subst, ap, ◌∙◌, rules}
use Rattle.std.specs.Str.{IsAscii}
use Rattle.hex.specs.Hex.{lower_digits, encode_lower}
use Rattle.hex.proofs.HexLemmas.{IsAscii-encode_with}
use Rattle.swift_reply.proofs.Ascii.{cells_are_ascii, not_failed}
use Rattle.swift_reply.proofs.listing.hash_digits.Goals as goal

pub returns-clause-ascii : goal.returns-clause-ascii
returns-clause-ascii c =
    let text = not_failed c.encode_to_slice.result (sym c.is_err.ensures.value ∙ c.if-is_err.false) c.encode_to_slice.ensures.written in
    subst IsAscii (sym (text ∙ ap encode_lower c.as_slice.ensures)) (IsAscii-encode_with lower_digits c.args.etag.now (cells_are_ascii lower_digits (search rules)))
