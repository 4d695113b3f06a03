use Rattle.std.proofs.Common.{refl, ap, ◌∙◌}
use Rattle.std.proofs.lemmas.Str.Ascii.{trim_ascii_is}
use Rattle.swift_auth.specs.Lists.{without_front}
use Rattle.swift_requests.specs.Etags.{without_quotes}
use Rattle.swift_requests.proofs.etag.etag_in.Goals as goal

pub returns : goal.returns
returns c =
    c.without_quotes.ensures
    ∙ ap without_quotes (trim_ascii_is c.args.part.now c.trim_ascii.result.now (without_front c.args.part.now) refl c.trim_ascii.ensures.value)
