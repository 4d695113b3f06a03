use Rattle.std.proofs.Common.{refl}
use Rattle.std.proofs.lemmas.Str.Ascii.{trim_ascii_is}
use Rattle.swift_auth.specs.Lists.{without_front}
use Rattle.swift_auth.proofs.access_list.member_in.Goals as goal

pub returns : goal.returns
returns c = trim_ascii_is c.args.part.now c.trim_ascii.result.now (without_front c.args.part.now) refl c.trim_ascii.ensures.value
