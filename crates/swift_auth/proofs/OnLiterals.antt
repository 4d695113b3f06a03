use Rattle.std.specs.Prelude.{⊤}
use Rattle.serde_json.proofs.OnLiterals.{serde_json_on_literals}
use Rattle.swift_auth.specs.Users.{is_name, is_secret}
use Rattle.swift_auth.specs.Lists.{has_word, names}

-- what an answer unfolds to compute this crate's specs on a literal
unfoldable pub swift_auth_on_literals : ⊤
unfolding serde_json_on_literals is_name is_secret has_word names
swift_auth_on_literals = tt
