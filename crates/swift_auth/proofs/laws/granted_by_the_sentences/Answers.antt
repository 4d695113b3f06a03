use Rattle.std.proofs.Common.{Some, None}
use Rattle.swift_auth.proofs.GrantLemmas.{granted_iff, refused_else}
use Rattle.swift_auth.proofs.laws.granted_by_the_sentences.Goals as goal

pub returns : goal.returns
returns c = record {
  granted = λ asker account bucket deed. granted_iff asker account bucket deed;
  denied = λ user account bucket deed none. refused_else (Some user) account bucket deed none;
  unknown = λ account bucket deed none. refused_else None account bucket deed none;
}
