use Rattle.swift_auth.proofs.GrantLemmas.{absent_or_granted}
use Rattle.swift_auth.proofs.laws.absent_and_private_look_alike.Goals as goal

pub returns : goal.returns
returns c = absent_or_granted
