use Rattle.manifest.proofs.CodecLemmas.{one_manifest}
use Rattle.manifest.proofs.laws.a_manifest_has_one_spelling.Goals as goal

pub returns : goal.returns
returns c = one_manifest
