use Rattle.stripe_law.proofs.Getting.{read_bytes, read_length}
use Rattle.stripe_law.proofs.laws.allowed_reads_are_answered.Goals as goal

pub returns-clause-bytes : goal.returns-clause-bytes
returns-clause-bytes c = read_bytes

pub returns-clause-length : goal.returns-clause-length
returns-clause-length c = read_length
