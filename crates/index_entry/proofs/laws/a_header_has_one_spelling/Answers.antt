use Rattle.index_entry.proofs.Uniqueness.{one_header}
use Rattle.index_entry.proofs.laws.a_header_has_one_spelling.Goals as goal

pub returns : goal.returns
returns c = one_header
