use Rattle.std.proofs.Common.{refl, sym}
use Rattle.index_entry.proofs.EntryLemmas.{cut_short}
use Rattle.index_entry.proofs.laws.entries_are_written_so.Goals as goal

pub returns-clause-cut : goal.returns-clause-cut
returns-clause-cut c e is here = cut_short _ e is (sym here) refl refl refl
