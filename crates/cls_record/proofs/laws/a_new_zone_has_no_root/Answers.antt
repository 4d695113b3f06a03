use Rattle.cls_record.proofs.RootLemmas.{new_root}
use Rattle.cls_record.proofs.laws.a_new_zone_has_no_root.Goals as goal

pub returns : goal.returns
returns c = new_root
