use Rattle.cls_record.proofs.BucketLemmas.{one_bucket}
use Rattle.cls_record.proofs.laws.a_bucket_row_has_one_spelling.Goals as goal

pub returns : goal.returns
returns c = one_bucket
