use Rattle.std.proofs.lemmas.Result.{on_ok_weaker}
use Rattle.cls_record.proofs.record.renew.Goals as goal

pub returns-in-Some : goal.returns-in-Some
returns-in-Some c = rw c.in-Some.is c.put_bucket.ensures

pub returns-in-None : goal.returns-in-None
returns-in-None c = record {
  works = c.take_bucket.ensures.works;
  ok = rw c.in-None.is (on_ok_weaker c.take_bucket.result (λ ok r is small. ok c.args.number r is small) c.take_bucket.ensures.ok);
  err = c.take_bucket.ensures.err;
}
