use Rattle.std.proofs.Common.{◌≡◌, length, take, sym, subst}
use Rattle.task_put.specs.declared.task.PutTask.{PutTask}
use Rattle.task_put.specs.Tasks.{fed, fits}
use Rattle.task_put.proofs.Tasking.{fed_task}
use Rattle.task_put.proofs.task.PutTask.feed.Goals as goal

pub returns-clause-fits : goal.returns-clause-fits
returns-clause-fits c = λ settings d f.
    let t : PutTask = c.args.self.now in
    let bytes = c.args.bytes.now in
    let taken = c.in_ok-taken.taken in
    let stage = c.in_ok-taken.ensures.stage in
    let came = c.with_bytes-self.ensures in
    let same : fed t (take taken bytes) ≡ record {
      zone = t.zone;
      stage = c.feed.new.self;
      end = t.end;
      asker = t.asker;
      sent = t.sent;
      came = c.with_bytes-self.result;
    } = λ i. record {
      zone = t.zone;
      stage = sym stage i;
      end = t.end;
      asker = t.asker;
      sent = t.sent;
      came = record { numbers = sym came i };
    } in
    subst (λ u. fits u settings d) same (fed_task t taken (length bytes) bytes settings d c.in_ok-taken.ensures.taken f)
