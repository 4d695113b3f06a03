use Rattle.task_get.specs.Tasks.{account_at, phase_at, events_at}
use Rattle.task_get.proofs.Giving.{front_at_once, all_counted}
use Rattle.task_get.proofs.laws.pieces_are_the_bytes_shown.Goals as goal

pub returns-clause-front : goal.returns-clause-front
returns-clause-front c settings t d event fits is = front_at_once t.request t.stage (account_at settings d) (phase_at settings d) (events_at d) fits.stage event is

pub returns-clause-given : goal.returns-clause-given
returns-clause-given c settings t d fits = fits.given

pub returns-clause-whole : goal.returns-clause-whole
returns-clause-whole c settings d r kind meta etag stamp size start count means event is = means.1.1 event is

pub returns-clause-count : goal.returns-clause-count
returns-clause-count c settings d r kind meta etag stamp size start count means = all_counted r (account_at settings d) (events_at d) kind meta etag stamp size start count means
