use Rattle.std.proofs.Common.{refl}
use Rattle.task_container.proofs.Turning.{begins}
use Rattle.task_container.proofs.task.ContainerTask.new.Goals as goal

pub returns-clause-fits : goal.returns-clause-fits
returns-clause-fits c = λ d low high account events.
    begins _ c.args.settings.now d refl c.shards_of-shards.ensures.shards c.shards_of-shards.ensures.bounds c.has_name.ensures low high account events
