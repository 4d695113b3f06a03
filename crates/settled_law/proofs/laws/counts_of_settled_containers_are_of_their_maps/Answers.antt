use Rattle.task_container.specs.Requests.{name_of}
use Rattle.settled_law.proofs.Counted.{counted_at_rest}
use Rattle.settled_law.proofs.laws.counts_of_settled_containers_are_of_their_maps.Goals as goal

pub returns-clause-objects : goal.returns-clause-objects
returns-clause-objects c settings before during actor r row shown objects bytes shards good legal none rests calm told =
    (counted_at_rest settings before during r.zone (name_of r.command) row good legal rests calm actor r.asker shown objects bytes none told.0).objects_are

pub returns-clause-bytes : goal.returns-clause-bytes
returns-clause-bytes c settings before during actor r row shown objects bytes shards good legal none rests calm told =
    (counted_at_rest settings before during r.zone (name_of r.command) row good legal rests calm actor r.asker shown objects bytes none told.0).bytes_are
