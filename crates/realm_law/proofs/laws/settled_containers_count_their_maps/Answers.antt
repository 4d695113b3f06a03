use Rattle.realm_law.proofs.Counting.{objects_counted, bytes_counted, bytes_shown}
use Rattle.realm_law.proofs.laws.settled_containers_count_their_maps.Goals as goal

pub returns-clause-objects : goal.returns-clause-objects
returns-clause-objects c = objects_counted

pub returns-clause-bytes : goal.returns-clause-bytes
returns-clause-bytes c = bytes_counted

pub returns-clause-shown : goal.returns-clause-shown
returns-clause-shown c = bytes_shown
