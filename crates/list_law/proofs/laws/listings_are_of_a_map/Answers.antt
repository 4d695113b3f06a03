use Rattle.list_law.proofs.Joining.{listed_of_map}
use Rattle.list_law.proofs.laws.listings_are_of_a_map.Goals as goal

pub returns : goal.returns
returns c = listed_of_map
