use Rattle.list_law.proofs.Joining.{listed_of_calm_map}
use Rattle.list_law.proofs.laws.calm_listings_are_of_the_map.Goals as goal

pub returns : goal.returns
returns c = listed_of_calm_map
