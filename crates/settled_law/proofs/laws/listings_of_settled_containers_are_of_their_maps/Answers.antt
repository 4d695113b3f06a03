use Rattle.settled_law.proofs.Listing.{listed_at_rest}
use Rattle.settled_law.proofs.laws.listings_of_settled_containers_are_of_their_maps.Goals as goal

pub returns : goal.returns
returns c = listed_at_rest
