use Rattle.request_service.specs.ListLaws.{fits_waiting}
use Rattle.request_service.proofs.listing.ListingStaged.waits.Goals as goal

pub returns : goal.returns
returns c = λ t settings d e waited legal f. fits_waiting t settings d e waited f (c.waits.ensures t.task settings d e waited legal f.stands)
