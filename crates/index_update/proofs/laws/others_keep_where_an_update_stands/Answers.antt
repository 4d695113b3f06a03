use Rattle.index_update.proofs.Knowing.{fits_later, waited}
use Rattle.index_update.proofs.laws.others_keep_where_an_update_stands.Goals as goal

pub returns-clause-known : goal.returns-clause-known
returns-clause-known c = fits_later

pub returns-clause-told : goal.returns-clause-told
returns-clause-told c = waited
