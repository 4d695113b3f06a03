use Rattle.index_update.proofs.ChangingTags.{prepare_kept, announce_kept, cancel_kept}
use Rattle.index_update.proofs.laws.tags_keep_where_an_update_stands.Goals as goal

pub returns-clause-prepare : goal.returns-clause-prepare
returns-clause-prepare c = λ r x key change k reply fits. prepare_kept r x key change k fits reply

pub returns-clause-announce : goal.returns-clause-announce
returns-clause-announce c = λ r x key guard change k reply fits. announce_kept r x key guard change k fits reply

pub returns-clause-cancel : goal.returns-clause-cancel
returns-clause-cancel c = λ r x key tag after k reply fits. cancel_kept r x key tag k after reply fits
