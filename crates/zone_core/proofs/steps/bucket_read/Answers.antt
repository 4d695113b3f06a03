use Rattle.std.proofs.Common.{sym, ◌∙◌}
use Rattle.object_words.specs.Names.{at}
use Rattle.zone_core.proofs.ReplyLemmas.{row_absent, row_found}
use Rattle.zone_core.proofs.steps.bucket_read.Goals as goal

pub returns-in-Some : goal.returns-in-Some
returns-in-Some c settings zone st ready =
    (row_found (at (st.root zone).buckets c.args.name.now) c.in-Some.row (sym (c.in-Ok.ensures.found settings zone st ready.stands) ∙ c.in-Some.is), c.in-Ok.ensures.stays settings zone st ready.stands)

pub returns-in-None : goal.returns-in-None
returns-in-None c settings zone st ready =
    (row_absent (at (st.root zone).buckets c.args.name.now) (sym (c.in-Ok.ensures.found settings zone st ready.stands) ∙ c.in-None.is), c.in-Ok.ensures.stays settings zone st ready.stands)

pub returns-in_default : goal.returns-in_default
returns-in_default c settings zone st ready = c.in_default.ensures.stays settings zone st ready.stands
