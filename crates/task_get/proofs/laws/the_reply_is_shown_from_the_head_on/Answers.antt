use Rattle.task_get.specs.Tasks.{account_at, phase_at, events_at}
use Rattle.task_get.proofs.Giving.{shown_at_once, none_shown, none_brought, none_at_first, shown_rests}
use Rattle.task_get.proofs.laws.the_reply_is_shown_from_the_head_on.Goals as goal

pub returns-clause-shown : goal.returns-clause-shown
returns-clause-shown c settings t d event fits is = shown_at_once t.request t.stage (account_at settings d) (phase_at settings d) (events_at d) event fits.stage is

pub returns-clause-not_yet : goal.returns-clause-not_yet
returns-clause-not_yet c settings t d fits is = none_shown t.request t.stage (account_at settings d) (phase_at settings d) (events_at d) fits.stage is

pub returns-clause-nothing : goal.returns-clause-nothing
returns-clause-nothing c settings t d fits is = none_brought t.request t.stage (account_at settings d) (phase_at settings d) (events_at d) fits.stage is

pub returns-clause-first : goal.returns-clause-first
returns-clause-first c settings t d own fits is = none_at_first t.request t.stage (account_at settings d) (phase_at settings d) (events_at d) own fits.stage is

pub returns-clause-rests : goal.returns-clause-rests
returns-clause-rests c settings t d reply fits is = shown_rests t.request t.stage (account_at settings d) (phase_at settings d) (events_at d) reply fits.stage is
