use Rattle.std.proofs.Common.{◌++◌}
use Rattle.realm_model.specs.Worlds.{start}
use Rattle.realm_model.proofs.Runs.{legal_front}
use Rattle.repair_law.proofs.Passes.{row_read, nothing_left, no_tags_left}
use Rattle.repair_law.proofs.Sayings.{come_later}
use Rattle.repair_law.proofs.Staying.{none_later, row_in_here, settled_at}
use Rattle.repair_law.proofs.laws.repairs_settle_their_container.Goals as goal

pub returns-clause-row : goal.returns-clause-row
returns-clause-row c settings before during actor r row clock applied left good legal none due come alone ended =
    row_read settings before during actor r.zone r.bucket row clock applied left good legal none due come alone ended.0

pub returns-clause-left : goal.returns-clause-left
returns-clause-left c settings before during actor r row clock applied left good legal none due come alone ended =
    nothing_left settings before during actor r.zone r.bucket row clock applied left good legal none due come alone ended.0

pub returns-clause-tags : goal.returns-clause-tags
returns-clause-tags c settings before during actor r row clock applied left good legal none due come alone ended =
    no_tags_left settings before during actor r.zone r.bucket row clock applied left good legal none due come alone ended.0

pub returns-clause-shown : goal.returns-clause-shown
returns-clause-shown c settings before during later actor r row clock applied left good legal none due come alone ended calm kept some =
    let front = legal_front settings (start settings) (before ++ during) later legal in
    let empty = no_tags_left settings before during actor r.zone r.bucket row clock applied left good front none due come alone ended.0 in
    let here = row_in_here settings ((before ++ during) ++ later) r.zone r.bucket row good legal kept in
    settled_at settings ((before ++ during) ++ later) r.zone row.id row good legal here some (none_later settings (before ++ during) later r.zone row empty calm)

pub returns-clause-clocks : goal.returns-clause-clocks
returns-clause-clocks c = come_later
