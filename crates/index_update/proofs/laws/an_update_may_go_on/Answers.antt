use Rattle.index_update.proofs.ChangingNeeds.{may_prepare, may_announce, may_write, may_cancel, may_complete, may_look_for_shard}
use Rattle.index_update.proofs.laws.an_update_may_go_on.Goals as goal

pub returns-clause-prepare : goal.returns-clause-prepare
returns-clause-prepare c = λ settings r x key change k low high named fits. may_prepare settings r x k low high key change named fits

pub returns-clause-announce : goal.returns-clause-announce
returns-clause-announce c = λ settings r x key guard change k low high fits. may_announce settings r x k low high key guard change fits

pub returns-clause-write : goal.returns-clause-write
returns-clause-write c = λ settings r x key guard change k low high fits. may_write settings r x k low high key guard change fits

pub returns-clause-cancel : goal.returns-clause-cancel
returns-clause-cancel c = λ settings r x key tag after k low high fits. may_cancel settings r x k low high key tag after fits

pub returns-clause-complete : goal.returns-clause-complete
returns-clause-complete c = λ settings r x key made k low high fits. may_complete settings r x k low high key made fits

pub returns-clause-look : goal.returns-clause-look
returns-clause-look c = λ settings r x made k low high fits. may_look_for_shard settings r x k low high made fits
