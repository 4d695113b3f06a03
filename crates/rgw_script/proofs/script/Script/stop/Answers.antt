use Rattle.std.proofs.Common.{refl, Some, None}
use Rattle.rgw_script.proofs.Playing.{taken_holds, stopped, misses}
use Rattle.rgw_script.proofs.script.Script.stop.Goals as goal

pub returns-in-Some-clause-holds : goal.returns-in-Some-clause-holds
returns-in-Some-clause-holds c = λ settings realm holds. taken_holds settings c.args.self.now c.take.new.self c.args.name.now (Some c.in-Some.active) realm
    (record { who = c.in-Some.ensures.who; gone = c.in-Some.ensures.gone; kept = c.in-Some.ensures.kept }) holds

pub returns-in-Some-clause-played : goal.returns-in-Some-clause-played
returns-in-Some-clause-played c = λ is settings history. stopped settings c.args.self.now c.take.new.self c.args.name.now (Some c.in-Some.active) history
    (record { who = c.in-Some.ensures.who; gone = c.in-Some.ensures.gone; kept = c.in-Some.ensures.kept }) refl

pub returns-in-None-clause-holds : goal.returns-in-None-clause-holds
returns-in-None-clause-holds c = λ settings realm holds. taken_holds settings c.args.self.now c.take.new.self c.args.name.now None realm
    (record { who = c.in-None.ensures.who; gone = c.in-None.ensures.gone; kept = c.in-None.ensures.kept }) holds

pub returns-in-None-clause-missed : goal.returns-in-None-clause-missed
returns-in-None-clause-missed c = λ is history role. misses c.args.self.now c.take.new.self c.args.name.now None
    (record { who = c.in-None.ensures.who; gone = c.in-None.ensures.gone; kept = c.in-None.ensures.kept }) refl role
