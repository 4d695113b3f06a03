use Rattle.std.proofs.Common.{rules, ap, ◌∙◌}
use Rattle.task_put.specs.declared.stage.PutRequest.{PutRequest}
use Rattle.put_service.proofs.Rows.{has_looked}
use Rattle.put_service.proofs.put.look.Goals as goal

pub returns-clause-looked : goal.returns-clause-looked
returns-clause-looked g c =
    has_looked g.D.Door.tells (g.D.Door.settings c.args.door.now) (g.D.Door.told c.args.door.now) (g.D.Door.told c.act.new.door) c.args.task.now.stages c.act.new.task c.requires.looks c.in_ok-act.ensures.steps
    (search rules) (search rules) (ap (λ (r : PutRequest). r.end) c.act.ensures.command ∙ c.requires.open) c.in_ok-act.ensures.sound c.act.ensures.up
