use Rattle.std.proofs.Common.{subst}
use Rattle.realm_model.specs.Suits.{Suits}
use Rattle.task_get.specs.Stages.{op_of}
use Rattle.task_get.specs.Readings.{next_piece}
use Rattle.task_get.proofs.task.next_step.Goals as goal

pub tail_in-requires : goal.tail_in-requires
tail_in-requires c =
    let r = c.args.request.now in
    let x = c.in-Tails.reading in
    let p = next_piece x in
    (r.zone, x.manifest.write, p.part, p.start, p.count, subst (λ s. Suits (op_of r s) c.args.reply) c.in-Tails.is c.requires.suits)
