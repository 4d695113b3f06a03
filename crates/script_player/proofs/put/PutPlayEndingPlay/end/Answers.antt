use Rattle.std.proofs.lemmas.Option.{IfSome_then}
use Rattle.script_player.proofs.Putting.{put_means}
use Rattle.script_player.proofs.put.PutPlayEndingPlay.end.Goals as goal

pub returns-clause-right : goal.returns-clause-right
returns-clause-right c =
    IfSome_then c.outcome.result c.outcome.ensures.right (λ outcome right settings d f. put_means c.args.self.now settings d outcome.now f (right settings d f.task))
