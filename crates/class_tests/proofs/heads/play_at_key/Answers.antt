use Rattle.class_tests.proofs.FreshHeads.{fresh_head}
use Rattle.class_tests.proofs.heads.play_at_key.Goals as goal

pub play-right-requires : goal.play-right-requires
play-right-requires c = fresh_head c.args.pool.now c.in_ok-key.key c.in_ok-head.head c.requires c.in_ok-head.ensures.ok.object
