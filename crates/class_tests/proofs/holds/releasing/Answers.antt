use Rattle.class_tests.proofs.holds.releasing.Goals as goal

pub returns : goal.returns
returns c = (_, c.release.ensures.shard c.requires.0 c.requires.1)
