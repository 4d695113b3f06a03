use Rattle.class_tests.proofs.holds.shutting.Goals as goal

pub returns : goal.returns
returns c = (_, c.shut.ensures.shard c.requires.0 c.requires.1)
