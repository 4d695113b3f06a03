use Rattle.std.proofs.Common.{ap, ◌∙◌}
use Rattle.object_pool.specs.Objects.{settled, slot_at}
use Rattle.class_tests.proofs.indexes.play_in.Goals as goal

pub begin-requires : goal.begin-requires
begin-requires c = c.in_ok-shard.ensures.ok.object ∙ ap (λ slots. settled (slot_at slots c.first_shard-key.result)) c.requires
