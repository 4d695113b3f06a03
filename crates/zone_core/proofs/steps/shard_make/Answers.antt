use Rattle.std.proofs.Common.{refl, subst}
use Rattle.object_words.specs.ShardCalls.{made}
use Rattle.realm_model.specs.States.{at_shard, touched}
use Rattle.zone_core.specs.Stands.{Stands}
use Rattle.zone_core.proofs.steps.shard_make.Goals as goal

pub returns-in-Ok : goal.returns-in-Ok
returns-in-Ok c settings zone st ready = (
  refl,
  subst (λ k. Stands settings zone c.make_at.new.pool (touched settings st (at_shard zone k (made (st.shards zone k))))) c.to_key-key.ensures.key (c.in-Ok.ensures.ok settings zone st ready.stands),
)

pub returns : goal.returns
returns c settings zone st ready = c.in-Err.ensures.err settings zone st ready.stands
