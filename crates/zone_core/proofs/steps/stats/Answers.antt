use Rattle.std.proofs.Common.{◌≡◌, Ok, ap, subst}
use Rattle.object_words.specs.Refusals.{fate_refusal}
use Rattle.object_words.specs.Shards.{stats_of}
use Rattle.realm_model.specs.declared.event.Reply.TheVariants.{No, Stats}
use Rattle.realm_model.specs.declared.op.Op.TheVariants.{Stats as stats_op}
use Rattle.zone_core.specs.Calls.{Performs}
use Rattle.zone_core.proofs.BoundLemmas.{if_some}
use Rattle.zone_core.proofs.ReplyLemmas.{shard_done, shard_refused}
use Rattle.zone_core.proofs.steps.stats.Goals as goal

pub returns-in-Ok : goal.returns-in-Ok
returns-in-Ok c settings zone st ready =
    let found = st.shards zone c.to_key-key.result in
    let told = c.in-Ok.ensures settings zone st ready.stands in
    subst (λ k. Performs settings zone st (stats_op zone k) (Ok (Stats c.in-Ok.stats)) c.stats_at.new.pool) c.to_key-key.ensures.key
    (shard_done found (λ s. fate_refusal s.fate) (λ s. Stats (stats_of s)) (Stats c.in-Ok.stats) told.0 (if_some found (λ s. c.in-Ok.stats ≡ stats_of s) _ (λ s same. ap Stats same) told.1), told.2)

pub returns : goal.returns
returns c settings zone st ready =
    let found = st.shards zone c.to_key-key.result in
    let told = c.in-Err.ensures settings zone st ready.stands in
    subst (λ k. Performs settings zone st (stats_op zone k) (Ok (No c.in-Err.why)) c.stats_at.new.pool) c.to_key-key.ensures.key
    (shard_refused found (λ s. fate_refusal s.fate) (λ s. Stats (stats_of s)) c.in-Err.why told.0, told.1)
