use Rattle.std.proofs.Common.{Ok, refl, subst}
use Rattle.object_words.specs.ShardCalls.{complete_refusal}
use Rattle.realm_model.specs.declared.event.Reply.TheVariants.{Done, No}
use Rattle.realm_model.specs.declared.op.Op.TheVariants.{Cancel}
use Rattle.zone_core.specs.Calls.{Performs}
use Rattle.zone_core.proofs.ReplyLemmas.{always, shard_done, shard_refused}
use Rattle.zone_core.proofs.steps.cancel.Goals as goal

pub returns-in-Ok : goal.returns-in-Ok
returns-in-Ok c settings zone st ready =
    let found = st.shards zone c.to_key-key.result in
    let told = c.in-Ok.ensures settings zone st ready in
    subst (λ k. Performs settings zone st (Cancel zone k c.args.name.now c.args.tag) (Ok Done) c.cancel_at.new.pool) c.to_key-key.ensures.key
    (shard_done found (λ s. complete_refusal s c.args.name.now c.args.tag) (λ s. Done) Done told.0 (always found _ (λ s. refl)), told.2)

pub returns : goal.returns
returns c settings zone st ready =
    let found = st.shards zone c.to_key-key.result in
    let told = c.in-Err.ensures settings zone st ready in
    subst (λ k. Performs settings zone st (Cancel zone k c.args.name.now c.args.tag) (Ok (No c.in-Err.why)) c.cancel_at.new.pool) c.to_key-key.ensures.key
    (shard_refused found (λ s. complete_refusal s c.args.name.now c.args.tag) (λ s. Done) c.in-Err.why told.0, told.1)
