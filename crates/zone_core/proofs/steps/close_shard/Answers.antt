use Rattle.std.proofs.Common.{Ok, refl, subst}
use Rattle.object_words.specs.HoldCalls.{close_refusal, closed}
use Rattle.realm_model.specs.States.{at_shard, touched}
use Rattle.realm_model.specs.Steps.{change_at}
use Rattle.realm_model.specs.declared.event.Reply.TheVariants.{Done}
use Rattle.realm_model.specs.declared.op.Op.TheVariants.{CloseShard}
use Rattle.zone_core.specs.Calls.{Performs}
use Rattle.zone_core.specs.Stands.{Stands}
use Rattle.zone_core.proofs.ReplyLemmas.{always, faulted, shard_done, shard_refused}
use Rattle.zone_core.proofs.steps.close_shard.Goals as goal

pub returns-in-Ok : goal.returns-in-Ok
returns-in-Ok c settings zone st ready =
    let found = st.shards zone c.to_key-key.result in
    let told = c.in-Ok.ensures settings zone st ready.stands in
    subst (λ k. Performs settings zone st (CloseShard zone k c.args.id c.args.force) (Ok Done) c.close_at.new.pool) c.to_key-key.ensures.key
    (shard_done found (λ s. close_refusal s c.args.id c.args.force) (λ s. Done) Done told.0 (always found _ (λ s. refl)), told.2)

pub returns : goal.returns
returns c settings zone st ready =
    let key = c.to_key-key.result in
    let found = st.shards zone key in
    let pool = c.close_at.new.pool in
    subst (λ k. Performs settings zone st (CloseShard zone k c.args.id c.args.force) c.fault_reply.result pool) c.to_key-key.ensures.key
    (faulted {V = Unit {0}} c.in-Err.fault c.fault_reply.result _ _ (λ done. Unit {0}) (Stands settings zone pool) st
    (touched settings st (at_shard zone key (change_at found (λ s. closed s c.args.id c.args.force)))) c.fault_reply.ensures
    (λ why told. shard_refused found (λ s. close_refusal s c.args.id c.args.force) (λ s. Done) why told) (c.in-Err.ensures settings zone st ready.stands))
