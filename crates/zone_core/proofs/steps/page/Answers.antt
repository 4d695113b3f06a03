use Rattle.std.proofs.Common.{◌≡◌, Ok, IfSome, ap, ◌∙◌, subst}
use Rattle.object_words.specs.Refusals.{fate_refusal}
use Rattle.object_words.specs.ShardCalls.{page_of}
use Rattle.realm_model.specs.declared.event.Reply.TheVariants.{Entries}
use Rattle.realm_model.specs.declared.op.Op.TheVariants.{Page}
use Rattle.zone_core.specs.Calls.{Performs}
use Rattle.zone_core.specs.Stands.{Stands}
use Rattle.zone_core.proofs.BoundLemmas.{if_some}
use Rattle.zone_core.proofs.ReplyLemmas.{faulted, shard_done, shard_refused}
use Rattle.zone_core.proofs.steps.page.Goals as goal

pub returns-in-Ok : goal.returns-in-Ok
returns-in-Ok c settings zone st ready clock =
    let found = st.shards zone c.to_key-key.result in
    let told = c.in-Ok.ensures settings zone st ready.stands in
    let limit = c.args.limit in
    subst (λ k. Performs settings zone st (Page zone k c.args.after.now limit) (Ok (Entries c.in-Ok.page)) c.page_at.new.pool) c.to_key-key.ensures.key (
      shard_done found (λ s. fate_refusal s.fate) (λ s. Entries (page_of s c.args.after.now limit st.clock)) (Entries c.in-Ok.page) told.0
          (if_some found (λ s. c.in-Ok.page ≡ page_of s c.as_bytes.result.now limit c.args.clock) _ (λ s same. ap Entries (same ∙ (λ i. page_of s (c.as_bytes.ensures i) limit (clock i)))) told.1),
      told.2,
    )

pub returns : goal.returns
returns c settings zone st ready clock =
    let found = st.shards zone c.to_key-key.result in
    let limit = c.args.limit in
    subst (λ k. Performs settings zone st (Page zone k c.args.after.now limit) c.fault_reply.result c.page_at.new.pool) c.to_key-key.ensures.key
    (faulted c.in-Err.fault c.fault_reply.result _ _ (λ page. IfSome found (λ s. page ≡ page_of s c.as_bytes.result.now limit c.args.clock)) (Stands settings zone c.page_at.new.pool) st st c.fault_reply.ensures
    (λ why told. shard_refused found (λ s. fate_refusal s.fate) (λ s. Entries (page_of s c.args.after.now limit st.clock)) why told)
    (c.in-Err.ensures settings zone st ready.stands))
