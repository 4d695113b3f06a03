use Rattle.std.proofs.Common.{}
use Rattle.object_words.specs.Keys.{tail_key}
use Rattle.object_words.specs.Tails.{tail_made, tail_refusal}
use Rattle.realm_model.specs.States.{at_tail, touched}
use Rattle.realm_model.specs.declared.event.Reply.TheVariants.{Done}
use Rattle.zone_core.specs.Stands.{Stands}
use Rattle.zone_core.proofs.ReplyLemmas.{call_refused, faulted}
use Rattle.zone_core.proofs.steps.tail_make.Goals as goal

pub returns-in-Err : goal.returns-in-Err
returns-in-Err c settings zone st ready =
    let refusal = tail_refusal c.args.bytes.now (st.free zone) settings.frame in
    faulted {V = Unit {0}} c.in-Err.fault c.fault_reply.result refusal _ (λ done. Unit {0}) (Stands settings zone c.make_tail_at.new.pool) st
    (let key = tail_key c.args.write c.args.part in touched settings st (at_tail zone key (tail_made (st.tails zone key) c.args.bytes.now (st.free zone) settings.frame))) c.fault_reply.ensures
    (λ why told. call_refused refusal Done why told) (c.in-Err.ensures settings zone st ready.stands)
