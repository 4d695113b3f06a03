use Rattle.std.proofs.Common.{◌≡◌, ap, sym, ◌∙◌}
use Rattle.std.specs.Prelude.{ℕ, List}
use Rattle.object_words.specs.Keys.{tail_key}
use Rattle.object_words.specs.Tails.{bytes_at, read_refusal}
use Rattle.realm_model.specs.declared.event.Reply.TheVariants.{Bytes}
use Rattle.realm_model.specs.Steps.{reply_or}
use Rattle.zone_core.specs.Stands.{Stands}
use Rattle.zone_core.proofs.ReplyLemmas.{call_refused, faulted}
use Rattle.zone_core.proofs.steps.tail_read.Goals as goal

pub returns-in-Ok : goal.returns-in-Ok
returns-in-Ok c settings zone st ready clock =
    let tail = st.tails zone (tail_key c.args.write c.args.part) in
    let told = c.in-Ok.ensures.found settings zone st ready.stands in
    (ap Bytes told.1 ∙ ap (reply_or (Bytes (bytes_at tail c.args.start c.args.count))) (sym told.0 ∙ ap (read_refusal tail) clock), told.2)

pub returns-in-Err : goal.returns-in-Err
returns-in-Err c settings zone st ready clock =
    let tail = st.tails zone (tail_key c.args.write c.args.part) in
    faulted {V = List ℕ} c.in-Err.fault c.fault_reply.result (read_refusal tail c.args.clock) _ (λ bytes. bytes ≡ bytes_at tail c.args.start c.args.count) (Stands settings zone c.read_tail_at.new.pool) st st c.fault_reply.ensures
    (λ why told. call_refused (read_refusal tail st.clock) (Bytes (bytes_at tail c.args.start c.args.count)) why (sym (ap (read_refusal tail) clock) ∙ told)) (c.in-Err.ensures.found settings zone st ready.stands)
