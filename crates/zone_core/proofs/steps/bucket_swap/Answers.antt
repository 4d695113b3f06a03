use Rattle.std.proofs.Common.{Err, Option, subst, arith}
use Rattle.object_words.specs.declared.bucket.Bucket.{Bucket}
use Rattle.object_words.specs.Answers.{Answers}
use Rattle.object_words.specs.Roots.{swap_refusal, swapped}
use Rattle.realm_model.specs.States.{at_root, number_next, touched}
use Rattle.realm_model.specs.Steps.{is_master}
use Rattle.realm_model.specs.declared.event.Reply.TheVariants.{Done}
use Rattle.zone_core.specs.Stands.{Stands}
use Rattle.zone_core.proofs.ReplyLemmas.{call_refused, done, faulted}
use Rattle.zone_core.proofs.steps.bucket_swap.Goals as goal

pub swap_bucket-requires : goal.swap_bucket-requires
swap_bucket-requires c =
    let given = c.requires.ready in
    record { stands = (given.0, c.args.zone, given.1, given.2.stands, omega (arith, given.2.small.root, given.2.few)) }

pub returns-in-Ok : goal.returns-in-Ok
returns-in-Ok c settings st ready number =
    let zone = c.args.zone in
    let root = st.root zone in
    let told = c.in-Ok.ensures settings zone st ready.stands (omega (arith, ready.small.root, ready.few)) in
    let Left : Option Bucket → Type 0 = λ new. Stands settings zone c.swap_bucket.new.pool (touched settings st (at_root zone (swapped root c.args.name.now c.args.expected new (is_master zone) c.args.number))) in (
      done (swap_refusal root c.args.name.now c.args.expected) Done told.0,
      subst (λ n. Stands settings zone c.swap_bucket.new.pool (touched settings st (at_root zone (swapped root c.args.name.now c.args.expected c.args.new.now (is_master zone) n)))) number
          (subst Left c.as_ref.ensures.value told.2),
    )

pub returns-in-Err : goal.returns-in-Err
returns-in-Err c settings st ready number =
    let zone = c.args.zone in
    let root = st.root zone in
    let pool = c.swap_bucket.new.pool in
    let refusal = swap_refusal root c.args.name.now c.args.expected in
    let told = c.in-Err.ensures settings zone st ready.stands (omega (arith, ready.small.root, ready.few)) in
    let Left : Option Bucket → Type 0 = λ new.
    Answers {V = Unit {0}} (Err c.in-Err.fault) refusal (λ _. Unit {0}) (Stands settings zone pool) st (touched settings st (at_root zone (swapped root c.args.name.now c.args.expected new (is_master zone) c.args.number))) in
    let left = subst (λ n.
    Answers {V = Unit {0}} (Err c.in-Err.fault) refusal (λ _. Unit {0}) (Stands settings zone pool) st (touched settings st (at_root zone (swapped root c.args.name.now c.args.expected c.args.new.now (is_master zone) n)))) number
    (subst Left c.as_ref.ensures.value told) in
    faulted {V = Unit {0}} c.in-Err.fault c.fault_reply.result refusal _ (λ _. Unit {0}) (Stands settings zone pool) st
    (touched settings st (at_root zone (swapped root c.args.name.now c.args.expected c.args.new.now (is_master zone) (number_next st)))) c.fault_reply.ensures
    (λ why is. call_refused refusal Done why is) left
