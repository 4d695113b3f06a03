use Rattle.std.proofs.Common.{◌≡◌, Ok, Err, ap, subst}
use Rattle.object_words.specs.declared.entry.Guard.{Guard}
use Rattle.object_words.specs.declared.entry.Tag.{Tag}
use Rattle.object_words.specs.Answers.{Answers}
use Rattle.object_words.specs.ShardCalls.{prepare_refusal, prepared}
use Rattle.object_words.specs.Tags.{guard_of, tag_of}
use Rattle.realm_model.specs.Settings.{SettingsView}
use Rattle.realm_model.specs.States.{at_shard, touched}
use Rattle.realm_model.specs.Steps.{change_at, new_tag}
use Rattle.realm_model.specs.declared.event.Reply.TheVariants.{Prepared}
use Rattle.realm_model.specs.declared.op.Op.TheVariants.{Prepare}
use Rattle.zone_core.specs.Calls.{Performs, refusal_at}
use Rattle.zone_core.specs.Stands.{Stands}
use Rattle.zone_core.proofs.ReplyLemmas.{always, faulted, shard_done, shard_refused}
use Rattle.zone_core.proofs.steps.prepare.Goals as goal

pub returns-in-Ok : goal.returns-in-Ok
returns-in-Ok c zone st ready number clock =
    let settings = c.args.settings.now in
    let key = c.to_key-key.result in
    let found = st.shards zone key in
    let guard = c.in-Ok.guard in
    let pool = c.prepare_at.new.pool in
    let life = ap (λ (s : SettingsView). s.tag_life) c.settings.view_is in
    let tag : tag_of c.args.number c.args.clock c.settings.inside.tag_life ≡ new_tag settings st = λ i. tag_of (number i) (clock i) (life i) in
    let told = subst (λ (t : Tag). Answers {V = Guard} (Ok guard) (refusal_at found prepare_refusal) (λ g. g ≡ guard_of t) (Stands settings zone pool) st (touched settings st (at_shard zone key (change_at found (λ s. prepared s c.args.name.now t))))) tag
    (c.in-Ok.ensures settings zone st ready number) in
    subst (λ k. Performs settings zone st (Prepare zone k c.args.name.now) (Ok (Prepared guard)) pool) c.to_key-key.ensures.key
    (shard_done found prepare_refusal (λ s. Prepared (guard_of (new_tag settings st))) (Prepared guard) told.0 (always found _ (λ s. ap Prepared told.1)), told.2)

pub returns : goal.returns
returns c zone st ready number clock =
    let settings = c.args.settings.now in
    let key = c.to_key-key.result in
    let found = st.shards zone key in
    let fault = c.in-Err.fault in
    let pool = c.prepare_at.new.pool in
    let life = ap (λ (s : SettingsView). s.tag_life) c.settings.view_is in
    let tag : tag_of c.args.number c.args.clock c.settings.inside.tag_life ≡ new_tag settings st = λ i. tag_of (number i) (clock i) (life i) in
    let told = subst (λ (t : Tag). Answers {V = Guard} (Err fault) (refusal_at found prepare_refusal) (λ g. g ≡ guard_of t) (Stands settings zone pool) st (touched settings st (at_shard zone key (change_at found (λ s. prepared s c.args.name.now t))))) tag
    (c.in-Err.ensures settings zone st ready number) in
    subst (λ k. Performs settings zone st (Prepare zone k c.args.name.now) c.fault_reply.result pool) c.to_key-key.ensures.key
    (faulted {V = Guard} fault c.fault_reply.result _ _ (λ g. g ≡ guard_of (new_tag settings st)) (Stands settings zone pool) st
    (touched settings st (at_shard zone key (change_at found (λ s. prepared s c.args.name.now (new_tag settings st))))) c.fault_reply.ensures
    (λ why refused. shard_refused found prepare_refusal (λ s. Prepared (guard_of (new_tag settings st))) why refused) told)
