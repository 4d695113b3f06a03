use Rattle.std.proofs.Common.{◌≡◌, ◌∙◌, refl, subst}
use Rattle.object_words.specs.Answers.{Answers}
use Rattle.object_words.specs.HeadCalls.{change_of, write_refusal, written}
use Rattle.object_words.specs.Keys.{head_key}
use Rattle.realm_model.specs.States.{at_head, touched}
use Rattle.zone_core.specs.Stands.{Stands}
use Rattle.zone_core.proofs.heads.write_head.Goals as goal

pub write_at-requires-clause-stands : goal.write_at-requires-clause-stands
write_at-requires-clause-stands c = let given = c.requires.stands in (given.0, given.1, c.args.container, c.in_ok-name.name, given.2, refl)

pub returns : goal.returns
returns c settings st stands =
    let zone = c.args.zone in
    let same : c.in_ok-name.name ≡ c.args.name.now = c.in_ok-name.ensures.cases ∙ c.as_text.ensures.text in
    subst (λ name.
    let key = head_key c.args.container name in
    let h = st.heads zone key in
    let after = written h c.args.guard c.args.new.now c.args.when.now zone c.args.number c.args.clock (st.free zone) settings.frame in
    Answers c.write_at.result (write_refusal h c.args.guard c.args.new.now c.args.when.now c.args.clock (st.free zone) settings.frame)
    (λ changed. changed ≡ change_of h after) (Stands settings zone c.write_at.new.pool) st (touched settings st (at_head zone key after))) same
    (c.write_at.ensures settings st c.args.container c.in_ok-name.name stands refl)
