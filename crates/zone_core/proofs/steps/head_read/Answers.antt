use Rattle.std.proofs.Common.{ap, ◌∙◌}
use Rattle.object_words.specs.HeadCalls.{seen}
use Rattle.object_words.specs.Keys.{head_key}
use Rattle.realm_model.specs.declared.event.Reply.TheVariants.{Head}
use Rattle.zone_core.proofs.steps.head_read.Goals as goal

pub returns-in-Ok : goal.returns-in-Ok
returns-in-Ok c settings zone st ready number clock =
    let h = st.heads zone (head_key c.args.container c.args.name.now) in
    let same = c.in-Ok.ensures.found settings zone st ready.stands ∙ ap (seen h) number in
    ((λ i. Head (same i) (clock i)), c.in-Ok.ensures.stays settings zone st ready.stands)

pub returns-in-Err : goal.returns-in-Err
returns-in-Err c settings zone st ready number clock = c.in-Err.ensures.stays settings zone st ready.stands
