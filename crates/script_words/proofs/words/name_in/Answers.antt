use Rattle.std.proofs.Common.{refl, ◌∙◌}
use Rattle.script_words.proofs.Texts.{no_name, some_name}
use Rattle.script_words.proofs.words.name_in.Goals as goal

pub returns-in_default : goal.returns-in_default
returns-in_default g c = no_name g.row.MOST c.args.word.now c.in_default.ensures.cases.0

pub returns-in-Ok-new : goal.returns-in-Ok-new
returns-in-Ok-new g c =
    let text = c.in_ok-from_str.ensures ∙ c.in-Ok.ensures.cases.0 in
    some_name g.row.MOST c.args.word.now _ _ c.in-Ok.ensures.cases.1 text (c.in-Ok-new.ensures.limits.0 refl) c.in-Ok-new.ensures.ok
