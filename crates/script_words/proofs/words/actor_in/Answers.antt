use Rattle.script_words.proofs.Texts.{no_actor}
use Rattle.script_words.proofs.words.actor_in.Goals as goal

pub returns-in_default : goal.returns-in_default
returns-in_default c = no_actor c.args.word.now c.in_default.ensures.cases.0
