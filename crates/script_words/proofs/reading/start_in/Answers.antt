use Rattle.script_words.proofs.Few.{too_few_to_start}
use Rattle.script_words.proofs.reading.start_in.Goals as goal

pub returns-in_default : goal.returns-in_default
returns-in_default c = too_few_to_start c.args.zones c.args.words.now c.in_default.len_below
