use Rattle.std.proofs.Common.{lit<}
use Rattle.std.proofs.lemmas.Str.Pattern.{split_once_first}
use Rattle.rgw_words.proofs.Turns.{divided}
use Rattle.rgw_words.proofs.options.divide.Goals as goal

pub returns : goal.returns
returns c = divided c.args.word.now c.split_once.result (split_once_first 61 c.args.word.now c.split_once.result c.split_once.ensures.cases (lit< tt))
