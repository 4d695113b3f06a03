use Rattle.std.proofs.Common.{rules, tests}
use Rattle.std.proofs.lemmas.Iterator.{YieldsList-from_slice}
use Rattle.std.proofs.lemmas.Iterator.Search.{position_from_yields_List}
use Rattle.script_words.specs.Lines.{is_slash}
use Rattle.script_words.proofs.verbs.slash_at.Goals as goal

pub returns : goal.returns
returns c = position_from_yields_List is_slash _ _ c.position.result c.position.ensures.ran (YieldsList-from_slice c.args.word.now cc) (λ x b q k. search (rules, tests))
