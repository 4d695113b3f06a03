use Rattle.std.proofs.Common.{◌∙◌}
use Rattle.cls_head.proofs.TextLemmas.{number_long, text_split}
use Rattle.cls_head.proofs.pieces.text.Goals as goal

pub number-len-requires : goal.number-len-requires
number-len-requires c = number_long _ _ _ (c.requires.3 ∙ text_split c.requires.0 c.requires.1)
