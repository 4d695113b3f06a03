use Rattle.std.proofs.Common.{refl, ap, ◌∙◌}
use Rattle.std.specs.Int.{w64, from_be_bytes}
use Rattle.index_entry.specs.Numbers.{number_bytes}
use Rattle.index_entry.proofs.PieceLemmas.{behind, length-number_bytes, number_once}
use Rattle.cls_head.proofs.pieces.number.Goals as goal

pub returns-clause-value : goal.returns-clause-value
returns-clause-value c x rest fits here =
    number_once c.args.bytes.now 0 _ x rest (c.from_be_bytes-number.ensures ∙ ap (from_be_bytes w64) c.split_at.ensures.front) fits here

pub returns-clause-rest : goal.returns-clause-rest
returns-clause-rest c x rest here = c.split_at.ensures.back ∙ behind c.args.bytes.now 0 8 8 (number_bytes x) rest here (length-number_bytes x) refl
