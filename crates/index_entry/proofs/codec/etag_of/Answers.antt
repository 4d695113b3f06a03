use Rattle.std.proofs.Common.{◌∙◌}
use Rattle.index_entry.proofs.PieceLemmas.{taken}
use Rattle.index_entry.proofs.codec.etag_of.Goals as goal

pub returns : goal.returns
returns c etag rest long here = c.copy_from_slice.ensures.after ∙ taken c.args.bytes.now 36 16 etag rest here long
