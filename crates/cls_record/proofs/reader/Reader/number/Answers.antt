use Rattle.std.proofs.Common.{◌++◌, Some, ap, ◌∙◌}
use Rattle.index_entry.specs.Numbers.{number_bytes}
use Rattle.index_entry.proofs.PieceLemmas.{length-number_bytes}
use Rattle.cls_record.proofs.reader.Reader.number.Goals as goal

pub returns-in_err-piece-clause-exact : goal.returns-in_err-piece-clause-exact
returns-in_err-piece-clause-exact c n rest fits here = absurd (c.in_err-piece.ensures.exact (number_bytes n) rest (length-number_bytes n) here).0

pub returns-clause-found : goal.returns-clause-found
returns-clause-found c = c.in_ok-piece.ensures.found.1 ∙ ap (λ z. z ++ c.bytes.new.self.rest.now) c.number_in.ensures.read

pub returns-clause-exact : goal.returns-clause-exact
returns-clause-exact c n rest fits here =
    let p = c.in_ok-piece.ensures.exact (number_bytes n) rest (length-number_bytes n) here in
    (ap Some (c.number_in.ensures.once n fits p.0), p.1)
