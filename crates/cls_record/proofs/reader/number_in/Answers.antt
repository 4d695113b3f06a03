use Rattle.std.proofs.Common.{arith, sym, ap, ◌∙◌}
use Rattle.std.specs.Int.{w64, from_be_bytes}
use Rattle.std.proofs.lemmas.Nat.{be_bytes_8, from_be_bytes-to_be_bytes_8}
use Rattle.index_entry.specs.Numbers.{number_bytes}
use Rattle.cls_record.proofs.reader.number_in.Goals as goal

pub returns-clause-read : goal.returns-clause-read
unfolding number_bytes
returns-clause-read c = sym (be_bytes_8 c.args.bytes.now _ c.requires (λ i. omega (arith, c.type_inv.bytes i)) c.from_be_bytes.ensures)

pub returns-clause-once : goal.returns-clause-once
unfolding number_bytes
returns-clause-once c n fits here = c.from_be_bytes.ensures ∙ ap (from_be_bytes w64) here ∙ from_be_bytes-to_be_bytes_8 n fits
