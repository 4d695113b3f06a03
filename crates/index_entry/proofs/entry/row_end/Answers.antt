use Rattle.std.proofs.Common.{get_or, refl, sym, ap, ◌∙◌, arith}
use Rattle.object_words.specs.Rows.{no_row}
use Rattle.index_entry.proofs.EntryLemmas.{begins_so, flag_one, length-begin, no_row_written, row_read}
use Rattle.index_entry.proofs.entry.row_end.Goals as goal
use Rattle.index_entry.proofs.entry.row_end.Goals.{then-bytes-lt27-via-then-bytes-lt27, then-bytes-lt27-via-else-bytes-lt27+then-bytes, then-bytes-lt27-via-else-bytes-lt27+else-bytes+then-bytes-ne-LAYOUT}

pub returns-then-bytes-lt27-clause-exact : goal.returns-then-bytes-lt27-clause-exact
returns-then-bytes-lt27-clause-exact c version revision row rest is more here =
    elim c.then-bytes-lt27.branch [
      | then-bytes-lt27-via-then-bytes-lt27 w ↦ absurd (omega (arith, w.if-bytes-lt27.true, length-begin c.args.bytes.now version revision row rest here, more))
      | then-bytes-lt27-via-else-bytes-lt27+then-bytes w ↦ absurd (w.if-bytes.true (ap (λ z. get_or z 0 0) here))
      | then-bytes-lt27-via-else-bytes-lt27+else-bytes+then-bytes-ne-LAYOUT w ↦ absurd (w.if-bytes-ne-LAYOUT.true (ap (λ z. get_or z 1 0) here))
    ]

pub returns-in-0-clause-found : goal.returns-in-0-clause-found
returns-in-0-clause-found c =
    (no_row, no_row_written, refl, c.if-bytes-lt27.false, begins_so c.args.bytes.now 0 c.if-bytes-lt27.false c.if-bytes.false c.if-bytes-ne-LAYOUT.false c.in-0.is, refl)

pub returns-in-1-clause-exact : goal.returns-in-1-clause-exact
returns-in-1-clause-exact c version revision row rest is more here =
    let r = row_read c.args.bytes.now version revision row rest here in
    c.live_end.ensures.exact row rest is (flag_one row.exists (sym r.0 ∙ c.in-1.is)) more r.1
