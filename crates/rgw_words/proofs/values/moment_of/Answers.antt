use Rattle.rgw_words.proofs.Numbers.{moment_of-unread}
use Rattle.rgw_words.proofs.values.moment_of.Goals as goal

pub returns-in_default : goal.returns-in_default
returns-in_default c =
    moment_of-unread c.args.word.now c.in_default.field-0 (rw c.in_default.is at c.parse.ensures.value.0) (search c.if-not-all_digits.ensures)
