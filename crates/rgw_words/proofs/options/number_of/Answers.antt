use Rattle.rgw_words.proofs.Numbers.{number_of-unread}
use Rattle.rgw_words.proofs.options.number_of.Goals as goal

pub returns-in_default : goal.returns-in_default
returns-in_default c =
    number_of-unread c.args.word.now c.args.least c.args.greatest c.in_default.field-0 c.ranges.greatest.fits
    (rw c.in_default.is at c.parse.ensures.value.0) (search c.if-not-all_digits.ensures)
