use Rattle.std.proofs.Common.{codes, decimal}
use Rattle.script_words.proofs.Pushed.{two_counted}
use Rattle.script_words.proofs.replies.push_no_space.Goals as goal

pub returns : goal.returns
returns c =
    two_counted c.push_counted-2.result c.push_counted-2.new.out.items c.push_counted.new.out.items c.args.out.now.items
    (codes "507 No space: ") (decimal c.args.free) (codes " of ") (decimal c.args.needed)
    (rw c.from-2.ensures at c.push_counted-2.ensures) (rw c.from.ensures at c.in_ok-push_counted.ensures)
