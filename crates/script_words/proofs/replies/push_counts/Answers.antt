use Rattle.std.proofs.Common.{codes, decimal}
use Rattle.script_words.proofs.Pushed.{two_counted}
use Rattle.script_words.proofs.replies.push_counts.Goals as goal

pub returns : goal.returns
returns c =
    two_counted c.push_counted-2.result c.push_counted-2.new.out.items c.push_counted.new.out.items c.args.out.now.items
    (codes "200 objects=") (decimal c.args.objects) (codes " bytes=") (decimal c.args.bytes)
    c.push_counted-2.ensures c.in_ok-push_counted.ensures
