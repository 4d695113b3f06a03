use Rattle.std.proofs.Common.{rules}
use Rattle.rgw_script.specs.Casts.{under}
use Rattle.rgw_script.proofs.Casting.{gone_everywhere, kept_everywhere}
use Rattle.rgw_script.proofs.cast.Cast.take.Goals as goal

pub returns-in-Some-clause-gone : goal.returns-in-Some-clause-gone
returns-in-Some-clause-gone c =
    gone_everywhere c.take.result c.args.name.now (under c.args.self.now) (under (record { names = c.get_mut.follows.lender c.take.new.self })) _ c.take.ensures.after
    ((c.get_mut.follows.holds c.take.new.self).3 (search rules)).0

pub returns-in-Some-clause-kept : goal.returns-in-Some-clause-kept
returns-in-Some-clause-kept c =
    kept_everywhere c.take.result c.args.name.now (under c.args.self.now) (under (record { names = c.get_mut.follows.lender c.take.new.self })) _ c.take.ensures.after
    ((c.get_mut.follows.holds c.take.new.self).3 (search rules)).0
    (search rules)
