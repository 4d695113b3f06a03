use Rattle.std.proofs.Common.{eqb, rules, tests}
use Rattle.std.proofs.lemmas.Iterator.Search.{any_from_yields_List}
use Rattle.std.proofs.lemmas.Iterator.Splits.{YieldsList-from_slice_split}
use Rattle.swift_auth.specs.Lists.{member_in, is_named_by, names}
use Rattle.swift_auth.proofs.access_list.names.Goals as goal

pub returns : goal.returns
unfolding names
returns c =
    any_from_yields_List (λ part. is_named_by (member_in part) c.args.user.now) _ _ _ c.any.ensures.ran
    (YieldsList-from_slice_split _ (λ b. eqb b 44) c.args.list.now (cc) (cc) (cc) (λ x r q k. search (rules, tests)))
    (λ x b q k. search (rules, tests))
