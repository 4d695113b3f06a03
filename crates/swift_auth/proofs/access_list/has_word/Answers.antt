use Rattle.std.proofs.Common.{eqb, bytes_eq, rules, tests}
use Rattle.std.proofs.lemmas.Iterator.Search.{any_from_yields_List}
use Rattle.std.proofs.lemmas.Iterator.Splits.{YieldsList-from_slice_split}
use Rattle.swift_auth.specs.Lists.{member_in, has_word}
use Rattle.swift_auth.proofs.access_list.has_word.Goals as goal

pub returns : goal.returns
unfolding has_word
returns c =
    any_from_yields_List (λ part. bytes_eq (member_in part) c.args.word.now) _ _ _ c.any.ensures.ran
    (YieldsList-from_slice_split _ (λ b. eqb b 44) c.args.list.now (cc) (cc) (cc) (λ x r q k. search (rules, tests)))
    (λ x b q k. search (rules, tests))
