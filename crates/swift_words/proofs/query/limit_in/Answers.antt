use Rattle.std.proofs.Common.{◌≡◌, true, ap, option_copied, rules}
use Rattle.swift_words.specs.Queries.{is_limit}
use Rattle.swift_words.proofs.LimitLemmas.{limit_is_read, limit_of_value}
use Rattle.swift_words.proofs.query.limit_in.Goals as goal

pub returns-in-Ok-clause-ok : goal.returns-in-Ok-clause-ok
returns-in-Ok-clause-ok c =
    let is : is_limit c.in-Some.value.now ≡ true = search rules in
    let parsed = limit_is_read c.in-Some.value.now c.parse.result is (rw c.as_str.ensures at c.parse.ensures.value.0) in
    limit_of_value _ c.in-Some.value.now c.in-Ok.limit c.min.result (ap option_copied c.in-Some.is) is (cc) c.min.ensures

pub returns-in-Err-clause-err : goal.returns-in-Err-clause-err
returns-in-Err-clause-err c =
    let is : is_limit c.in-Some.value.now ≡ true = search rules in
    let parsed = limit_is_read c.in-Some.value.now c.parse.result is (rw c.as_str.ensures at c.parse.ensures.value.0) in
    cc
