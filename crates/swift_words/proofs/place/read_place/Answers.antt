use Rattle.std.proofs.Common.{rules}
use Rattle.std.proofs.lemmas.Result.{err_from_is_err_and}
use Rattle.swift_words.proofs.PlaceLemmas.{fault_of_object}
use Rattle.swift_words.proofs.place.read_place.Goals as goal

pub returns-in_err-object-clause-err : goal.returns-in_err-object-clause-err
returns-in_err-object-clause-err c =
    let p = err_from_is_err_and c.from_residual-in_err-object.result c.from_residual-in_err-object.ensures.1 in
    rw (p.1, p.2)
    (fault_of_object c.args.value.now c.without_slash.result.now c.in-Some.container.now c.in-Some.object.now _
    c.without_slash.ensures (search rules) (search rules) (search rules) c.in_ok-container.ensures.ok.0 c.in_err-object.ensures.err)
