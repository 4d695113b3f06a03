use Rattle.std.proofs.Common.{◌+◌, eqb, length, drop, sym, ap, ◌∙◌, arith, rules, tests}
use Rattle.std.proofs.lemmas.Iterator.Consumers.{YieldsList-turn, YieldsList-end}
use Rattle.std.proofs.lemmas.Iterator.Splits.{YieldsList-from_slice_split}
use Rattle.std.proofs.lemmas.List.{length_push, drop_all}
use Rattle.std.proofs.lemmas.Result.{err_from_is_err_and}
use Rattle.swift_words.specs.Queries.{pieces_of, pieces_fault}
use Rattle.swift_words.proofs.QueryLemmas.{leads_on, sent_at_end, fault_here, fault_later, fault_at_end, next_piece}
use Rattle.swift_words.proofs.query.parameters.Goals as goal

pub loop-piece-preserved : goal.loop-piece-preserved
loop-piece-preserved c =
    let all = pieces_of c.args.query.now in
    let n = length c.loop-piece.yielded in
    let turn = next_piece all n c.in-Some.piece.now
    (YieldsList-turn (YieldsList-from_slice_split _ (λ b. eqb b 38) c.args.query.now (cc) (cc) (cc) (λ x r q k. search (rules, tests)))
    c.loop-piece.yielded _ c.loop-piece.yielded_by _ _ c.in-Some.piece c.in-Some.is c.next.ensures.steps) in
    rw (length_push c.loop-piece.yielded c.in-Some.piece)
    record {
      fault = sym (fault_later c.in-Some.piece.now (drop (n + 1) all) c.in_ok-take.ensures.ok.0)
          ∙ sym (ap pieces_fault turn) ∙ c.loop-piece.invariant.fault;
      values = leads_on c.loop-piece.sent c.take.new.self c.in-Some.piece.now (drop (n + 1) all) all c.in_ok-take.ensures.ok.1
          (rw turn at c.loop-piece.invariant.values);
    }

pub returns-in_err-take-clause-err : goal.returns-in_err-take-clause-err
returns-in_err-take-clause-err c =
    let all = pieces_of c.args.query.now in
    let n = length c.loop-piece.yielded in
    let turn = next_piece all n c.in-Some.piece.now
    (YieldsList-turn (YieldsList-from_slice_split _ (λ b. eqb b 38) c.args.query.now (cc) (cc) (cc) (λ x r q k. search (rules, tests)))
    c.loop-piece.yielded _ c.loop-piece.yielded_by _ _ c.in-Some.piece c.in-Some.is c.next.ensures.steps) in
    let p = err_from_is_err_and c.from_residual.result c.from_residual.ensures.1 in
    rw (p.1, p.2)
    (λ other. sym c.loop-piece.invariant.fault ∙ ap pieces_fault turn
    ∙ fault_here c.in-Some.piece.now (drop (n + 1) all) _ c.in_err-take.ensures.err other)

pub returns-clause-ok : goal.returns-clause-ok
returns-clause-ok c =
    let all = pieces_of c.args.query.now in
    let n = length c.loop-piece.yielded in
    let ended = YieldsList-end (YieldsList-from_slice_split _ (λ b. eqb b 38) c.args.query.now (cc) (cc) (cc) (λ x r q k. search (rules, tests)))
    c.loop-piece.yielded _ c.loop-piece.yielded_by _ _ c.in-None.is c.next.ensures.steps in
    let none = drop_all n all (omega (arith, ended.1)) in (
      sym c.loop-piece.invariant.fault ∙ fault_at_end (drop n all) none,
      sent_at_end c.loop-piece.sent (drop n all) all none c.loop-piece.invariant.values,
    )
