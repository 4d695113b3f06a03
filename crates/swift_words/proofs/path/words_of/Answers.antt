use Rattle.std.proofs.Common.{◌+◌, [], map, drop, ◌∙◌, ap}
use Rattle.std.proofs.lemmas.List.{drop_all}
use Rattle.std.proofs.lemmas.Result.{err_from_is_err_and}
use Rattle.swift_words.specs.Targets.{limit_after}
use Rattle.swift_words.proofs.PathLemmas.{next_part, fault_step, words_step, fault_turn, fault_end, words_end}
use Rattle.swift_words.proofs.path.words_of.Goals as goal

pub loop-part-preserved : goal.loop-part-preserved
loop-part-preserved c =
    let parts = c.args.parts.now in
    let i = c.loop-part.part-index in
    let turn = next_part parts i record { ref_ptr = (0, 0); now = [] } c.loop-part-test.true in
    let rest = map (λ part. part.now) (drop (i + 1) parts) in
    record {
      fault = fault_step c.loop-part.words.items c.push.new.self.items _ rest c.limit_after.result _ c.in_ok-word.word _
          turn (c.limit_after.ensures ∙ ap limit_after c.deref.ensures.value) c.in_ok-word.ensures.ok.0 c.in_ok-word.ensures.ok.1
          c.in_ok-push.ensures.items c.loop-part.invariant.fault;
      words = words_step c.loop-part.words.items c.push.new.self.items _ rest _ c.in_ok-word.word _
          turn c.in_ok-word.ensures.ok.1 c.in_ok-push.ensures.items c.loop-part.invariant.words;
    }

pub returns-in_err-word-clause-err : goal.returns-in_err-word-clause-err
returns-in_err-word-clause-err c =
    let parts = c.args.parts.now in
    let i = c.loop-part.part-index in
    let turn = next_part parts i record { ref_ptr = (0, 0); now = [] } c.loop-part-test.true in
    let rest = map (λ part. part.now) (drop (i + 1) parts) in
    let p = err_from_is_err_and c.from_residual-in_err-word.result c.from_residual-in_err-word.ensures.1 in
    rw (p.1, p.2)
    (fault_turn c.loop-part.words.items _ rest c.limit_after.result _ c.in_err-word.field-0.0 _
    turn (c.limit_after.ensures ∙ ap limit_after c.deref.ensures.value) c.in_err-word.ensures.err c.loop-part.invariant.fault)

pub returns-clause-ok : goal.returns-clause-ok
returns-clause-ok c =
    let none = ap (map (λ part. part.now)) (drop_all c.loop-part.part-index c.args.parts.now c.loop-part-test.false) in (
      fault_end c.loop-part.words.items _ _ none c.loop-part.invariant.fault,
      words_end c.loop-part.words.items _ _ none c.loop-part.invariant.words,
    )
